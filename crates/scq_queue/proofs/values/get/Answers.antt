use Rattle.std.proofs.Common.{◌≡◌, false, refl, ap}
use Rattle.std.specs.Prelude.{Err}
use Rattle.scq_core.specs.declared.ended.Ended.TheVariants.{Spent as DrewSpent}
use Rattle.scq_band.specs.declared.calls.DeqRefusal.{DeqRefusal}
use Rattle.scq_band.specs.declared.calls.DeqRefusal.TheVariants.{Empty, Spent}
use Rattle.scq_band.specs.Exports.{seat_after_spent_get}
use Rattle.scq_queue.proofs.HeldValues.{refused_stays, was_spent, found_empty, got_stays, got_value, came_off}
use Rattle.scq_queue.proofs.values.get.Goals as goal

pub returns-in-Ok-clause-stays : goal.returns-in-Ok-clause-stays
returns-in-Ok-clause-stays g c =
    let off = c.in-Ok.ensures.got in
    got_stays g.B.Buffer.contents g.B.Buffer.IsSameBuffer c.args.seat.now off.between c.args.ring c.in-Ok.place c.in-Ok.index c.requires.lifted
    off.got.taken c.get.new.seat c.in-Ok.buffer off.there off.lifted

pub returns-in-Ok-clause-got : goal.returns-in-Ok-clause-got
returns-in-Ok-clause-got g c fulls =
    let off = c.in-Ok.ensures.got in
    let got = got_value g.B.Buffer.contents g.B.Buffer.IsSameBuffer c.args.seat.now off.between c.args.ring c.in-Ok.place c.in-Ok.index c.requires.lifted
    off.got.taken c.get.new.seat c.in-Ok.buffer off.there off.lifted fulls in
    came_off g.B.Buffer.contents g.B.Buffer.IsSameBuffer c.args.band.now c.args.ring c.in-Ok.place c.in-Ok.index c.in-Ok.buffer c.args.seat.now
    c.get.new.seat _ fulls c.of.ensures got (off.got.below, off.got.past) off.given off.got.low

pub returns-in-Ok-clause-run : goal.returns-in-Ok-clause-run
returns-in-Ok-clause-run g c none fulls = c.in-Ok.ensures.run none

pub returns-in-Err-clause-stays : goal.returns-in-Err-clause-stays
returns-in-Err-clause-stays g c =
    refused_stays c.args.band.now c.args.seat.now c.get.new.seat c.args.ring c.in-Err.refusal c.requires.lifted (λ head is. (c.in-Err.ensures.empty head is).seat) c.in-Err.ensures.spent
    c.in-Err.ensures.kept

pub returns-in-Err-clause-empty : goal.returns-in-Err-clause-empty
returns-in-Err-clause-empty g c head is fulls =
    let same : c.in-Err.refusal ≡ Empty head = cc in
    let here = ap (λ (r : DeqRefusal). Err r) same in
    let none = c.in-Err.ensures.empty head here in
    found_empty g.B.Buffer.contents c.args.band.now c.args.seat.now c.get.new.seat c.args.ring head fulls none.seat none.in_run

pub returns-in-Err-clause-spent : goal.returns-in-Err-clause-spent
returns-in-Err-clause-spent g c ticket is fulls =
    let same : c.in-Err.refusal ≡ Spent ticket = cc in
    was_spent c.args.band.now ticket c.args.seat.now (seat_after_spent_get c.args.ring ticket c.args.seat.now) c.get.new.seat
    (c.in-Err.ensures.spent ticket (ap (λ (r : DeqRefusal). Err r) same)) c.in-Err.ensures.kept (DrewSpent c.args.ring ticket false) fulls refl refl refl
