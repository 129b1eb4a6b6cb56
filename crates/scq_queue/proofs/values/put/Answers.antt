use Rattle.std.proofs.Common.{◌≡◌, true, refl, ◌∙◌, ap, subst}
use Rattle.std.specs.Prelude.{Err}
use Rattle.scq_core.specs.declared.ended.Ended.TheVariants.{Spent as DrewSpent}
use Rattle.scq_band.specs.declared.calls.Spent.{Spent}
use Rattle.scq_band.specs.Exports.{seat_after_spent_put}
use Rattle.scq_queue.specs.Exports.{HeldStanding, WasPutOn, held_of, pass_over}
use Rattle.scq_queue.proofs.HeldValues.{value_at, put_stays, put_value, spent_stays, was_spent, same_refusal}
use Rattle.scq_queue.proofs.values.put.Goals as goal

pub put-requires-clause-lifted : goal.put-requires-clause-lifted
put-requires-clause-lifted g c κs within =
    value_at c.args.seat.now c.requires.held.0 c.args.held _ c.held.view_is c.requires.lifted c.requires.held.1

pub returns-in-Ok-clause-stays : goal.returns-in-Ok-clause-stays
returns-in-Ok-clause-stays g c =
    put_stays c.args.band.now c.args.seat.now c.put.new.seat c.args.ring c.held.inside.index c.in-Ok.place (g.B.Buffer.contents c.held.inside.buffer)
    c.requires.lifted c.in-Ok.ensures.put.seat

pub returns-in-Ok-clause-put : goal.returns-in-Ok-clause-put
returns-in-Ok-clause-put g c fulls =
    subst (λ (h : HeldStanding g.row.B.Denot). WasPutOn c.args.band.now c.args.ring c.in-Ok.place h.index (g.B.Buffer.contents h.buffer)
    (pass_over c.args.seat.now fulls) (pass_over c.put.new.seat fulls)) c.held.view_is
    (put_value c.args.band.now c.args.seat.now c.put.new.seat c.args.ring c.held.inside.index c.in-Ok.place (g.B.Buffer.contents c.held.inside.buffer)
    c.requires.lifted c.in-Ok.ensures.put.seat fulls (c.in-Ok.ensures.put.below, c.in-Ok.ensures.put.above))

pub returns-in-Err-clause-stays : goal.returns-in-Err-clause-stays
returns-in-Err-clause-stays g c =
    let ticket = c.in-Err.spent.ticket in
    spent_stays c.args.band.now ticket c.args.seat.now (seat_after_spent_put c.args.ring ticket c.args.seat.now) c.put.new.seat c.in-Err.ensures.spent
    c.in-Err.ensures.kept c.requires.lifted refl refl refl refl

pub returns-in-Err-clause-back : goal.returns-in-Err-clause-back
returns-in-Err-clause-back g c =
    ap (λ (x : g.row.B.Denot). held_of c.held.inside.owner.value c.held.inside.index x) c.in-Err.ensures.back ∙ c.held.view_is

pub returns-in-Err-clause-spent : goal.returns-in-Err-clause-spent
returns-in-Err-clause-spent g c fulls =
    let ticket = c.in-Err.spent.ticket in
    was_spent c.args.band.now ticket c.args.seat.now (seat_after_spent_put c.args.ring ticket c.args.seat.now) c.put.new.seat c.in-Err.ensures.spent
    c.in-Err.ensures.kept (DrewSpent c.args.ring ticket true) fulls refl refl refl

pub returns-in-Err-clause-kept : goal.returns-in-Err-clause-kept
returns-in-Err-clause-kept g c ticket some =
    let kept = c.in-Err.ensures.kept ticket some in
    let back = returns-in-Err-clause-back g c in
    let given : c.in-Err.spent ≡ record { ticket = ticket } = ap (λ (p : g.row.B.Denot × Spent). p.1) (same_refusal
    (Err (c.in-Err.buffer, c.in-Err.spent)) (c.in-Err.buffer, c.in-Err.spent) _ refl kept.0) in (
      ap (λ (h : HeldStanding g.row.B.Denot). Err (h, c.in-Err.spent)) back ∙ ap (λ (s : Spent). Err (c.args.held, s)) given,
      kept.1,
    )
