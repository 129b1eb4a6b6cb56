use Rattle.std.proofs.Common.{◌≡◌, ◌<◌, false, [], List, length, map, sym, ◌∙◌, ap, subst, arith}
use Rattle.std.specs.Prelude.{All, vec_capacity}
use Rattle.scq_word.specs.declared.setup.Setup.{Setup}
use Rattle.scq_band.specs.Standing.{Standing}
use Rattle.scq_queue.specs.Exports.{PassStanding, was_told, pass_over}
use Rattle.scq_queue.proofs.NewPasses.{as_many_seats, all_new, passes_over, all_own, keeps_room}
use Rattle.scq_queue.proofs.queue.Queue.make.Goals as goal

pub passes_of-passes-requires-clause-new : goal.passes_of-passes-requires-clause-new
passes_of-passes-requires-clause-new g c κs within =
    let some : 0 < c.in-Ok-make.band.setup.seats =
    subst (λ (k : Setup). 0 < k.seats) (sym c.in-Ok-make.ensures.band.0) c.args.setup.seats_in_range.0 in
    subst (λ (ss : List (Standing g.row.B.Denot)). All (λ (s : Standing g.row.B.Denot). (s.hand ≡ []) × (s.calls ≡ []) × (was_told s.gate ≡ false)) ss)
    (sym c.in-Ok-make.ensures.seats)
    (all_new c.in-Ok-make.band c.args.setup.seats some)

pub passes_of-passes-requires-clause-room : goal.passes_of-passes-requires-clause-room
passes_of-passes-requires-clause-room g c κs within =
    let many : length c.in-Ok-make.seats.items ≡ c.args.setup.seats =
    ap length c.in-Ok-make.ensures.seats ∙ as_many_seats c.in-Ok-make.band c.args.setup.seats in
    let whole = c.in-Ok-make.seats.ok in
    let room = c.in-Ok.ensures.capacity in
    let seats = c.seats.ensures in
    omega (arith, many, whole, room, seats)

pub invariant_of-queue : goal.invariant_of-queue
invariant_of-queue g c =
    let many : length c.in-Ok-make.seats.items ≡ c.args.setup.seats =
    ap length c.in-Ok-make.ensures.seats ∙ as_many_seats c.in-Ok-make.band c.args.setup.seats in
    let whole = c.in-Ok-make.seats.ok in
    let kept = c.passes_of-passes.ensures.kept in
    let counts = c.in-Ok-with_capacity.ensures.capacity in
    let seats = c.seats-2.ensures in
    let saw = c.in-Ok-with_capacity-2.ensures.capacity in
    let saw_seats = c.seats-3.ensures in
    keeps_room c.in-Ok-make.band c.args.setup c.passes_of-passes.new.seats.items c.in-Ok-with_capacity.counts.items
    (vec_capacity c.passes_of-passes.new.seats) (vec_capacity c.in-Ok-with_capacity.counts) c.in-Ok-with_capacity-2.saw.items
    (vec_capacity c.in-Ok-with_capacity-2.saw) c.in-Ok-make.ensures.band.0 c.passes_of-passes.ensures.emptied
    (omega (arith, many, whole, kept)) c.in-Ok-with_capacity.ensures.items (omega (arith, counts, seats)) c.in-Ok-with_capacity-2.ensures.items
    (omega (arith, saw, saw_seats))

pub returns-in-Ok-make-clause-passes : goal.returns-in-Ok-make-clause-passes
returns-in-Ok-make-clause-passes g c =
    c.passes_of-passes.ensures.passes ∙ ap (map (λ (s : Standing g.row.B.Denot). pass_over s [])) c.in-Ok-make.ensures.seats
    ∙ passes_over c.in-Ok-make.band c.args.setup.seats

pub returns-in-Ok-make-clause-own : goal.returns-in-Ok-make-clause-own
returns-in-Ok-make-clause-own g c =
    subst (λ (ps : List (PassStanding g.row.B.Denot)). All (λ (p : PassStanding g.row.B.Denot). p.queue ≡ c.in-Ok-make.band) ps)
    (sym (returns-in-Ok-make-clause-passes g c)) (all_own c.in-Ok-make.band c.args.setup.seats)
