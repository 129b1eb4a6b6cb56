use Rattle.std.proofs.Common.{List, [], ◌∷◌, ◌++◌, sym, ◌∙◌, ap, subst}
use Rattle.std.specs.Prelude.{Option}
use Rattle.scq_queue.specs.Exports.{PassStanding, HeldStanding, IsHeldBy, heads_of}
use Rattle.scq_queue.proofs.Leaving.{AreOut, out_first, out_before, last_out, out_laid}
use Rattle.scq_queue.proofs.queue.Queue.leave.Goals as goal

pub loop-place-init : goal.loop-place-init
loop-place-init g c =
    out_first c.args.self.now c.pass.inside.seat (heads_of c.pass.inside.fulls.value) c.args.held.items
    (ap (λ (p : PassStanding g.row.B.Denot). p.queue) c.pass.view_is ∙ c.requires.pass) c.pass.invariant.lifted
    (λ i h at. (
      (c.requires.held i h at).0,
      subst (λ (p : PassStanding g.row.B.Denot). IsHeldBy p h) (sym c.pass.view_is) (c.requires.held i h at).1,
    ))

pub lay_down-requires-clause-seat : goal.lay_down-requires-clause-seat
lay_down-requires-clause-seat g c κs within = c.loop-place.invariant.own ∙ sym c.self.view_is

pub lay_down-requires-clause-own : goal.lay_down-requires-clause-own
lay_down-requires-clause-own g c κs within =
    let last = c.in-Some.ensures.items ∙ ap (λ (o : Option (HeldStanding g.row.B.Denot)). c.pop.new.self.items ++ o ∷ []) c.in-Some-place.is in
    (last_out c.args.self.now c.loop-place.seat c.pop.new.self.items c.in-Some-place.value
    (subst (λ (l : List (Option (HeldStanding g.row.B.Denot))). AreOut c.args.self.now c.loop-place.seat l) last c.loop-place.invariant)).0
    ∙ c.loop-place.invariant.own ∙ sym c.self.view_is

pub lay_down-requires-clause-lifted : goal.lay_down-requires-clause-lifted
lay_down-requires-clause-lifted g c κs within =
    let last = c.in-Some.ensures.items ∙ ap (λ (o : Option (HeldStanding g.row.B.Denot)). c.pop.new.self.items ++ o ∷ []) c.in-Some-place.is in
    (last_out c.args.self.now c.loop-place.seat c.pop.new.self.items c.in-Some-place.value
    (subst (λ (l : List (Option (HeldStanding g.row.B.Denot))). AreOut c.args.self.now c.loop-place.seat l) last c.loop-place.invariant)).1

pub loop-place-preserved-in-Some-place : goal.loop-place-preserved-in-Some-place
loop-place-preserved-in-Some-place g c =
    let last = c.in-Some.ensures.items ∙ ap (λ (o : Option (HeldStanding g.row.B.Denot)). c.pop.new.self.items ++ o ∷ []) c.in-Some-place.is in
    out_laid c.args.self.now c.loop-place.seat c.lay_down.new.seat c.pop.new.self.items c.in-Some-place.value
    (subst (λ (l : List (Option (HeldStanding g.row.B.Denot))). AreOut c.args.self.now c.loop-place.seat l) last c.loop-place.invariant) c.lay_down.ensures.laid

pub loop-place-preserved : goal.loop-place-preserved
loop-place-preserved g c =
    let last = c.in-Some.ensures.items ∙ ap (λ (o : Option (HeldStanding g.row.B.Denot)). c.pop.new.self.items ++ o ∷ []) c.in_default-place.is in
    out_before c.args.self.now c.loop-place.seat c.pop.new.self.items
    (subst (λ (l : List (Option (HeldStanding g.row.B.Denot))). AreOut c.args.self.now c.loop-place.seat l) last c.loop-place.invariant)
