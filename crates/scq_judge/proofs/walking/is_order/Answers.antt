use Rattle.std.proofs.Common.{◌≡◌, ◌<◌, length, take, subst, sym, ap, ◌∙◌, arith, rules}
use Rattle.std.specs.Prelude.{IsTrue, IfSome}
use Rattle.std.proofs.lemmas.List.{take_more}
use Rattle.scq_judge.specs.Ordering.{opening_of}
use Rattle.scq_judge.specs.Sequential.{held_by, held_from}
use Rattle.scq_judge.specs.Walking.{AreTakenFrom}
use Rattle.scq_judge.proofs.WalkLemmas.{from_opened}
use Rattle.scq_judge.proofs.walking.is_order.Goals as goal

pub loop-e-init : goal.loop-e-init
loop-e-init c =
    let held : held_by c.in-Some.opened ≡ held_from 0 (opening_of c.args.history.opening.now c.args.order.now.queue) =
    subst (λ o. IfSome o (λ queue. held_by queue ≡ held_from 0 c.opening_of.result.now)) c.in-Some.is c.in_ok-opened.ensures
    ∙ ap (held_from 0) c.opening_of.ensures in
    from_opened _ _ _ _ _ held c.requires.places

pub loop-e-preserved : goal.loop-e-preserved
loop-e-preserved c =
    let lt : c.loop-e.e-index < length c.as_slice-ends.result.now = omega arith in
    let fits : IsTrue c.in_ok-fits.fits = search rules in
    subst (λ xs. AreTakenFrom c.args.history.opening.now c.args.history.events.now c.args.order.now.queue xs (held_by c.take.new.self.queue) c.take.new.self.latest
    c.args.placed.now c.take.new.placed)
    (sym (take_more c.as_slice-ends.result.now c.loop-e.e-index 0 lt))
    (c.in_ok-fits.ensures fits (take c.loop-e.e-index c.as_slice-ends.result.now) c.args.placed.now c.loop-e.invariant)
