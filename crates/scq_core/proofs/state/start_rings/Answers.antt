use Rattle.std.proofs.Common.{◌≡◌, ◌∙◌, ◌-◌, ◌++◌, ◌∷◌, [], ap, arith, subst}
use Rattle.std.specs.Prelude.{replicate}
use Rattle.std.proofs.lemmas.List.{replicate_more}
use Rattle.scq_core.specs.Exports.{empty_ring, IsStart}
use Rattle.scq_core.proofs.state.start_rings.Goals as goal

pub loop-init : goal.loop-init
loop-init c = record {
  first = c.in_ok-full.field-0;
  full = c.in_ok-full.ensures;
  all = c.in_ok-push.ensures.items ∙ ap (λ rings. rings ++ c.in_ok-full.field-0 ∷ []) (c.in_ok-reserve_exact.ensures.items ∙ c.new-rings.ensures.items);
}

pub loop-preserved : goal.loop-preserved
loop-preserved c =
    let start = c.loop.invariant in
    let empty = empty_ring c.args.setup.now in
    record {
      first = start.first;
      full = start.full;
      all = c.in_ok-push-2.ensures.items
          ∙ ap (λ rings. rings ++ c.in_ok-empty.field-0 ∷ []) start.all
          ∙ ap (λ more. start.first ∷ more)
          (ap (λ ring. replicate c.loop.counter empty ++ ring ∷ []) c.in_ok-empty.ensures ∙ replicate_more c.loop.counter empty);
    }

pub returns : goal.returns
returns c =
    let all : c.loop.counter ≡ c.args.setup.now.rings - 1 = omega arith in
    subst (λ more. IsStart c.args.setup.now c.args.opening.now.items more c.loop.rings.items) all c.loop.invariant
