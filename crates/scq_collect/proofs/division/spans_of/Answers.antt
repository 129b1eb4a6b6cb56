-- A span more, or none; and at last one for all places that are left.
use Rattle.std.proofs.Common.{arith, refl, sym, subst}
use Rattle.scq_collect.specs.Exports.{AreNext}
use Rattle.scq_collect.proofs.division.spans_of.Goals as goal

pub returns : goal.returns
returns c = subst (AreNext 0) (sym c.in_ok-push-2.ensures.items) (c.spans.invariant.next _ (refl, omega arith, refl))
