use Rattle.std.proofs.Common.{◌+◌, List, sym, subst}
use Rattle.scq_band.specs.declared.ring.Ring.{Ring}
use Rattle.scq_band.specs.Exports.{AreRings}
use Rattle.scq_band.proofs.RingLists.{rings_next}
use Rattle.scq_band.proofs.making.rings.Goals as goal

pub loop-number-preserved : goal.loop-number-preserved
loop-number-preserved c =
    subst (λ (xs : List Ring). AreRings c.args.setup.now (c.loop-number.number + 1) xs) (sym c.in_ok-push.ensures.items)
    (rings_next c.args.setup.now c.loop-number.number c.loop-number.rings.items c.of.result c.loop-number.invariant c.of.ensures.number c.of.ensures.ring)
