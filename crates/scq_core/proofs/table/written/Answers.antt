use Rattle.std.proofs.Common.{subst}
use Rattle.scq_core.specs.declared.phase.Phase.{Phase}
use Rattle.scq_core.specs.Exports.{IsReady}
use Rattle.scq_core.proofs.Packing.{cycle_fits}
use Rattle.scq_core.proofs.table.written.Goals as goal

pub filled-requires-clause-fits : goal.filled-requires-clause-fits
filled-requires-clause-fits c =
    let ready = subst (λ (turn : Phase). IsReady c.args.setup.now turn c.args.found) c.in-AtE4.is c.requires in
    rw (c.shape.ensures) (cycle_fits c.args.setup.now c.in-AtE4.ticket ready.0)

pub passed-requires-clause-fits : goal.passed-requires-clause-fits
passed-requires-clause-fits c =
    let ready = subst (λ (turn : Phase). IsReady c.args.setup.now turn c.args.found) c.in-AtD5.is c.requires in
    rw (c.shape-in-AtD5.ensures) (cycle_fits c.args.setup.now c.in-AtD5.ticket ready.0)
