use Rattle.std.proofs.Common.{subst}
use Rattle.scq_core.specs.Exports.{IsState, no_slot, machine_of}
use Rattle.scq_core.specs.StateLists.{StateLists}
use Rattle.scq_core.proofs.Indices.{has_indices}
use Rattle.scq_core.proofs.Looks.{threshold_small, indexed_ring, cell_there}
use Rattle.scq_core.proofs.state.State.word.Goals as goal

pub read-requires : goal.read-requires
read-requires c = rw (indexed_ring _ c.args.self.now c.args.ring c.index.result.now c.self.view_is c.self.invariant c.requires.ring c.index.ensures)
    (cell_there c.args.self.now c.args.ring c.args.cell (subst (λ (b : StateLists). IsState b) c.self.view_is c.self.invariant) c.requires.ring c.requires.cell)

pub returns-clause-word : goal.returns-clause-word
returns-clause-word c =
    rw (← indexed_ring _ c.args.self.now c.args.ring c.index.result.now c.self.view_is c.self.invariant c.requires.ring c.index.ensures)
    (c.read.ensures (no_slot c.args.self.now.setup))

pub returns-clause-fits : goal.returns-clause-fits
returns-clause-fits c = threshold_small c.args.self.now (subst (λ (b : StateLists). IsState b) c.self.view_is c.self.invariant) c.args.ring

pub returns-clause-index : goal.returns-clause-index
returns-clause-index c slot is =
    let state = subst (λ (b : StateLists). IsState b) c.self.view_is c.self.invariant in
    let b = c.args.self.now in
    rw (returns-clause-word c, is) ((has_indices b.setup (machine_of b) state.reachable).entries c.args.ring slot)
