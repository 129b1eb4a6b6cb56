-- The ring that is read is the one of the turn, and its cell is one of the ring's; then the clauses of the pieces say what
-- the words and the seat's part are.
use Rattle.std.proofs.Common.{◌≡◌, List, ℕ, inl, true, rules, Some, subst}
use Rattle.std.specs.Prelude.{unwrap_or}
use Rattle.scq_core.specs.Exports.{after, stores, copied, ends_call, turn_of, IsReady}
use Rattle.scq_core.specs.declared.phase.Phase.{Phase}
use Rattle.scq_core.proofs.Advancing.{cell_fits, is_ready, turn_is, advanced, wanted, enabled_fault, wants_copy, wants_end}
use Rattle.scq_core.proofs.advance.advance.Goals as goal
use Rattle.scq_core.proofs.advance.advance.Goals.{After-turn-turn}

enabled : (c : After-turn-turn) → turn_of c.args.setup.now c.args.seat.now c.args.step.now ≡ Some c.turn-turn.result.now
enabled c = turn_is c.args.setup.now c.args.seat.now c.args.step.now c.in_ok-started.started c.turn-turn.result.now (search rules) (search rules)
    c.turn-turn.ensures

pub beside-requires : goal.beside-requires
beside-requires c =
    let enabled = enabled (goal.at.beside-requires c).After-turn-turn in
    cell_fits c.args.setup.now c.args.rings.now.items c.turn-turn.result.now c.ring_of-index.result c.index-ring.result.now c.cell_of-cell.result
    c.requires.rings (c.requires.ready c.turn-turn.result.now enabled).ring c.ring_of-index.ensures c.index-ring.ensures c.cell_of-cell.ensures

pub read-found-requires : goal.read-found-requires
read-found-requires c =
    let enabled = enabled (goal.at.read-found-requires c).After-turn-turn in
    cell_fits c.args.setup.now c.args.rings.now.items c.turn-turn.result.now c.ring_of-index.result c.index-ring.result.now c.cell_of-cell.result
    c.requires.rings (c.requires.ready c.turn-turn.result.now enabled).ring c.ring_of-index.ensures c.index-ring.ensures c.cell_of-cell.ensures

pub written-word-requires : goal.written-word-requires
written-word-requires c =
    let ready = c.requires.ready c.turn-turn.result.now (enabled (goal.at.written-word-requires c).After-turn-turn) in
    is_ready c.args.setup.now c.args.rings.now.items c.turn-turn.result.now c.ring_of-index.result c.index-ring.result.now c.cell_of-cell.result
    c.read-found.result c.requires.rings ready c.ring_of-index.ensures c.index-ring.ensures c.cell_of-cell.ensures c.read-found.ensures

pub proceed-requires : goal.proceed-requires
proceed-requires c =
    let ready = c.requires.ready c.turn-turn.result.now (enabled (goal.at.proceed-requires c).After-turn-turn) in
    subst (λ (turn : Phase). IsReady c.args.setup.now turn c.read-found.result) c.turn-turn.ensures
    (is_ready c.args.setup.now c.args.rings.now.items c.turn-turn.result.now c.ring_of-index.result c.index-ring.result.now
    c.cell_of-cell.result c.read-found.result c.requires.rings ready c.ring_of-index.ensures c.index-ring.ensures c.cell_of-cell.ensures
    c.read-found.ensures)

pub write-requires : goal.write-requires
write-requires c =
    let enabled = enabled (goal.at.write-requires c).After-turn-turn in
    cell_fits c.args.setup.now c.args.rings.now.items c.turn-turn.result.now c.ring_of-index.result c.index_mut.result.now c.cell_of-cell.result
    c.requires.rings (c.requires.ready c.turn-turn.result.now enabled).ring c.ring_of-index.ensures c.index_mut.ensures.value c.cell_of-cell.ensures

pub returns-clause-ok : goal.returns-clause-ok
returns-clause-ok c =
    let t = c.turn-turn.result.now in
    let enabled = enabled (goal.at.returns-clause-ok c).After-turn-turn in
    let part : (b : List ℕ) → copied t b ≡ c.in_ok-copy.copy → c.proceed.new.self ≡ after c.args.setup.now t c.read-found.result b c.args.seat.now =
    rw (← c.turn-turn.ensures) at c.in_ok-laid.ensures.part in
    let lays : (b : List ℕ) → copied t b ≡ c.in_ok-copy.copy → unwrap_or c.in_ok-laid.laid b ≡ stores t c.read-found.result b =
    rw (← c.turn-turn.ensures) at c.in_ok-laid.ensures.laid in
    advanced c.args.setup.now c.args.step.now c.args.rings.now.items c.args.seat.now c.proceed.new.self t c.ring_of-index.result c.index-ring.result.now
    c.index_mut.result.now c.write.new.self c.cell_of-cell.result c.read-found.result c.written-word.result c.beside.result.now c.in_ok-copy.copy
    c.in_ok-laid.laid
    c.requires.rings (c.requires.ready t enabled).ring enabled c.ring_of-index.ensures c.index-ring.ensures c.index_mut.ensures.value c.cell_of-cell.ensures
    c.beside.ensures c.in_ok-copy.ensures.ok c.read-found.ensures c.written-word.ensures part lays c.write.ensures

pub returns-in_err-started-clause-not_enabled : goal.returns-in_err-started-clause-not_enabled
returns-in_err-started-clause-not_enabled c = enabled_fault _ _ (search rules) (wanted _ c.from_residual.ensures.1)

pub returns-in_err-started-clause-no_memory : goal.returns-in_err-started-clause-no_memory
returns-in_err-started-clause-no_memory c wants = inl c.in_err-started.ensures.err

pub returns-in_err-copy-clause-not_enabled : goal.returns-in_err-copy-clause-not_enabled
returns-in_err-copy-clause-not_enabled c = enabled_fault _ _ (search rules) (wanted _ c.from_residual-in_err-copy.ensures.1)

pub returns-in_err-copy-clause-no_memory : goal.returns-in_err-copy-clause-no_memory
returns-in_err-copy-clause-no_memory c wants =
    inl (wants_copy c.args.setup.now c.args.seat.now c.args.step.now c.turn-turn.result.now
    (enabled (goal.at.returns-in_err-copy-clause-no_memory c).After-turn-turn) c.in_err-copy.ensures.err)

pub returns-in_err-laid-clause-not_enabled : goal.returns-in_err-laid-clause-not_enabled
returns-in_err-laid-clause-not_enabled c = enabled_fault _ _ (search rules) (wanted _ c.from_residual-in_err-laid.ensures.1)

pub returns-in_err-laid-clause-no_memory : goal.returns-in_err-laid-clause-no_memory
returns-in_err-laid-clause-no_memory c wants =
    let t = c.turn-turn.result.now in
    let enabled = enabled (goal.at.returns-in_err-laid-clause-no_memory c).After-turn-turn in
    let ends : ends_call c.args.setup.now t c.read-found.result ≡ true = rw (← c.turn-turn.ensures) at c.in_err-laid.ensures.err.1 in
    wants_end c.args.setup.now c.args.step.now c.args.rings.now.items c.args.seat.now t c.ring_of-index.result c.index-ring.result.now c.cell_of-cell.result
    c.read-found.result c.requires.rings (c.requires.ready t enabled).ring enabled c.ring_of-index.ensures c.index-ring.ensures c.cell_of-cell.ensures
    c.read-found.ensures ends

pub returns-clause-not_enabled : goal.returns-clause-not_enabled
returns-clause-not_enabled c = enabled_fault _ _ (search rules) (λ e. absurd cc)

pub returns-clause-no_memory : goal.returns-clause-no_memory
returns-clause-no_memory c wants = absurd cc

pub returns-clause-err : goal.returns-clause-err
returns-clause-err c = tt
