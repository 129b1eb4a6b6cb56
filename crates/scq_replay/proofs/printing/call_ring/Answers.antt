use Rattle.scq_core.specs.Exports.{machine_of}
use Rattle.scq_core.proofs.Steady.{steady}
use Rattle.scq_replay.proofs.Rings.{under_way_ring}
use Rattle.scq_replay.proofs.printing.call_ring.Goals as goal

pub returns-in-None-clause-low : goal.returns-in-None-clause-low
returns-in-None-clause-low c =
    let m = machine_of c.args.state.now in
    let busy = (steady c.args.state.now.setup m c.requires.reachable).busy c.args.seat in
    let low = under_way_ring c.args.state.now.setup m.cells (m.part c.args.seat).hand (m.part c.args.seat).phase busy in
    rw (c.unwrap_or.ensures, c.ring_of.ensures) low
