use Rattle.std.proofs.Common.{◌≡◌, ◌+◌, ◌++◌, map, length, All}
use Rattle.std.specs.Prelude.{vec_len, reverse}
use Rattle.std.specs.Arc.{arc_value}
use Rattle.scq_port.specs.Exports.{new_port, HoldsNothing}
use Rattle.scq_port.proofs.opening.ports_of.Given as goal

abbrev pub invariant-loop-pass : goal.invariant-loop-pass
invariant-loop-pass l =
    (l.ports.items ++ map (new_port l.hold) (reverse l.passes.items) ≡ map (new_port l.hold) l.fn.passes.items)
    × All (HoldsNothing (arc_value l.owner).queue) l.passes.items × (length l.ports.items + vec_len l.passes ≡ l.setup.seats)

abbrev pub decreases-loop-pass : goal.decreases-loop-pass
decreases-loop-pass l = vec_len l.passes
