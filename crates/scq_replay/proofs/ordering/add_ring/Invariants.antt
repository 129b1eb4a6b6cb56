use Rattle.std.proofs.Common.{◌≡◌, ◌++◌, take}
use Rattle.std.specs.Prelude.{flat_map}
use Rattle.scq_core.specs.Exports.{machine_of}
use Rattle.scq_replay.specs.Exports.{member_line}
use Rattle.scq_replay.proofs.ordering.add_ring.Given as goal

abbrev pub invariant-loop-member : goal.invariant-loop-member
invariant-loop-member l = l.text.items ≡ l.initial.text.items ++ flat_map (member_line (machine_of l.state)) (take l.member-index l.member-items)
