use Rattle.std.proofs.Common.{◌≡◌, ◌≤◌, ◌*◌, take, length}
use Rattle.std.specs.Prelude.{flat_map, sum_by}
use Rattle.scq_stages.specs.Exports.{handled_line, without_way}
use Rattle.scq_stages.proofs.text.stage_output.Given as goal

-- the lines of the members so far, and how many bytes they have
abbrev pub invariant-members : goal.invariant-members
invariant-members l = record {
  text : l.text.items ≡ flat_map (λ m. handled_line (without_way m.2.now)) (take l.member-index l.member-items);
  bytes : l.bytes ≡ sum_by (λ m. length m.2.now.payload) (take l.member-index l.member-items);
  small : l.bytes ≤ l.member-index * 18446744073709551615;
}
