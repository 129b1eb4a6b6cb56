use Rattle.std.proofs.Common.{◌≡◌, ◌≤◌, []}
use Rattle.std.specs.Prelude.{vec_len, vec_capacity}
use Rattle.std.specs.List.{All}
use Rattle.scq_files.proofs.own_lists.make_lists.Given as goal

-- the lists so far are empty, and have room
abbrev pub invariant-lists : goal.invariant-lists
invariant-lists g l = record {
  count : vec_len l.lists ≡ l._number;
  room : l.workers ≤ vec_capacity l.lists;
  each : All (λ list. (list.items ≡ []) × (vec_len list ≡ 0) × (l.files ≤ vec_capacity list)) l.lists.items;
}
