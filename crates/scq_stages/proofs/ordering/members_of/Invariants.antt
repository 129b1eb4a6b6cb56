use Rattle.std.proofs.Common.{◌≡◌, ◌++◌, map, take}
use Rattle.std.specs.Prelude.{flat_map}
use Rattle.std.specs.List.{All}
use Rattle.scq_stages.specs.Exports.{position_of_finished}
use Rattle.scq_stages.proofs.ordering.members_of.Given as goal

-- the members of the lists so far
abbrev pub invariant-lists : goal.invariant-lists
invariant-lists l = record {
  members : map (λ m. m.2.now) l.members.items ≡ flat_map (λ list. list.items) (take l.list-index l.lists);
  placed : All (λ m. (m.0, m.1, 1) ≡ position_of_finished m.2.now) l.members.items;
}

-- and those of this list so far
abbrev pub invariant-members : goal.invariant-members
invariant-members l = record {
  members : map (λ m. m.2.now) l.members.items ≡ flat_map (λ list. list.items) (take l.list-index l.lists) ++ take l.member-index l.member-items;
  placed : All (λ m. (m.0, m.1, 1) ≡ position_of_finished m.2.now) l.members.items;
}
