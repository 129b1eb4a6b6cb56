use Rattle.std.proofs.Common.{◌≡◌, ◌≤◌, ◌++◌, take, drop}
use Rattle.scq_stages.specs.Exports.{squeezed, squeezed_behind}
use Rattle.scq_stages.proofs.in_place.squeeze.Given as goal

-- what is kept, and then what will be of the others, is what is left of all
abbrev pub invariant-loop-at : goal.invariant-loop-at
invariant-loop-at l = record {
  kept : l.kept ≤ l.at;
  left : take l.kept l.payload ++ squeezed_behind l.behind_space (drop l.at l.payload) ≡ squeezed l.initial.payload;
}
