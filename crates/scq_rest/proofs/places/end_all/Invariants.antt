use Rattle.std.proofs.Common.{◌≡◌, ◌+◌, ◌≤◌, ◌++◌, map, List}
use Rattle.std.specs.Prelude.{vec_len, vec_capacity, reverse}
use Rattle.std.specs.List.{All, AllZip}
use Rattle.scq_rest.specs.Exports.{task, HasDone, given_to, HasWork}
use Rattle.scq_rest.proofs.places.end_all.Given as goal

-- whatever the ends of the places that are left will be, those so far stand in front of them
abbrev pub invariant-ends : goal.invariant-ends
invariant-ends g l = record {
  ended : (more : List _)
      → AllZip (HasDone (task l.queue l.job l.crew g.S.Source)) (map given_to (reverse l.places.items)) more
      → AllZip (HasDone (task l.queue l.job l.crew g.S.Source)) (map given_to l.fn.places.items) (l.ends.items ++ more);
  stands : All (HasWork HasDone l.queue l.job l.crew
      g.S.Source) (reverse l.places.items);
  room : vec_len l.ends + vec_len l.places ≤ vec_capacity l.ends;
  none : l.awaited ≡ 0;
}

abbrev pub decreases-ends : goal.decreases-ends
decreases-ends g l = vec_len l.places
