use Rattle.std.proofs.Common.{◌≡◌, ◌+◌, ◌≤◌, ◌++◌, map}
use Rattle.std.specs.Prelude.{vec_len, vec_capacity, reverse}
use Rattle.scq_rest.proofs.resting.pair_all.Given as goal

-- the pairs so far, with the desks and the stands that are left
abbrev pub invariant-pairs : goal.invariant-pairs
invariant-pairs g l = record {
  desks : map (λ w. w.desk) l.given.items ++ reverse l.desks.items ≡ reverse l.fn.desks.items;
  stands : map (λ w. w.stand) l.given.items ++ reverse l.stands.items ≡ reverse l.fn.stands.items;
  many : vec_len l.stands ≡ vec_len l.desks;
  room : vec_len l.given + vec_len l.desks ≤ vec_capacity l.given;
  desk_room : vec_capacity l.desks ≡ vec_capacity l.fn.desks;
  stand_room : vec_capacity l.stands ≡ vec_capacity l.fn.stands;
}

abbrev pub decreases-pairs : goal.decreases-pairs
decreases-pairs g l = vec_len l.desks
