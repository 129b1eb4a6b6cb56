use Rattle.std.proofs.Common.{◌≡◌, ◌+◌, ◌≤◌, ◌++◌, map}
use Rattle.std.specs.Prelude.{vec_len, vec_capacity, reverse}
use Rattle.scq_rest.proofs.resting.take_all_apart.Given as goal

-- what was put apart so far, and what is left
abbrev pub invariant-ends : goal.invariant-ends
invariant-ends g l = record {
  desks : l.desks.items ++ map (λ w. w.desk) (reverse l.ends.items) ≡ l.fn.desks.items ++ map (λ w. w.desk) l.fn.ends.items;
  stands : l.stands.items ++ map (λ w. w.stand) (reverse l.ends.items) ≡ l.fn.stands.items ++ map (λ w. w.stand) l.fn.ends.items;
  desk_room : vec_len l.desks + vec_len l.ends ≤ vec_capacity l.desks;
  stand_room : vec_len l.stands + vec_len l.ends ≤ vec_capacity l.stands;
}

abbrev pub decreases-ends : goal.decreases-ends
decreases-ends g l = vec_len l.ends
