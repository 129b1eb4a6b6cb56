use Rattle.std.proofs.Common.{◌≡◌, ◌+◌, ◌≤◌, ◌++◌, length, map}
use Rattle.std.specs.Prelude.{vec_len, vec_capacity, reverse, sum_by}
use Rattle.std.specs.List.{All}
use Rattle.scq_rest.specs.Exports.{task, IsGiven, given_to, here, HasWork, IsUntouched}
use Rattle.scq_rest.proofs.places.begin_all.Given as goal

-- what was given so far stands at the places, in order, and the rest is left
abbrev pub invariant-starts : goal.invariant-starts
invariant-starts g l = record {
  given : map given_to l.places.items ++ reverse l.given.items ≡ l.fn.given.items;
  awaited : l.awaited + vec_len l.fn.given ≡ l.fn.awaited + vec_len l.given + sum_by here l.places.items;
  many : vec_len l.given ≤ l.awaited;
  rest : All (IsGiven (task l.queue l.job l.crew g.S.Source)) (reverse l.given.items);
  flags : vec_len l.given ≤ length l.flags;
  room : vec_len l.places + vec_len l.given ≤ vec_capacity l.places;
  stands : All (HasWork IsUntouched l.queue l.job l.crew g.S.Source) l.places.items;
}

abbrev pub decreases-starts : goal.decreases-starts
decreases-starts g l = vec_len l.given
