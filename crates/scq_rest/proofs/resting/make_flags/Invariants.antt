use Rattle.std.proofs.Common.{◌≡◌, ◌≤◌}
use Rattle.std.specs.Prelude.{vec_len, vec_capacity}
use Rattle.scq_rest.proofs.resting.make_flags.Given as goal

abbrev pub invariant-flags : goal.invariant-flags
invariant-flags l = (vec_len l.flags ≡ l._flag) × (l.count ≤ vec_capacity l.flags)
