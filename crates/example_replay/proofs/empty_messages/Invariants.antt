use Rattle.std.proofs.Common.{◌≡◌, vec_len}
use Rattle.example_replay.proofs.empty_messages.Given as goal

abbrev pub invariant-loop : goal.invariant-loop
invariant-loop l = vec_len l.opening ≡ l.counter
