use Rattle.std.proofs.Common.{◌≡◌, ℕ, ◌+◌, ◌<◌, ◌≤◌, length, get_or}
use Rattle.scq_collect.proofs.totals.Totals.add.Given as goal

-- the topics so far have both numbers, the others their own
abbrev pub invariant-loop-topic : goal.invariant-loop-topic
invariant-loop-topic l = record {
  count_len : length l.self.counts ≡ 17;
  bytes_len : length l.self.bytes ≡ 17;
  counts : (k : ℕ) → k < l.topic → get_or l.self.counts k 0 ≡ get_or l.fn.self.counts k 0 + get_or l.others.counts k 0;
  bytes : (k : ℕ) → k < l.topic → get_or l.self.bytes k 0 ≡ get_or l.fn.self.bytes k 0 + get_or l.others.bytes k 0;
  counts_left : (k : ℕ) → l.topic ≤ k → get_or l.self.counts k 0 ≡ get_or l.fn.self.counts k 0;
  bytes_left : (k : ℕ) → l.topic ≤ k → get_or l.self.bytes k 0 ≡ get_or l.fn.self.bytes k 0;
}
