use Rattle.std.proofs.Common.{◌≡◌, ◌++◌, List, length, take}
use Rattle.std.specs.List.{All}
use Rattle.std.specs.Vec.Iter.{into_iter_items, into_iter_len}
use Rattle.scq_collect.specs.Exports.{Answer, AreStretchesOf, all_answers, AreTextsOf}
use Rattle.scq_collect.proofs.Stretched.{WasMade}
use Rattle.scq_collect.proofs.pieces.joined.Given as goal

-- the texts of the stretches so far, which were made, and the totals of their answers
abbrev pub invariant-stretches : goal.invariant-stretches
invariant-stretches l = record {
  all : l.yielded ++ into_iter_items l.stretch-iterator ≡ into_iter_items l.initial.stretch-iterator;
  left : into_iter_len l.stretch-iterator ≡ length (into_iter_items l.stretch-iterator);
  texts : (lists : List (List Answer)) → AreStretchesOf l.topics lists l.fn.made.items
      → AreTextsOf l.topics (all_answers (take (length l.yielded) lists)) l.so_far;
  made : All WasMade l.yielded;
}
