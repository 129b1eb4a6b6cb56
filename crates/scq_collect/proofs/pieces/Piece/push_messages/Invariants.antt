use Rattle.std.proofs.Common.{◌≡◌, ◌≤◌, ◌++◌, ◌-◌, List, drop, length}
use Rattle.scq_collect.specs.Exports.{answers_of, Answer, IsPieceOf, plain}
use Rattle.scq_collect.proofs.pieces.Piece.push_messages.Given as goal

-- the piece of the answers so far, and those to the messages behind them
abbrev pub invariant-messages : goal.invariant-messages
invariant-messages l = record {
  within : l.at ≤ length l.spots;
  piece : (answers : List Answer) → IsPieceOf l.topics answers l.fn.self
      → (so_far : List Answer) × IsPieceOf l.topics (answers ++ so_far) l.self
      × (so_far ++ answers_of l.topics (plain (drop l.at l.spots)) ≡ answers_of l.topics (plain l.spots));
}

abbrev pub decreases-messages : goal.decreases-messages
decreases-messages l = length l.spots - l.at
