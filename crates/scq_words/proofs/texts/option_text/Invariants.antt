use Rattle.std.proofs.Common.{◌≡◌, map, length}
use Rattle.std.specs.Prelude.{string_bytes}
use Rattle.scq_words.specs.Exports.{option_text}
use Rattle.scq_words.proofs.texts.option_text.Given as goal

-- the text is that of the words that are left
abbrev pub invariant-words : goal.invariant-words
invariant-words l = option_text l.option (map string_bytes l.words) ≡ option_text l.option (map string_bytes l.rest)

abbrev pub decreases-words : goal.decreases-words
decreases-words l = length l.rest
