-- The summary that stands in place of the output.
use Rattle.std.specs.Prelude.{ℕ, List, [], ◌∷◌, ◌++◌, codes, decimal}
use Rattle.hex.specs.Hex.{encode_lower}
use Rattle.sha2.specs.Sha256.{sha256}
use Rattle.scq_topics.specs.declared.kind.Kind.{Kind}
use Rattle.scq_collect.specs.Exports.{Answer, answers_to, text_of_answers, total_lines}
use Rattle.scq_self.specs.Generated.{generated, self_topics}

-- how many lines, the totals, and the digest of the whole text
abbrev pub summary_of : List (List ℕ × Kind) → ℕ → List Answer → List ℕ
summary_of topics lines answers =
    codes "lines " ++ decimal lines ++ codes "\n" ++ total_lines topics answers
    ++ codes "digest " ++ encode_lower (sha256 (text_of_answers topics answers)) ++ codes "\n"

-- the summary of the file that is made from a seed
abbrev pub self_summary : ℕ → ℕ → List ℕ
self_summary seed lines =
    summary_of self_topics lines (answers_to self_topics 1 (generated seed lines ∷ []))
