-- The file that is made from a seed: line i is a topic, the i-th number after the seed, and i.
use Rattle.std.specs.Prelude.{ℕ, ◌+◌, ◌*◌, ◌%◌, ◌^◌, zero, suc, List, [], ◌∷◌, ◌++◌, codes, decimal}
use Rattle.scq_topics.specs.declared.kind.Kind.{Kind}
use Rattle.scq_topics.specs.declared.kind.Kind.TheVariants.{Len, Words, Sum, Sha256, Echo}
use Rattle.scq_topics.specs.Exports.{name_of}

-- the five topics, one of each kind
abbrev pub self_topics : List (List ℕ × Kind)
self_topics = (codes "l", Len) ∷ (codes "w", Words) ∷ (codes "s", Sum) ∷ (codes "h", Sha256)
    ∷ (codes "e", Echo) ∷ []

-- the number after a number
abbrev pub next_number : ℕ → ℕ
next_number x = (x * 1103515245 + 12345) % 2 ^ 31

-- the i-th number after the seed
abbrev pub number_after : ℕ → ℕ → ℕ
number_after seed zero = seed
number_after seed (suc i) = next_number (number_after seed i)

-- the line of this number, from 1, for a number: `topic x i`, whose topic goes by the number mod 5
abbrev pub line_for : ℕ → ℕ → List ℕ
line_for x i = name_of self_topics (x % 5) ++ codes " " ++ decimal x ++ codes " " ++ decimal i
    ++ codes "\n"

-- the first lines
abbrev pub generated : ℕ → ℕ → List ℕ
generated seed zero = []
generated seed (suc i) = generated seed i ++ line_for (number_after seed (suc i)) (i + 1)
