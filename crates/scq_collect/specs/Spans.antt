-- Places of messages as numbers, and spans of them.
use Rattle.std.specs.Prelude.{◌≡◌, ℕ, ◌+◌, ◌*◌, ◌^◌, ◌≤◌, ◌&&◌, Bool, nat_le, List, [], ◌∷◌}
use Rattle.scq_collect.specs.declared.spans.Span.{Span}
use Rattle.scq_collect.specs.Joined.{PartAnswer}

-- where the message of a part stands: its file and line as one number
abbrev pub place_of : PartAnswer → ℕ
place_of a = a.file * 2 ^ 32 + a.line

-- whether a place is in a span
abbrev pub has : Span → ℕ → Bool
has span place = nat_le span.least place && nat_le place span.most

-- whether the message of a part stands in a span
abbrev pub is_in : Span → PartAnswer → Bool
is_in span a = has span (place_of a)

-- the first span begins at this place, each other where the one before it ends, and the last ends
-- with the last of all places
abbrev pub AreNext : ℕ → List Span → Type 0
AreNext least [] = least ≡ 2 ^ 64
AreNext least (span ∷ more) =
    (span.least ≡ least) × (span.least ≤ span.most + 1) × AreNext (span.most + 1) more
