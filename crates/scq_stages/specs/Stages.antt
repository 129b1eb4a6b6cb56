-- What the two stages make of a payload.
use Rattle.std.specs.Prelude.{ℕ, zero, suc, Bool, true, false, ◌&&◌, List, [], ◌∷◌, map}
use Rattle.std.specs.Prelude.{if◌then◌else◌}
use Rattle.std.specs.Char.{is_ascii_digit}
use Rattle.scq_topics.specs.Exports.{is_space}

-- `#` in place of a digit
abbrev pub redacted_byte : ℕ → ℕ
redacted_byte b = if is_ascii_digit b then 35 else b

-- the first stage: each digit is replaced
abbrev pub redacted : List ℕ → List ℕ
redacted payload = map redacted_byte payload

-- bytes that stand behind a space, or don't, without each space that stands right behind another
abbrev pub squeezed_behind : Bool → List ℕ → List ℕ
squeezed_behind behind [] = []
squeezed_behind behind (b ∷ bs) =
    if behind && is_space b then squeezed_behind true bs else b ∷ squeezed_behind (is_space b) bs

-- the second stage: of each run of spaces the first is left
abbrev pub squeezed : List ℕ → List ℕ
squeezed payload = squeezed_behind false payload

-- both stages, one after the other
abbrev pub both : List ℕ → List ℕ
both payload = squeezed (redacted payload)

-- the stages that are left for what was taken from this topic: both, or the second
abbrev pub stages_left : ℕ → List ℕ → List ℕ
stages_left zero payload = both payload
stages_left (suc topic) payload = squeezed payload
