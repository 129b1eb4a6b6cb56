-- The rule of one parker, over the token and over what each pass to the parker stands for.
use Rattle.std.specs.Prelude.{◌≡◌, ℕ, ◌+◌, ◌-◌, ◌≤◌, Bool, true, false, List, [], ◌∷◌}

-- what a pass did: how often it woke the worker, and how often the worker rested by it; and the
-- parts that it has of the right to know the whole, which is cut into 8192
pub record Deeds : Type 0 where
  pub parts : ℕ
  pub woke : ℕ
  pub rested : ℕ

abbrev pub deeds : ℕ → ℕ → ℕ → Deeds
deeds p w r = record { parts = p; woke = w; rested = r }

-- after one wake, and after one rest
abbrev pub once_woken : Deeds → Deeds
once_woken v = deeds v.parts (v.woke + 1) v.rested

abbrev pub once_rested : Deeds → Deeds
once_rested v = deeds v.parts v.woke (v.rested + 1)

-- with one part cut off, and two added up
abbrev pub one_part_less : Deeds → Deeds
one_part_less v = deeds (v.parts - 1) v.woke v.rested

abbrev pub added : Deeds → Deeds → Deeds
added v w = deeds (v.parts + w.parts) (v.woke + w.woke) (v.rested + w.rested)

-- f of each pass, added up
abbrev pub total_deeds : (Deeds → ℕ) → List Deeds → ℕ
total_deeds f [] = 0
total_deeds f (v ∷ vs) = f v + total_deeds f vs

-- the token, as a number
abbrev pub worth : Bool → ℕ
worth true = 1
worth false = 0

-- a pass that has no part did nothing
abbrev pub IsIdleWithoutPart : Deeds → Type 0
IsIdleWithoutPart v = v.parts ≡ 0 → (v.woke ≡ 0) × (v.rested ≡ 0)

abbrev pub AreIdleWithoutPart : List Deeds → Type 0
AreIdleWithoutPart [] = Unit {0}
AreIdleWithoutPart (v ∷ vs) = IsIdleWithoutPart v × AreIdleWithoutPart vs

-- the rests and the token together are at most the wakes, each summed over all passes
pub record IsCovered (token : Bool) (passes : List Deeds) : Type 0 where
  pub covered : total_deeds (λ v. v.rested) passes + worth token ≤ total_deeds (λ v. v.woke) passes
  pub whole : total_deeds (λ v. v.parts) passes ≡ 8192
  pub idle : AreIdleWithoutPart passes
