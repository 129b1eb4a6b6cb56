-- For private calls: what one atomic step of a seat asks, and what it tells.
use Rattle.std.specs.Prelude.{◌≡◌, ℕ, ◌+◌, ◌<◌, ◌≤◌, false, ◌==◌, if◌then◌else◌, nat_lt, nat_le}
use Rattle.std.specs.Prelude.{List, [], ◌∷◌, length, map, Some, slice_get}
use Rattle.atomic_table.specs.Table.{Me, rest}
use Rattle.scq_word.specs.declared.setup.Setup.{Setup}
use Rattle.scq_word.specs.Exports.{n_of, index_in, is_none_in}
use Rattle.scq_core.specs.declared.phase.Phase.{Phase}
use Rattle.scq_core.specs.declared.phase.Phase.TheVariants.{AtE1, AtE4, AtE5, AtE6, AtD1, AtD2}
use Rattle.scq_core.specs.declared.phase.Phase.TheVariants.{AtD4, AtD6, AtD10}
use Rattle.scq_core.specs.declared.step.Step.{Step}
use Rattle.scq_core.specs.Exports.{ring_slots, zero_level, reset_level, turn_of, after, IsReady}
use Rattle.scq_law.specs.Exports.{times, FindsAtLeast}
use Rattle.scq_band.specs.declared.numbers.Numbers.{Numbers}
use Rattle.scq_band.specs.Known.{Member, Known}
use Rattle.scq_band.specs.Steps.{my}
use Rattle.scq_band.specs.Numbers.{changed, finishes, sees, passes, empties}

-- what a turn that found the word x tells of its ring
abbrev pub learned : Setup → Phase → ℕ → List Numbers → List Numbers
learned c (AtE5 r i w t) x numbers =
    if x == reset_level c then changed (finishes t) r numbers else numbers
learned c (AtE6 r i w t) x numbers = changed (finishes t) r numbers
learned c (AtD1 r) x numbers = if nat_lt x zero_level then changed empties r numbers else numbers
learned c (AtD2 r l) x numbers = changed (passes (x + 1)) r numbers
learned c (AtD4 r h) x numbers = changed (sees h) r numbers
learned c (AtD6 r h) x numbers = if nat_le x (h + 1) then changed empties r numbers else numbers
learned c (AtD10 r h false) x numbers =
    if nat_le x zero_level then changed empties r numbers else numbers
learned c turn x numbers = numbers

-- the seat and the view after its turn, which found the word x and beside it the content y
abbrev pub turned_member : Setup → Phase → ℕ → List ℕ → Member → Member
turned_member c t x y member = record member { part = after c t x y member.part }

abbrev pub made : Setup → Phase → ℕ → List ℕ → Known → Known
made c t x y v =
    record v { seats = map (turned_member c t x y) v.seats; numbers = learned c t x v.numbers }

-- a get that takes finds an index in the entry
abbrev pub FindsIndex : Setup → Phase → ℕ → Type 0
FindsIndex c (AtD4 r h) x = is_none_in (ring_slots c) x ≡ false
FindsIndex c turn x = Unit {0}

-- a ticket is above what was known of its counter
abbrev pub Draws : Phase → ℕ → List Numbers → Type 0
Draws (AtE1 r i w l) x numbers =
    (known : Numbers) → slice_get numbers r ≡ Some known → known.seen < x
Draws (AtD2 r l) x numbers = (known : Numbers) → slice_get numbers r ≡ Some known → known.head ≤ x
Draws turn x numbers = Unit {0}

-- a ticket is past the first round, in which no ticket is drawn
abbrev pub IsPastFirstRound : Setup → Phase → ℕ → Type 0
IsPastFirstRound c (AtE1 r i w l) x = ring_slots c ≤ x
IsPastFirstRound c (AtD2 r l) x = ring_slots c ≤ x
IsPastFirstRound c turn x = Unit {0}

-- one seat stands in the view, none of its slots was brought home, and it may make this turn
pub record MayTurn (c : Setup) (v : Known) (t : Phase) : Type 0 where
  pub member : Member
  pub alone : v.seats ≡ member ∷ []
  pub out : member.brought ≡ []
  pub step : Step
  pub enabled : turn_of c member.part step ≡ Some t

module _ {S : Type 0} (Lies : ℕ → S → List ℕ → Type 0) where
  -- the slot of index i, with a buffer of the bytes w, stands first
  abbrev pub Fronts : ℕ → List ℕ → List (ℕ × S) → Type 0
  Fronts i w [] = ⊥
  Fronts i w (x ∷ xs) = (x.0 ≡ i) × Lies i x.1 w

  -- the slot of index i has come, with a buffer of the bytes w, and stands first
  pub record Takes (i : ℕ) (w : List ℕ) (before later : List (ℕ × S)) : Type 0 where
    pub value : S
    pub lies : Lies i value w
    pub come : later ≡ (i, value) ∷ before

  abbrev pub Carries : Phase → List (ℕ × S) → Type 0
  Carries (AtE4 r i w t e) slots = Fronts i w slots
  Carries turn slots = Unit {0}

  -- a put's exchange that succeeds takes the first slot home, a get brings the slot of its index
  abbrev pub SlotsAfter : Setup → Phase → ℕ → List ℕ → List (ℕ × S) → List (ℕ × S) → Type 0
  SlotsAfter c (AtE4 r i w t e) x y slots later = later ≡ (if x == e then rest slots else slots)
  SlotsAfter c (AtD4 r h) x y slots later = Takes (index_in (ring_slots c) x) y slots later
  SlotsAfter c turn x y slots later = later ≡ slots

  -- what a turn tells of the seat before and after it
  pub record Turned (c : Setup) (t : Phase) (me : Me S Known) (x : ℕ)
      (later : Me S Known) : Type 0 where
    pub beside : List ℕ
    pub view : later.0 ≡ made c t x beside me.0
    pub slots : SlotsAfter c t x beside me.1 later.1
    pub found : FindsAtLeast c t x
    pub stands : FindsIndex c t x
    pub ready : IsReady c t x
    pub draws : Draws t x me.0.numbers
    pub past_first : IsPastFirstRound c t x
    -- its hand has room for no more than all indices
    pub fits : length (my later.0).part.hand ≤ n_of c.order
    -- and has each of them once
    pub once : (i : ℕ) → times i (my later.0).part.hand ≤ 1
