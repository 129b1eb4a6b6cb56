-- For the rule of the table and private calls: what a seat of the table has seen of the run of all
-- seats, beside what it knows.
use Rattle.std.specs.Prelude.{◌≡◌, ◌⊎◌, ℕ, List, [], ◌∷◌, ◌++◌, ◌<◌, zero, suc, if◌then◌else◌}
use Rattle.std.specs.Prelude.{is_none, unwrap_or, map, Option, Some, slice_get}
use Rattle.std.specs.List.{Contains}
use mathlib.Core.Option.{some}
use lib.ListN.{get_elem?}
use Rattle.atomic_table.specs.Table.{State, Me}
use Rattle.scq_word.specs.declared.setup.Setup.{Setup}
use Rattle.scq_core.specs.declared.step.Step.{Step}
use Rattle.scq_core.specs.Exports.{Location, read}
use Rattle.scq_law.specs.Exports.{Recorded, IsRun, IsPrefix, AllPrefixes}
use Rattle.scq_band.specs.RunSeen.{Seen, nothing_seen, with_run, both_seen, EndsWith, HasSeenCalls}
use Rattle.scq_band.specs.declared.numbers.Numbers.{Numbers}
use Rattle.scq_band.specs.Numbers.{IsTrue}
use Rattle.scq_band.specs.Layout.{at, IsLocation}
use Rattle.scq_band.specs.Known.{Member, Known, nobody, note_of_view, others_of, first_of, both_of}
use Rattle.scq_band.specs.Shown.{Shown, awake, first_view}
use Rattle.scq_band.specs.Steps.{my}

-- a view: what it knows, and what it has seen
pub record Sight : Type 0 where
  pub known : Known
  pub seen : Seen

abbrev pub known_in : Sight → Known
known_in v = v.known

-- a seat, and a table, without what was seen of the run
abbrev pub known_me : {S : Type 0} → Me S Sight → Me S Known
known_me me = (me.0.known, me.1)

abbrev pub known_state : {S : Type 0} → State S Sight → State S Known
known_state s = record { words = s.words; homes = s.homes; views = map known_in s.views }

-- these steps are a run, after which the seat's part is this
pub record StandsAfter (c : Setup) (opening : List (List ℕ)) (steps : List (ℕ × Step))
    (x : Member) : Type 0 where
  pub recorded : Recorded
  pub is_run : IsRun c opening steps recorded
  pub part : recorded.state.part x.number ≡ x.part

-- one or more steps of the one seat that stands in a view. All that the view had seen lies in the
-- run `before` them; the first is the next after `before`, the last is the last of `after`, after
-- which the view's numbers are true
pub record Went (c : Setup) (opening : List (List ℕ)) (old new : Sight) : Type 0 where
  pub before : List (ℕ × Step)
  pub after : List (ℕ × Step)
  pub had_seen : AllPrefixes old.seen.runs before
  pub first : Step
  pub begins : IsPrefix (before ++ ((my old.known).number, first) ∷ []) after
  pub last : Step
  pub ends : EndsWith ((my new.known).number, last) after
  pub has_seen : new.seen ≡ with_run after old.seen
  pub was : StandsAfter c opening before (my old.known)
  pub now : StandsAfter c opening after (my new.known)
  pub numbers : (r : ℕ) (x : Numbers) → slice_get new.known.numbers r ≡ Some x
      → IsTrue c now.recorded.state r x

-- some steps, or none
abbrev pub GoesOn : Setup → List (List ℕ) → Sight → Sight → Type 0
GoesOn c opening old new = (new ≡ old) ⊎ Went c opening old new

-- of the seats below a number those that have retired, each with how many calls it had made before
abbrev pub retired_ones : (ℕ → Option ℕ) → ℕ → List (ℕ × ℕ)
retired_ones gone zero = []
retired_ones gone (suc k) =
    retired_ones gone k ++ (if is_none (gone k) then [] else (k, unwrap_or (gone k) 0) ∷ [])

-- a reading of the gate by the one seat that stands in a view: it has now seen the rule's run,
-- `after`, and all that have retired
pub record Looked (c : Setup) (opening : List (List ℕ)) (old new : Sight) (found : ℕ) : Type 0 where
  pub after : List (ℕ × Step)
  pub had_seen : AllPrefixes old.seen.runs after
  pub gone : ℕ → Option ℕ
  pub has_seen : new.seen ≡ record { runs = after ∷ []; retirees = retired_ones gone c.seats }
  pub stands : old.known.seats ≡ my old.known ∷ [] → StandsAfter c opening after (my old.known)
  pub own : old.known.seats ≡ my old.known ∷ []
      → ((my old.known).number < c.seats) × (gone (my old.known).number ≡ (my old.known).retired)
  pub still : (p : ℕ × ℕ) → Contains old.seen.retirees p → (p.0 < c.seats) × (gone p.0 ≡ Some p.1)
  pub made : (k n : ℕ) → gone k ≡ Some n → HasSeenCalls c opening new.seen k n
  pub awake_seats : found ≡ awake gone c.seats

-- the one seat that stands in a view was shown the rule's run
pub record WasShownRun (c : Setup) (opening : List (List ℕ)) (old new : Sight) : Type 0 where
  pub steps : List (ℕ × Step)
  pub had_seen : AllPrefixes old.seen.runs steps
  pub has_seen : new.seen ≡ with_run steps old.seen
  pub stands : old.known.seats ≡ my old.known ∷ []
      → StandsAfter c opening steps (my old.known)

-- likewise, and it found this number at a word: what stood there at the end of the run
pub record HasFound (c : Setup) (opening : List (List ℕ)) (word n : ℕ)
    (old new : Sight) : Type 0 where
  pub shown : WasShownRun c opening old new
  pub found : (alone : old.known.seats ≡ my old.known ∷ []) (l : Location) → IsLocation c l
      → word ≡ at c l → n ≡ read (shown.stands alone).recorded.state.cells l

-- a mark of a view: what it has seen, and nothing that it knows
abbrev pub mark_with : Seen → Sight
mark_with seen = record { known = nobody; seen = seen }

abbrev pub mark_sight : Sight → Sight
mark_sight v = mark_with v.seen

-- a note of a view; what is left of one that was joined to another
abbrev pub note_sight : Sight → Sight
note_sight v = record { known = note_of_view v.known; seen = v.seen }

abbrev pub spent_sight : Sight
spent_sight = record { known = nobody; seen = nothing_seen }

-- a view without its first seat, the view of that seat, and two as one
abbrev pub others_sight : Sight → Sight
others_sight v = record { known = others_of v.known; seen = v.seen }

abbrev pub first_sight_of : Sight → Sight
first_sight_of v = record { known = first_of v.known; seen = v.seen }

abbrev pub both_sight : Sight → Sight → Sight
both_sight v w = record { known = both_of v.known w.known; seen = both_seen v.seen w.seen }

-- the first view
abbrev pub first_sight : Setup → Sight
first_sight c = record { known = first_view c; seen = nothing_seen }

module _ {S : Type 0} (Lies : ℕ → S → List ℕ → Type 0) where
  -- there is a run whose end words and views show. What each view has seen of it are its prefixes,
  -- and the seats that it has seen retired have, with so many calls made before
  pub record ShowsRun (opening : List (List ℕ)) (c : Setup) (s : State S Sight) : Type 0 where
    pub run : List (ℕ × Step)
    pub gone : ℕ → Option ℕ
    pub shown : Shown Lies opening c gone run (known_state s)
    pub seen : (id : ℕ) (v : Sight) → get_elem? s.views id ≡ some v → AllPrefixes v.seen.runs run
    pub retirees : (id : ℕ) (v : Sight) → get_elem? s.views id ≡ some v → (p : ℕ × ℕ)
        → Contains v.seen.retirees p
        → (p.0 < c.seats) × (gone p.0 ≡ Some p.1)
