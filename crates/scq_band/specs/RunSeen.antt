-- What a seat, a pass or a note has seen of the run of all seats, and where in that run a call was
-- made. The run is one list of steps, in the order in which they were made; what was seen of it is
-- a list of its prefixes.
use Rattle.std.specs.Prelude.{◌≡◌, ◌⊎◌, ℕ, ◌-◌, ◌<◌, ◌≤◌, min, List, [], ◌∷◌, ◌++◌, length, Option}
use Rattle.std.specs.Prelude.{Some, None}
use Rattle.std.specs.List.{Contains}
use Rattle.scq_word.specs.declared.setup.Setup.{Setup}
use Rattle.scq_word.specs.Exports.{n_of}
use Rattle.scq_core.specs.declared.ended.Ended.{Ended}
use Rattle.scq_core.specs.declared.step.Step.{Step}
use Rattle.scq_core.specs.Exports.{Location, head_of, tail_of, read}
use Rattle.scq_law.specs.Exports.{IsEmptyAtCall, IsPrefix, AllPrefixes, IsRecordAfter, Recorded}
use Rattle.scq_law.specs.Exports.{IsRun, WholeCallIsDelayedByEnds}

-- the last of these steps is this one
pub record EndsWith (step : ℕ × Step) (steps : List (ℕ × Step)) : Type 0 where
  pub others : List (ℕ × Step)
  pub is : steps ≡ others ++ step ∷ []

-- what a seat, a pass or a note has seen: prefixes of the run of all seats, and seats that had
-- retired, each with how many calls it had made before
pub record Seen : Type 0 where
  pub runs : List (List (ℕ × Step))
  pub retirees : List (ℕ × ℕ)

-- what is seen at first: nothing; after a call, or at the gate: this run, in place of those before;
-- by one who learns what another has seen: both
abbrev pub nothing_seen : Seen
nothing_seen = record { runs = []; retirees = [] }

abbrev pub with_run : List (ℕ × Step) → Seen → Seen
with_run steps seen = record seen { runs = steps ∷ [] }

abbrev pub both_seen : Seen → Seen → Seen
both_seen one other =
    record { runs = one.runs ++ other.runs; retirees = one.retirees ++ other.retirees }

-- and by one who retires: that it has, with so many calls made before
abbrev pub with_retiree : ℕ × ℕ → Seen → Seen
with_retiree one seen = record seen { retirees = one ∷ seen.retirees }

-- who makes a call: the number of the seat, its record, and what it has seen
pub record Caller : Type 0 where
  pub seat : ℕ
  pub calls : List Ended
  pub seen : Seen

-- one or more calls of a seat, in the run. All that the caller had seen lies in the run `before`
-- them. Their first step is the next after `before`, their last step is the last of `after`, and
-- `after` is what the caller has seen from then on, with the retirements that it had seen
pub record IsCallInRun (c : Setup) (opening : List (List ℕ)) (old new : Caller) : Type 0 where
  pub before : List (ℕ × Step)
  pub after : List (ℕ × Step)
  pub had_seen : AllPrefixes old.seen.runs before
  pub first : Step
  pub begins : IsPrefix (before ++ (old.seat, first) ∷ []) after
  pub last : Step
  pub ends : EndsWith (old.seat, last) after
  pub has_seen : new.seen ≡ with_run after old.seen
  -- the record is that of the run, at both ends
  pub was : IsRecordAfter c opening before old.seat old.calls
  pub now : IsRecordAfter c opening after old.seat new.calls
  -- and, where it was one call, by how that ended: its steps are at most its own bound and what the
  -- ends of others on its ring meanwhile cost
  pub delayed : (ended : Ended) → new.calls ≡ old.calls ++ ended ∷ []
      → WholeCallIsDelayedByEnds c before after was.recorded.state now.recorded.state old.seat ended

-- a get of ring r that found nothing, in the run: after the call's last step Head of the ring was
-- at or past this number; and at some moment inside the call each put of the ring that had ended
-- was got by a get begun by then, or by none, and those got by none are at most as many as the
-- other gets of the ring begun by then that are still under way at the end of `after`
pub record WasEmptyInRun (c : Setup) (opening : List (List ℕ)) (r head : ℕ)
    (old new : Caller) : Type 0 where
  pub call : IsCallInRun c opening old new
  pub past : head ≤ call.now.recorded.state.cells.head r
  pub moment : IsEmptyAtCall opening call.was.recorded.events call.now.recorded.events old.seat r

-- so many first calls of this seat had ended in a run that was seen
pub record HasSeenCalls (c : Setup) (opening : List (List ℕ)) (seen : Seen)
    (seat calls : ℕ) : Type 0 where
  pub steps : List (ℕ × Step)
  pub among : Contains seen.runs steps
  pub recorded : Recorded
  pub is_run : IsRun c opening steps recorded
  pub made : calls ≤ length (recorded.state.part seat).calls

-- a reading of the gate in the run. `own` is how many calls the reader had made when it retired, if
-- it has. The reader has now seen the run `after`, of which all that it had seen are prefixes, and
-- seats that had retired, those among them that it had seen retired before, each with as many calls
-- as a run that it has seen shows. The number read is 0 exactly where these are all seats
pub record IsReadingInRun (c : Setup) (opening : List (List ℕ)) (own : Option ℕ) (old new : Caller)
    (found : ℕ) : Type 0 where
  pub after : List (ℕ × Step)
  pub had_seen : AllPrefixes old.seen.runs after
  pub has_seen : new.seen.runs ≡ after ∷ []
  pub now : IsRecordAfter c opening after old.seat new.calls
  pub still : (gone : ℕ × ℕ) → Contains old.seen.retirees gone → Contains new.seen.retirees gone
  pub made : (gone : ℕ × ℕ) → Contains new.seen.retirees gone
      → HasSeenCalls c opening new.seen gone.0 gone.1
  pub itself : (calls : ℕ) → own ≡ Some calls → Contains new.seen.retirees (old.seat, calls)
  pub not_itself : own ≡ None → (calls : ℕ) → Contains new.seen.retirees (old.seat, calls) → ⊥
  pub none_left : found ≡ 0 → (seat : ℕ) → seat < c.seats
      → (calls : ℕ) × Contains new.seen.retirees (seat, calls)
  pub some_left : 0 < found → (seat : ℕ) × (seat < c.seats) × ((calls : ℕ)
      → Contains new.seen.retirees (seat, calls) → ⊥)

-- a moment between two calls of a seat, at which these were the steps of the run: all that it had
-- seen are prefixes of them, its record is the run's, and they are what it has seen from then on
pub record IsMomentInRun (c : Setup) (opening : List (List ℕ)) (old new : Caller) : Type 0 where
  pub steps : List (ℕ × Step)
  pub had_seen : AllPrefixes old.seen.runs steps
  pub has_seen : new.seen ≡ with_run steps old.seen
  pub now : IsRecordAfter c opening steps old.seat new.calls

-- such a moment, at which this number stood at a location of the machine
pub record WasFoundInRun (c : Setup) (opening : List (List ℕ)) (l : Location) (n : ℕ)
    (old new : Caller) : Type 0 where
  pub moment : IsMomentInRun c opening old new
  pub found : n ≡ read moment.now.recorded.state.cells l

-- a count of what stands in ring r: Tail less Head, where Head was found at one moment of the run
-- and Tail at the next; and no more than there are buffers
pub record WasCountedInRun (c : Setup) (opening : List (List ℕ)) (r count : ℕ) (old new : Caller)
    : Type 0 where
  pub head : ℕ
  pub tail : ℕ
  pub between : Seen
  pub head_found : WasFoundInRun c opening (head_of r) head old (record old { seen = between })
  pub tail_found : WasFoundInRun c opening (tail_of r) tail (record old { seen = between }) new
  pub count_is : count ≡ min (tail - head) (n_of c.order)

-- each seat was seen retired
abbrev pub AllWereSeenRetired : Setup → Seen → Type 0
AllWereSeenRetired c seen =
    (seat : ℕ) → seat < c.seats → (calls : ℕ) × Contains seen.retirees (seat, calls)

-- of two runs that were seen, one is a prefix of the other
abbrev pub AreComparable : List (ℕ × Step) → List (ℕ × Step) → Type 0
AreComparable one other = IsPrefix one other ⊎ IsPrefix other one

-- two prefixes of one run are comparable
abbrev pub EachTwoPrefixesAreComparable : Type 0
EachTwoPrefixesAreComparable =
    (one other steps : List (ℕ × Step)) → IsPrefix one steps → IsPrefix other steps
    → AreComparable one other

-- of any two runs that two have seen, one is a prefix of the other
abbrev pub HaveSeenOneRun : Seen → Seen → Type 0
HaveSeenOneRun one other =
    (p q : List (ℕ × Step)) → Contains one.runs p → Contains other.runs q → AreComparable p q

-- one run behind all that two have seen when they meet: each had seen prefixes of these steps, and
-- both have seen them from then on. They are a run, in which the first's record stands
pub record HaveMet (c : Setup) (opening : List (List ℕ)) (one other one_now other_now : Caller)
    : Type 0 where
  pub steps : List (ℕ × Step)
  pub one_had_seen : AllPrefixes one.seen.runs steps
  pub other_had_seen : AllPrefixes other.seen.runs steps
  pub one_has_seen : Contains one_now.seen.runs steps
  pub other_has_seen : Contains other_now.seen.runs steps
  pub now : IsRecordAfter c opening steps one.seat one.calls
