-- For private calls: what a turn is to the order of a ring, and what is marked of it.
use Rattle.std.specs.Prelude.{◌≡◌, ◌⊎◌, ℕ, ◌+◌, ◌<◌, ◌≤◌, max, ◌==◌, ◌&&◌, nat_lt, nat_le, nat_eq}
use Rattle.std.specs.Prelude.{Bool, true, false, if◌then◌else◌, List, [], ◌∷◌, ◌++◌, zero, suc}
use Rattle.std.specs.Prelude.{replicate, Option, Some, None, unwrap_or, length, slice_get}
use Rattle.std.specs.Prelude.{slice_set, slice_index}
use Rattle.std.specs.HashMap.{get, HashMap}
use Rattle.std.specs.List.{Contains, AllAdjacentBelow}
use Rattle.std.specs.List.Sorted.{IsNonDecreasingBy}
use Rattle.scq_word.specs.declared.setup.Setup.{Setup}
use Rattle.scq_word.specs.Exports.{n_of}
use Rattle.scq_core.specs.declared.ended.Ended.{Ended}
use Rattle.scq_core.specs.declared.ended.Ended.TheVariants.{Done, Got, Nothing, Spent}
use Rattle.scq_core.specs.declared.phase.Phase.{Phase}
use Rattle.scq_core.specs.declared.phase.Phase.TheVariants.{Idle, AtE1, AtD2, AtD6, AtD10}
use Rattle.scq_core.specs.declared.step.Step.{Step}
use Rattle.scq_core.specs.declared.step.Step.TheVariants.{E1, D1}
use Rattle.scq_core.specs.Exports.{Cells, zero_level, ring_slots, updated, machine_of}
use Rattle.scq_core.specs.Machine.{Machine}
use Rattle.scq_law.specs.Acts.{ended_in}
use Rattle.scq_law.specs.Places.{AllIdle}
use Rattle.scq_law.specs.Run.{Recorded, IsRun}
use Rattle.scq_law.specs.declared.marking.Marking.{Marking}
use Rattle.scq_law.specs.declared.marks.Decision.{Decision}
use Rattle.scq_law.specs.declared.marks.Marks.{Marks}
use Rattle.scq_law.specs.declared.marks.Member.{Member}
use Rattle.scq_law.specs.declared.note.Note.{Note}
use Rattle.scq_law.specs.declared.note.Note.TheVariants.{DrawsPut, DrawsGet, Decides, Passes}
use Rattle.scq_law.specs.declared.ordered.Ordered.TheVariants.{Opening, Call}
use Rattle.scq_law.specs.Order.{key, HasKey, IsOrderable}
use Rattle.scq_law.specs.RunSteps.{Run, run_of}

-- E1 and D2 where they find a ticket below the limit; D1, D6 and D10 where they decide that the
-- ring is empty
abbrev pub put_note : Setup → Cells → ℕ → ℕ → Note
put_note c m r q = if q == r && nat_lt (m.tail r) c.limit then DrawsPut (m.tail r) else Passes

abbrev pub get_note : Setup → Cells → ℕ → ℕ → Note
get_note c m r q = if q == r && nat_lt (m.head r) c.limit then DrawsGet (m.head r) else Passes

abbrev pub refusal_note : Cells → ℕ → ℕ → Note
refusal_note m r q =
    if q == r && nat_lt (m.threshold r) zero_level then Decides (m.head r) else Passes

abbrev pub end_note : Cells → ℕ → ℕ → ℕ → Note
end_note m r q h = if q == r && nat_le (m.tail r) (h + 1) then Decides (m.head r) else Passes

abbrev pub level_note : Cells → ℕ → ℕ → Note
level_note m r q =
    if q == r && nat_le (m.threshold r) zero_level then Decides (m.head r) else Passes

-- by the phase of the seat and its step
abbrev pub note_of : Setup → Cells → ℕ → Phase → Step → Note
note_of c m r Idle (E1 q i w) = put_note c m r q
note_of c m r Idle (D1 q) = refusal_note m r q
note_of c m r (AtE1 q i w l) step = put_note c m r q
note_of c m r (AtD2 q l) step = get_note c m r q
note_of c m r (AtD6 q h) step = end_note m r q h
note_of c m r (AtD10 q h false) step = level_note m r q
note_of c m r phase step = Passes

-- the points that are marked, by ticket or by seat
module _ {S : Type 0} where
  abbrev pub marked : HashMap ℕ ℕ S → ℕ → Option ℕ
  marked m q = get nat_eq m q

-- what is marked of a turn of a seat, at its point
abbrev pub puts_by : Note → ℕ → (ℕ → Option ℕ) → ℕ → Option ℕ
puts_by (DrawsPut p) point marks = updated marks p (Some point)
puts_by note point marks = marks

abbrev pub gets_by : Note → ℕ → (ℕ → Option ℕ) → ℕ → Option ℕ
gets_by (DrawsGet p) point marks = updated marks p (Some point)
gets_by note point marks = marks

abbrev pub decided_by : Note → ℕ → ℕ → (ℕ → Option ℕ) → ℕ → Option ℕ
decided_by (Decides head) seat point marks = updated marks seat (Some point)
decided_by note seat point marks = marks

abbrev pub decisions_by : Note → ℕ → List Decision → List Decision
decisions_by (Decides head) point decisions =
    decisions ++ record { head = head; point = point } ∷ []
decisions_by note point decisions = decisions

-- neither Head nor point falls from one to the next
pub record Rise (decisions : List Decision) : Type 0 where
  pub heads : IsNonDecreasingBy (λ (d : Decision). d.head) decisions
  pub points : IsNonDecreasingBy (λ (d : Decision). d.point) decisions

-- the first point, or that of the last decision whose Head is no further than the place where that
-- is later
pub record IsPutMark (decisions : List Decision) (first place point : ℕ) : Type 0 where
  pub from_first : first ≤ point
  pub from_decisions : (d : Decision) → Contains decisions d → d.head ≤ place → d.point ≤ point
  pub reached : (point ≡ first)
      ⊎ ((d : Decision) × Contains decisions d × (d.head ≤ place) × (point ≡ d.point))

-- a call of the ring that did not end with Spent
abbrev pub is_on : ℕ → Ended → Bool
is_on r (Done q p w) = q == r
is_on r (Got q p w) = q == r
is_on r (Nothing q) = q == r
is_on r (Spent q t put) = false

abbrev pub mark_or : Option ℕ → ℕ
mark_or o = unwrap_or o 0

-- the key of a call of a seat that has ended so, as the marks say
abbrev pub IsMarkedKey : (ℕ → Option ℕ) → (ℕ → Option ℕ) → (ℕ → Option ℕ) → List Decision → ℕ
    → Ended → ℕ × ℕ × ℕ → Type 0
IsMarkedKey puts gets decided decisions seat (Done q p w) k =
    (Rise decisions → IsPutMark decisions (mark_or (puts p)) p k.0) × (k.1 ≡ 1) × (k.2 ≡ p)
IsMarkedKey puts gets decided decisions seat (Got q p w) k =
    (k.0 ≡ max (mark_or (gets p)) (mark_or (puts p))) × (k.1 ≡ 2) × (k.2 ≡ p)
IsMarkedKey puts gets decided decisions seat (Nothing q) k =
    (k.0 ≡ mark_or (decided seat)) × (k.1 ≡ 0) × (k.2 ≡ 0)
IsMarkedKey puts gets decided decisions seat (Spent q t put) k = ⊥

-- one member more where a call of the ring has ended
abbrev pub AddsMember : ℕ → (ℕ → Option ℕ) → (ℕ → Option ℕ) → (ℕ → Option ℕ) → List Decision → ℕ → ℕ
    → Option Ended → List Member → List Member → Type 0
AddsMember r puts gets decided decisions seat number None old new = new ≡ old
AddsMember r puts gets decided decisions seat number (Some ended) old new =
    ((is_on r ended ≡ false) × (new ≡ old))
    ⊎ ((m : Member) × (is_on r ended ≡ true) × (m.ordered ≡ Call seat number)
    × IsMarkedKey puts gets decided decisions seat ended m.key
    × (new ≡ old ++ m ∷ []))

-- how many calls of each seat have ended
abbrev pub calls_by : ℕ → Option Ended → List ℕ → List ℕ
calls_by seat None calls = calls
calls_by seat (Some ended) calls = slice_set calls seat (slice_index calls seat + 1)

-- what is marked of a step of a seat from one state to the next, at this point
pub record AddsStep (c : Setup) (seat : ℕ) (step : Step) (before later : Machine) (point : ℕ)
    (old new : Marks) : Type 0 where
  pub ring : new.ring ≡ old.ring
  pub puts : (p : ℕ)
      → marked new.puts p
      ≡ puts_by (note_of c before.cells old.ring (before.part seat).phase step) point
      (marked old.puts) p
  pub gets : (p : ℕ)
      → marked new.gets p
      ≡ gets_by (note_of c before.cells old.ring (before.part seat).phase step) point
      (marked old.gets) p
  pub decided : (k : ℕ)
      → marked new.decided k
      ≡ decided_by (note_of c before.cells old.ring (before.part seat).phase step) seat point
      (marked old.decided) k
  pub decisions : new.decisions.items
      ≡ decisions_by (note_of c before.cells old.ring
      (before.part seat).phase step) point old.decisions.items
  pub calls : new.calls.items
      ≡ calls_by seat (ended_in (later.part seat).phase (later.part seat).calls) old.calls.items
  pub members : AddsMember old.ring (marked new.puts) (marked new.gets)
      (marked new.decided) new.decisions.items seat (slice_index old.calls.items seat + 1)
      (ended_in (later.part seat).phase (later.part seat).calls) old.members.items new.members.items

-- the opening put of this index as a member: its point is 0, and its place is so many slots on
abbrev pub token : ℕ → ℕ → Member
token slots j = record { key = (0, 1, slots + j); ordered = Opening j }

abbrev pub tokens_below : ℕ → ℕ → List Member
tokens_below slots zero = []
tokens_below slots (suc j) = tokens_below slots j ++ token slots j ∷ []

-- those of ring 0
abbrev pub tokens_of : Setup → ℕ → List Member
tokens_of c r = if r == 0 then tokens_below (ring_slots c) (n_of c.order) else []

-- what is marked of no step
pub record IsUnmarked (c : Setup) (r : ℕ) (t : Marks) : Type 0 where
  pub ring : t.ring ≡ r
  pub puts : (p : ℕ) → marked t.puts p ≡ None
  pub gets : (p : ℕ) → marked t.gets p ≡ None
  pub decided : (k : ℕ) → marked t.decided k ≡ None
  pub decisions : t.decisions.items ≡ []
  pub calls : t.calls.items ≡ replicate c.seats 0
  pub members : t.members.items ≡ tokens_of c r

-- a key comes before another or is the same
abbrev pub IsNoLater : ℕ × ℕ × ℕ → ℕ × ℕ × ℕ → Type 0
IsNoLater f g = (f.0 < g.0) ⊎ ((f.0 ≡ g.0) × ((f.1 < g.1) ⊎ ((f.1 ≡ g.1) × (f.2 ≤ g.2))))

-- each member's key comes before the next one's or is the same
abbrev pub AreInKeyOrder : List Member → Type 0
AreInKeyOrder members =
    AllAdjacentBelow (λ (x y : Member). IsNoLater x.key y.key) members (length members)

-- the members of the order of ring r, each once and with its key, in some order
pub record HoldsOrder (run : Run) (r : ℕ) (members : List Member) : Type 0 where
  pub calls : (seat call : ℕ) → IsOrderable run r seat call
      → (m : Member) × Contains members m × (m.ordered ≡ Call seat (call + 1))
  pub openings : (j : ℕ) → r ≡ 0 → j < n_of run.setup.order
      → (m : Member) × Contains members m × (m.ordered ≡ Opening j)
  pub only : (m : Member) → Contains members m
      → HasKey run r m.ordered (key m.key.0 m.key.1 m.key.2)
  pub apart : (a b : ℕ) (m n : Member) → slice_get members a ≡ Some m → slice_get members b ≡ Some n
      → m.ordered ≡ n.ordered → a ≡ b

-- the steps are a run, in whose last state the marking is; and where every call has ended its marks
-- are the run's
pub record IsMarkedRun (c : Setup) (opening : List (List ℕ)) (steps : List (ℕ × Step)) (r : ℕ)
    (marking : Marking) : Type 0 where
  pub recorded : Recorded
  pub is_run : IsRun c opening steps recorded
  pub setup : marking.state.setup ≡ c
  pub state : machine_of marking.state ≡ recorded.state
  pub marks : AllIdle c recorded.state
      → HoldsOrder (run_of c opening steps) r marking.marks.members.items
