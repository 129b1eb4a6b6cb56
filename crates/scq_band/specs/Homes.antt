-- For private calls: the slots of a seat go home, before the table closes.
use Rattle.std.specs.Prelude.{◌≡◌, ◌⊎◌, ℕ, ◌+◌, ◌<◌, ◌≤◌, if◌then◌else◌, is_none, List, [], ◌∷◌}
use Rattle.std.specs.Prelude.{◌++◌, length, Option, Some, None, slice_get}
use Rattle.std.specs.List.{Contains}
use Rattle.std.specs.List.Sorted.{IsPermutation}
use Rattle.atomic_table.specs.Table.{Me}
use Rattle.scq_core.specs.declared.phase.Phase.TheVariants.{Idle}
use Rattle.scq_band.specs.RunSeen.{Seen, nothing_seen, both_seen}
use Rattle.scq_law.specs.Exports.{times}
use Rattle.scq_band.specs.Slots.{SlotStanding}
use Rattle.scq_band.specs.declared.numbers.Numbers.{Numbers}
use Rattle.scq_band.specs.Known.{Member, Known}
use Rattle.scq_band.specs.Steps.{my, front_index}
use Rattle.scq_band.specs.Turns.{Fronts}
use Rattle.scq_band.specs.Standing.{Standing, IsAsGiven}
use Rattle.scq_band.specs.Kept.{AllGiven}
use Rattle.scq_band.specs.Closing.{indices_of}

-- the view of a seat after the slots of these indices have gone home, with buffers of these bytes
abbrev pub at_home : List (ℕ × List ℕ) → Known → Known
at_home gone v = record v { seats = record (my v) { brought = (my v).brought ++ gone } ∷ [] }

-- the slot of an index went home, with a buffer of these bytes, by one of these members
pub record IsBrought (xs : List Member) (b : ℕ × List ℕ) : Type 0 where
  pub at : ℕ
  pub member : Member
  pub here : slice_get xs at ≡ Some member
  pub brought : Contains member.brought b

module _ {S : Type 0} (Lies : ℕ → S → List ℕ → Type 0) where
  -- one seat stands in the view, it has the index of the slot that stands first, which it hasn't
  -- brought home yet, and the buffer of that index is in it, with these bytes
  pub record MayBring (content : List ℕ) (me : Me S Known) : Type 0 where
    pub seats : me.0.seats ≡ my me.0 ∷ []
    pub held : 0 < times (front_index me.1) (my me.0).part.hand
    pub apart : times (front_index me.1) (indices_of (my me.0).brought) ≡ 0
    pub front : Fronts Lies (front_index me.1) content me.1

module _ {B : Type 0} where
  -- the slot with a buffer in it
  abbrev pub full_slot : B → SlotStanding B
  full_slot b = record { buffer = Some b }

  -- how often a slot of this index is lifted
  abbrev pub times_lifted : ℕ → List (ℕ × SlotStanding B) → ℕ
  times_lifted i [] = 0
  times_lifted i (x ∷ xs) =
      (if is_none x.1.buffer then times i (x.0 ∷ []) else 0) + times_lifted i xs

  -- these slots are holes, all of them
  abbrev pub AreHoles : List (ℕ × SlotStanding B) → Type 0
  AreHoles slots = (i : ℕ) → times_lifted i slots ≡ times i (indices_of slots)

  -- the first slot, of this index, has its buffer, which was in it or has come from those that are
  -- out
  pub record IsLaidBack (i : ℕ) (slots : List (ℕ × SlotStanding B)) (out : List (ℕ × B))
      (later : List (ℕ × SlotStanding B)) (left : List (ℕ × B)) : Type 0 where
    pub buffer : B
    pub others : List (ℕ × SlotStanding B)
    pub laid : later ≡ (i, record { buffer = Some buffer }) ∷ others
    pub was : ((slots ≡ (i, record { buffer = Some buffer }) ∷ others) × (left ≡ out))
        ⊎ ((slots ≡ (i, record { buffer = None }) ∷ others)
        × IsPermutation out ((i, buffer) ∷ left))

  -- these slots have gone home, each with the bytes that its buffer had in it or where it was out;
  -- of the slots, and of the buffers that were out, the others are left
  pub record AreHome (contents : B
      → List ℕ) (gone : List (ℕ × List ℕ)) (slots later : List (ℕ × SlotStanding B))
      (out left : List (ℕ × B)) : Type 0 where
    pub indices : (i : ℕ)
        → times i (indices_of gone) + times i (indices_of later) ≡ times i (indices_of slots)
    pub laid : (i : ℕ) (b : B) → Contains slots (i, full_slot b)
        → Contains later (i, full_slot b) ⊎ Contains gone (i, contents b)
    pub lifted : (o : ℕ × B) → Contains out o → Contains left o ⊎ Contains gone (o.0, contents o.1)

  -- a seat of whose slots some have gone home
  pub record WentHome (contents : B
      → List ℕ) (me : Me (SlotStanding B) Known) (out : List (ℕ × B))
      (later : Me (SlotStanding B) Known) (left : List (ℕ × B)) : Type 0 where
    pub gone : List (ℕ × List ℕ)
    pub view : later.0 ≡ at_home gone me.0
    pub are : AreHome contents gone me.1 later.1 out left

  -- each buffer that was out is out still, or its slot is at home with its bytes
  abbrev pub OutOrHome : (B → List ℕ) → List (ℕ × B) → List (ℕ × B) → List Member → Type 0
  OutOrHome contents out left xs =
      (o : ℕ × B) → Contains out o → Contains left o ⊎ IsBrought xs (o.0, contents o.1)

  -- each buffer that is out is the one that was given for its index
  abbrev pub AllOutGiven : (B → B → Type 0) → List B → List (ℕ × B) → Type 0
  AllOutGiven IsSame buffers out = (o : ℕ × B) → Contains out o → IsAsGiven IsSame buffers o.0 o.1

  -- a seat stands alone; the indices of its slots are of its hand and not of those that it has
  -- brought home, each once; their buffers are the ones that were given, and those that are lifted
  -- are out
  pub record MayLeave (IsSame : B → B
      → Type 0) (buffers : List B) (me : Me (SlotStanding B) Known) (out : List (ℕ × B))
      : Type 0 where
    pub seats : me.0.seats ≡ my me.0 ∷ []
    pub held : (i : ℕ) → times i (indices_of me.1) ≤ times i (my me.0).part.hand
    pub once : (i : ℕ) → times i (indices_of (my me.0).brought) + times i (indices_of me.1) ≤ 1
    pub given : AllGiven IsSame buffers me.1
    pub out_given : AllOutGiven IsSame buffers out
    pub lifted : (i : ℕ) → times_lifted i me.1 ≤ times i (indices_of out)

module _ {B : Type 0} where
  -- the member of a closed view that a seat became: what contracts see of it stays, and all its
  -- slots are at home, with the bytes of the buffers that were laid in its hand
  pub record IsMemberOf (contents : B → List ℕ) (s : Standing B) (x : Member) : Type 0 where
    pub number : x.number ≡ s.number
    pub calls : x.part.calls ≡ s.calls
    pub hand : x.part.hand ≡ indices_of s.hand
    pub spent : x.part.spent ≡ s.spent
    pub retired : x.retired ≡ s.retired
    pub idle : x.part.phase ≡ Idle
    pub brought : (i : ℕ) → 0 < times i x.part.hand → (w : List ℕ) × Contains x.brought (i, w)
    pub laid : (i : ℕ) (b : B) → Contains s.hand (i, Some b) → Contains x.brought (i, contents b)

  -- the members of a view are those of these seats, one by one
  abbrev pub AreMembersOf : (B → List ℕ) → List (Standing B) → List Member → Type 0
  AreMembersOf contents [] [] = Unit {0}
  AreMembersOf contents [] (x ∷ xs) = ⊥
  AreMembersOf contents (s ∷ ss) [] = ⊥
  AreMembersOf contents (s ∷ ss) (x ∷ xs) = IsMemberOf contents s x × AreMembersOf contents ss xs

  -- what each of these seats knows of Head is known
  abbrev pub HeadsKnown : List (Standing B) → List Numbers → Type 0
  HeadsKnown [] numbers = Unit {0}
  HeadsKnown (s ∷ ss) numbers =
      ((r : ℕ) (x : Numbers) → slice_get s.numbers r ≡ Some x
      → (y : Numbers) × (slice_get numbers r ≡ Some y) × (x.head ≤ y.head))
      × HeadsKnown ss numbers

  -- what each of these seats read last at the gate, this reading is no higher
  abbrev pub GatesKnown : List (Standing B) → Option ℕ → Type 0
  GatesKnown [] gate = Unit {0}
  GatesKnown (s ∷ ss) gate =
      ((n : ℕ) → s.gate ≡ Some n → (k : ℕ) × (gate ≡ Some k) × (k ≤ n)) × GatesKnown ss gate

  -- the view in which these seats stand, with their slots at home
  pub record HasAll (contents : B
      → List ℕ) (rings : ℕ) (seats : List (Standing B)) (v : Known) : Type 0 where
    pub members : AreMembersOf contents seats v.seats
    pub heads : HeadsKnown seats v.numbers
    pub rings_known : length v.numbers ≡ rings
    pub gates : GatesKnown seats v.gate

  -- what these seats have seen of the run, the last one's first
  abbrev pub all_seen : List (Standing B) → Seen
  all_seen [] = nothing_seen
  all_seen (s ∷ ss) = both_seen (all_seen ss) s.seen

  -- of all these seats some are left, and the others stand in one view with their slots at home
  pub record SeatsAreGathered (contents : B
      → List ℕ) (rings : ℕ) (all left : List (Standing B)) (v : Known) (told : Seen) : Type 0 where
    pub done : List (Standing B)
    pub split : all ≡ left ++ done
    pub has : HasAll contents rings done v
    pub seen : told ≡ all_seen done
    pub some : v.seats ≡ [] → ⊥
