-- What contracts see of a band and of its seats, and what each call makes of a seat.
use Rattle.std.specs.Prelude.{◌≡◌, ℕ, ◌+◌, ◌<◌, ◌≤◌, true, false, not, ◌==◌, if◌then◌else◌, List}
use Rattle.std.specs.Prelude.{[], ◌∷◌, ◌++◌, map, filter, Option, Some, None, zero, suc, slice_get}
use Rattle.atomic_table.specs.Seated.{TableId}
use Rattle.scq_word.specs.Exports.{n_of}
use Rattle.scq_word.specs.declared.setup.Setup.{Setup}
use Rattle.scq_core.specs.declared.ended.Ended.{Ended}
use Rattle.scq_core.specs.declared.ended.Ended.TheVariants.{Done, Got, Nothing, Spent}
use Rattle.scq_band.specs.declared.numbers.Numbers.{Numbers}
use Rattle.scq_band.specs.Buffers.{opening_of}
use Rattle.scq_band.specs.RunSeen.{Seen, nothing_seen, Caller, WasEmptyInRun}
use Rattle.scq_band.specs.Numbers.{known_of, first_numbers, changed, finishes, sees, passes, drew}
use Rattle.scq_band.specs.Numbers.{empties}

-- which band: its table, the setup that it was made for, and the buffers that it was given, that of
-- index i at i
pub record Identity (B : Type 0) : Type 0 where
  pub table : TableId
  pub setup : Setup
  pub given : List B

-- what contracts see of a seat
pub record Standing (B : Type 0) : Type 0 where
  pub band : Identity B
  pub number : ℕ
  -- its record
  pub calls : List Ended
  -- the indices in its hand, in the order in which they came, each with its buffer unless that is
  -- lifted
  pub hand : List (ℕ × Option B)
  -- what it knows of each ring
  pub numbers : List Numbers
  -- the spent ticket that it keeps
  pub spent : Option ℕ
  -- how often it read the gate, and what the last reading found; before the first, the number of
  -- seats
  pub gates : ℕ
  pub gate : Option ℕ
  -- how many calls stood in its record when it retired
  pub retired : Option ℕ
  -- what it has seen of the run of all seats, and of those that retired
  pub seen : Seen

-- a number read at the gate by a seat, of so many seats, which last read `gate` there: the number
-- never rises, and a seat that has retired isn't counted in it
pub record IsReading (seats : ℕ) (gate retired : Option ℕ) (found : ℕ) : Type 0 where
  pub fell : (last : ℕ) → gate ≡ Some last → found ≤ last
  pub own : (calls : ℕ) → retired ≡ Some calls → found < seats

-- what contracts see of a note
pub record NoteStanding : Type 0 where
  pub table : TableId
  pub numbers : List Numbers
  pub seen : Seen

module _ {B : Type 0} where
  -- a seat of a new band, and those below a number, in order
  abbrev pub first_standing : Identity B → ℕ → Standing B
  first_standing band k =
      record {
        band = band;
        number = k;
        calls = [];
        hand = [];
        numbers = first_numbers band.setup band.setup.rings;
        spent = None;
        gates = 0;
        gate = Some band.setup.seats;
        retired = None;
        seen = nothing_seen;
      }

  abbrev pub first_standings : Identity B → ℕ → List (Standing B)
  first_standings band zero = []
  first_standings band (suc k) = first_standings band k ++ first_standing band k ∷ []

  -- what a hand has of an index: nothing, or a buffer, or the place of one that is lifted
  abbrev pub in_hand : List (ℕ × Option B) → ℕ → Option (Option B)
  in_hand [] i = None
  in_hand (x ∷ xs) i = if x.0 == i then Some x.1 else in_hand xs i

  -- the bytes of the buffer that is laid for an index in a hand
  abbrev pub laid_bytes : (B → List ℕ) → Option (Option B) → List ℕ
  laid_bytes contents (Some (Some buffer)) = contents buffer
  laid_bytes contents held = []

  abbrev pub bytes_in_hand : (B → List ℕ) → List (ℕ × Option B) → ℕ → List ℕ
  bytes_in_hand contents hand i = laid_bytes contents (in_hand hand i)

  -- a hand without an index
  abbrev pub without_index : ℕ → List (ℕ × Option B) → List (ℕ × Option B)
  without_index i hand = filter (λ x. not (x.0 == i)) hand

  -- a hand in which the buffer of an index was laid, or lifted
  abbrev pub with_buffer : ℕ → Option B → List (ℕ × Option B) → List (ℕ × Option B)
  with_buffer i buffer hand = map (λ x. if x.0 == i then (x.0, buffer) else x) hand

  -- a seat that has seen this
  abbrev pub having_seen : Seen → Standing B → Standing B
  having_seen seen s = record s { seen = seen }

  -- the seat as one who makes a call in the run
  abbrev pub caller_of : Standing B → Caller
  caller_of s = record { seat = s.number; calls = s.calls; seen = s.seen }

  -- a seat whose put of an index has ended at a place, with the bytes of its buffer
  abbrev pub seat_after_put : ℕ → ℕ → ℕ → List ℕ → Standing B → Standing B
  seat_after_put ring index place bytes s =
      record s {
        calls = s.calls ++ Done ring place bytes ∷ [];
        hand = without_index index s.hand;
        numbers = changed (finishes place) ring s.numbers;
      }

  -- a seat whose get has ended with an index at a place, and whose buffer came with these bytes
  abbrev pub seat_after_get : ℕ → ℕ → ℕ → B → List ℕ → Standing B → Standing B
  seat_after_get ring place index buffer bytes s =
      record s {
        calls = s.calls ++ Got ring place bytes ∷ [];
        hand = s.hand ++ (index, Some buffer) ∷ [];
        numbers = changed (λ x. sees place (passes (place + 1) x)) ring s.numbers;
      }

  -- a seat whose get has found nothing, with the last ticket that it drew, if any
  abbrev pub seat_after_nothing : ℕ → Option ℕ → Standing B → Standing B
  seat_after_nothing ring drawn s =
      record s {
        calls = s.calls ++ Nothing ring ∷ [];
        numbers =
            changed (λ x. empties (drew drawn x)) ring s.numbers;
      }

  -- a seat whose put, or get, drew a ticket at or past the limit
  abbrev pub seat_after_spent_put : ℕ → ℕ → Standing B → Standing B
  seat_after_spent_put ring ticket s =
      record s { calls = s.calls ++ Spent ring ticket true ∷ []; spent = Some ticket }

  abbrev pub seat_after_spent_get : ℕ → ℕ → Standing B → Standing B
  seat_after_spent_get ring ticket s =
      record s {
        calls = s.calls ++ Spent ring ticket false ∷ [];
        numbers = changed (passes (ticket + 1)) ring s.numbers;
        spent = Some ticket;
      }

  -- a seat that read this number at the gate
  abbrev pub seat_after_look : ℕ → Standing B → Standing B
  seat_after_look found s = record s { gates = s.gates + 1; gate = Some found }

  -- a buffer is the same as the one given for an index
  pub record IsAsGiven (IsSame : B → B
      → Type 0) (given : List B) (index : ℕ) (buffer : B) : Type 0 where
    pub first : B
    pub was : slice_get given index ≡ Some first
    pub same : IsSame first buffer

  -- a seat that has got an index at a place: its buffer is the same as the one given for the index
  pub record SeatHasTaken (contents : B → List ℕ) (IsSame : B → B
      → Type 0) (ring place index : ℕ) (old new : Standing B) : Type 0 where
    pub buffer : B
    pub given : IsAsGiven IsSame old.band.given index buffer
    pub seat : new ≡ having_seen new.seen
        (seat_after_get ring place index buffer (contents buffer) old)
    -- it was not in the hand before
    pub came : in_hand old.hand index ≡ None

  -- a seat that has found a ring empty: the head number answered is the larger of the known head
  -- (one past the last ticket, where the seat drew any) and of one more than the known finished
  -- place. Which tickets it drew, if any, isn't said but for their bounds
  pub record SeatFoundEmpty (ring head : ℕ) (old new : Standing B) : Type 0 where
    pub drawn : Option ℕ
    pub seat : new ≡ having_seen new.seen (seat_after_nothing ring drawn old)
    pub known : head ≡ (known_of new.numbers ring).head
    -- a ticket that was drawn is below the limit, and no lower than the head that was known
    pub below : (ticket : ℕ) → drawn ≡ Some ticket → ticket < old.band.setup.limit
    pub past : (ticket : ℕ) → drawn ≡ Some ticket → (known_of old.numbers ring).head ≤ ticket

  -- a seat that has put an index: the place is below the limit, and above each that it knew of a
  -- put of the ring
  pub record SeatHasPut (band : Identity B) (ring index place : ℕ) (bytes : List ℕ)
      (old new : Standing B) : Type 0 where
    pub below : place < band.setup.limit
    pub above : (known_of old.numbers ring).seen < place
    pub seat : new ≡ having_seen new.seen (seat_after_put ring index place bytes old)

  -- a seat that has got an index: the place is below the limit, and not below the head that it knew
  pub record SeatHasDequeued (contents : B → List ℕ) (IsSame : B → B → Type 0) (band : Identity B)
      (ring place index : ℕ) (old new : Standing B) : Type 0 where
    pub taken : SeatHasTaken contents IsSame ring place index old new
    pub below : place < band.setup.limit
    pub past : (known_of old.numbers ring).head ≤ place
    pub low : index < n_of band.setup.order

  -- a seat that has found a ring empty, and that it was so in the run of all seats
  pub record SeatFoundNone (contents : B → List ℕ) (band : Identity B) (ring head : ℕ)
      (old new : Standing B) : Type 0 where
    pub seat : SeatFoundEmpty ring head old new
    pub in_run : WasEmptyInRun band.setup (opening_of contents band.given) ring head (caller_of old)
        (caller_of new)

-- what contracts see of a mark
pub record MarkStanding : Type 0 where
  pub table : TableId
  pub seen : Seen
