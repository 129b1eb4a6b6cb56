-- For private calls: what a queue, a pass and a held value keep.
use Rattle.std.specs.Prelude.{◌≡◌, ℕ, ◌≤◌, Bool, List, [], ◌∷◌, ◌++◌, map, length, Option, None}
use Rattle.scq_band.specs.Exports.{Identity, IsAsGiven, indices_of}
use Rattle.scq_band.specs.Standing.{Standing}
use Rattle.scq_queue.specs.declared.counts.Counts.{Counts}
use Rattle.scq_queue.specs.declared.fulls.Fulls.{Fulls}
use Rattle.scq_queue.specs.declared.fulls.Fulls.TheVariants.{Never, After'}
use Rattle.scq_queue.specs.Lists.{fulls_in, counts_of}
use Rattle.scq_queue.specs.Passes.{PassStanding, HeldStanding, lists_of, was_told}

-- the heads, in the order in which they came
abbrev pub heads_of : Fulls → List ℕ
heads_of Never = []
heads_of (After' p before head) = heads_of before ++ head ∷ []

module _ {B : Type 0} where
  -- a hand with these indices, whose buffers are all lifted
  abbrev pub all_lifted : List ℕ → List (ℕ × Option B)
  all_lifted held = map (λ i. (i, None)) held

  -- the pass over a seat, with the heads of its Full replies; and the seat of a pass
  abbrev pub pass_over : Standing B → List ℕ → PassStanding B
  pass_over s fulls =
      record {
        queue = s.band;
        number = s.number;
        calls = s.calls;
        fulls = fulls;
        held = indices_of s.hand;
        numbers = s.numbers;
        spent = s.spent;
        gates = s.gates;
        gate = s.gate;
        retired = s.retired;
        seen = s.seen;
      }

  abbrev pub seat_of_pass : PassStanding B → Standing B
  seat_of_pass p =
      record {
        band = p.queue;
        number = p.number;
        calls = p.calls;
        hand = all_lifted p.held;
        numbers = p.numbers;
        spent = p.spent;
        gates = p.gates;
        gate = p.gate;
        retired = p.retired;
        seen = p.seen;
      }

  -- the buffers of all that a seat has in its hand are lifted
  abbrev pub AreLifted : Standing B → Type 0
  AreLifted s = s.hand ≡ all_lifted (indices_of s.hand)

  -- the same of a seat after a call, which read no gate: it is still this seat of its band
  pub record StaysLifted (s later : Standing B) : Type 0 where
    pub own : (later.band ≡ s.band) × (later.number ≡ s.number)
    pub lifted : AreLifted later
    pub gate : later.gate ≡ s.gate

  -- what a pass keeps: the buffers of all its values are lifted, its Full replies are those in its
  -- record, its counts are the lengths of its lists, and it says that all have retired where its
  -- last reading was 0
  pub record IsPass (s : Standing B) (fulls : List ℕ) (counts : Counts) (saw : Bool) : Type 0 where
    pub lifted : AreLifted s
    pub all_fulls : length fulls ≡ fulls_in s.calls
    pub counted : counts ≡ counts_of (lists_of (pass_over s fulls))
    pub told : saw ≡ was_told s.gate

  -- the value of an index that a pass got with its seat
  abbrev pub held_of : Standing B → ℕ → B → HeldStanding B
  held_of s index buffer =
      record { queue = s.band; pass = s.number; index = index; buffer = buffer }

  -- the buffer of a value, with its index
  abbrev pub value_of : HeldStanding B → ℕ × B
  value_of h = (h.index, h.buffer)

  -- a value's buffer is the same as the one that its queue was given for its index
  abbrev pub HasGivenBuffer : (B → B → Type 0) → HeldStanding B → Type 0
  HasGivenBuffer IsSame h = IsAsGiven IsSame h.queue.given h.index h.buffer

  -- what a queue keeps: empty lists with room for all seats, their counts and what each was told
  pub record IsQueue (queue : Identity B) (seats : List (Standing B)) (seat_room : ℕ)
      (counts : List Counts) (count_room : ℕ) (saw : List Bool)
      (saw_room : ℕ) : Type 0 where
    pub no_seat : seats ≡ []
    pub all_seats : queue.setup.seats ≤ seat_room
    pub no_count : counts ≡ []
    pub all_counts : queue.setup.seats ≤ count_room
    pub no_saw : saw ≡ []
    pub all_saw : queue.setup.seats ≤ saw_room
