-- What contracts see of a pass and of a value that it holds, and what each call makes of a pass. A
-- queue is seen as its band is: by its setup, and by the buffers that it was given, that of index i
-- at i.
use Rattle.std.specs.Prelude.{◌≡◌, ℕ, zero, suc, ◌+◌, ◌<◌, ◌≤◌, Bool, true, false, not, ◌==◌, List}
use Rattle.std.specs.Prelude.{[], ◌∷◌, ◌++◌, filter, Option, Some, None}
use Rattle.std.specs.List.{Contains}
use Rattle.scq_core.specs.declared.ended.Ended.{Ended}
use Rattle.scq_core.specs.declared.ended.Ended.TheVariants.{Done, Got, Nothing, Spent}
use Rattle.scq_band.specs.declared.numbers.Numbers.{Numbers}
use Rattle.scq_band.specs.Exports.{Seen, nothing_seen, Caller, known_of, first_numbers, changed}
use Rattle.scq_band.specs.Exports.{finishes, sees, passes, drew, empties, Identity}
use Rattle.scq_queue.specs.Lists.{Lists, sends_of, takes_of}

-- what contracts see of a pass
pub record PassStanding (B : Type 0) : Type 0 where
  pub queue : Identity B
  pub number : ℕ
  -- its record: the calls on rings that it made, with their replies
  pub calls : List Ended
  -- the heads of its Full replies
  pub fulls : List ℕ
  -- the indices of the values that it holds, in the order in which they came
  pub held : List ℕ
  -- what it knows of each ring
  pub numbers : List Numbers
  -- the spent ticket that it keeps
  pub spent : Option ℕ
  -- how often it asked whether all passes had retired, and how many had not when it last did;
  -- before the first, the number of passes
  pub gates : ℕ
  pub gate : Option ℕ
  -- how many calls stood in its record when it retired
  pub retired : Option ℕ
  -- what it has seen of the run of all passes, and of those that retired
  pub seen : Seen

-- what contracts see of a held value: its queue, the number of the pass that got it, its index, and
-- its buffer
pub record HeldStanding (B : Type 0) : Type 0 where
  pub queue : Identity B
  pub pass : ℕ
  pub index : ℕ
  pub buffer : B

-- the indices without one
abbrev pub without : ℕ → List ℕ → List ℕ
without i held = filter (λ j. not (j == i)) held

-- whether one whose last reading was this was told that all passes had retired: so where it was 0
abbrev pub was_told : Option ℕ → Bool
was_told None = false
was_told (Some found) = found == 0

module _ {B : Type 0} where
  -- a pass of a new queue, and those below a number, in order
  abbrev pub first_pass : Identity B → ℕ → PassStanding B
  first_pass queue k =
      record {
        queue = queue;
        number = k;
        calls = [];
        fulls = [];
        held = [];
        numbers = first_numbers queue.setup queue.setup.rings;
        spent = None;
        gates = 0;
        gate = Some queue.setup.seats;
        retired = None;
        seen = nothing_seen;
      }

  abbrev pub first_passes : Identity B → ℕ → List (PassStanding B)
  first_passes queue zero = []
  first_passes queue (suc k) = first_passes queue k ++ first_pass queue k ∷ []

  -- the lists of a pass
  abbrev pub lists_of : PassStanding B → Lists
  lists_of p = record { sends = sends_of p.calls; takes = takes_of p.calls; fulls = p.fulls }

  -- what a pass knows of the ring of a topic, and of the free ring
  abbrev pub known_on : ℕ → PassStanding B → Numbers
  known_on topic p = known_of p.numbers (suc topic)

  abbrev pub known_free : PassStanding B → Numbers
  known_free p = known_of p.numbers 0

  -- the value is one that this pass holds
  pub record IsHeldBy (p : PassStanding B) (h : HeldStanding B) : Type 0 where
    pub queue : h.queue ≡ p.queue
    pub pass : h.pass ≡ p.number
    pub holds : Contains p.held h.index

  -- a pass that has seen this of the run. So `new ≡ having_seen new.seen p` says that `new` is `p`
  -- but for what it has seen
  abbrev pub having_seen : Seen → PassStanding B → PassStanding B
  having_seen seen p = record p { seen = seen }

  -- the pass as one who makes a call in the run
  abbrev pub caller_of : PassStanding B → Caller
  caller_of p = record { seat = p.number; calls = p.calls; seen = p.seen }

  -- a pass whose value of an index was put on a ring, at a place, with these bytes
  abbrev pub after_put : ℕ → ℕ → ℕ → List ℕ → PassStanding B → PassStanding B
  after_put ring index place bytes p =
      record p {
        calls = p.calls ++ Done ring place bytes ∷ [];
        held = without index p.held;
        numbers = changed (finishes place) ring p.numbers;
      }

  -- a pass that got the value of an index off a ring, at a place, with these bytes
  abbrev pub after_get : ℕ → ℕ → ℕ → List ℕ → PassStanding B → PassStanding B
  after_get ring index place bytes p =
      record p {
        calls = p.calls ++ Got ring place bytes ∷ [];
        held = p.held ++ index ∷ [];
        numbers = changed (λ x. sees place (passes (place + 1) x)) ring p.numbers;
      }

  -- a pass that found a ring empty, with the last ticket that it drew there, if any
  abbrev pub after_nothing : ℕ → Option ℕ → PassStanding B → PassStanding B
  after_nothing ring drawn p =
      record p {
        calls = p.calls ++ Nothing ring ∷ [];
        numbers =
            changed (λ x. empties (drew drawn x)) ring p.numbers;
      }

  -- a pass whose put, or get, drew a ticket at or past the limit
  abbrev pub after_spent_put : ℕ → ℕ → PassStanding B → PassStanding B
  after_spent_put ring ticket p =
      record p { calls = p.calls ++ Spent ring ticket true ∷ []; spent = Some ticket }

  abbrev pub after_spent_get : ℕ → ℕ → PassStanding B → PassStanding B
  after_spent_get ring ticket p =
      record p {
        calls = p.calls ++ Spent ring ticket false ∷ [];
        numbers = changed (passes (ticket + 1)) ring p.numbers;
        spent = Some ticket;
      }

  -- a pass that asked whether all had retired, when so many had not
  abbrev pub after_look : ℕ → PassStanding B → PassStanding B
  after_look found p = record p { gates = p.gates + 1; gate = Some found }

  -- a pass that got a value off a ring at a place: it holds the value, whose bytes stand in its
  -- record, and did not hold it before
  pub record HasGot (contents : B
      → List ℕ) (ring place : ℕ) (old new : PassStanding B) (h : HeldStanding B) : Type 0 where
    pub pass : new ≡ having_seen new.seen (after_get ring h.index place (contents h.buffer) old)
    pub held : IsHeldBy new h
    pub came : Contains old.held h.index → ⊥

  -- a pass that was lent a value: the place on the free ring is below the limit, and not below the
  -- head that the pass knew
  pub record WasLent (contents : B
      → List ℕ) (old new : PassStanding B) (h : HeldStanding B) : Type 0 where
    pub place : ℕ
    pub got : HasGot contents 0 place old new h
    pub low : place < old.queue.setup.limit
    pub known : (known_free old).head ≤ place

  -- a pass that gave a value of an index back: the place on the free ring is below the limit, and
  -- above the places that the pass knew; its lists are as they were
  pub record WasGivenBack (bytes : List ℕ) (index : ℕ) (old new : PassStanding B) : Type 0 where
    pub place : ℕ
    pub pass : new ≡ having_seen new.seen (after_put 0 index place bytes old)
    pub low : place < old.queue.setup.limit
    pub known : (known_free old).seen < place
    pub lists : lists_of new ≡ lists_of old

  -- a pass that found a ring empty: the head that was answered is the larger of the head known
  -- (one past the last ticket, where the pass drew any) and of one more than the finished place
  -- known. Which tickets it drew, if any, isn't said but for their bounds
  pub record FoundNothing (ring head : ℕ) (old new : PassStanding B) : Type 0 where
    pub drawn : Option ℕ
    pub pass : new ≡ having_seen new.seen (after_nothing ring drawn old)
    pub known : head ≡ (known_of new.numbers ring).head
    -- a ticket that was drawn is below the limit, and no lower than the head that was known
    pub below : (ticket : ℕ) → drawn ≡ Some ticket → ticket < old.queue.setup.limit
    pub past : (ticket : ℕ) → drawn ≡ Some ticket → (known_of old.numbers ring).head ≤ ticket

  abbrev pub FoundEmpty : ℕ → ℕ → PassStanding B → PassStanding B → Type 0
  FoundEmpty topic head old new = FoundNothing (suc topic) head old new

  -- a pass that found the free ring empty has one Full reply more
  abbrev pub FoundFull : ℕ → PassStanding B → PassStanding B → Type 0
  FoundFull head old new = FoundNothing 0 head (record old { fulls = old.fulls ++ head ∷ [] }) new
