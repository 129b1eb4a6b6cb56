-- The proofs' own view of a run: what became of each ticket of each ring. It is no part of the machine.
use Rattle.std.specs.Prelude.{ℕ, ◌+◌, ◌-◌, Bool, true, false, ◌==◌, ◌&&◌, nat_le, nat_lt, if◌then◌else◌, List, [], slice_index_or}
use Rattle.scq_word.specs.declared.setup.Setup.{Setup}
use Rattle.scq_word.specs.Exports.{n_of}
use Rattle.scq_core.specs.Exports.{updated_entry, ring_slots}
use Rattle.scq_law.specs.Exports.{Maker, opening_put}

-- what became of a ticket of a put: nobody drew it below the limit; a seat has drawn it for an index and neither placed
-- that nor failed; its drawer failed with it, at this step of the run, and found an index; an index stands or stood there
pub data PutState : Type 0 where
  fresh : PutState
  pending : (seat index : ℕ) → PutState
  failed : (time drawer found : ℕ) → PutState
  placed : (index : ℕ) (content : List ℕ) (maker : Maker) → PutState

-- what became of a ticket of a get: nobody drew it below the limit; a seat looks for an index there; its drawer gave it
-- up; it took what was placed there, in the call of this number of its seat
pub data GetState : Type 0 where
  unopened : GetState
  opened : (seat : ℕ) → GetState
  dead : GetState
  took : (seat number : ℕ) → GetState

-- by ring and ticket
pub record Ghost : Type 0 where
  pub puts : ℕ → ℕ → PutState
  pub gets : ℕ → ℕ → GetState

abbrev pub is_placed : PutState → Bool
is_placed (placed i w b) = true
is_placed _ = false

-- whether what is placed there may still be taken
abbrev pub waiting : GetState → Bool
waiting unopened = true
waiting (opened k) = true
waiting dead = false
waiting (took k j) = false

-- the tickets of ring 0 at the start, where the opening contents are placed
abbrev pub stood : Setup → List (List ℕ) → ℕ → ℕ → PutState
stood c opening r t =
    if r == 0 && nat_le (ring_slots c) t && nat_lt t (ring_slots c + n_of c.order)
    then placed (t - ring_slots c) (slice_index_or opening (t - ring_slots c) []) opening_put
    else fresh

abbrev pub start_ghost : Setup → List (List ℕ) → Ghost
start_ghost c opening = record { puts = stood c opening; gets = λ r t. unopened }

abbrev pub with_put : Ghost → ℕ → ℕ → PutState → Ghost
with_put g r t x = record g { puts = updated_entry g.puts r t x }

abbrev pub with_get : Ghost → ℕ → ℕ → GetState → Ghost
with_get g r t x = record g { gets = updated_entry g.gets r t x }
