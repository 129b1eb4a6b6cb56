-- The sends, the takes and the Full replies of a pass, in the order of its record. Topic t is ring
-- t + 1, and ring 0 has the indices of the free buffers.
use Rattle.std.specs.Prelude.{ℕ, zero, suc, ◌-◌, ◌^◌, ◌==◌, min, List, [], ◌∷◌, ◌++◌, length}
use Rattle.std.specs.Prelude.{Option, Some, None, count_by}
use Rattle.std.specs.List.{filter_map}
use Rattle.scq_core.specs.declared.ended.Ended.{Ended}
use Rattle.scq_core.specs.declared.ended.Ended.TheVariants.{Done, Got, Nothing}
use Rattle.scq_law.specs.Exports.{tally}
use Rattle.scq_queue.specs.declared.counts.Counts.{Counts}

-- bytes that were sent or taken at a place of a topic
pub record Placed : Type 0 where
  pub topic : ℕ
  pub place : ℕ
  pub bytes : List ℕ

-- what a call sent, where it is a send that ended with a place; and what it took, where it is such
-- a take
abbrev pub sent_by : Ended → Option Placed
sent_by (Done (suc t) p w) = Some (record { topic = t; place = p; bytes = w })
sent_by call = None

abbrev pub taken_by : Ended → Option Placed
taken_by (Got (suc t) p w) = Some (record { topic = t; place = p; bytes = w })
taken_by call = None

-- the sends and the takes of a record
abbrev pub sends_of : List Ended → List Placed
sends_of calls = filter_map sent_by calls

abbrev pub takes_of : List Ended → List Placed
takes_of calls = filter_map taken_by calls

-- how often a record says that the free ring was found empty: these calls are its Full replies
abbrev pub was_full : Ended → ℕ
was_full (Nothing zero) = 1
was_full call = 0

abbrev pub fulls_in : List Ended → ℕ
fulls_in calls = tally was_full calls

-- how many of a list are of a topic
abbrev pub on_topic : ℕ → List Placed → ℕ
on_topic t list = count_by (λ m. m.topic == t) list

-- the three lists of a pass: its sends, its takes, and its Full replies, each with its head
pub record Lists : Type 0 where
  pub sends : List Placed
  pub takes : List Placed
  pub fulls : List ℕ

-- the lists with one member more
abbrev pub with_send : ℕ → ℕ → List ℕ → Lists → Lists
with_send topic place bytes l =
    record l { sends = l.sends ++ record { topic = topic; place = place; bytes = bytes } ∷ [] }

abbrev pub with_take : ℕ → ℕ → List ℕ → Lists → Lists
with_take topic place bytes l =
    record l { takes = l.takes ++ record { topic = topic; place = place; bytes = bytes } ∷ [] }

abbrev pub with_full : ℕ → Lists → Lists
with_full head l = record l { fulls = l.fulls ++ head ∷ [] }

-- the lists after a put on a ring, and after a get off one; on ring 0 they stay as they were
abbrev pub with_put : ℕ → ℕ → List ℕ → Lists → Lists
with_put zero place bytes l = l
with_put (suc topic) place bytes l = with_send topic place bytes l

abbrev pub with_got : ℕ → ℕ → List ℕ → Lists → Lists
with_got zero place bytes l = l
with_got (suc topic) place bytes l = with_take topic place bytes l

-- a count stands still at the last value of 64 bits
abbrev pub counted : ℕ → ℕ
counted n = min n (2 ^ 64 - 1)

-- the lengths of the lists, as they are counted
abbrev pub counts_of : Lists → Counts
counts_of l = record {
  sent = counted (length l.sends);
  taken = counted (length l.takes);
  full =
      counted (length l.fulls);
}
