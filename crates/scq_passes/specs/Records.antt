-- The calls in the record of a pass, and how its Full replies stand among them. Topic t is ring t +
-- 1, and ring 0 has the free buffers.
use Rattle.std.specs.Prelude.{◌≡◌, ℕ, zero, suc, ◌<◌, ◌≤◌, Bool, true, false, ◌==◌, List, [], ◌∷◌}
use Rattle.std.specs.Prelude.{◌++◌, count_by, filter}
use Rattle.std.specs.List.{list_any, before_first, Contains}
use Rattle.scq_core.specs.declared.ended.Ended.{Ended}
use Rattle.scq_core.specs.declared.ended.Ended.TheVariants.{Done, Got, Nothing, Spent}
use Rattle.scq_queue.specs.Exports.{Placed}

-- whether a call gave the pass a buffer: a lend or a take did
abbrev pub is_got : Ended → Bool
is_got (Got ring place bytes) = true
is_got (Done ring place bytes) = false
is_got (Nothing ring) = false
is_got (Spent ring ticket put) = false

-- whether it took one from the pass: a send or a return did
abbrev pub is_put : Ended → Bool
is_put (Got ring place bytes) = false
is_put (Done ring place bytes) = true
is_put (Nothing ring) = false
is_put (Spent ring ticket put) = false

-- whether it is a lend, whatever it found; and a take of a topic
abbrev pub is_lend : Ended → Bool
is_lend (Got zero place bytes) = true
is_lend (Nothing zero) = true
is_lend (Spent zero ticket false) = true
is_lend call = false

abbrev pub is_take : ℕ → Ended → Bool
is_take topic (Got (suc t) place bytes) = t == topic
is_take topic (Nothing (suc t)) = t == topic
is_take topic (Spent (suc t) ticket false) = t == topic
is_take topic call = false

-- each Full stands where the pass held nothing: of the calls before it as many gave the pass a
-- buffer as took one
abbrev pub HoldsNothingAtEachFull : List Ended → Type 0
HoldsNothingAtEachFull calls =
    (before after : List Ended) → calls ≡ before ++ Nothing 0 ∷ after
    → count_by is_got before ≡ count_by is_put before

-- behind each Full the calls are so
abbrev pub AfterEachFull : (List Ended → Type 0) → List Ended → Type 0
AfterEachFull So calls =
    (before after : List Ended) → calls ≡ before ++ Nothing 0 ∷ after → So after

-- after each Full, and before the next lend, there is a take of each topic, and just one where a
-- lend follows
abbrev pub HelpsAfterEachFull : ℕ → List Ended → Type 0
HelpsAfterEachFull topics calls =
    AfterEachFull (λ after. (topic : ℕ) → topic < topics
    → (1 ≤ count_by (is_take topic) (before_first is_lend after))
    × (list_any is_lend after ≡ true
    → count_by (is_take topic) (before_first is_lend after) ≡ 1)) calls

-- the same while the worker still lends: just one take of each topic, whether or not a lend follows
abbrev pub HelpsOnceAfterEachFull : ℕ → List Ended → Type 0
HelpsOnceAfterEachFull topics calls =
    AfterEachFull (λ after. (topic : ℕ) → topic < topics
    → count_by (is_take topic) (before_first is_lend after) ≡ 1) calls

-- which puts may follow a take: for a take of this topic that got these bytes, one on this ring, of
-- these bytes
abbrev pub Puts : Type 1
Puts = ℕ → List ℕ → ℕ → List ℕ → Type 0

-- takes of topics, each with such a put of what it got, and no other calls
pub data AreTakesFollowed (By : Puts) : List Ended → Type 0 where
  none : AreTakesFollowed By []
  and_got : {calls : List Ended} (topic place : ℕ) (bytes : List ℕ) (ring back : ℕ) (later : List ℕ)
      → AreTakesFollowed By calls → By topic bytes ring later
      → AreTakesFollowed By ((calls ++ Got (suc topic) place bytes ∷ []) ++ Done ring back later
      ∷ [])
  and_found_none : {calls : List Ended} (topic : ℕ) → AreTakesFollowed By calls
      → AreTakesFollowed By (calls ++ Nothing (suc topic) ∷ [])

-- the put gives back what was got, whatever became of its bytes; and with the bytes as they were
abbrev pub IsGivenBack : ℕ → List ℕ → ℕ → List ℕ → Type 0
IsGivenBack topic bytes ring later = ring ≡ 0

abbrev pub IsReturn : ℕ → List ℕ → ℕ → List ℕ → Type 0
IsReturn topic bytes ring later = (ring ≡ 0) × (later ≡ bytes)

-- such puts only give back
abbrev pub AreReturns : Puts → Type 0
AreReturns By = (topic : ℕ) (bytes : List ℕ) (ring : ℕ) (later : List ℕ) → By topic bytes ring later
    → IsGivenBack topic bytes ring later

-- those of a list that are of a topic, in order
abbrev pub on : ℕ → List Placed → List Placed
on topic list = filter (λ (m : Placed). m.topic == topic) list

-- no call met a ticket at or past the limit
abbrev pub MeetsNoSpent : List Ended → Type 0
MeetsNoSpent calls = (ring ticket : ℕ) (put : Bool) → Contains calls (Spent ring ticket put) → ⊥
