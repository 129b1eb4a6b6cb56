-- How takes stand in the record of a worker's pass: what helps after a Full, and how it ends where
-- the pass retires. First is topic 0, and second is topic 1.
use Rattle.std.specs.Prelude.{◌≡◌, ℕ, zero, suc, Bool, true, false, List, [], ◌∷◌, ◌++◌, take}
use Rattle.std.specs.Prelude.{Option, Some, None}
use Rattle.std.specs.List.{before_first, filter_map, list_any}
use Rattle.scq_core.specs.declared.ended.Ended.{Ended}
use Rattle.scq_core.specs.declared.ended.Ended.TheVariants.{Done, Got, Nothing, Spent}
use Rattle.scq_passes.specs.Exports.{AfterEachFull, is_lend}

abbrev pub first : ℕ
first = 0

abbrev pub second : ℕ
second = 1

-- the topic of a take, whatever it found
abbrev pub take_topic : Ended → Option ℕ
take_topic (Got (suc t) place bytes) = Some t
take_topic (Nothing (suc t)) = Some t
take_topic (Spent (suc t) ticket false) = Some t
take_topic call = None

-- the topics of the takes from a point on up to the next lend, in order
abbrev pub helps_behind : List Ended → List ℕ
helps_behind after = filter_map take_topic (before_first is_lend after)

-- after each Full the pass takes from second and then from first, and from nothing else where a
-- lend follows
abbrev pub HelpsSecondThenFirst : List Ended → Type 0
HelpsSecondThenFirst calls =
    AfterEachFull (λ after. (take 2 (helps_behind after) ≡ second ∷ first ∷ [])
    × (list_any is_lend after ≡ true → helps_behind after ≡ second ∷ first ∷ []))
    calls

-- the same while the pass still lends: from nothing else, whether or not a lend follows
abbrev pub HelpsJustSecondThenFirst : List Ended → Type 0
HelpsJustSecondThenFirst calls =
    AfterEachFull (λ after. helps_behind after ≡ second ∷ first ∷ []) calls

-- what stood in the record of a pass when it retired: it had helped after each Full, and its last
-- call was a take of first that found nothing
pub record FoundFirstEmpty (calls : List Ended) : Type 0 where
  pub helps : HelpsSecondThenFirst calls
  pub before : List Ended
  pub emptied : calls ≡ before ++ Nothing (suc first) ∷ []

-- the calls that count for messages: a send to first, and a Full
abbrev pub is_next : Ended → Bool
is_next (Done (suc zero) place bytes) = true
is_next (Nothing zero) = true
is_next call = false
