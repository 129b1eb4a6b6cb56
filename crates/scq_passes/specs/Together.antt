-- What all workers' passes did together, and what the queue was left with.
use Rattle.std.specs.Prelude.{◌≡◌, ℕ, suc, ◌<◌, ◌≤◌, false, List, [], length, take, drop, flat_map}
use Rattle.std.specs.Prelude.{Some, None, slice_index, All}
use Rattle.std.specs.List.{AllPairs, Contains, list_any}
use Rattle.std.specs.List.Sorted.{IsPermutation}
use Rattle.scq_core.specs.declared.ended.Ended.{Ended}
use Rattle.scq_queue.specs.Exports.{Placed, sends_of, takes_of, PassStanding, known_on}
use Rattle.scq_passes.specs.Records.{is_lend}

-- two places are not one: their topics or their numbers differ
abbrev pub Apart : Placed → Placed → Type 0
Apart m n = m.topic ≡ n.topic → m.place ≡ n.place → ⊥

-- nothing is left in any of so many topics: their rings stand behind that of the buffers that
-- nobody holds
abbrev pub NothingIsLeft : ℕ → List ℕ → Type 0
NothingIsLeft topics left = (topic : ℕ) → topic < topics → slice_index left (suc topic) ≡ 0

module _ {B : Type 0} where
  -- the sends of all passes, one pass behind the other, and their takes
  abbrev pub all_sends : List (PassStanding B) → List Placed
  all_sends passes = flat_map (λ p. sends_of p.calls) passes

  abbrev pub all_takes : List (PassStanding B) → List Placed
  all_takes passes = flat_map (λ p. takes_of p.calls) passes

  -- the takes are the sends, in some order: by topic, place and bytes
  abbrev pub SendsAreTakes : List (PassStanding B) → Type 0
  SendsAreTakes passes = IsPermutation (all_sends passes) (all_takes passes)

  -- no place of a topic stands twice among the sends
  abbrev pub NoPlaceStandsTwice : List (PassStanding B) → Type 0
  NoPlaceStandsTwice passes = AllPairs Apart (all_sends passes)

  -- a worker's pass has retired, when so many calls stood in its record, of which this holds. From
  -- there on it has neither lent, and so found no Full, nor sent
  pub record HasRetired (Before : List Ended → Type 0) (p : PassStanding B) : Type 0 where
    pub calls : ℕ
    pub retired : p.retired ≡ Some calls
    pub within : calls ≤ length p.calls
    pub before : Before (take calls p.calls)
    pub lends : list_any is_lend (drop calls p.calls) ≡ false
    pub sends : sends_of (drop calls p.calls) ≡ []

  -- no pass met Spent
  abbrev pub NoneSpent : List (PassStanding B) → Type 0
  NoneSpent passes = All (λ (p : PassStanding B). p.spent ≡ None) passes

  -- a pass has at most so many sends, takes and Full replies
  pub record IsBounded (most : ℕ) (p : PassStanding B) : Type 0 where
    pub sends : length (sends_of p.calls) ≤ most
    pub takes : length (takes_of p.calls) ≤ most
    pub fulls : length p.fulls ≤ most

  -- a pass knows of each of its sends that the topic's Head is past it: its last sweep found each
  -- topic empty after its last send there
  abbrev pub HasSwept : PassStanding B → Type 0
  HasSwept p = (m : Placed) → Contains (sends_of p.calls) m → m.place < (known_on m.topic p).head
