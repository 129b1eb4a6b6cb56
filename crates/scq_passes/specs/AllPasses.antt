-- What the passes of all workers did, each and together, and what was left in their queue. A worker
-- is told by its number, from 0: by it stand its pass among the passes, and its list among the
-- lists.
use Rattle.std.specs.Prelude.{◌≡◌, ℕ, ◌+◌, ◌^◌, List, length, Some, slice_get, slice_index, map}
use Rattle.std.specs.Prelude.{All, Vec}
use Rattle.std.specs.Global.{Global}
use Rattle.scq_word.specs.declared.setup.Setup.{Setup}
use Rattle.scq_word.specs.Exports.{n_of}
use Rattle.scq_band.specs.Exports.{opening_of, AreTheSame, IsOneRunToTheEnd, Identity}
use Rattle.scq_queue.specs.Exports.{AllFullsStand, IsBalance, all_held, callers_of, records_of}
use Rattle.scq_queue.specs.Exports.{sends_of, takes_of, PassStanding}
use Rattle.scq_queue.specs.declared.counts.Counts.{Counts}
use Rattle.scq_passes.specs.Records.{HoldsNothingAtEachFull, MeetsNoSpent}
use Rattle.scq_passes.specs.Together.{SendsAreTakes, NoPlaceStandsTwice, NothingIsLeft, NoneSpent}
use Rattle.scq_passes.specs.Together.{IsBounded}

-- the setup of a queue for a job: a ring for each of so many topics, one for the buffers that
-- nobody holds, and a seat for each worker
pub record IsSetup (order topics workers : ℕ) (c : Setup) : Type 0 where
  pub buffers : c.order ≡ order
  pub rings : c.rings ≡ topics + 1
  pub seats : c.seats ≡ workers
  pub limit : c.limit ≡ 2 ^ 60

module _ {B : Type 0} where
  -- P holds of each worker's number, pass and list
  abbrev pub OfEachWorker : {M : Type 0} → (ℕ → PassStanding B → List M → Type 0)
      → List (PassStanding B) → List (Vec M Global) → Type 0
  OfEachWorker {M} P passes lists =
      (w : ℕ) (p : PassStanding B) (list : Vec M Global) → slice_get passes w ≡ Some p
      → slice_get lists w ≡ Some list → P w p list.items

  -- what the passes of a queue of this setup did, each and together, which buffers came back, in
  -- the order of their indices, and what was left in its rings. It has so many topics, no pass has
  -- more than `most` sends, takes or Full replies, and of each this holds besides.
  pub record HaveShared (contents : B → List ℕ) (IsSameBuffer : B → B
      → Type 0) (Each : PassStanding B → Type 0) (most topics : ℕ) (c : Setup)
      (passes : List (PassStanding B)) (buffers : List B) (left : List ℕ) : Type 0
    where
      -- they are the passes of one queue, in the order of their numbers
      pub one : (queue : Identity B) × (queue.setup ≡ c) × All (λ p. p.queue ≡ queue) passes
      pub numbers : (w : ℕ) (p : PassStanding B) → slice_get passes w ≡ Some p → p.number ≡ w
      -- one run of the rings' steps stands behind all their calls, from the bytes that the buffers
      -- had when the queue was made to those that they had when they came back: its history has the
      -- four aspects, and the calls of each ring stand in one order, in which every reply is a
      -- plain queue's
      pub run : IsOneRunToTheEnd c (opening_of contents one.0.given) (callers_of passes)
          (records_of passes) (all_held passes)
          (map contents buffers)
      -- those are the buffers that the queue was given
      pub back : AreTheSame IsSameBuffer one.0.given buffers
      -- each Full stands where the pass held nothing. The record has as many Fulls as the list.
      pub alone : All (λ p. HoldsNothingAtEachFull p.calls) passes
      pub fulls : AllFullsStand passes
      pub each : All Each passes
      -- no call met a ticket at or past the limit
      pub unspent : NoneSpent passes
      pub no_spent : All (λ p. MeetsNoSpent p.calls) passes
      -- the takes are the sends, and no place of a topic stands twice
      pub same : SendsAreTakes passes
      pub places : NoPlaceStandsTwice passes
      -- on each topic the sends less the takes are what is left: nothing. The ring of free buffers
      -- has all of them.
      pub balance : IsBalance c passes left
      pub none_left : NothingIsLeft topics left
      pub free : slice_index left 0 ≡ n_of c.order
      pub bounded : All (IsBounded most) passes

  -- how many sends, takes and Full replies a pass has. A queue's count of them stands still at the
  -- last value of 64 bits; these are few.
  abbrev pub lengths_of : PassStanding B → Counts
  lengths_of p = record {
    sent = length (sends_of p.calls);
    taken =
        length (takes_of p.calls);
    full = length p.fulls;
  }
