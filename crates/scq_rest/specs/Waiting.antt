-- Workers that have waited in place of leaving early: how often each rested and took in vain.
-- `topics` is the number of topic rings, and `behind` how often a worker takes behind each send.
use Rattle.std.specs.Prelude.{◌≡◌, ◌⊎◌, ℕ, zero, suc, ◌+◌, ◌-◌, ◌^◌, ◌≤◌, ◌==◌, Bool, true, List}
use Rattle.std.specs.Prelude.{[], ◌∷◌, length, map, All, if◌then◌else◌}
use Rattle.std.specs.Prelude.{Some, None, slice_get}
use Rattle.scq_park.specs.declared.rested.Rested.{Rested}
use Rattle.scq_park.specs.Exports.{Post, counted}
use Rattle.scq_queue.specs.Exports.{PassStanding, was_told, sends_of}
use Rattle.scq_block.specs.Exports.{bytes_of}
use Rattle.scq_block.specs.declared.frame.Frame.{Frame}
use Rattle.scq_passes.specs.Exports.{IsReturn, SweepsInVain}
use Rattle.scq_worker.specs.Exports.{asked_once}
use Rattle.scq_rest.specs.Sweeping.{HasLeftTold}

-- of a worker that waited, unless it met a ticket past the limit: it was told that all had
-- retired, took in vain no more often than one does that rests after each sweep that took nothing,
-- rested as often as sweeps before its last took nothing, and left after a sweep before which it
-- was told that all had retired
pub record HasWaited {B : Type 0} (contents : B
    → List ℕ) (topics behind rests : ℕ) (p : PassStanding B) : Type 0 where
  pub told : p.spent ≡ None → p.gate ≡ Some 0
  pub vain : p.spent ≡ None → SweepsInVain topics behind 1 rests p
  pub left : p.spent ≡ None → HasLeftTold contents IsReturn topics rests p

-- so has each worker, by its stand and its pass
abbrev pub EachWaited : ℕ → ℕ → List Post → List (PassStanding Frame) → Type 0
EachWaited topics behind stands passes =
    (w : ℕ) (s : Post) (p : PassStanding Frame) → slice_get stands w ≡ Some s
    → slice_get passes w ≡ Some p → HasWaited bytes_of topics behind s.rests p

-- the worker before this one, of so many: before the first is the last
abbrev pub before_of : ℕ → ℕ → ℕ
before_of zero workers = workers - 1
before_of (suc w) workers = w

-- how many wakes a worker is given at retirements by these workers, the first of which has this
-- number: one by each other that was told by its first question that all had retired. It asked once
abbrev pub at_retirements : ℕ → ℕ → List (PassStanding Frame) → ℕ
at_retirements w number [] = 0
at_retirements w number (p ∷ passes) =
    (if number == w then 0 else if asked_once p then 1 else 0)
    + at_retirements w (suc number) passes

-- all workers: each saw that all had retired, as its pass read the gate, rested no more often than
-- it was woken, took in vain no more often than one does that rests after each sweep that took
-- nothing, rested as often as sweeps before its last took nothing, and left after a sweep before
-- which it was told that all had retired; and it was woken once at each send of the worker before
-- it, and at the retirements of those that were told so by their first question. A count of rests
-- or wakes stands still at the last value of 64 bits
pub record HaveWaited (topics behind workers : ℕ) (passes : List (PassStanding Frame))
    (saw : List Bool) (rested : List Rested) : Type 0 where
  pub each_saw : length saw ≡ workers
  pub each_rested : length rested ≡ workers
  pub told : saw ≡ map (λ (p : PassStanding Frame). was_told p.gate) passes
  pub closed : All (λ (s : Bool). s ≡ true) saw
  pub woken : All (λ (r : Rested). r.rests ≤ r.wakes) rested
  pub vain : (w : ℕ) (p : PassStanding Frame) (r : Rested) → slice_get passes w ≡ Some p
      → slice_get rested w ≡ Some r
      → (r.rests ≡ 2 ^ 64 - 1) ⊎ SweepsInVain topics behind 1 r.rests p
  pub left : (w : ℕ) (p : PassStanding Frame) (r : Rested) → slice_get passes w ≡ Some p
      → slice_get rested w ≡ Some r
      → (rests : ℕ) × (r.rests ≡ counted rests) × HasLeftTold bytes_of IsReturn topics rests p
  pub rung : (w : ℕ) (p : PassStanding Frame) (r : Rested)
      → slice_get passes (before_of w workers) ≡ Some p → slice_get rested w ≡ Some r
      → r.wakes ≡ counted (length (sends_of p.calls) + at_retirements w 0 passes)
