-- For those who call: a pass of a queue with just the values that it holds, in the order in which
-- they came.
use Rattle.std.specs.Prelude.{◌≡◌, ℕ, ◌≤◌, List, [], ◌∷◌, map, None}
use Rattle.scq_law.specs.Exports.{times}
use Rattle.scq_band.specs.Exports.{Identity}
use Rattle.scq_queue.specs.Passes.{PassStanding, HeldStanding}

module _ {B : Type 0} where
  -- each value is one that this pass of the queue got
  abbrev pub AllOf : Identity B → ℕ → List (HeldStanding B) → Type 0
  AllOf queue number [] = Unit {0}
  AllOf queue number (h ∷ hs) = (h.queue ≡ queue) × (h.pass ≡ number) × AllOf queue number hs

  -- the pass is awake, and holds these values, no index twice
  pub record HoldsJust (queue : Identity B) (p : PassStanding B)
      (values : List (HeldStanding B)) : Type 0 where
    pub own : p.queue ≡ queue
    pub awake : p.retired ≡ None
    pub same : map (λ (h : HeldStanding B). h.index) values ≡ p.held
    pub all : AllOf queue p.number values
    pub once : (i : ℕ) → times i p.held ≤ 1
