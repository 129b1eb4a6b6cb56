-- How a worker that may rest sweeps, and when it leaves. `topics` is the number of topic rings.
use Rattle.std.specs.Prelude.{◌≡◌, ℕ, ◌+◌, ◌<◌, List, Some}
use Rattle.scq_band.specs.Exports.{Identity}
use Rattle.scq_queue.specs.Exports.{PassStanding, known_on}
use Rattle.scq_passes.specs.Exports.{after_retire, AreSweeps, IsSweep, no_sweep, and_some, and_idle}
use Rattle.scq_passes.specs.Exports.{Puts, SweepsInVain}

module _ {B : Type 0} {contents : B → List ℕ} {queue : Identity B} {By : Puts} {topics : ℕ}
    {Goes : ℕ → Type 0} where
  -- how many of these sweeps took nothing
  abbrev pub idle_sweeps : {idle : ℕ} {old new : PassStanding B}
      → AreSweeps contents queue By topics Goes idle old new → ℕ
  idle_sweeps (no_sweep p) = 0
  idle_sweeps (and_some found before sweep left more) = idle_sweeps before
  idle_sweeps (and_idle found before sweep left none goes) = idle_sweeps before + 1

module _ {B : Type 0} where
  -- it swept, rested as often as sweeps before the last took nothing, and left after a sweep before
  -- which it was told that all had retired
  pub record HasSweptTold (contents : B → List ℕ) (queue : Identity B) (By : Puts)
      (topics rests : ℕ) (old new : PassStanding B) : Type 0 where
    pub idle : ℕ
    pub begun : PassStanding B
    pub before : AreSweeps contents queue By topics (λ n. Unit {0}) idle old begun
    pub rested : rests ≡ idle_sweeps before
    pub sweep : IsSweep contents queue By topics 0 begun new

  -- it was told that all had retired, and then found each topic empty, behind each place of it that
  -- the pass knows to be finished. What it took in vain, but for that last sweep, is paid for by
  -- its rests, and as before the call by its takes, Fulls and sends
  pub record HasSweptOut (topics rests_before rests : ℕ) (old new : PassStanding B) : Type 0 where
    pub told : new.gate ≡ Some 0
    pub past : (t : ℕ) → t < topics → (known_on t new).finished < (known_on t new).head
    pub vain : (behind : ℕ) → SweepsInVain topics behind 0 rests_before old
        → SweepsInVain topics behind 1 rests new

  -- the pass of a worker that has left so: it had asked nothing before it retired, and from there
  -- on it swept
  pub record HasLeftTold (contents : B → List ℕ) (By : Puts) (topics rests : ℕ) (p : PassStanding B)
      : Type 0 where
    pub before : PassStanding B
    pub unasked : before.gates ≡ 0
    pub swept : HasSweptTold contents p.queue By topics rests (after_retire before) p
