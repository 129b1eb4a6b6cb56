-- Stands by which workers wake others, and how often each was woken.
use Rattle.std.proofs.Common.{ap, subst}
use Rattle.std.specs.Prelude.{◌≡◌, ℕ, zero, suc, ◌+◌, ◌==◌, if◌then◌else◌, List, [], ◌∷◌, ◌++◌}
use Rattle.std.specs.Prelude.{Bool, length, nat_lt, slice_index, slice_set}
use Rattle.scq_core.specs.declared.ended.Ended.{Ended}
use Rattle.scq_core.specs.declared.ended.Ended.TheVariants.{Done}
use Rattle.scq_park.specs.Exports.{Post, post}
use Rattle.scq_queue.specs.Exports.{sends_of, PassStanding}

-- a stand, but for whom it woke
abbrev pub but_wakes : Post → Post
but_wakes p = post p.crew p.worker [] p.rests

-- so it is of the same worker
pub same-worker : (p q : Post) → but_wakes q ≡ but_wakes p → q.worker ≡ p.worker
same-worker p q same = ap (λ (x : Post). x.worker) same

-- the last call of a pass was a send
pub record HasJustSent {B : Type 0} (p : PassStanding B) : Type 0 where
  pub before : List Ended
  pub topic : ℕ
  pub place : ℕ
  pub bytes : List ℕ
  pub last : p.calls ≡ before ++ Done (suc topic) place bytes ∷ []

-- the worker behind this one, of so many: behind the last is the first
abbrev pub next_of : ℕ → ℕ → ℕ
next_of number workers = if nat_lt (number + 1) workers then number + 1 else 0

-- how often each was woken, where this worker was once more, and where it was so often more
abbrev pub woken_once_more : ℕ → List ℕ → List ℕ
woken_once_more w ns = slice_set ns w (slice_index ns w + 1)

abbrev pub more_often : ℕ → ℕ → List ℕ → List ℕ
more_often w zero ns = ns
more_often w (suc k) ns = woken_once_more w (more_often w k ns)

-- the same where of the first so many each but this one was woken once more
abbrev pub others_more : ℕ → ℕ → List ℕ → List ℕ
others_more number zero ns = ns
others_more number (suc k) ns =
    if k == number then others_more number k ns else woken_once_more k (others_more number k ns)

-- the same where this holds, else as often as before
abbrev pub others_more_where : Bool → ℕ → ℕ → List ℕ → List ℕ
others_more_where told number workers ns = if told then others_more number workers ns else ns

-- whether a pass asked just once whether all had retired
abbrev pub asked_once : {B : Type 0} → PassStanding B → Bool
asked_once p = p.gates == 1

module _ {B : Type 0} (number workers : ℕ) where
  -- by these wakes a worker of this number has woken the next one as often as its pass sent
  abbrev pub RingsEachSend : PassStanding B → List ℕ → List ℕ → Type 0
  RingsEachSend p first is =
      is ≡ more_often (next_of number workers) (length (sends_of p.calls)) first

  -- it did while its pass came from one standing to another
  abbrev pub RingsOn : PassStanding B → PassStanding B → List ℕ → List ℕ → Type 0
  RingsOn p q was is =
      (first : List ℕ) → RingsEachSend p first was → RingsEachSend q first is

  -- in all it has woken the next one as often as it sent, and, where its first question whether
  -- all had retired was its last, each other worker once more
  abbrev pub HasRung : PassStanding B → List ℕ → List ℕ → Type 0
  HasRung p first is = is
      ≡ others_more_where (asked_once p) number workers
      (more_often (next_of number workers) (length (sends_of p.calls)) first)

module _ {B : Type 0} (workers : ℕ) where
  -- one after the other, of a worker that keeps its number
  pub rings-along : (number still : ℕ) (p q r : PassStanding B) (was mid is : List ℕ)
      → still ≡ number → RingsOn number workers p q was mid → RingsOn still workers q r mid is
      → RingsOn number workers p r was is
  rings-along number still p q r was mid is same one more first rings =
      subst (λ n. RingsOn n workers q r mid is) same more first (one first rings)
