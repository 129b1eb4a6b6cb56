-- What contracts see of a crew and of a stand, what each call makes of a stand, and what a crew
-- tells where it closes. A crew is seen as its parkers, that of worker w at w.
use Rattle.std.specs.Prelude.{◌≡◌, ℕ, zero, suc, ◌+◌, ◌-◌, ◌^◌, min, List, [], ◌∷◌, ◌++◌, map}
use Rattle.std.specs.Prelude.{length, All, slice_index, slice_set}
use Rattle.atomic_table.specs.Seated.{TableId}
use Rattle.scq_park.specs.declared.rested.Rested.{Rested}

-- what contracts see of a stand
pub record Post : Type 0 where
  pub crew : List TableId
  pub worker : ℕ
  -- how often it woke each worker, in order
  pub wakes : List ℕ
  -- how often its own worker rested
  pub rests : ℕ

abbrev pub post : List TableId → ℕ → List ℕ → ℕ → Post
post ts w ns n = record { crew = ts; worker = w; wakes = ns; rests = n }

-- no worker was woken yet
abbrev pub no_wakes : List TableId → List ℕ
no_wakes crew = map (λ _. 0) crew

-- the stand of a worker of a new crew, and those of the workers below a number, in order
abbrev pub first_post : List TableId → ℕ → Post
first_post crew w = post crew w (no_wakes crew) 0

abbrev pub first_posts : List TableId → ℕ → List Post
first_posts crew zero = []
first_posts crew (suc w) = first_posts crew w ++ first_post crew w ∷ []

-- a stand that woke a worker once more, and one whose worker rested once more
abbrev pub with_wake : ℕ → Post → Post
with_wake w p = record p { wakes = slice_set p.wakes w (slice_index p.wakes w + 1) }

abbrev pub with_rest : Post → Post
with_rest p = record p { rests = p.rests + 1 }

-- these stands are of the workers from a number on, in order
abbrev pub AreInWorkerOrder : ℕ → List Post → Type 0
AreInWorkerOrder w [] = Unit {0}
AreInWorkerOrder w (p ∷ ps) = (p.worker ≡ w) × AreInWorkerOrder (suc w) ps

-- these are the stands of all workers of a crew, in order
pub record AreAll (crew : List TableId) (posts : List Post) : Type 0 where
  pub own : All (λ (p : Post). p.crew ≡ crew) posts
  pub order : AreInWorkerOrder 0 posts
  pub many : length posts ≡ length crew

-- a count stands still at the last value of 64 bits
abbrev pub counted : ℕ → ℕ
counted n = min n (2 ^ 64 - 1)

-- two lists of numbers, added up member by member
abbrev pub plus : List ℕ → List ℕ → List ℕ
plus ms [] = ms
plus [] (n ∷ ns) = []
plus (m ∷ ms) (n ∷ ns) = (m + n) ∷ plus ms ns

-- how often each worker was woken: so often before, and by these stands
abbrev pub woken : List ℕ → List Post → List ℕ
woken before [] = before
woken before (p ∷ ps) = woken (plus before p.wakes) ps

-- what is told of a worker that rested and was woken so often; and of each worker that has this
-- stand and was woken so often
abbrev pub rested_of : ℕ → ℕ → Rested
rested_of n m = record { rests = counted n; wakes = counted m }

abbrev pub ended : List Post → List ℕ → List Rested
ended [] ns = []
ended (p ∷ ps) [] = []
ended (p ∷ ps) (n ∷ ns) = rested_of p.rests n ∷ ended ps ns
