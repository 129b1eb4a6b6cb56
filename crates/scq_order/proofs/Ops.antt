-- What happens to a queue in one thread: values with the numbers (points) at which they are put and
-- got, and the list of what happens
use Rattle.std.specs.Prelude.{◌≡◌, ℕ, ◌≤◌, ◌⊎◌, List, [], ◌∷◌, ◌++◌, max}
use Rattle.scq_hist.specs.Exports.{StandsIn}
use Rattle.scq_order.proofs.Values.{Value}

pub record Pointed : Type 0 where
  pub value : Value
  pub put_at : ℕ
  pub got_at : ℕ

-- the points lie within the value's numbers, and it isn't got before it is put
pub record IsPoint (p : Pointed) : Type 0 where
  pub put_low : p.value.put_from ≤ p.put_at
  pub put_high : p.put_at ≤ p.value.put_till
  pub got_low : p.value.got_from ≤ p.got_at
  pub got_high : p.got_at ≤ p.value.got_till
  pub turn : p.put_at ≤ p.got_at

-- points as early as those before allow
abbrev pub points : ℕ → ℕ → List Value → List Pointed
points t u [] = []
points t u (v ∷ vs) =
    record { value = v; put_at = max t v.put_from; got_at = max u v.got_from }
    ∷ points (max t v.put_from) (max u v.got_from) vs

-- puts from t on, gets from u on
abbrev pub PutFrom : ℕ → List Pointed → Type 0
PutFrom t [] = Unit {0}
PutFrom t (p ∷ ps) = (t ≤ p.put_at) × PutFrom p.put_at ps

abbrev pub GotFrom : ℕ → List Pointed → Type 0
GotFrom u [] = Unit {0}
GotFrom u (p ∷ ps) = (u ≤ p.got_at) × GotFrom p.got_at ps

-- put and got at one moment: a get that finds nothing
abbrev pub IsInstant : Value → Type 0
IsInstant v = v.got_till ≤ v.put_from

pub data Op : Type 0 where
  puts : Pointed → Op
  gets : Pointed → Op
  finds_none : Pointed → Op

-- a queue that holds these values follows the list, and is empty after it
abbrev pub Follows : List Pointed → List Op → Type 0
Follows queue [] = queue ≡ []
Follows queue (puts x ∷ ops) = Follows (queue ++ x ∷ []) ops
Follows queue (gets x ∷ ops) = (rest : List Pointed) × (queue ≡ x ∷ rest) × Follows rest ops
Follows queue (finds_none x ∷ ops) = (queue ≡ []) × Follows [] ops

abbrev pub point_of : Op → ℕ
point_of (puts x) = x.put_at
point_of (gets x) = x.got_at
point_of (finds_none x) = x.put_at

-- the points don't fall
abbrev pub Ascends : ℕ → List Op → Type 0
Ascends p [] = Unit {0}
Ascends p (op ∷ ops) = (p ≤ point_of op) × Ascends (point_of op) ops

-- what happens to a value
pub record Happens (ops : List Op) (x : Pointed) : Type 0 where
  pub instant : IsInstant x.value → StandsIn ops (finds_none x)
  pub put : (¬ IsInstant x.value) → StandsIn ops (puts x)
  pub got : (¬ IsInstant x.value) → StandsIn ops (gets x)

-- what may happen where the queue holds some values and the rest are to come
abbrev pub IsOpOf : List Pointed → List Pointed → Op → Type 0
IsOpOf queue rest (puts x) = StandsIn rest x × (¬ IsInstant x.value)
IsOpOf queue rest (gets x) = StandsIn queue x ⊎ (StandsIn rest x × (¬ IsInstant x.value))
IsOpOf queue rest (finds_none x) = StandsIn rest x × IsInstant x.value
