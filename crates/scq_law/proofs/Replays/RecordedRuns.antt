-- The induction over what is recorded of a run.
use Rattle.std.proofs.Common.{◌≡◌, ℕ, ◌<◌, List, [], ◌∷◌, refl, ap}
use Rattle.std.specs.Prelude.{Option, Some, None}
use Rattle.std.specs.Option.{option_and_then, option_map}
use Rattle.std.specs.List.{All}
use Rattle.std.proofs.lemmas.List.Elements.{All-head, All-tail}
use Rattle.scq_word.specs.declared.setup.Setup.{Setup}
use Rattle.scq_core.specs.declared.phase.Phase.{Phase}
use Rattle.scq_core.specs.declared.step.Step.{Step}
use Rattle.scq_core.specs.Machine.{Machine}
use Rattle.scq_core.specs.Exports.{turn_of, moved, IsReachable, by_step}
use Rattle.scq_law.specs.Exports.{Recorded, recorded_after, recorded_by, recorded_along}

-- what is recorded after one more step: the seat's turn is enabled
pub record RecordedStep (c : Setup) (recorded : Recorded) (x : ℕ × Step) (next : Recorded) : Type 0 where
  pub turn : Phase
  pub enabled : turn_of c (recorded.state.part x.0) x.1 ≡ Some turn
  pub is : next ≡ recorded_after c x.0 turn recorded

mapped : {A B : Type 0} → (f : A → B) (o : Option A) (b : B) → option_map f o ≡ Some b → (a : A) × (o ≡ Some a) × (b ≡ f a)
mapped f None b e = absurd (cc)
mapped f (Some a) b e = (a, refl, cc)

pub chained : {A B : Type 0} → (f : A → Option B) (o : Option A) (b : B) → option_and_then f o ≡ Some b → (a : A) × (o ≡ Some a) × (f a ≡ Some b)
chained f None b e = absurd (cc)
chained f (Some a) b e = (a, refl, e)

pub recorded_step : (c : Setup) (recorded : Recorded) (x : ℕ × Step) (next : Recorded) → recorded_by c recorded x ≡ Some next → RecordedStep c recorded x next
recorded_step c recorded x next e =
    let h = mapped (λ turn. recorded_after c x.0 turn recorded) (turn_of c (recorded.state.part x.0) x.1) next e in
    record { turn = h.0; enabled = h.1; is = h.2 }

-- an enabled turn leads to a reachable state
pub turn_reaches : (c : Setup) (m : Machine) (k : ℕ) (s : Step) (turn : Phase) → k < c.seats → turn_of c (m.part k) s ≡ Some turn → IsReachable c m
    → IsReachable c (moved c m k turn)
turn_reaches c m k s turn low enabled reach =
    by_step k s reach low (ap (option_map (moved c m k)) enabled)

-- the first of more steps from a reachable state, and what it leads to
pub record FirstStep (c : Setup) (x : ℕ × Step) (xs : List (ℕ × Step)) (t last : Recorded) : Type 0 where
  pub next : Recorded
  pub turn : Phase
  pub low : x.0 < c.seats
  pub rest_low : All (λ (y : ℕ × Step). y.0 < c.seats) xs
  pub enabled : turn_of c (t.state.part x.0) x.1 ≡ Some turn
  pub state : next.state ≡ moved c t.state x.0 turn
  pub reach : IsReachable c next.state
  pub along : recorded_along c next xs ≡ Some last

pub first_step : (c : Setup) (x : ℕ × Step) (xs : List (ℕ × Step)) (t last : Recorded) → All (λ (y : ℕ × Step). y.0 < c.seats) (x ∷ xs)
    → IsReachable c t.state → recorded_along c t (x ∷ xs) ≡ Some last → FirstStep c x xs t last
first_step c x xs t last seats reachable e =
    let h = chained (λ next. recorded_along c next xs) (recorded_by c t x) last e in
    let u = recorded_step c t x h.0 h.1 in
    let low = All-head (λ (y : ℕ × Step). y.0 < c.seats) x xs seats in
    let moves : h.0.state ≡ moved c t.state x.0 u.turn = ap (λ (z : Recorded). z.state) u.is in
    record {
      next = h.0;
      turn = u.turn;
      low = low;
      rest_low = All-tail (λ (y : ℕ × Step). y.0 < c.seats) x xs seats;
      enabled = u.enabled;
      state = moves;
      reach = rw moves (turn_reaches c t.state x.0 x.1 u.turn low u.enabled reachable);
      along = h.2;
    }

-- what each step of a seat keeps holds after all of them
pub all_along : (c : Setup) (P : Recorded → Type 0)
    → ((recorded : Recorded) (k : ℕ) (s : Step) (turn : Phase) → k < c.seats → turn_of c (recorded.state.part k) s ≡ Some turn → P recorded
    → P (recorded_after c k turn recorded)) → (steps : List (ℕ × Step)) (recorded last : Recorded) → All (λ (x : ℕ × Step). x.0 < c.seats) steps
    → recorded_along c recorded steps ≡ Some last → P recorded → P last
all_along c P step [] recorded last seats e holds =
    let same : recorded ≡ last = cc in rw (← same) holds
all_along c P step (x ∷ xs) recorded last seats e holds =
    let h = chained (λ next. recorded_along c next xs) (recorded_by c recorded x) last e in
    let t = recorded_step c recorded x h.0 h.1 in
    let low = All-head (λ (y : ℕ × Step). y.0 < c.seats) x xs seats in
    all_along c P step xs h.0 last (All-tail (λ (y : ℕ × Step). y.0 < c.seats) x xs seats) h.2 (rw t.is (step recorded x.0 x.1 t.turn low t.enabled holds))
