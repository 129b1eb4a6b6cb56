-- What is recorded of more and more steps of a run. Its counts are at most the number of steps.
use Rattle.std.proofs.Common.{◌≡◌, ℕ, ◌+◌, ◌^◌, ◌<◌, ◌≤◌, List, [], ◌∷◌, ◌++◌, length, take, get_or, refl, sym, ◌∙◌, ap, subst, arith}
use Rattle.std.specs.Prelude.{Option, Some, None, Vec}
use Rattle.std.specs.Global.{Global}
use Rattle.std.specs.List.{All}
use Rattle.std.specs.Option.{option_and_then}
use Rattle.std.proofs.lemmas.List.{take_more, length-take-le}
use Rattle.scq_word.specs.Exports.{n_of}
use Rattle.scq_word.specs.declared.setup.Setup.{Setup}
use Rattle.scq_core.specs.declared.phase.Phase.{Phase}
use Rattle.scq_core.specs.declared.phase.Phase.TheVariants.{Idle, AtE1, AtD10}
use Rattle.scq_core.specs.declared.step.Step.{Step}
use Rattle.scq_core.specs.Exports.{machine_of, updated}
use Rattle.scq_core.proofs.UpdatedLemmas.{updated_cases}
use Rattle.scq_law.specs.declared.recording.Recording.{Recording}
use Rattle.scq_law.specs.declared.replayed.Replayed.{Replayed}
use Rattle.scq_law.specs.Exports.{Recorded, puts_after, resets_after, fails_after, recorded_after, recorded_by, recorded_first, recorded_along}
use Rattle.scq_law.specs.Exports.{recorded_of, IsRun, IsRecording, Counts, StopsAt, ReplaysRun, Shows, CountsCanRise}
use Rattle.scq_law.proofs.Replays.RecordedRuns.{recorded_step}
use Rattle.scq_law.proofs.Replays.LongerRuns.{run_first, run_last, run_stops}

-- no count is above a number
pub record IsFew (n : ℕ) (recorded : Recorded) : Type 0 where
  pub puts : (k : ℕ) → recorded.puts k ≤ n
  pub resets : (r : ℕ) → recorded.resets r ≤ n
  pub fails : (r : ℕ) → recorded.fails r ≤ n

few_updated : (n : ℕ) (f : ℕ → ℕ) (k v j : ℕ) → ((i : ℕ) → f i ≤ n) → v ≤ n + 1 → updated f k v j ≤ n + 1
few_updated n f k v j few small = updated_cases (λ _ x. x ≤ n + 1) f k v j (λ _. small) (λ _. (let h = few j in omega arith))

few_puts : (n k : ℕ) (phase turn : Phase) (f : ℕ → ℕ) → ((i : ℕ) → f i ≤ n) → (j : ℕ) → puts_after k phase turn f j ≤ n + 1
few_puts n k Idle (AtE1 r i w l) f few j = few_updated n f k (f k + 1) j few (let h = few k in omega arith)
few_puts n k phase turn f few j = let h = few j in omega arith

few_resets : (n : ℕ) (reset : Option ℕ) (f : ℕ → ℕ) → ((i : ℕ) → f i ≤ n) → (j : ℕ) → resets_after reset f j ≤ n + 1
few_resets n None f few j = let h = few j in omega arith
few_resets n (Some r) f few j = few_updated n f r (f r + 1) j few (let h = few r in omega arith)

few_fails : (n : ℕ) (turn : Phase) (reset : Option ℕ) (f : ℕ → ℕ) → ((i : ℕ) → f i ≤ n) → (j : ℕ) → fails_after turn reset f j ≤ n + 1
few_fails n (AtD10 r h leaving) reset f few j = few_updated n f r (f r + 1) j few (let b = few r in omega arith)
few_fails n turn None f few j = let h = few j in omega arith
few_fails n turn (Some r) f few j = few_updated n f r 0 j few (omega arith)

few_after : (c : Setup) (n k : ℕ) (turn : Phase) (recorded : Recorded) → IsFew n recorded → IsFew (n + 1) (recorded_after c k turn recorded)
few_after c n k turn recorded few =
    record {
      puts = few_puts n k (recorded.state.part k).phase turn recorded.puts few.puts;
      resets = few_resets n _ recorded.resets few.resets;
      fails = few_fails n turn _ recorded.fails few.fails;
    }

chained : {A B : Type 0} → (f : A → Option B) (o : Option A) (b : B) → option_and_then f o ≡ Some b → (a : A) × (o ≡ Some a) × (f a ≡ Some b)
chained f None b e = absurd (cc)
chained f (Some a) b e = (a, refl, e)

few_along : (c : Setup) (n : ℕ) (steps : List (ℕ × Step)) (recorded last : Recorded) → IsFew n recorded → recorded_along c recorded steps ≡ Some last
    → IsFew (n + length steps) last
few_along c n [] recorded last few e =
    let same : recorded ≡ last = cc in
    let count : n ≡ n + length (let none : List (ℕ × Step) = [] in none) = omega arith in
    subst (λ (m : ℕ). IsFew m last) count (subst (λ (t : Recorded). IsFew n t) same few)
few_along c n (x ∷ xs) recorded last few e =
    let h = chained (λ next. recorded_along c next xs) (recorded_by c recorded x) last e in
    let t = recorded_step c recorded x h.0 h.1 in
    let more : IsFew (n + 1) h.0 = rw t.is (few_after c n x.0 t.turn recorded few) in
    let rest = few_along c (n + 1) xs h.0 last more h.2 in
    let count : n + 1 + length xs ≡ n + length (x ∷ xs) = omega arith in
    subst (λ (m : ℕ). IsFew m last) count rest

-- so after the first steps of a list there is room in each count
pub run_room : (c : Setup) (opening : List (List ℕ)) (steps : List (ℕ × Step)) (at : ℕ) (t : Recording) → at < length steps → length steps < 2 ^ 64
    → IsRecording c opening (take at steps) t → CountsCanRise t
run_room c opening steps at t low small recorded =
    let few = few_along c 0 (take at steps) (recorded_first c opening) recorded.recorded
    (record { puts = λ k. omega arith; resets = λ r. omega arith; fails = λ r. omega arith }) recorded.run.recorded_is in
    let many : length (take at steps) ≡ at = length-take-le at steps (omega arith) in
    record {
      puts = λ k. (let h = few.puts k in let e = recorded.shows.puts.each k in omega arith);
      resets = λ r. (let h = few.resets r in let e = recorded.shows.resets.each r in omega arith);
      fails = λ r. (let h = few.fails r in let e = recorded.shows.fails.each r in omega arith);
    }

-- the first steps and one more
pub more : {X : Type 0} → (xs : List X) (at : ℕ) (x : X) → at < length xs → x ≡ get_or xs at x → take (at + 1) xs ≡ take at xs ++ x ∷ []
more xs at x low is = take_more xs at x low ∙ ap (λ y. take at xs ++ y ∷ []) (sym is)

-- one step more
pub one_more : (c : Setup) (opening : List (List ℕ)) (steps : List (ℕ × Step)) (at : ℕ) (x : ℕ × Step) (old new : Recording) → at < length steps
    → x ≡ get_or steps at x → All (λ (y : ℕ × Step). y.0 < c.seats) steps → (recorded : IsRecording c opening (take at steps) old)
    → (next : Recorded) × (recorded_by c recorded.recorded x ≡ Some next) × Shows c next new → IsRecording c opening (take (at + 1) steps) new
one_more c opening steps at x old new low is seats recorded after =
    record {
      recorded = after.0;
      run =
          subst
          (λ (xs : List (ℕ × Step)). IsRun c opening xs after.0)
          (sym (more steps at x low is))
          (run_last c opening (take at steps) recorded.recorded after.0 x recorded.run (subst (λ (y : ℕ × Step). y.0 < c.seats) (sym is) (seats at x low))
          after.1);
      shows = after.2;
    }

-- where one step more is not enabled
pub stops : (c : Setup) (opening : List (List ℕ)) (steps : List (ℕ × Step)) (at : ℕ) (x : ℕ × Step) (old : Recording) → at < length steps
    → x ≡ get_or steps at x → (recorded : IsRecording c opening (take at steps) old)
    → recorded_by c recorded.recorded x ≡ None → StopsAt c opening steps at
stops c opening steps at x old low is recorded none =
    record {
      within = low;
      before = rw recorded.run.recorded_is refl;
      here =
          subst
          (λ (xs : List (ℕ × Step)). recorded_of c opening xs ≡ None)
          (sym (more steps at x low is))
          (run_stops c opening (take at steps) recorded.recorded x recorded.run none);
    }

-- before the first step
pub first_recorded : (c : Setup) (opening : List (List ℕ)) (t : Recording) → length opening ≡ n_of c.order → Shows c (recorded_first c opening) t → IsRecording c opening [] t
first_recorded c opening t full shows = record { recorded = recorded_first c opening; run = run_first c opening full; shows = shows }

-- what is answered of it
pub replays : (c : Setup) (opening : List (List ℕ)) (steps : List (ℕ × Step)) (t : Recording) (answered : Replayed) → IsRecording c opening steps t
    → answered.state ≡ t.state → answered.events ≡ t.events → answered.resets ≡ t.resets → answered.fails ≡ t.fails → ReplaysRun c opening steps answered
replays c opening steps t answered is state events resets fails =
    record {
      recorded = is.recorded;
      run = is.run;
      setup = ap (λ s. s.setup) state ∙ is.shows.setup;
      state = ap machine_of state ∙ is.shows.state;
      events = ap (λ es. es.items) events ∙ is.shows.events;
      resets = subst (λ (v : Vec ℕ Global). Counts c.rings v.items is.recorded.resets) (sym resets) is.shows.resets;
      fails = subst (λ (v : Vec ℕ Global). Counts c.rings v.items is.recorded.fails) (sym fails) is.shows.fails;
    }
