-- A run with one step more at its end: what is recorded of it is what is recorded after that step.
use Rattle.std.proofs.Common.{◌≡◌, ℕ, ◌<◌, List, [], ◌∷◌, ◌++◌, length, refl, ◌∙◌, arith}
use Rattle.std.specs.Prelude.{Option, Some, None}
use Rattle.std.specs.Option.{option_and_then}
use Rattle.std.proofs.lemmas.List.Elements.{All-push}
use Rattle.scq_word.specs.Exports.{n_of}
use Rattle.scq_word.specs.declared.setup.Setup.{Setup}
use Rattle.scq_core.specs.declared.step.Step.{Step}
use Rattle.scq_law.specs.Exports.{Recorded, recorded_by, recorded_first, recorded_along, recorded_of, IsRun}

then_some : {A : Type 0} (o : Option A) → option_and_then (λ (a : A). Some a) o ≡ o
then_some None = refl
then_some (Some a) = refl

then_twice : {A B C : Type 0} (f : A → Option B) (h : B → Option C) (o : Option A)
    → option_and_then (λ a. option_and_then h (f a)) o ≡ option_and_then h (option_and_then f o)
then_twice f h None = refl
then_twice f h (Some a) = refl

then_same : {A B : Type 0} (f h : A → Option B) (o : Option A) → ((a : A) → f a ≡ h a) → option_and_then f o ≡ option_and_then h o
then_same f h None same = refl
then_same f h (Some a) same = same a

pub along_last : (c : Setup) (recorded : Recorded) (steps : List (ℕ × Step)) (x : ℕ × Step)
    → recorded_along c recorded (steps ++ x ∷ []) ≡ option_and_then (λ last. recorded_by c last x) (recorded_along c recorded steps)
along_last c recorded [] x = then_some (recorded_by c recorded x)
along_last c recorded (y ∷ ys) x =
    then_same (λ next. recorded_along c next (ys ++ x ∷ [])) (λ next. option_and_then (λ last. recorded_by c last x) (recorded_along c next ys))
    (recorded_by c recorded y) (λ next. along_last c next ys x)
    ∙ then_twice (λ next. recorded_along c next ys) (λ last. recorded_by c last x) (recorded_by c recorded y)

-- a run goes on by an enabled step
pub run_last : (c : Setup) (opening : List (List ℕ)) (steps : List (ℕ × Step)) (recorded next : Recorded) (x : ℕ × Step) → IsRun c opening steps recorded
    → x.0 < c.seats → recorded_by c recorded x ≡ Some next → IsRun c opening (steps ++ x ∷ []) next
run_last c opening steps recorded next x run low step =
    let is = run.recorded_is in
    record {
      full = run.full;
      seats = All-push (λ (y : ℕ × Step). y.0 < c.seats) steps x run.seats low;
      recorded_is = along_last c (recorded_first c opening) steps x ∙ rw is step;
    }

-- a step that isn't enabled ends no run
pub run_stops : (c : Setup) (opening : List (List ℕ)) (steps : List (ℕ × Step)) (recorded : Recorded) (x : ℕ × Step) → IsRun c opening steps recorded
    → recorded_by c recorded x ≡ None → recorded_of c opening (steps ++ x ∷ []) ≡ None
run_stops c opening steps recorded x run step =
    let is = run.recorded_is in
    along_last c (recorded_first c opening) steps x ∙ rw is step

-- the empty run
pub run_first : (c : Setup) (opening : List (List ℕ)) → length opening ≡ n_of c.order → IsRun c opening [] (recorded_first c opening)
run_first c opening full = record { full = full; seats = λ k d low. absurd (omega arith); recorded_is = refl }
