-- How words rise along a run. Plan: more steps of a run lead to a later state, of which `later_rises` and `never_back` speak.
use Rattle.std.proofs.Common.{◌≡◌, ℕ, ◌+◌, ◌-◌, ◌<◌, ◌≤◌, List, [], ◌∷◌, ◌++◌, length, take, drop, refl, sym, ◌∙◌, ap, arith}
use Rattle.std.specs.Prelude.{Option, Some, None}
use Rattle.std.specs.Option.{option_and_then, option_map}
use Rattle.std.specs.List.{All}
use Rattle.std.proofs.Math.Seq.{take-add}
use Rattle.std.proofs.lemmas.List.Elements.{All-take, All-drop}
use Rattle.scq_word.specs.declared.setup.Setup.{Setup}
use Rattle.scq_word.specs.Exports.{n_of}
use Rattle.scq_core.specs.declared.step.Step.{Step}
use Rattle.scq_core.specs.Exports.{moved, IsReachable}
use Rattle.scq_core.proofs.Fits.{catch_up_lags}
use Rattle.scq_law.specs.Exports.{IsLater, at_once, Recorded, recorded_by, recorded_first, recorded_along, recorded_of, IsMoment, RisesThroughout}
use Rattle.scq_law.specs.Later as later
use Rattle.scq_law.proofs.Replays.RecordedRuns.{all_along}
use Rattle.scq_law.proofs.Replays.RunLaws.{run_reaches, later_rises, never_back}

-- what is recorded of steps and then of more
joined : (c : Setup) (o : Option Recorded) (xs ys : List (ℕ × Step))
    → ((t : Recorded) → recorded_along c t (xs ++ ys) ≡ option_and_then (λ u. recorded_along c u ys) (recorded_along c t xs))
    → option_and_then (λ t. recorded_along c t (xs ++ ys)) o ≡ option_and_then (λ u. recorded_along c u ys) (option_and_then (λ t. recorded_along c t xs) o)
joined c None xs ys rest = refl
joined c (Some t) xs ys rest = rest t

pub recorded_along-append : (c : Setup) (xs ys : List (ℕ × Step)) (t : Recorded)
    → recorded_along c t (xs ++ ys) ≡ option_and_then (λ u. recorded_along c u ys) (recorded_along c t xs)
recorded_along-append c [] ys t = refl
recorded_along-append c (x ∷ xs) ys t = joined c (recorded_by c t x) xs ys (recorded_along-append c xs ys)

-- steps lead to a later state
along_later : (c : Setup) (steps : List (ℕ × Step)) (now last : Recorded) → All (λ (x : ℕ × Step). x.0 < c.seats) steps
    → recorded_along c now steps ≡ Some last → IsLater c now.state last.state
along_later c steps now last seats is =
    all_along
    c
    (λ (t : Recorded). IsLater c now.state t.state)
    (λ t k s turn low enabled before. later.by_step k s before low (ap (option_map (moved c t.state k)) enabled))
    steps
    now
    last
    seats
    is
    at_once

-- so a later moment of a run has a later state
pub moments_later : (c : Setup) (opening : List (List ℕ)) (steps : List (ℕ × Step)) (i j : ℕ) (now last : Recorded)
    → All (λ (x : ℕ × Step). x.0 < c.seats) steps → i ≤ j → IsMoment c opening steps i now → IsMoment c opening steps j last → IsLater c now.state last.state
moments_later c opening steps i j now last seats order first second =
    let apart : i + (j - i) ≡ j = omega arith in
    let cut : take j steps ≡ take i steps ++ take (j - i) (drop i steps) =
    ap (λ (n : ℕ). take n steps) (sym apart) ∙ take-add i (j - i) steps in
    let along : recorded_along c now (take (j - i) (drop i steps)) ≡ Some last =
    sym (ap (λ (o : Option Recorded). option_and_then (λ u. recorded_along c u (take (j - i) (drop i steps))) o) first.recorded_is)
    ∙ sym (recorded_along-append c (take i steps) (take (j - i) (drop i steps)) (recorded_first c opening))
    ∙ ap (λ (xs : List (ℕ × Step)). recorded_of c opening xs) (sym cut)
    ∙ second.recorded_is in
    along_later
    c
    (take (j - i) (drop i steps))
    now
    last
    (All-take (λ (x : ℕ × Step). x.0 < c.seats) (j - i) (drop i steps) (All-drop (λ (x : ℕ × Step). x.0 < c.seats) i steps seats))
    along

pub moment_reached : (c : Setup) (opening : List (List ℕ)) (steps : List (ℕ × Step)) (i : ℕ) (now : Recorded) → IsMoment c opening steps i now
    → IsReachable c now.state
moment_reached c opening steps i now is = run_reaches c opening (take i steps) now is

pub rises_throughout : (c : Setup) (opening : List (List ℕ)) (steps : List (ℕ × Step)) → length opening ≡ n_of c.order
    → All (λ (x : ℕ × Step). x.0 < c.seats) steps → RisesThroughout c opening steps
rises_throughout c opening steps full seats =
    let reach : (i : ℕ) (now : Recorded) → IsMoment c opening steps i now → IsReachable c now.state =
    moment_reached c opening steps in
    record {
      ranks =
          λ i j now last order first second.
          (later_rises c now.state last.state (reach i now first) (moments_later c opening steps i j now last seats order first second)).1;
      counters =
          λ i j now last order first second.
          (later_rises c now.state last.state (reach i now first) (moments_later c opening steps i j now last seats order first second)).2;
      never_back =
          λ i j k now mid last low high first second third r s same.
          never_back c now.state mid.state last.state r s (reach i now first) (moments_later c opening steps i j now mid seats low first second)
          (moments_later c opening steps j k mid last seats high second third) same;
      catch_ups = λ i now is. catch_up_lags c now.state (reach i now is);
    }
