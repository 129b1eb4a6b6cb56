-- Two seats that meet.
use Rattle.std.proofs.Common.{◌≡◌, ℕ, List, [], ◌∷◌, ◌++◌, refl, sym, subst, arith}
use Rattle.std.specs.List.{Contains}
use Rattle.std.proofs.lemmas.List.Elements.{Contains-append_right}
use Rattle.scq_word.specs.declared.setup.Setup.{Setup}
use Rattle.scq_core.specs.declared.ended.Ended.{Ended}
use Rattle.scq_core.specs.declared.step.Step.{Step}
use Rattle.scq_law.specs.Exports.{AllPrefixes, IsRecordAfter}
use Rattle.scq_band.specs.Exports.{Seen, both_seen, Caller, IsMomentInRun, HaveMet, HaveSeenOneRun}
use Rattle.scq_band.proofs.ComparablePrefixes.{seen_of_one}

pub first_of : (xs ys : List (List (ℕ × Step))) (steps : List (ℕ × Step)) → AllPrefixes (xs ++ ys) steps → AllPrefixes xs steps
first_of [] ys steps all = tt
first_of (x ∷ xs) ys steps all = (all.0, first_of xs ys steps all.1)

pub second_of : (xs ys : List (List (ℕ × Step))) (steps : List (ℕ × Step)) → AllPrefixes (xs ++ ys) steps → AllPrefixes ys steps
second_of [] ys steps all = all
second_of (x ∷ xs) ys steps all = second_of xs ys steps all.1

-- one heeds the other's mark, is shown the run, and the other heeds a mark of that
pub met : (c : Setup) (opening : List (List ℕ)) (one other heeding one_now other_now : Caller) → heeding.seen ≡ both_seen one.seen other.seen
    → heeding.seat ≡ one.seat → IsMomentInRun c opening heeding one_now → one_now.calls ≡ one.calls → other_now.seen ≡ both_seen other.seen one_now.seen
    → HaveMet c opening one other one_now other_now
met c opening one other heeding one_now other_now heeds seat looked calls heeded =
    let all : AllPrefixes (one.seen.runs ++ other.seen.runs) looked.steps =
    subst (λ (s : Seen). AllPrefixes s.runs looked.steps) heeds looked.had_seen in
    let mine : Contains one_now.seen.runs looked.steps =
    subst (λ (s : Seen). Contains s.runs looked.steps) (sym looked.has_seen) (0, omega arith, refl) in
    record {
      steps = looked.steps;
      one_had_seen = first_of one.seen.runs other.seen.runs looked.steps all;
      other_had_seen = second_of one.seen.runs other.seen.runs looked.steps all;
      one_has_seen = mine;
      other_has_seen =
          subst (λ (s : Seen). Contains s.runs looked.steps) (sym heeded)
          (Contains-append_right other.seen.runs one_now.seen.runs looked.steps mine);
      now =
          subst (λ (l : List Ended). IsRecordAfter c opening looked.steps one.seat l) calls
          (subst (λ (k : ℕ). IsRecordAfter c opening looked.steps k one_now.calls) seat looked.now);
    }

-- so what they had seen are comparable
pub met_comparable : (c : Setup) (opening : List (List ℕ)) (one other one_now other_now : Caller) → HaveMet c opening one other one_now other_now
    → HaveSeenOneRun one.seen other.seen
met_comparable c opening one other one_now other_now is = seen_of_one one.seen other.seen is.steps is.one_had_seen is.other_had_seen
