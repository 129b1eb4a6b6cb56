-- What is told of the object that a run ended by.
use Rattle.std.proofs.Common.{◌≡◌, ◌∙◌, inl, inr, refl, sym, ap, subst, arith, ℕ, ◌+◌, ◌-◌, Bool, true, false, List, [], ◌∷◌, ◌++◌, length, length-append, slice_get, Option, Some, None}
use Rattle.std.specs.Option.{option_and_then}
use Rattle.scq_outside.specs.declared.cause.Cause.{Cause}
use Rattle.scq_judge.specs.Exports.{AreReadUntil, IsCauseIn, ReadingStopped}
use Rattle.scq_judge.specs.Recording.{Recording}
use Rattle.scq_judge.specs.declared.judging.JudgeFault.{JudgeFault}
use Rattle.scq_judge.specs.declared.judging.JudgeFault.TheVariants as judge
use Rattle.scq_judge.specs.declared.judging.Judged.{Judged}
use Rattle.scq_judge.specs.declared.finding.Finding.{Finding}
use Rattle.scq_judge.specs.declared.finding.Finding.TheVariants as says
use Rattle.scq_service.specs.Exports.{cause_of_read, cause_of_write, cause_told, end_of_report, fault_of_judge, Wrote, IsWritten, IsUntoldOf}
use Rattle.scq_service.specs.declared.fault.Fault.{Fault}
use Rattle.scq_service.specs.declared.fault.Fault.TheVariants.{NotLinearizable, NeverEnded, NotFound}

-- the last of a list
last-got : {S : Type 0} (xs : List S) (x : S) → slice_get (xs ++ x ∷ []) (length xs) ≡ Some x
last-got [] x = refl
last-got (y ∷ ys) x = last-got ys x

module _ {S : Type 0} (cause : S → Option Cause) (files sink : Option Cause) where
  -- what is told of sources is told of those that are the same
  pub told-over : (sources news : List S) (end : Option Fault) → news ≡ sources
      → cause_told cause sources files sink end ≡ cause_told cause news files sink end
  told-over sources news end same = ap (λ (its : List S). cause_told cause its files sink end) (sym same)

  pub stopped-cause : (faults ends : S → ℕ) (left : S → Option (List ℕ)) (lone : Bool) (olds news : List S) (new : S) (fault : JudgeFault)
      → ReadingStopped faults ends left lone olds (news ++ new ∷ []) fault
      → cause_of_read (cause new) fault ≡ cause_told cause (news ++ new ∷ []) files sink (Some (fault_of_judge fault))
  stopped-cause faults ends left lone olds news new fault stop = by fault stop.until where
    by : (fault : JudgeFault) → AreReadUntil faults ends left olds (news ++ new ∷ []) fault
        → cause_of_read (cause new) fault ≡ cause_told cause (news ++ new ∷ []) files sink (Some (fault_of_judge fault))
    by (judge.ReadFault file) until =
        let long : length (news ++ new ∷ []) ≡ length news + 1 = length-append news (new ∷ []) in
        let at : file - 1 ≡ length news = omega (arith, until.0.last, stop.many, long) in
        sym (ap (λ (i : ℕ). option_and_then cause (slice_get (news ++ new ∷ []) i)) at ∙ ap (option_and_then cause) (last-got news new))
    by (judge.BadLine file line) until = refl
    by (judge.TooLarge file) until = refl
    by (judge.Shared what file line g m) until = refl
    by (judge.TwoRuns file run g s) until = refl
    by (judge.Unlawful file line) until = refl
    by judge.NoMemory until = refl

  pub refused-cause : (recorded : Recording) (sources : List S) (fault : JudgeFault) → IsCauseIn recorded fault
      → None ≡ cause_told cause sources files sink (Some (fault_of_judge fault))
  refused-cause recorded sources (judge.ReadFault file) in_it = absurd in_it
  refused-cause recorded sources (judge.BadLine file line) in_it = refl
  refused-cause recorded sources (judge.TooLarge file) in_it = refl
  refused-cause recorded sources (judge.Shared what file line g m) in_it = refl
  refused-cause recorded sources (judge.TwoRuns file run g s) in_it = refl
  refused-cause recorded sources (judge.Unlawful file line) in_it = refl
  refused-cause recorded sources judge.NoMemory in_it = refl

  pub untold-cause : (recorded : Recording) (sources : List S) (ordering : Bool) (fault : Fault) → IsUntoldOf ordering recorded fault
      → None ≡ cause_told cause sources files sink (Some fault)
  untold-cause recorded sources true NotLinearizable is = refl
  untold-cause recorded sources true NeverEnded is = refl
  untold-cause recorded sources true NotFound is = refl
  untold-cause recorded sources ordering fault is =
      subst (λ f. None ≡ cause_told cause sources files sink (Some f)) (sym is.1) (refused-cause recorded sources is.0 is.2)

  -- what a report's end tells is of the sink where a write failed, and else of no object
  written-end : (sources : List S) (strict : Bool) (worst : Finding)
      → cause_of_write sink (end_of_report strict worst) ≡ cause_told cause sources files sink (end_of_report strict worst)
  written-end sources true says.Fails = refl
  written-end sources true says.NotTested = refl
  written-end sources true says.Holds = refl
  written-end sources false says.Fails = refl
  written-end sources false says.NotTested = refl
  written-end sources false says.Holds = refl

  pub written-cause : (sources : List S) (strict : Bool) (judged : Judged) (w : Wrote) (end : Option Fault) → IsWritten strict judged w end
      → cause_of_write sink end ≡ cause_told cause sources files sink end
  written-cause sources strict judged w end (inl whole) = rw whole.2 (written-end sources strict judged.worst)
  written-cause sources strict judged w end (inr failed) = rw failed.0 refl
