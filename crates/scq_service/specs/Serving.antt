-- What the service comes to, by what its words ask for, whether its workers leave early or wait.
use Rattle.std.specs.Prelude.{◌≡◌, ◌⊎◌, List, ℕ, Option, Some, None, IfSome, IsSome, IsSomeAnd}
use Rattle.std.specs.Prelude.{OnSome, is_some, Result, Ok}
use Rattle.scq_outside.specs.Exports.{Rose}
use Rattle.scq_words.specs.Exports.{RunAsked, SelfAsked, StagesAsked, TextAsked}
use Rattle.scq_words.specs.Asked.{Asked}
use Rattle.scq_words.specs.Asked as asks
use Rattle.scq_words.specs.declared.fault.WordsFault.{WordsFault}
use Rattle.scq_service.specs.Answers.{IsSeenAt, LeavesNothing, WaitedAs, WorkedAs}
use Rattle.scq_service.specs.Ends.{EndsAs, Inputs, IsCalm, IsCalmText, IsOfTextAlone, Wrote}
use Rattle.scq_service.specs.Ends.{most_payload}
use Rattle.scq_service.specs.Faults.{status_of}
use Rattle.scq_service.specs.Members.{SourceOf}
use Rattle.scq_service.specs.Writing.{written_with, WrotePart}
use Rattle.scq_service.specs.declared.fault.Fault.{Fault}
use Rattle.scq_service.specs.declared.fault.Fault.TheVariants.{NoMemory}
use Rattle.scq_service.specs.declared.outcome.Outcome.{Outcome}

-- how it ended, and what its workers left
pub record IsOutcomeOf {S : Type 0} (src : SourceOf S) (asked : Result Asked WordsFault)
    (r : Inputs S) (w : Wrote) (o : Outcome S) : Type 0 where
  pub status : o.status ≡ status_of o.fault
  -- the end is one of the cases of `EndsAs`, each with what was got, read and written, and why
  pub end : EndsAs src asked o.got.items r w o.fault
  -- what workers answered is there exactly where the whole text was made. Of `run` it answers such
  -- messages as `WorkersAnswered` says, which are those of the contents where these are visible; of
  -- `self` those of the generated file
  pub worked : WorkedAs src asked o.got.items r o.fault o.worked
  -- whatever the end is, where this is there nothing is stranded: the workers' queue was closed
  -- with each buffer free, what was sent was taken, each pass has retired, and no call met a ticket
  -- at or past the limit
  pub left : IfSome o.left (λ left. IsSomeAnd o.passes (λ passes. IsSomeAnd o.frames (λ frames.
      LeavesNothing asked passes.value.items frames.value.items left.items)))
  pub seen : IsSeenAt asked o.fault (is_some o.left)
  pub same : IfSome o.worked (λ w. IsSomeAnd o.passes (λ p. p.value.items ≡ w.passes.value.items))

-- where its workers waited, each was told that all had retired, rested no more often than it was
-- woken, and took in vain no more often than one does that rests after each sweep that took
-- nothing. Unless memory is wanting or the words are refused they waited
pub record WorkersWaited {S : Type 0} (asked : Result Asked WordsFault) (o : Outcome S)
    : Type 0 where
  pub waited : IfSome o.waited (λ waited. IsSomeAnd o.passes (λ passes.
      WaitedAs asked passes.value.items waited.saw.items waited.rested.items))
  pub attended : IsSeenAt asked o.fault (is_some o.waited)
  pub both : OnSome o.waited (IsSome o.left)

-- it ended with the output, or for want of memory
abbrev pub IsDoneButForMemory : Option Fault → Type 0
IsDoneButForMemory end = (end ≡ None) ⊎ (end ≡ Some NoMemory)

-- where nothing stood in the way of a run over files, with stages or without, and where no write of
-- a run of `self` failed, it ends with its output or for want of memory; a calm run over one whole
-- file ends so, or with a fault that its text has; of `judge` nothing is said
pub record EndsWellWhereCalm {S : Type 0} (src : SourceOf S) (asked : Result Asked WordsFault)
    (r : Inputs S) (w : Wrote) (o : Outcome S) : Type 0 where
  pub files : (a : RunAsked) → asked ≡ Ok (asks.run a)
      → IsCalm most_payload src a.files o.got.items r w → IsDoneButForMemory o.fault
  pub stages : (a : StagesAsked) → asked ≡ Ok (asks.staged a)
      → IsCalm a.size src a.files o.got.items r w → IsDoneButForMemory o.fault
  pub alone : (a : SelfAsked) → asked ≡ Ok (asks.generated a) → ¬ Rose w.faults.old w.faults.new
      → IsDoneButForMemory o.fault
  pub text : (a : TextAsked) → asked ≡ Ok (asks.whole a) → IsCalmText src o.got.items r w
      → IsOfTextAlone a.command o.fault

-- these bytes were reported: all of them where no write failed, and else a front of them
pub record HasReported (w : Wrote) (bytes : List ℕ) : Type 0 where
  pub whole : Rose w.faults.old w.faults.new
      ⊎ (w.written.new ≡ written_with w.written.old bytes)
  pub front : WrotePart w.written.old w.written.new bytes
