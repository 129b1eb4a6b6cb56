-- The names of the files of a fault are those that are asked for.
use Rattle.std.proofs.Common.{◌≡◌, ◌∙◌, ◌++◌, ap, refl, Bool, true, false, ℕ, List, Option, Some, None}
use Rattle.std.specs.Prelude.{IfSome, Result}
use Rattle.scq_words.specs.Asked.{Asked}
use Rattle.scq_words.specs.declared.fault.WordsFault.{WordsFault}
use Rattle.scq_work.specs.declared.worked.Worked.{Worked}
use Rattle.scq_outside.specs.declared.cause.Cause.{Cause}
use Rattle.scq_service.specs.Exports.{fault_line, fault_lines, files_asked, cause_line, caused_lines, lines_behind, reported}
use Rattle.scq_service.specs.declared.fault.Fault.{Fault}
use Rattle.scq_service.specs.declared.fault.Fault.TheVariants.{NoMemory}

pub named-as : (alone : Bool) (words : List (List ℕ)) (asked : Result Asked WordsFault) (names : List (List ℕ)) (end : Option Fault) → names ≡ files_asked asked
    → IfSome end (λ fault. fault_lines alone words names fault ≡ fault_lines alone words (files_asked asked) fault)
named-as alone words asked names None same = tt
named-as alone words asked names (Some fault) same = ap (λ its. fault_lines alone words its fault) same

-- at want of memory there is no line behind
pub unnamed : (alone : Bool) (words : List (List ℕ)) (asked : Result Asked WordsFault) (names : List (List ℕ)) (end : Option Fault) → end ≡ Some NoMemory
    → IfSome end (λ fault. fault_lines alone words names fault ≡ fault_lines alone words (files_asked asked) fault)
unnamed alone words asked names None wanted = tt
unnamed alone words asked names (Some fault) wanted = rw (same wanted) refl where
  same : Some fault ≡ Some NoMemory → fault ≡ NoMemory
  same e = cc

-- and so are the lines with the cause
pub caused-as : (alone : Bool) (words : List (List ℕ)) (asked : Result Asked WordsFault) (names : List (List ℕ)) (cause : Option Cause) (end : Option Fault)
    → IfSome end (λ fault. fault_lines alone words names fault ≡ fault_lines alone words (files_asked asked) fault)
    → IfSome end (λ fault. caused_lines alone words names cause fault ≡ lines_behind alone words asked cause fault)
caused-as alone words asked names cause None same = tt
caused-as alone words asked names cause (Some fault) same = ap (λ (lines : List ℕ). lines ++ cause_line cause) same

-- without a fault there is no line behind one
unfaulted : (asks : Bool) (behind wanted : Fault → List ℕ) (worked : Option Worked) → reported asks behind None worked ≡ reported asks wanted None worked
unfaulted true behind wanted (Some w) = refl
unfaulted true behind wanted None = refl
unfaulted false behind wanted (Some w) = refl
unfaulted false behind wanted None = refl

-- what is reported is the same by the same lines
pub reported-as : (asks asked : Bool) (behind wanted : Fault → List ℕ) (fault : Option Fault) (worked : Option Worked) → (fault ≡ None → asks ≡ asked)
    → IfSome fault (λ f. behind f ≡ wanted f) → reported asks behind fault worked ≡ reported asked wanted fault worked
reported-as asks asked behind wanted None worked same lines =
    ap (λ (b : Bool). reported b behind None worked) (same refl) ∙ unfaulted asked behind wanted worked
reported-as asks asked behind wanted (Some fault) worked same lines = ap (λ (its : List ℕ). fault_line fault ++ its) lines
