-- What `clap` makes of words, and what a reader of a command's words makes of them.
use Rattle.std.specs.Prelude.{ℕ, ◌≡◌, ◌≢◌, Bool, false, List, None, Some, Result, Ok, Err}
use Rattle.std.specs.Prelude.{IfOk, IfErr, IsErrOf}
use Rattle.clap.specs.Words.{App, found_of, matches_of, rows_of, takes}
use Rattle.clap.specs.declared.parser.matches.ArgMatches.{ArgMatches}
use Rattle.scq_words.specs.Asked.{Asked, refused_by_clap}
use Rattle.scq_words.specs.Ranges.{IsInRange}
use Rattle.scq_words.specs.declared.fault.WordsFault.{WordsFault}
use Rattle.scq_words.specs.declared.fault.WordsError.{WordsError}
use Rattle.scq_words.specs.declared.fault.WordsError.TheVariants.{Refused, NoMemory}
use Rattle.scq_words.specs.declared.fault.WordsFault.TheVariants.{NotUnderstood}

-- the words parse to their matches by a command; or it refuses them, which aren't understood then;
-- or memory was wanted
pub record Parses (app : App) (words : List (List ℕ))
    (result : Result ArgMatches WordsError) : Type 0 where
  pub rows : IfOk result (λ m. rows_of (found_of m) ≡ matches_of app words)
  pub passes : IfOk result (λ m. refused_by_clap app words ≡ None)
  pub refused : IfErr result (λ error. error ≢ NoMemory
      → (error ≡ Refused NotUnderstood) × (refused_by_clap app words ≡ Some NotUnderstood)
      × (takes app words ≡ false))

-- a reader of words answers what is said of them, or want of memory. `clap` refuses no words that
-- it is said to take, and what is asked is in its ranges
pub record Answered {T : Type 0} (asks : T → Asked) (said : Result Asked WordsFault) (takes : Bool)
    (result : Result T WordsError) : Type 0 where
  pub request : IfOk result (λ request. said ≡ Ok (asks request))
  pub refused : (fault : WordsFault) → IsErrOf result (Refused fault) → said ≡ Err fault
  pub taken : IsErrOf result (Refused NotUnderstood) → takes ≡ false
  pub ranges : IfOk result (λ request. IsInRange (asks request))
