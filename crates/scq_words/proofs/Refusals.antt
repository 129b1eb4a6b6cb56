-- What a parse that gives no matches says of the words.
use Rattle.std.proofs.Common.{◌≡◌, ◌≢◌, refl, ap, inl, inr, arith, true, false, ℕ, ◌<◌, Bool, List, [], ◌∷◌, length, Some}
use Rattle.std.proofs.lemmas.Bool.{lt-ltb}
use Rattle.clap.specs.Words.{App, takes, kind_of, HasKind, IsAmong, Kinds}
use Rattle.clap.specs.Faults.{fault_of}
use Rattle.clap.specs.declared.error.Error.{Error}
use Rattle.clap.specs.declared.error.kind.ErrorKind.{ErrorKind}
use Rattle.clap.specs.declared.error.kind.ErrorKind.TheVariants.{OutOfMemory}
use Rattle.scq_words.specs.Exports.{refused_by_clap, refused_if}
use Rattle.scq_words.specs.declared.fault.WordsFault.TheVariants.{NotUnderstood}

some-kind : (kinds : Kinds) (k : ErrorKind) → IsAmong k kinds → 0 < length kinds
some-kind [] k among = absurd among
some-kind (x ∷ xs) k among = omega arith

pub not-understood : (app : App) (words : List (List ℕ)) (e : Error) → HasKind (fault_of app words) e → kind_of e ≢ OutOfMemory
    → refused_by_clap app words ≡ Some NotUnderstood
not-understood app words e (inl memory) other = absurd (other memory)
not-understood app words e (inr some) other =
    ap (λ b. refused_if b NotUnderstood) (lt-ltb 0 (length (fault_of app words)) (some-kind (fault_of app words) (kind_of e) some))

pub not-taken : (app : App) (words : List (List ℕ)) (e : Error) → (takes app words ≡ true → kind_of e ≡ OutOfMemory) → kind_of e ≢ OutOfMemory
    → takes app words ≡ false
not-taken app words e passes other = never (takes app words) passes where
  never : (b : Bool) → (b ≡ true → kind_of e ≡ OutOfMemory) → b ≡ false
  never true all = absurd (other (all refl))
  never false all = refl
