-- What `?` hands on is the fault, and has what is said of it.
use Rattle.std.proofs.Common.{◌≡◌, ◌∙◌, Result, Ok, Err, sym, subst}
use Rattle.std.specs.Prelude.{IfErr}
use Rattle.std.specs.Result.{IsErrAnd}

pub same_fault : {T E : Type 0} (r : Result T E) (e given : E) → IsErrAnd r (λ passed. passed ≡ e) → r ≡ Err given → e ≡ given
same_fault (Ok x) e given h is = absurd h
same_fault (Err passed) e given h is = sym h ∙ (let same : passed ≡ given = cc in same)

pub handed_on : {T E : Type 0} (r : Result T E) (fault : E) (P : E → Type 0) → IsErrAnd r (λ passed. passed ≡ fault) → P fault → IfErr r P
handed_on (Ok x) fault P passed said = absurd passed
handed_on (Err x) fault P passed said = subst P (sym passed) said
