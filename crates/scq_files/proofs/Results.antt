-- What follows of an answer that is an error.
use Rattle.std.proofs.Common.{◌≡◌, sym, subst, Err, Result}
use Rattle.std.specs.Prelude.{IfErr}

pub err-of : {X E : Type 0} (P : E → Type 0) (r : Result X E) (e : E) → r ≡ Err e → P e → IfErr r P
err-of P r e is p = let Q : Result _ _ → Type 0 = λ r. IfErr r P in subst Q (sym is) p
