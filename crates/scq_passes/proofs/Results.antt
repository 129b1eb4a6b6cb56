-- What follows of an answer that is Ok, or of its error.
use Rattle.std.proofs.Common.{Result, Ok, Err}
use Rattle.std.specs.Prelude.{IfErr, IfOk, OnOk}

-- what holds of an answer that is Ok, by what is known of it
pub ok-more : {X E : Type 0} (r : Result X E) (P Q : X → Type 0) → IfOk r P → ((x : X) → P x → Q x) → IfOk r Q
ok-more (Ok x) P Q p f = f x p
ok-more (Err e) P Q p f = tt

pub ok-on : {X E : Type 0} (r : Result X E) (P : X → Type 0) (Q : Type 0) → IfOk r P → ((x : X) → P x → Q) → OnOk r Q
ok-on (Ok x) P Q p f = f x p
ok-on (Err e) P Q p f = tt

-- what follows of the error of an answer
pub err-then : {X E : Type 0} (r : Result X E) (P Q : E → Type 0) → ((e : E) → P e → Q e) → IfErr r P → IfErr r Q
err-then (Ok x) P Q f p = tt
err-then (Err e) P Q f p = f e p

-- what follows of two clauses of an answer that is Ok
pub on-both : {X E P Q R : Type 0} (r : Result X E) → (P → Q → R) → OnOk r P → OnOk r Q → OnOk r R
on-both (Ok x) f p q = f p q
on-both (Err e) f p q = tt

-- what follows of an answer, whichever it is
pub either-way : {X E P R : Type 0} (r : Result X E) (Q : E → Type 0) → (P → R) → ((e : E) → Q e → R) → OnOk r P → IfErr r Q → R
either-way (Ok x) Q f g p q = f p
either-way (Err e) Q f g p q = g e q
