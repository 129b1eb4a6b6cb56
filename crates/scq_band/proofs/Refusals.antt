-- One answer of a call is no other.
use Rattle.std.proofs.Common.{◌≡◌, ℕ}
use Rattle.std.specs.Prelude.{Result, Ok, Err}
use Rattle.scq_band.specs.declared.calls.DeqRefusal.{DeqRefusal}
use Rattle.scq_band.specs.declared.calls.DeqRefusal.TheVariants.{Empty, Spent}

pub ok_no_err : {A E : Type 0} (a : A) (e : E) → ◌≡◌ {A = Result A E} (Ok a) (Err e) → ⊥
ok_no_err a e is = cc

pub empty_no_spent : {A : Type 0} (h t : ℕ) → ◌≡◌ {A = Result A DeqRefusal} (Err (Empty h)) (Err (Spent t)) → ⊥
empty_no_spent h t is = cc

pub spent_no_empty : {A : Type 0} (t h : ℕ) → ◌≡◌ {A = Result A DeqRefusal} (Err (Spent t)) (Err (Empty h)) → ⊥
spent_no_empty t h is = cc
