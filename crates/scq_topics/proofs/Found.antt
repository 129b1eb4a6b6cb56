-- What the position of the first element that passes a test says.
use Rattle.std.proofs.Common.{◌≡◌, ℕ, suc, ◌+◌, ◌≤◌, Bool, true, false, not, ◌||◌, cond, ltb, List, [], ◌∷◌, length, arith, refl, Option, Some, None}
use Rattle.std.specs.Prelude.{unwrap_or}
use Rattle.std.specs.List.{position_or_len, list_any}
use Rattle.std.proofs.lemmas.Bool.Decides.{nat_tests}

module _ {X : Type 0} (p : X → Bool) where
  pub position_or_len-le : (xs : List X) → position_or_len p xs ≤ length xs
  position_or_len-le [] = omega arith
  position_or_len-le (x ∷ xs) = one_more (p x) (position_or_len p xs) (length xs) (position_or_len-le xs) where
    one_more : (b : Bool) (n m : ℕ) → n ≤ m → cond (not b) (1 + n) 0 ≤ suc m
    one_more true n m le = omega arith
    one_more false n m le = omega arith

  -- an element passes exactly where there is such a position
  pub list_any-position : (xs : List X) → list_any p xs ≡ ltb (position_or_len p xs) (length xs)
  list_any-position [] = refl
  list_any-position (x ∷ xs) = one_more (p x) (list_any p xs) (position_or_len p xs) (length xs) (list_any-position xs) where
    one_more : (b any : Bool) (n m : ℕ) → any ≡ ltb n m → (b || any) ≡ ltb (cond (not b) (1 + n) 0) (suc m)
    one_more true any n m e = grind (arith, nat_tests)
    one_more false any n m e = grind (arith, nat_tests)

-- a position below the length, or none
pub at_position : (n len : ℕ) (r : Option ℕ) (i : ℕ) → r ≡ cond (ltb n len) (Some n) None → r ≡ Some i → i ≡ n
at_position n len r i e found = grind (arith, nat_tests)

pub nowhere : (n len : ℕ) (r : Option ℕ) → r ≡ cond (ltb n len) (Some n) None → r ≡ None → len ≤ n
nowhere n len r e found = grind (arith, nat_tests)

pub place_or_len : (n len : ℕ) (r : Option ℕ) → n ≤ len → r ≡ cond (ltb n len) (Some n) None → unwrap_or r len ≡ n
place_or_len n len r le e = grind (arith, nat_tests)
