-- Numbers and names that are looked up by their order
use Rattle.std.proofs.Common.{◌≡◌, ◌∙◌, ℕ, ◌&&◌, cond, nat_eq, Option, ap, refl}
use Rattle.std.specs.declared.cmp.Ordering.{Ordering}
use Rattle.std.specs.declared.cmp.Ordering.TheVariants.{Less, Equal, Greater}
use Rattle.std.specs.Ordering.{nat_cmp, is_eq, ordering_then}
use Rattle.std.specs.Cmp.{unsigned_tied}
use Rattle.std.specs.BTreeMap.{is_at}
use Rattle.scq_check.specs.Exports.{name_order, same_name}

-- two numbers are equal where their order says so
pub same_number : (x y : ℕ) → is_eq (nat_cmp x y) ≡ nat_eq x y
same_number x y = unsigned_tied x y

then_equal : (p q : Ordering) → is_eq (ordering_then p q) ≡ (is_eq p && is_eq q)
then_equal Less q = refl
then_equal Equal q = refl
then_equal Greater q = refl

pub same_named : (a b : ℕ × ℕ) → is_eq (name_order a b) ≡ same_name a b
same_named a b =
    then_equal (nat_cmp a.0 b.0) (nat_cmp a.1 b.1) ∙ ap (λ z. z && is_eq (nat_cmp a.1 b.1)) (same_number a.0 b.0)
    ∙ ap (λ z. nat_eq a.0 b.0 && z) (same_number a.1 b.1)

-- what is kept of a number or a name, where another was set
pub by_number : {X : Type 0} (k q : ℕ) (now set before : Option X) → now ≡ cond (is_at (nat_cmp k) q) set before → now ≡ cond (nat_eq k q) set before
by_number {X} k q now set before is = is ∙ ap (λ b. cond b set before) (same_number k q)

pub by_name : {X : Type 0} (k q : ℕ × ℕ) (now set before : Option X) → now ≡ cond (is_at (name_order k) q) set before
    → now ≡ cond (same_name k q) set before
by_name {X} k q now set before is = is ∙ ap (λ b. cond b set before) (same_named k q)
