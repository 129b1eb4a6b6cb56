-- Lists that stand side by side, and what passes two tests.
use Rattle.std.proofs.Common.{◌≡◌, refl, sym, ◌∙◌, ap, subst, arith, true, false, Bool, cond, List, [], ◌∷◌, map, ⊎_elim}
use Rattle.std.specs.Prelude.{◌&&◌, filter}
use Rattle.std.specs.List.{AllZip, Contains}
use Rattle.scq_collect.proofs.Orders.{contains-cases, contains-first, contains-more}

module _ {T M : Type 0} (R : T → M → Type 0) where
  -- what is read of lists that stand side by side is the same, where it is of each two
  pub zip-reads : {A : Type 0} (f : T → A) (g : M → A) (ts : List T) (ms : List M) → ((t : T) (m : M) → Contains ts t → R t m → f t ≡ g m) → AllZip R ts ms
      → map f ts ≡ map g ms
  zip-reads f g [] [] same zip = refl
  zip-reads f g [] (m ∷ ms) same zip = absurd zip
  zip-reads f g (t ∷ ts) [] same zip = absurd zip
  zip-reads f g (t ∷ ts) (m ∷ ms) same zip =
      let here : f t ≡ g m = same t m (contains-first t ts) zip.0 in
      let rest : map f ts ≡ map g ms = zip-reads f g ts ms (λ u n has r. same u n (contains-more t u ts has) r) zip.1 in
      ap (λ a. a ∷ map f ts) here ∙ ap (λ l. g m ∷ l) rest

  -- what stands in the second list stands beside one of the first
  pub zip-from : (ts : List T) (ms : List M) (m : M) → AllZip R ts ms → Contains ms m → (t : T) × Contains ts t × R t m
  zip-from [] [] m zip has = absurd (omega (arith, has.1))
  zip-from [] (n ∷ ms) m zip has = absurd zip
  zip-from (t ∷ ts) [] m zip has = absurd zip
  zip-from (t ∷ ts) (n ∷ ms) m zip has =
      ⊎_elim (λ (e : n ≡ m). (t, contains-first t ts, subst (R t) e zip.0))
      (λ (h : Contains ms m). let more = zip-from ts ms m zip.1 h in (more.0, contains-more t more.0 ts more.1, more.2)) (contains-cases n m ms has)

  -- nothing stands beside nothing
  pub zip-none : (ts : List T) (ms : List M) → ((t : T) → Contains ts t → ⊥) → AllZip R ts ms → ms ≡ []
  zip-none [] [] never zip = refl
  zip-none [] (m ∷ ms) never zip = absurd zip
  zip-none (t ∷ ts) ms never zip = absurd (never t (contains-first t ts))

-- a member that passes stands among those that pass
pub contains-filter : {A : Type 0} (p : A → Bool) (xs : List A) (z : A) → Contains xs z → p z ≡ true → Contains (filter p xs) z
contains-filter p [] z has passes = absurd (omega (arith, has.1))
contains-filter {A} p (x ∷ xs) z has passes = at (λ (h : Contains xs z). contains-filter p xs z h passes) (p x) refl where
  at : (Contains xs z → Contains (filter p xs) z) → (b : Bool) → p x ≡ b → Contains (cond b (x ∷ filter p xs) (filter p xs)) z
  at rest true is =
      ⊎_elim (λ (e : x ≡ z). subst (Contains (x ∷ filter p xs)) e (contains-first x (filter p xs)))
      (λ (h : Contains xs z). contains-more x z (filter p xs) (rest h)) (contains-cases x z xs has)
  at rest false is =
      ⊎_elim (λ (e : x ≡ z). let other : p z ≡ false = ap p (sym e) ∙ is in absurd (cc)) rest (contains-cases x z xs has)

-- what passes both tests passes the one that is both
pub filter-filter : {A : Type 0} (p q r : A → Bool) → ((x : A) → (q x && p x) ≡ r x) → (xs : List A) → filter p (filter q xs) ≡ filter r xs
filter-filter p q r both [] = refl
filter-filter p q r both (x ∷ xs) = at (filter-filter p q r both xs) (q x) (p x) refl refl where
  at : filter p (filter q xs) ≡ filter r xs → (a b : Bool) → q x ≡ a → p x ≡ b → filter p (cond a (x ∷ filter q xs) (filter q xs)) ≡ cond (r x) (x ∷ filter r xs) (filter r xs)
  at rest true true first second =
      let whole : r x ≡ true = sym (both x) ∙ ap (λ a. a && p x) first ∙ second in
      ap (λ b. cond b (x ∷ filter p (filter q xs)) (filter p (filter q xs))) second ∙ ap (λ l. x ∷ l) rest
      ∙ ap (λ b. cond b (x ∷ filter r xs) (filter r xs)) (sym whole)
  at rest true false first second =
      let whole : r x ≡ false = sym (both x) ∙ ap (λ a. a && p x) first ∙ second in
      ap (λ b. cond b (x ∷ filter p (filter q xs)) (filter p (filter q xs))) second ∙ rest
      ∙ ap (λ b. cond b (x ∷ filter r xs) (filter r xs)) (sym whole)
  at rest false b first second =
      let whole : r x ≡ false = sym (both x) ∙ ap (λ a. a && p x) first in
      rest ∙ ap (λ b. cond b (x ∷ filter r xs) (filter r xs)) (sym whole)
