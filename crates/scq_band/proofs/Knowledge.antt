-- What a view knows of the rings stays true, and what a turn tells of them is true. Plan: numbers stay true since counters
-- rise and finished places stay; then one case for each turn that tells something.
use Rattle.std.proofs.Common.{◌≡◌, ◌≢◌, ◌⊎◌, ℕ, zero, suc, ◌<◌, ◌≤◌, List, [], ◌∷◌, length, refl, sym, ap, subst, inl, inr, arith}
use Rattle.std.specs.Prelude.{Some, max, slice_get, slice_set}
use Rattle.std.proofs.lemmas.Bool.{cases_lt}
use Rattle.std.proofs.Math.Nat.{max-eq_left, max-eq_right}
use Rattle.scq_word.specs.declared.setup.Setup.{Setup}
use Rattle.scq_core.specs.Machine.{Machine}
use Rattle.scq_core.specs.Exports.{CountersRise}
use Rattle.scq_law.specs.Exports.{IsFinished}
use Rattle.scq_band.specs.declared.numbers.Numbers.{Numbers}
use Rattle.scq_band.specs.Exports.{before_places, IsTrue, known_of, changed, finishes, sees, passes}

-- all that a list of numbers says of the rings is true
abbrev pub AllTrue : Setup → Machine → List Numbers → Type 0
AllTrue c m numbers = (r : ℕ) (x : Numbers) → slice_get numbers r ≡ Some x → IsTrue c m r x

-- finished places stay finished from one state to another
abbrev pub FinishedStay : Setup → Machine → Machine → Type 0
FinishedStay c m n = (r p : ℕ) → IsFinished c m r p → IsFinished c n r p

either_stays : (c : Setup) (m n : Machine) (r p : ℕ) → FinishedStay c m n → (p ≡ before_places c r) ⊎ IsFinished c m r p
    → (p ≡ before_places c r) ⊎ IsFinished c n r p
either_stays c m n r p stay (inl low) = inl low
either_stays c m n r p stay (inr done) = inr (stay r p done)

-- a true number stays true
pub true_stays : (c : Setup) (m n : Machine) (r : ℕ) (x : Numbers) → CountersRise m.cells n.cells → FinishedStay c m n → IsTrue c m r x → IsTrue c n r x
true_stays c m n r x up stay t =
    record {
      finished = either_stays c m n r x.finished stay t.finished;
      order = t.order;
      seen = let le = up.tail r in let lt = t.seen in omega arith;
      head = let le = up.head r in let ok = t.head in omega arith;
    }

pub all_stay : (c : Setup) (m n : Machine) (numbers : List Numbers) → CountersRise m.cells n.cells → FinishedStay c m n → AllTrue c m numbers
    → AllTrue c n numbers
all_stay c m n numbers up stay all r x e = true_stays c m n r x up stay (all r x e)

set_read : {A : Type 0} → (xs : List A) (q r : ℕ) (a x : A) → slice_get (slice_set xs q a) r ≡ Some x
    → ((r ≡ q) × (q < length xs) × (x ≡ a)) ⊎ ((r ≢ q) × (slice_get xs r ≡ Some x))
set_read [] q r a x e = absurd (cc)
set_read (y ∷ ys) zero zero a x e = inl (refl, omega arith, cc)
set_read (y ∷ ys) zero (suc r) a x e = inr ((λ h. omega arith), e)
set_read (y ∷ ys) (suc q) zero a x e = inr ((λ h. omega arith), e)
set_read (y ∷ ys) (suc q) (suc r) a x e =
    elim (set_read ys q r a x e) [
      | inl h ↦ inl (ap suc h.0, (let low = h.1 in omega arith), h.2)
      | inr h ↦ inr ((λ same. h.0 (omega arith)), h.1)
    ]

read_known : (numbers : List Numbers) (q : ℕ) → q < length numbers → slice_get numbers q ≡ Some (known_of numbers q)
read_known [] q low = absurd (omega arith)
read_known (x ∷ xs) zero low = refl
read_known (x ∷ xs) (suc q) low = read_known xs q (omega arith)

-- the numbers of one ring changed to ones that are true
pub changed_true : (c : Setup) (m : Machine) (f : Numbers → Numbers) (q : ℕ) (numbers : List Numbers) → AllTrue c m numbers
    → ((x : Numbers) → IsTrue c m q x → IsTrue c m q (f x)) → AllTrue c m (changed f q numbers)
changed_true c m f q numbers all new r x e =
    elim (set_read numbers q r (f (known_of numbers q)) x e) [
      | inl h ↦ rw (h.2, h.0) (new (known_of numbers q) (all q (known_of numbers q) (read_known numbers q h.1)))
      | inr h ↦ all r x h.1
    ]

-- a put that has ended at a place below Tail
pub finishes_true : (c : Setup) (m : Machine) (r p : ℕ) (x : Numbers) → IsFinished c m r p → p < m.cells.tail r → IsTrue c m r x → IsTrue c m r (finishes p x)
finishes_true c m r p x done low t =
    record {
      finished = higher (λ (n : ℕ). (n ≡ before_places c r) ⊎ IsFinished c m r n) x.finished p t.finished (inr done);
      order = let o = t.order in omega arith;
      seen = let s = t.seen in omega arith;
      head = t.head;
    }
  where
    higher : (P : ℕ → Type 0) (a b : ℕ) → P a → P b → P (max a b)
    higher P a b one other =
        elim (cases_lt a b) [
          | inl low ↦ subst P (sym (max-eq_right (omega arith))) other
          | inr high ↦ subst P (sym (max-eq_left high)) one
        ]

pub sees_true : (c : Setup) (m : Machine) (r p : ℕ) (x : Numbers) → p < m.cells.tail r → IsTrue c m r x → IsTrue c m r (sees p x)
sees_true c m r p x low t =
    record { finished = t.finished; order = let o = t.order in omega arith; seen = let s = t.seen in omega arith; head = t.head }

pub passes_true : (c : Setup) (m : Machine) (r h : ℕ) (x : Numbers) → h ≤ m.cells.head r → IsTrue c m r x → IsTrue c m r (passes h x)
passes_true c m r h x low t =
    record { finished = t.finished; order = t.order; seen = t.seen; head = let s = t.head in omega arith }
