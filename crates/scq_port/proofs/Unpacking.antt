-- The values of a pass that leaves, put behind others from the last place on.
use Rattle.std.proofs.Common.{◌≡◌, ◌≢◌, ℕ, zero, suc, ◌+◌, List, [], ◌∷◌, ◌++◌, length, refl, sym, ◌∙◌, ap, subst, inl, inr, arith, eq-eqb, ne_eqb}
use Rattle.std.specs.Prelude.{◌⊎◌, Option, Some, None, slice_get}
use Rattle.std.proofs.lemmas.Bool.{cases_eq}
use Rattle.std.proofs.lemmas.List.{map-append}
use Rattle.scq_law.specs.Exports.{times}
use Rattle.scq_band.proofs.Slots.{times-append}
use Rattle.scq_queue.specs.Exports.{PassStanding}
use Rattle.scq_queue.proofs.Leaving.{get_before, get_last}
use Rattle.scq_port.specs.declared.port_buffer.PortBuffer.{PortBuffer}
use Rattle.scq_port.specs.Exports.{PortQueue, Value, LetsGo, StandsAt, AreAdded, indices}

-- how often a place's own value stands there: once or not at all
pub stands : Option (Option Value) → ℕ
stands None = 0
stands (Some None) = 0
stands (Some (Some h)) = 1

abbrev OfQueue : PortQueue → List Value → Type 0
OfQueue queue values = (k : ℕ) (h : Value) → slice_get values k ≡ Some h → h.queue ≡ queue

-- the values that don't stand in these places any more were put behind others
pub record Unpacks (queue : PortQueue) (p : PassStanding PortBuffer) (before : List Value) (slots : List (Option Value)) (after : List Value) : Type 0 where
  pub here : (i : ℕ) (h : Value) → slice_get slots i ≡ Some (Some h) → StandsAt queue p i h
  pub own : ((k : ℕ) (h : Value) → slice_get before k ≡ Some h → h.queue ≡ queue) → (k : ℕ) (h : Value) → slice_get after k ≡ Some h → h.queue ≡ queue
  pub more : (i : ℕ) → times i (indices after) + stands (slice_get slots i) ≡ times i (indices before) + times i p.held

pub unpacks_first : (queue : PortQueue) (p : PassStanding PortBuffer) (values : List Value) (slots : List (Option Value)) → LetsGo queue p slots
    → Unpacks queue p values slots values
unfolding stands
unpacks_first queue p values slots lets =
    record {
      here = lets.here;
      own = λ all. all;
      more = λ i. ap (λ (n : ℕ). times i (indices values) + n) (by i (slice_get slots i) refl);
    }
  where
    by : (i : ℕ) (x : Option (Option Value)) → slice_get slots i ≡ x → stands x ≡ times i p.held
    by i None at = sym (lets.past i at)
    by i (Some None) at = sym (lets.free i at)
    by i (Some (Some h)) at = sym (lets.here i h at).holds

-- the places but the last, and the last
beyond : {A : Type 0} (xs : List A) → slice_get xs (length xs) ≡ None
beyond [] = refl
beyond (x ∷ xs) = beyond xs

pub before_last : {A : Type 0} (xs : List A) (y : A) (i : ℕ) → i ≢ length xs → slice_get (xs ++ y ∷ []) i ≡ slice_get xs i
before_last [] y zero other = absurd (other refl)
before_last [] y (suc i) other = refl
before_last (x ∷ xs) y zero other = refl
before_last (x ∷ xs) y (suc i) other = before_last xs y i (λ e. other (ap suc e))

-- the last place has no value
pub unpacks_past : (queue : PortQueue) (p : PassStanding PortBuffer) (before after : List Value) (slots : List (Option Value))
    → Unpacks queue p before (slots ++ None ∷ []) after → Unpacks queue p before slots after
unfolding stands
unpacks_past queue p before after slots was =
    record {
      here = λ i h at. was.here i h (get_before slots None (Some h) i at);
      own = was.own;
      more = λ i. ap (λ (n : ℕ). times i (indices after) + n) (sym (same i)) ∙ was.more i;
    }
  where
    same : (i : ℕ) → stands (slice_get (slots ++ None ∷ []) i) ≡ stands (slice_get slots i)
    same i =
        elim (cases_eq i (length slots)) [
          | inl last ↦
              ap (λ (j : ℕ). stands (slice_get (slots ++ None ∷ []) j)) last ∙ ap stands (get_last slots None) ∙ sym (ap stands (beyond slots))
              ∙ ap (λ (j : ℕ). stands (slice_get slots j)) (sym last)
          | inr other ↦ ap stands (before_last slots None i other)
        ]

-- the last value was put behind the others
pub unpacks_more : (queue : PortQueue) (p : PassStanding PortBuffer) (before after next : List Value) (slots : List (Option Value)) (h : Value)
    → Unpacks queue p before (slots ++ Some h ∷ []) after → next ≡ after ++ h ∷ [] → Unpacks queue p before slots next
unfolding stands
unpacks_more queue p before after next slots h was is =
    record {
      here = λ i v at. was.here i v (get_before slots (Some h) (Some v) i at);
      own = λ all k v at. by k v all (cases_eq k (length after)) (ap (λ (l : List Value). slice_get l k) (sym is) ∙ at);
      more = λ i. let sum = was.more i in let new = came i in omega (arith, sum, new);
    }
  where
    at_last : StandsAt queue p (length slots) h
    at_last = was.here (length slots) h (get_last slots (Some h))

    by : (k : ℕ) (v : Value) → OfQueue queue before → (k ≡ length after) ⊎ (k ≢ length after) → slice_get (after ++ h ∷ []) k ≡ Some v → v.queue ≡ queue
    by k v all (inl last) at =
        let both : Some h ≡ Some v = sym (get_last after h) ∙ ap (λ (j : ℕ). slice_get (after ++ h ∷ []) j) (sym last) ∙ at in
        let same : h ≡ v = cc in
        subst (λ (u : Value). u.queue ≡ queue) same at_last.queue_of
    by k v all (inr other) at = was.own all k v (sym (before_last after h k other) ∙ at)

    both : (i : ℕ) → times i (indices next) ≡ times i (indices after) + times i (h.index ∷ [])
    both i =
        ap (λ (l : List Value). times i (indices l)) is ∙ ap (times i) (map-append (λ (v : Value). v.index) after (h ∷ []))
        ∙ times-append i (indices after) (h.index ∷ [])

    came : (i : ℕ) → times i (indices next) + stands (slice_get slots i) ≡ times i (indices after) + stands (slice_get (slots ++ Some h ∷ []) i)
    came i =
        elim (cases_eq i (length slots)) [
          | inl last ↦
              let sum = both i in
              let one : times i (h.index ∷ []) ≡ 1 = rw (eq-eqb h.index i (at_last.index ∙ sym last)) refl in
              let new : stands (slice_get (slots ++ Some h ∷ []) i) ≡ 1 =
              ap (λ (j : ℕ). stands (slice_get (slots ++ Some h ∷ []) j)) last ∙ ap stands (get_last slots (Some h)) in
              let old : stands (slice_get slots i) ≡ 0 = ap (λ (j : ℕ). stands (slice_get slots j)) last ∙ ap stands (beyond slots) in
              omega (arith, sum, one, new, old)
          | inr other ↦
              let sum = both i in
              let none : times i (h.index ∷ []) ≡ 0 = rw (ne_eqb h.index i (λ e. other (sym e ∙ at_last.index))) refl in
              let same = ap stands (before_last slots (Some h) i other) in
              omega (arith, sum, none, same)
        ]

-- no place is left
pub unpacks_all : (queue : PortQueue) (p : PassStanding PortBuffer) (before after : List Value) (slots : List (Option Value))
    → Unpacks queue p before slots after → length slots ≡ 0 → AreAdded queue p before after
unfolding stands
unpacks_all queue p before after [] was empty = record { own = was.own; more = λ i. let sum = was.more i in omega (arith, sum) }
unpacks_all queue p before after (x ∷ xs) was empty = absurd (omega (arith, empty))
