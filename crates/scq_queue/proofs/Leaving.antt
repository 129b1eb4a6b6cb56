-- A seat whose values are laid down, from that of the last index on: those that still stand in the list are out.
use Rattle.std.proofs.Common.{◌≡◌, ◌≢◌, ℕ, zero, suc, List, [], ◌∷◌, ◌++◌, length, refl, sym, ◌∙◌, ap, subst, inl, inr, arith, eq-eqb, ne_eqb}
use Rattle.std.specs.Prelude.{Option, Some, None, slice_get}
use Rattle.std.proofs.lemmas.Bool.{cases_eq}
use Rattle.scq_band.specs.Exports.{Identity, in_hand, with_buffer}
use Rattle.scq_band.specs.Standing.{Standing}
use Rattle.scq_queue.specs.Exports.{HeldStanding, IsHeldBy, AreLifted, pass_over}
use Rattle.scq_queue.proofs.HeldValues.{value_lifted}

-- a list and its last
pub get_before : {A : Type 0} (xs : List A) (y x : A) (i : ℕ) → slice_get xs i ≡ Some x → slice_get (xs ++ y ∷ []) i ≡ Some x
get_before [] y x i is = absurd (cc)
get_before (z ∷ zs) y x zero is = is
get_before (z ∷ zs) y x (suc i) is = get_before zs y x i is

pub get_last : {A : Type 0} (xs : List A) (y : A) → slice_get (xs ++ y ∷ []) (length xs) ≡ Some y
get_last [] y = refl
get_last (z ∷ zs) y = get_last zs y

pub not_last : {A : Type 0} (xs : List A) (x : A) (i : ℕ) → slice_get xs i ≡ Some x → i ≢ length xs
not_last [] x i is e = cc
not_last (z ∷ zs) x zero is e = omega (arith, e)
not_last (z ∷ zs) x (suc i) is e = not_last zs x i is (omega (arith, e))

module _ {B : Type 0} where
  -- a hand in which another buffer was laid
  laid_other : (hand : List (ℕ × Option B)) (i j : ℕ) (b : Option B) → i ≢ j → in_hand (with_buffer j b hand) i ≡ in_hand hand i
  laid_other [] i j b other = refl
  laid_other (x ∷ xs) i j b other =
      elim (cases_eq x.0 j) [
        | inl same ↦
            let apart : x.0 ≢ i = λ e. other (sym e ∙ same) in
            rw (eq-eqb x.0 j same) (rw (ne_eqb x.0 i apart) (laid_other xs i j b other))
        | inr differs ↦
            elim (cases_eq x.0 i) [
              | inl here ↦ rw (ne_eqb x.0 j differs) (rw (eq-eqb x.0 i here) refl)
              | inr there ↦ rw (ne_eqb x.0 j differs) (rw (ne_eqb x.0 i there) (laid_other xs i j b other))
            ]
      ]

  -- the seat is of the queue, and has each of these values out, which stands at its index
  pub record AreOut (queue : Identity B) (s : Standing B) (held : List (Option (HeldStanding B))) : Type 0 where
    pub own : s.band ≡ queue
    pub index : (i : ℕ) (h : HeldStanding B) → slice_get held i ≡ Some (Some h) → h.index ≡ i
    pub queue_of : (i : ℕ) (h : HeldStanding B) → slice_get held i ≡ Some (Some h) → h.queue ≡ queue
    pub out : (i : ℕ) (h : HeldStanding B) → slice_get held i ≡ Some (Some h) → in_hand s.hand i ≡ Some None

  pub out_first : (queue : Identity B) (s : Standing B) (fulls : List ℕ) (held : List (Option (HeldStanding B))) → s.band ≡ queue → AreLifted s
      → ((i : ℕ) (h : HeldStanding B) → slice_get held i ≡ Some (Some h) → (h.index ≡ i) × IsHeldBy (pass_over s fulls) h) → AreOut queue s held
  out_first queue s fulls held own lifted all =
      record {
        own = own;
        index = λ i h at. (all i h at).0;
        queue_of = λ i h at. (all i h at).1.queue ∙ own;
        out =
            λ i h at.
            subst (λ (j : ℕ). in_hand s.hand j ≡ Some None) (all i h at).0 (value_lifted s fulls h lifted (all i h at).1);
      }

  -- the last place has no value
  pub out_before : (queue : Identity B) (s : Standing B) (held : List (Option (HeldStanding B))) → AreOut queue s (held ++ None ∷ []) → AreOut queue s held
  out_before queue s held were =
      record {
        own = were.own;
        index = λ i h at. were.index i h (get_before held None (Some h) i at);
        queue_of = λ i h at. were.queue_of i h (get_before held None (Some h) i at);
        out = λ i h at. were.out i h (get_before held None (Some h) i at);
      }

  -- the last value is out, and was laid down
  pub last_out : (queue : Identity B) (s : Standing B) (held : List (Option (HeldStanding B))) (v : HeldStanding B) → AreOut queue s (held ++ Some v ∷ [])
      → (v.queue ≡ s.band) × (in_hand s.hand v.index ≡ Some None)
  last_out queue s held v were =
      let at = get_last held (Some v) in (
        were.queue_of (length held) v at ∙ sym were.own,
        subst (λ (j : ℕ). in_hand s.hand j ≡ Some None) (sym (were.index (length held) v at)) (were.out (length held) v at),
      )

  pub out_laid : (queue : Identity B) (s later : Standing B) (held : List (Option (HeldStanding B))) (v : HeldStanding B) → AreOut queue s (held ++ Some v ∷ [])
      → later ≡ record s { hand = with_buffer v.index (Some v.buffer) s.hand } → AreOut queue later held
  out_laid queue s later held v were is =
      record {
        own = ap (λ (t : Standing B). t.band) is ∙ were.own;
        index = λ i h at. were.index i h (get_before held (Some v) (Some h) i at);
        queue_of = λ i h at. were.queue_of i h (get_before held (Some v) (Some h) i at);
        out =
            λ i h at.
            ap (λ (t : Standing B). in_hand t.hand i) is
            ∙ laid_other s.hand i v.index (Some v.buffer)
            (λ e. not_last held (Some h) i at (e ∙ were.index (length held) v (get_last held (Some v))))
            ∙ were.out i h (get_before held (Some v) (Some h) i at);
      }
