-- A buffer that was lifted is laid in the first slot and put, or lifted again where the put is refused.
use Rattle.std.proofs.Common.{◌≡◌, ℕ, List, [], ◌∷◌, refl, sym, ◌∙◌, ap, subst, inl, inr, eq-eqb, ne_eqb}
use Rattle.std.specs.Prelude.{Some, None, Option}
use Rattle.std.proofs.lemmas.Bool.{cases_eq}
use Rattle.atomic_table.specs.Table.{Me, rest}
use Rattle.scq_band.specs.Exports.{Seen, in_hand, laid_bytes, bytes_in_hand, with_buffer, without_index, having_seen, seat_after_put, IsAsGiven}
use Rattle.scq_band.specs.Slots.{SlotStanding}
use Rattle.scq_band.specs.Known.{Known}
use Rattle.scq_band.specs.Standing.{Standing}
use Rattle.scq_band.proofs.Exchanging.{Brought}

module _ {B : Type 0} where
  -- what is laid in a hand is in it
  pub laid_there : (hand : List (ℕ × Option B)) (i : ℕ) (old new : Option B) → in_hand hand i ≡ Some old → in_hand (with_buffer i new hand) i ≡ Some new
  laid_there [] i old new is = absurd (cc)
  laid_there (x ∷ xs) i old new is =
      elim (cases_eq x.0 i) [
        | inl same ↦ rw (eq-eqb x.0 i same) (rw (eq-eqb x.0 i same) refl)
        | inr other ↦
            let rest : in_hand xs i ≡ Some old = rw (ne_eqb x.0 i other) at is in
            rw (ne_eqb x.0 i other) (rw (ne_eqb x.0 i other) (laid_there xs i old new rest))
      ]

  -- and leaves no trace in the hand without it
  laid_gone : (hand : List (ℕ × Option B)) (i : ℕ) (new : Option B) → without_index i (with_buffer i new hand) ≡ without_index i hand
  laid_gone [] i new = refl
  laid_gone (x ∷ xs) i new =
      elim (cases_eq x.0 i) [
        | inl same ↦ rw (eq-eqb x.0 i same) (rw (eq-eqb x.0 i same) (laid_gone xs i new))
        | inr other ↦ rw (ne_eqb x.0 i other) (rw (ne_eqb x.0 i other) (ap (λ (l : List (ℕ × Option B)). x ∷ l) (laid_gone xs i new)))
      ]

  -- a seat whose buffer was laid and put is one that put it
  pub put_laid : (contents : B → List ℕ) (gs : Seen) (s : Standing B) (r i p : ℕ) (b : B) → in_hand s.hand i ≡ Some None
      → having_seen gs (seat_after_put r i p (bytes_in_hand contents (with_buffer i (Some b) s.hand) i) (record s { hand = with_buffer i (Some b) s.hand }))
      ≡ having_seen gs (seat_after_put r i p (contents b) s)
  put_laid contents gs s r i p b lifted =
      let laid = with_buffer i (Some b) s.hand in
      let bytes : bytes_in_hand contents laid i ≡ contents b = ap (laid_bytes contents) (laid_there s.hand i None (Some b) lifted) in
      ap (λ (w : List ℕ). having_seen gs (seat_after_put r i p w (record s { hand = laid }))) bytes
      ∙ ap (λ (h : List (ℕ × Option B)). having_seen gs (record (seat_after_put r i p (contents b) s) { hand = h })) (laid_gone s.hand i (Some b))

  -- the slot in which the buffer is laid stands first
  pub laid_brought : (IsSame : B → B → Type 0) (given : List B) (me : Me (SlotStanding B) Known) (others : List (ℕ × SlotStanding B)) (i : ℕ) (b : B)
      → me.1 ≡ (i, record { buffer = Some b }) ∷ others → IsAsGiven IsSame given i b → Brought IsSame me given me.1 i (Some b)
  laid_brought IsSame given me others i b is same =
      record {
        slot = record { buffer = Some b };
        others = others;
        is = is;
        has = refl;
        same = λ j. refl;
        given_so = λ x its. let it : b ≡ x = cc in subst (λ (y : B). IsAsGiven IsSame given i y) it same;
      }

  -- lifted again, it leaves the slots as they were
  pub lifted_again : (IsSame : B → B → Type 0) (me : Me (SlotStanding B) Known) (given : List B) (ms : List (ℕ × SlotStanding B)) (i : ℕ) → Brought IsSame me given ms i None
      → (i, record { buffer = None }) ∷ rest ms ≡ ms
  lifted_again IsSame me given ms i b =
      ap (λ (l : List (ℕ × SlotStanding B)). (i, record { buffer = None }) ∷ l) (ap rest b.is)
      ∙ ap (λ (o : Option B). (i, record { buffer = o }) ∷ b.others) (sym b.has) ∙ sym b.is
