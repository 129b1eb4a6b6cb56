-- The words of the start are put where they stand one by one, and lists of buffers are turned to slots and back.
use Rattle.std.proofs.Common.{◌≡◌, ℕ, suc, ◌<◌, List, [], ◌∷◌, ◌++◌, map, length, refl, sym, ◌∙◌, ap, inl, inr, arith}
use Rattle.std.specs.Prelude.{Some, None, Option, slice_set}
use Rattle.std.proofs.lemmas.Bool.{cases_eq, cases_lt}
use Rattle.std.proofs.lemmas.List.{length-set, get_or-set_same, get_or-set_other}
use Rattle.scq_word.specs.declared.setup.Setup.{Setup}
use Rattle.scq_core.specs.Exports.{Location, read, start_cells}
use Rattle.scq_band.specs.Slots.{SlotStanding}
use Rattle.scq_band.specs.Exports.{ring_at, IsLocation, number_in_ring, gate_word, at, full_slot, lifted, AllLaid, WordsAreOpened}
use Rattle.scq_band.proofs.Layouts.{same_number, at_low, at_some, at_apart}

-- where a word stands, there is room for one
pub stands_low : (c : Setup) (words : List ℕ) (r o i : ℕ) (l : Location) → WordsAreOpened c words r o → IsLocation c l → i ≡ at c l → i < length words
stands_low c words r o i l before here at_l = let low = at_low c l here in let many = before.count in omega (arith, low, at_l, many)

-- one word more is put where it stands
pub opens_next : (c : Setup) (words : List ℕ) (r o i x : ℕ) (l : Location) → WordsAreOpened c words r o → IsLocation c l → ring_at l ≡ r → number_in_ring l ≡ o
    → i ≡ at c l → x ≡ read (start_cells c []) l → WordsAreOpened c (slice_set words i x) r (suc o)
opens_next c words r o i x l before here ring offset at_l is =
    rw at_l (record {
      count = length-set words (at c l) x ∙ before.count;
      gate = get_or-set_other words (at c l) gate_word x 0 (λ e. at_some c l (sym e)) ∙ before.gate;
      shows =
          λ k there past.
          elim (cases_eq (at c k) (at c l)) [
            | inl same ↦
                rw (at_apart c k l there here same) (get_or-set_same words (at c l) x 0 (rw before.count (at_low c l here)) ∙ is)
            | inr apart ↦
                get_or-set_other words (at c l) (at c k) x 0 apart
                ∙ before.shows k there (elim past [
                  | inl lower ↦ inl lower
                  | inr near ↦
                      inr (
                        near.0,
                        elim (cases_lt (number_in_ring k) o) [
                          | inl low ↦ low
                          | inr high ↦
                              let last : number_in_ring k ≡ number_in_ring l = let less = near.1 in omega (arith, less, high, offset) in
                              absurd (apart (ap (at c) (same_number k l (near.0 ∙ sym ring) last)))
                        ],
                      )
                ])
          ];
    })

module _ {B : Type 0} where
  pub all_laid : (bs : List B) → AllLaid (map full_slot bs)
  all_laid [] = tt
  all_laid (b ∷ bs) = ((b, refl), all_laid bs)

  pub lifted-laid : (bs : List B) → lifted (map full_slot bs) ≡ bs
  lifted-laid [] = refl
  lifted-laid (b ∷ bs) = ap (λ (xs : List B). b ∷ xs) (lifted-laid bs)

  pub laid-prefix : (xs ys : List (SlotStanding B)) → AllLaid (xs ++ ys) → AllLaid xs
  laid-prefix [] ys all = tt
  laid-prefix (x ∷ xs) ys all = (all.0, laid-prefix xs ys all.1)

  pub laid-last : (xs : List (SlotStanding B)) (x : SlotStanding B) → AllLaid (xs ++ x ∷ []) → (b : B) × (x.buffer ≡ Some b)
  laid-last [] x all = all.0
  laid-last (y ∷ ys) x all = laid-last ys x all.1

  -- the last of slots that are all laid has a buffer
  pub lifted-snoc : (xs : List (SlotStanding B)) (x : SlotStanding B) (b : B) → x.buffer ≡ Some b → lifted (xs ++ x ∷ []) ≡ lifted xs ++ b ∷ []
  lifted-snoc [] x b is = one x.buffer b is
    where
      one : (o : Option B) (b : B) → o ≡ Some b → lifted (record { buffer = o } ∷ []) ≡ b ∷ []
      one (Some y) b is = let same : y ≡ b = cc in ap (λ (z : B). z ∷ []) same
      one None b is = absurd (cc)
  lifted-snoc (y ∷ ys) x b is = more y.buffer (lifted-snoc ys x b is)
    where
      more : (o : Option B) → lifted (ys ++ x ∷ []) ≡ lifted ys ++ b ∷ []
          → lifted (record { buffer = o } ∷ ys ++ x ∷ []) ≡ lifted (record { buffer = o } ∷ ys) ++ b ∷ []
      more (Some z) rest = ap (λ (zs : List B). z ∷ zs) rest
      more None rest = rest
