-- A word that is written in the table is its location written in the machine's cells, and leaves the gate and all other words.
use Rattle.std.proofs.Common.{◌≡◌, ◌≢◌, ℕ, List, refl, sym, ◌∙◌, ap, inl, inr}
use Rattle.std.specs.Prelude.{slice_index, slice_set}
use Rattle.std.proofs.lemmas.List.{length-set, get_or-set_same, get_or-set_other}
use Rattle.std.proofs.lemmas.Bool.{cases_eq}
use Rattle.scq_word.specs.declared.setup.Setup.{Setup}
use Rattle.scq_core.specs.Exports.{Cells, Location, tail_of, head_of, threshold_of, entry_of, read, written}
use Rattle.scq_core.proofs.UpdatedLemmas.{updated_here, updated_else, updated_entry_here, updated_entry_or}
use Rattle.scq_band.specs.Exports.{at, IsLocation, ShowsWords}
use Rattle.scq_band.proofs.Layouts.{at_low, at_some, at_apart}

-- what was written is read
pub read_here : (m : Cells) (l : Location) (x : ℕ) (y : List ℕ) → read (written m l x y) l ≡ x
read_here m (tail_of r) x y = updated_here m.tail r x
read_here m (head_of r) x y = updated_here m.head r x
read_here m (threshold_of r) x y = updated_here m.threshold r x
read_here m (entry_of r s) x y = updated_entry_here m.entries.word r s x

-- elsewhere is read what was read before
pub read_else : (m : Cells) (l k : Location) (x : ℕ) (y : List ℕ) → k ≢ l → read (written m l x y) k ≡ read m k
read_else m (tail_of r) (tail_of q) x y apart = updated_else m.tail r x q (λ e. apart (ap tail_of e))
read_else m (tail_of r) (head_of q) x y apart = refl
read_else m (tail_of r) (threshold_of q) x y apart = refl
read_else m (tail_of r) (entry_of q z) x y apart = refl
read_else m (head_of r) (tail_of q) x y apart = refl
read_else m (head_of r) (head_of q) x y apart = updated_else m.head r x q (λ e. apart (ap head_of e))
read_else m (head_of r) (threshold_of q) x y apart = refl
read_else m (head_of r) (entry_of q z) x y apart = refl
read_else m (threshold_of r) (tail_of q) x y apart = refl
read_else m (threshold_of r) (head_of q) x y apart = refl
read_else m (threshold_of r) (threshold_of q) x y apart = updated_else m.threshold r x q (λ e. apart (ap threshold_of e))
read_else m (threshold_of r) (entry_of q z) x y apart = refl
read_else m (entry_of r s) (tail_of q) x y apart = refl
read_else m (entry_of r s) (head_of q) x y apart = refl
read_else m (entry_of r s) (threshold_of q) x y apart = refl
read_else m (entry_of r s) (entry_of q z) x y apart =
    elim (updated_entry_or m.entries.word r s x q z) [
      | inl h ↦ absurd (apart (ap (λ i. entry_of i z) h.0 ∙ ap (entry_of r) h.1))
      | inr h ↦ h.1
    ]

-- the table shows the cells with one word written
pub written_shown : (c : Setup) (words : List ℕ) (m : Cells) (l : Location) (x : ℕ) (y : List ℕ) → IsLocation c l → ShowsWords c words m
    → ShowsWords c (slice_set words (at c l) x) (written m l x y)
written_shown c words m l x y here s =
    record {
      count = length-set words (at c l) x ∙ s.count;
      shows =
          λ k there.
          elim (cases_eq (at c k) (at c l)) [
            | inl same ↦
                let one = at_apart c k l there here same in
                rw (one) (get_or-set_same words (at c l) x 0 (rw (s.count) (at_low c l here)) ∙ sym (read_here m l x y))
            | inr apart ↦
                get_or-set_other words (at c l) (at c k) x 0 apart ∙ s.shows k there
                ∙ sym (read_else m l k x y (λ e. apart (ap (at c) e)))
          ];
    }

-- the gate stays
pub gate_kept : (c : Setup) (words : List ℕ) (l : Location) (x : ℕ) → slice_index (slice_set words (at c l) x) 0 ≡ slice_index words 0
gate_kept c words l x = get_or-set_other words (at c l) 0 x 0 (λ e. at_some c l (sym e))

-- and a gate that is written leaves the cells
pub gate_shown : (c : Setup) (words : List ℕ) (m : Cells) (x : ℕ) → ShowsWords c words m → ShowsWords c (slice_set words 0 x) m
gate_shown c words m x s =
    record {
      count = length-set words 0 x ∙ s.count;
      shows = λ k there. get_or-set_other words 0 (at c k) x 0 (at_some c k) ∙ s.shows k there;
    }
