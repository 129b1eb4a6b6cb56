-- The indices that are left in a ring are counted in its words, slot by slot.
use Rattle.std.proofs.Common.{◌≡◌, ℕ, suc, ◌+◌, ◌<◌, List, length, refl, sym, ◌∙◌, ap, subst, inl, inr, arith}
use Rattle.std.specs.Prelude.{Option, is_some, if◌then◌else◌, slice_index}
use Rattle.std.proofs.lemmas.Bool.{cases_Bool}
use mathlib.Core.Option.{some}
use lib.ListN.{get_elem?}
use Rattle.scq_word.specs.declared.setup.Setup.{Setup}
use Rattle.scq_word.specs.Exports.{is_none_in, index_unless_mark, IsIndexOrMark}
use Rattle.scq_core.specs.Exports.{Cells, entry_of, ring_slots}
use Rattle.scq_core.proofs.Indices.{HasIndices}
use Rattle.scq_law.specs.Exports.{has_index, left_in, sum_to}
use Rattle.scq_law.proofs.Balance.Sums.{sum_same}
use Rattle.scq_band.specs.Exports.{at, ShowsWords}
use Rattle.scq_band.proofs.Layouts.{at_low}
use Rattle.scq_band.proofs.Unloading.{read_word}

-- whether an index stands in the word of a slot
abbrev pub index_count : Setup → List ℕ → ℕ → ℕ → ℕ
index_count c words r s = has_index c (slice_index words (at c (entry_of r s)))

-- the word that is read has an index or the mark
pub word_has : (c : Setup) (words : List ℕ) (r s i x : ℕ) → i ≡ at c (entry_of r s) → get_elem? words i ≡ some x → r < c.rings → s < ring_slots c
    → (m : Cells) × ShowsWords c words m × HasIndices c m → IsIndexOrMark c.order x
word_has c words r s i x at_slot here ring low shows =
    let is : x ≡ shows.0.entries.word r s =
    sym (read_word words i x here) ∙ ap (slice_index words) at_slot ∙ shows.1.shows (entry_of r s) (ring, low) in
    subst (λ (w : ℕ). IsIndexOrMark c.order w) (sym is) (shows.2.entries r s)

-- what one word counts
counts_one : (c : Setup) (x : ℕ) (o : Option ℕ) → o ≡ index_unless_mark c.order x → has_index c x ≡ (if is_some o then 1 else 0)
counts_one c x o is =
    rw is (elim (cases_Bool (is_none_in (ring_slots c) x)) [ inl t ↦ rw t refl | inr f ↦ rw f refl ])

pub counts_next : (c : Setup) (words : List ℕ) (r s i x left later : ℕ) (o : Option ℕ) → i ≡ at c (entry_of r s) → get_elem? words i ≡ some x
    → o ≡ index_unless_mark c.order x → left ≡ sum_to (index_count c words r) s → later ≡ left + (if is_some o then 1 else 0)
    → later ≡ sum_to (index_count c words r) (s + 1)
counts_next c words r s i x left later o at_slot here is before now =
    let word : slice_index words (at c (entry_of r s)) ≡ x = ap (slice_index words) (sym at_slot) ∙ read_word words i x here in
    let one : index_count c words r s ≡ (if is_some o then 1 else 0) = ap (has_index c) word ∙ counts_one c x o is in
    let sums : later ≡ sum_to (index_count c words r) (suc s) = omega (arith, before, now, one) in
    sums ∙ ap (sum_to (index_count c words r)) (let next : suc s ≡ s + 1 = omega arith in next)

-- what all words of a ring count
pub counts_all : (c : Setup) (words : List ℕ) (m : Cells) (r left : ℕ) → ShowsWords c words m → r < c.rings
    → left ≡ sum_to (index_count c words r) (ring_slots c) → left ≡ left_in c m r
counts_all c words m r left shows ring is =
    is ∙ sum_same (λ s. has_index c (m.entries.word r s)) (index_count c words r) (ring_slots c)
    (λ s low. ap (has_index c) (shows.shows (entry_of r s) (ring, low)))

-- and it is one of the table's
pub slot_word_low : (c : Setup) (words : List ℕ) (r s i n : ℕ) → i ≡ at c (entry_of r s) → r < c.rings → s < ring_slots c → n ≡ length words
    → (m : Cells) × ShowsWords c words m × HasIndices c m → i < n
slot_word_low c words r s i n at_slot ring low many shows =
    let below = at_low c (entry_of r s) (ring, low) in omega (arith, at_slot, below, many, shows.1.count)
