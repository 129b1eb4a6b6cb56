-- The facts of the layout, for each distance: the words of two locations are two words, none of them is the gate, all of them are the
-- table's, and hot words stand that far apart. Then the same for the table that runs.
use Rattle.std.proofs.Common.{◌≡◌, ◌≢◌, ℕ, ◌+◌, ◌-◌, ◌*◌, ◌/◌, ◌<◌, ◌≤◌, ◌∙◌, ap, inl, inr, arith}
use Rattle.std.proofs.lemmas.Bool.{cases_lt}
use Rattle.std.proofs.lemmas.Nat.{mul-add-lt, div-mul-add, same_from_place}
use Rattle.scq_word.specs.declared.setup.Setup.{Setup}
use Rattle.scq_core.specs.Exports.{Location, tail_of, head_of, threshold_of, entry_of}
use Rattle.scq_band.specs.Exports.{ring_at, IsSlotAt, IsLocation, offset_of, number_in_ring, ring_words, count_by, word_by, ring_by, gate_word, distance, word_count}
use Rattle.scq_band.specs.Exports.{at, ring_of_word, entry_offset, IsHot, StandApart, HotWordsAreApart}
use Rattle.scq_band.proofs.EntryOffsets.{entry_offset_low, entry_offset_apart}

pub offset_low : (d : ℕ) (c : Setup) (l : Location) → 1 ≤ d → IsSlotAt c l → offset_of d c l < ring_words d c
offset_low d c (tail_of r) some slot = omega arith
offset_low d c (head_of r) some slot = omega arith
offset_low d c (threshold_of r) some slot = omega arith
offset_low d c (entry_of r s) some slot = let low = entry_offset_low c.order s slot in omega (arith, low)

-- the word of a location is one of the table's
low_by : (d : ℕ) (c : Setup) (l : Location) → 1 ≤ d → IsLocation c l → word_by d c l < count_by d c
low_by d c l some here =
    let low = mul-add-lt (ring_at l) (ring_words d c) (offset_of d c l) c.rings here.0 (offset_low d c l some here.1) in omega arith

-- in one ring two offsets are the same only where the locations are
same_offset : (d : ℕ) (c : Setup) (l k : Location) → 1 ≤ d → IsSlotAt c l → IsSlotAt c k → ring_at l ≡ ring_at k → offset_of d c l ≡ offset_of d c k → l ≡ k
same_offset d c (tail_of r) (tail_of q) some here there ring offset = ap tail_of ring
same_offset d c (tail_of r) (head_of q) some here there ring offset = absurd (omega (arith, some, offset))
same_offset d c (tail_of r) (threshold_of q) some here there ring offset = absurd (omega (arith, some, offset))
same_offset d c (tail_of r) (entry_of q z) some here there ring offset = absurd (omega (arith, some, offset))
same_offset d c (head_of r) (tail_of q) some here there ring offset = absurd (omega (arith, some, offset))
same_offset d c (head_of r) (head_of q) some here there ring offset = ap head_of ring
same_offset d c (head_of r) (threshold_of q) some here there ring offset = absurd (omega (arith, some, offset))
same_offset d c (head_of r) (entry_of q z) some here there ring offset = absurd (omega (arith, some, offset))
same_offset d c (threshold_of r) (tail_of q) some here there ring offset = absurd (omega (arith, some, offset))
same_offset d c (threshold_of r) (head_of q) some here there ring offset = absurd (omega (arith, some, offset))
same_offset d c (threshold_of r) (threshold_of q) some here there ring offset = ap threshold_of ring
same_offset d c (threshold_of r) (entry_of q z) some here there ring offset = absurd (omega (arith, some, offset))
same_offset d c (entry_of r s) (tail_of q) some here there ring offset = absurd (omega (arith, some, offset))
same_offset d c (entry_of r s) (head_of q) some here there ring offset = absurd (omega (arith, some, offset))
same_offset d c (entry_of r s) (threshold_of q) some here there ring offset = absurd (omega (arith, some, offset))
same_offset d c (entry_of r s) (entry_of q z) some here there ring offset =
    let same : entry_offset c.order s ≡ entry_offset c.order z = omega (arith, offset) in
    let slot = entry_offset_apart c.order s z here there same in
    ap (λ i. entry_of i s) ring ∙ ap (entry_of q) slot

-- likewise their numbers
pub same_number : (l k : Location) → ring_at l ≡ ring_at k → number_in_ring l ≡ number_in_ring k → l ≡ k
same_number (tail_of r) (tail_of q) ring offset = ap tail_of ring
same_number (tail_of r) (head_of q) ring offset = absurd (omega (arith, offset))
same_number (tail_of r) (threshold_of q) ring offset = absurd (omega (arith, offset))
same_number (tail_of r) (entry_of q z) ring offset = absurd (omega (arith, offset))
same_number (head_of r) (tail_of q) ring offset = absurd (omega (arith, offset))
same_number (head_of r) (head_of q) ring offset = ap head_of ring
same_number (head_of r) (threshold_of q) ring offset = absurd (omega (arith, offset))
same_number (head_of r) (entry_of q z) ring offset = absurd (omega (arith, offset))
same_number (threshold_of r) (tail_of q) ring offset = absurd (omega (arith, offset))
same_number (threshold_of r) (head_of q) ring offset = absurd (omega (arith, offset))
same_number (threshold_of r) (threshold_of q) ring offset = ap threshold_of ring
same_number (threshold_of r) (entry_of q z) ring offset = absurd (omega (arith, offset))
same_number (entry_of r s) (tail_of q) ring offset = absurd (omega (arith, offset))
same_number (entry_of r s) (head_of q) ring offset = absurd (omega (arith, offset))
same_number (entry_of r s) (threshold_of q) ring offset = absurd (omega (arith, offset))
same_number (entry_of r s) (entry_of q z) ring offset =
    let slot : s ≡ z = omega (arith, offset) in ap (λ i. entry_of i s) ring ∙ ap (entry_of q) slot

-- two locations of one word are one
apart_by : (d : ℕ) (c : Setup) (l k : Location) → 1 ≤ d → IsLocation c l → IsLocation c k → word_by d c l ≡ word_by d c k → l ≡ k
apart_by d c l k some here there e =
    let same : (ring_at l * ring_words d c + offset_of d c l) ≡ (ring_at k * ring_words d c + offset_of d c k) = omega (arith, e) in
    let both = same_from_place (ring_at l) (offset_of d c l) (ring_at k) (offset_of d c k) (ring_words d c) (offset_low d c l some here.1)
    (offset_low d c k some there.1) same in
    same_offset d c l k some here.1 there.1 both.0 both.1

-- the ring of its word
ring_by-word : (d : ℕ) (c : Setup) (l : Location) → 1 ≤ d → IsLocation c l → ring_by d c (word_by d c l) ≡ ring_at l
ring_by-word d c l some here =
    let rest : word_by d c l - d ≡ ring_at l * ring_words d c + offset_of d c l = omega arith in
    ap (λ w. w / ring_words d c) rest ∙ div-mul-add (ring_at l) (ring_words d c) (offset_of d c l) (offset_low d c l some here.1)

-- Tail of the next ring is that far from the last word of a ring
offset_far : (d : ℕ) (c : Setup) (k : Location) → IsSlotAt c k → offset_of d c k + d ≤ ring_words d c
offset_far d c (tail_of r) slot = omega arith
offset_far d c (head_of r) slot = omega arith
offset_far d c (threshold_of r) slot = omega arith
offset_far d c (entry_of r s) slot = let low = entry_offset_low c.order s slot in omega (arith, low)

ring_before : (r q w : ℕ) → 1 ≤ w → r < q → r * w + w ≤ q * w
ring_before r q w some less = let low = mul-add-lt r w (w - 1) q less (omega arith) in omega (arith, low)

hot_low : (d : ℕ) (c : Setup) (l : Location) → IsHot l → offset_of d c l ≤ 2 * d
hot_low d c (tail_of r) hot = omega arith
hot_low d c (head_of r) hot = omega arith
hot_low d c (threshold_of r) hot = omega arith
hot_low d c (entry_of r s) hot = absurd hot

offsets_apart : (d : ℕ) (c : Setup) (l k : Location) → IsHot l → ring_at l ≡ ring_at k → l ≢ k → StandApart d (offset_of d c l) (offset_of d c k)
offsets_apart d c (tail_of r) (tail_of q) hot ring other = absurd (other (ap tail_of ring))
offsets_apart d c (tail_of r) (head_of q) hot ring other = inl (omega arith)
offsets_apart d c (tail_of r) (threshold_of q) hot ring other = inl (omega arith)
offsets_apart d c (tail_of r) (entry_of q z) hot ring other = inl (omega arith)
offsets_apart d c (head_of r) (tail_of q) hot ring other = inr (omega arith)
offsets_apart d c (head_of r) (head_of q) hot ring other = absurd (other (ap head_of ring))
offsets_apart d c (head_of r) (threshold_of q) hot ring other = inl (omega arith)
offsets_apart d c (head_of r) (entry_of q z) hot ring other = inl (omega arith)
offsets_apart d c (threshold_of r) (tail_of q) hot ring other = inr (omega arith)
offsets_apart d c (threshold_of r) (head_of q) hot ring other = inr (omega arith)
offsets_apart d c (threshold_of r) (threshold_of q) hot ring other = absurd (other (ap threshold_of ring))
offsets_apart d c (threshold_of r) (entry_of q z) hot ring other = inl (omega arith)
offsets_apart d c (entry_of r s) k hot ring other = absurd hot

-- a hot word stands that far from each other word
hot_by : (d : ℕ) (c : Setup) (l k : Location) → 1 ≤ d → IsHot l → IsLocation c l → IsLocation c k → l ≢ k → StandApart d (word_by d c l) (word_by d c k)
hot_by d c l k some hot here there other =
    let w = ring_words d c in
    elim (cases_lt (ring_at l) (ring_at k)) [
      | inl less ↦
          let rings = ring_before (ring_at l) (ring_at k) w (omega arith) less in
          let low = hot_low d c l hot in
          inl (omega (arith, rings, low))
      | inr over ↦
          elim (cases_lt (ring_at k) (ring_at l)) [
            | inl less ↦
                let rings = ring_before (ring_at k) (ring_at l) w (omega arith) less in
                let far = offset_far d c k there.1 in
                inr (omega (arith, rings, far))
            | inr under ↦
                let ring : ring_at l ≡ ring_at k = omega (arith, over, under) in
                let same = ap (λ r. r * w) ring in
                elim (offsets_apart d c l k hot ring other) [
                  | inl far ↦ inl (omega (arith, far, same))
                  | inr far ↦ inr (omega (arith, far, same))
                ]
          ]
    ]

pub at_low : (c : Setup) (l : Location) → IsLocation c l → at c l < word_count c
unfolding at
at_low c l here = low_by distance c l (omega arith) here

pub at_some : (c : Setup) (l : Location) → at c l ≢ gate_word
unfolding at
at_some c l e = absurd (omega (arith, e))

pub at_apart : (c : Setup) (l k : Location) → IsLocation c l → IsLocation c k → at c l ≡ at c k → l ≡ k
unfolding at
at_apart c l k here there e = apart_by distance c l k (omega arith) here there e

pub ring_of_word-at : (c : Setup) (l : Location) → IsLocation c l → ring_of_word c (at c l) ≡ ring_at l
unfolding at ring_of_word
ring_of_word-at c l here = ring_by-word distance c l (omega arith) here

-- a ring's words are told from its Tail
pub from_tail : (c : Setup) (r : ℕ) (l : Location) → ring_at l ≡ r → at c l ≡ at c (tail_of r) + offset_of distance c l
unfolding at
from_tail c r l ring = rw ring (omega arith)

pub hot_apart : HotWordsAreApart
unfolding at
hot_apart c l here = (inl (omega arith), λ hot k there other. hot_by distance c l k (omega arith) hot here there other)

-- where Tail of a ring stands
pub tail_at : (c : Setup) (r w : ℕ) → w ≡ ring_words distance c → distance + r * w ≡ at c (tail_of r)
unfolding at
tail_at c r w is = rw is (omega arith)
