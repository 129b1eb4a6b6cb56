-- No turn lowers the rank of an entry, nor Tail, nor Head: from what its seat has.
use Rattle.std.proofs.Common.{◌≡◌, ℕ, ◌≤◌, List, inl, inr, arith, eq-eqb, ne_eqb}
use Rattle.std.proofs.lemmas.Bool.{cases_eq}
use Rattle.std.specs.Prelude.{if◌then◌else◌, ◌==◌, []}
use Rattle.scq_word.specs.declared.setup.Setup.{Setup}
use Rattle.scq_core.specs.declared.phase.Phase.{Phase}
use Rattle.scq_core.specs.declared.phase.Phase.TheVariants.{Idle, AtE1, AtE2, AtE3, AtE4, AtD2, AtD3, AtD4, AtD5, AtD6, AtD7, AtD8, AtD9}
use Rattle.scq_core.specs.Exports.{Cells, tail_of, head_of, entry_of, written, ring_slots, cycle, slot, cells_after, IsAbove, RankRises, CountersRise}
use Rattle.scq_core.specs.Exports.{Busy, word_at}
use Rattle.scq_core.proofs.UpdatedLemmas.{updated_cases, updated_entry_cases}
use Rattle.scq_core.proofs.Entries.{above_same, above_trans, placing_rises, taking_rises, passing_rises, below_mark, some_slots}

-- one entry written above what stood there
pub entry_rises : (c : Setup) (m : Cells) (r s x : ℕ) (y : List ℕ) → IsAbove (ring_slots c) (m.entries.word r s) x
    → RankRises c m (written m (entry_of r s) x y)
entry_rises c m r s x y above =
    record {
      rises =
          λ q z.
          updated_entry_cases
          (λ (a b v : ℕ). IsAbove (ring_slots c) (m.entries.word a b) v)
          m.entries.word
          r
          s
          x
          q
          z
          (λ ring slot. rw (ring, slot) above)
          (λ _. above_same (ring_slots c) (m.entries.word q z));
    }

-- an entry kept where a test fails, and written where it holds
tested_rises : (c : Setup) (m : Cells) (r s e x : ℕ) → (m.entries.word r s ≡ e → IsAbove (ring_slots c) e x)
    → IsAbove (ring_slots c) (m.entries.word r s) (if m.entries.word r s == e then x else m.entries.word r s)
tested_rises c m r s e x hit =
    elim (cases_eq (m.entries.word r s) e) [
      | inl same ↦ rw (eq-eqb (m.entries.word r s) e same) (rw same (hit same))
      | inr apart ↦ rw (ne_eqb (m.entries.word r s) e apart) (above_same (ring_slots c) (m.entries.word r s))
    ]

-- an entry's rank after each turn
pub rank_rises : (c : Setup) (m : Cells) (hand : List ℕ) (turn : Phase) → Busy c m hand turn → RankRises c m (cells_after c turn m)
rank_rises c m hand (AtE2 r i w t l) has = entry_rises c m r (slot c t) _ _ (above_same (ring_slots c) _)
rank_rises c m hand (AtE4 r i w t e) has =
    entry_rises
    c
    m
    r
    (slot c t)
    _
    _
    (tested_rises c m r (slot c t) e _ (λ same. placing_rises (ring_slots c) e (cycle c t) i has.2.earlier (below_mark c i has.0.index)))
rank_rises c m hand (AtD3 r h l) has = entry_rises c m r (slot c h) _ _ (above_same (ring_slots c) _)
rank_rises c m hand (AtD4 r h) has =
    entry_rises c m r (slot c h) _ _ (taking_rises (ring_slots c) (word_at c m r h) (some_slots c))
rank_rises c m hand (AtD5 r h e) has =
    entry_rises
    c
    m
    r
    (slot c h)
    _
    _
    (tested_rises c m r (slot c h) e _ (λ same. passing_rises c h e has.2.earlier))
rank_rises c m hand turn has = record { rises = λ r s. above_same (ring_slots c) (m.entries.word r s) }

-- Tail written no lower than it was
pub tail_rises : (m : Cells) (r x : ℕ) (y : List ℕ) → m.tail r ≤ x → CountersRise m (written m (tail_of r) x y)
tail_rises m r x y le =
    record {
      tail =
          λ q. updated_cases (λ (a v : ℕ). m.tail a ≤ v) m.tail r x q (λ same. rw same le) (λ _. omega arith);
      head = λ q. omega arith;
    }

-- Head written no lower than it was
pub head_rises : (m : Cells) (r x : ℕ) (y : List ℕ) → m.head r ≤ x → CountersRise m (written m (head_of r) x y)
head_rises m r x y le =
    record {
      tail = λ q. omega arith;
      head =
          λ q. updated_cases (λ (a v : ℕ). m.head a ≤ v) m.head r x q (λ same. rw same le) (λ _. omega arith);
    }

-- a catch-up that hits does not lower Tail
catching_up : (tail from to : ℕ) → from ≤ to → tail ≤ (if tail == from then to else tail)
catching_up tail from to le =
    elim (cases_eq tail from) [
      | inl same ↦ rw (eq-eqb tail from same) (omega arith)
      | inr apart ↦ rw (ne_eqb tail from apart) (omega arith)
    ]

-- Tail and Head after each turn
pub counters_rise : (c : Setup) (m : Cells) (hand : List ℕ) (turn : Phase) → Busy c m hand turn → CountersRise m (cells_after c turn m)
counters_rise c m hand Idle has = tail_rises m 0 _ [] (omega arith)
counters_rise c m hand (AtE1 r i w l) has = tail_rises m r _ [] (omega arith)
counters_rise c m hand (AtE3 r i w t e) has = head_rises m r _ [] (omega arith)
counters_rise c m hand (AtD2 r l) has = head_rises m r _ [] (omega arith)
counters_rise c m hand (AtD6 r h) has = tail_rises m r _ [] (omega arith)
counters_rise c m hand (AtD7 r h from to) has = tail_rises m r _ [] (catching_up (m.tail r) from to has.2.rises)
counters_rise c m hand (AtD8 r h from) has = head_rises m r _ [] (omega arith)
counters_rise c m hand (AtD9 r h from to) has = tail_rises m r _ [] (omega arith)
counters_rise c m hand turn has = record { tail = λ q. omega arith; head = λ q. omega arith }

-- several steps rise as one does
pub ranks_same : (c : Setup) (m : Cells) → RankRises c m m
ranks_same c m = record { rises = λ r s. above_same (ring_slots c) (m.entries.word r s) }

pub ranks_trans : (c : Setup) (a b d : Cells) → RankRises c a b → RankRises c b d → RankRises c a d
ranks_trans c a b d low high =
    record {
      rises = λ r s. above_trans (ring_slots c) _ _ (d.entries.word r s) (low.rises r s) (high.rises r s);
    }

pub counters_same : (m : Cells) → CountersRise m m
counters_same m = record { tail = λ r. omega arith; head = λ r. omega arith }

pub counters_trans : (a b d : Cells) → CountersRise a b → CountersRise b d → CountersRise a d
counters_trans a b d low high =
    record {
      tail = λ r. let one = low.tail r in let two = high.tail r in omega arith;
      head = λ r. let one = low.head r in let two = high.head r in omega arith;
    }
