-- What a turn tells of its ring is true of the state after it. One case for each turn that tells something: a put that has
-- ended, a place that was got, a head that was drawn, and the three steps that find nothing finished left.
use Rattle.std.proofs.Common.{◌≡◌, ℕ, ◌+◌, ◌<◌, ◌≤◌, false, ◌==◌, List, [], ◌∷◌, ◌++◌, length, refl, sym, subst, inl, inr, arith, ltb-true, ◌-◌, eq-eqb, ne_eqb}
use Rattle.std.specs.Prelude.{nat_lt, nat_le}
use Rattle.std.specs.List.{Contains}
use Rattle.std.proofs.lemmas.Bool.{cases_Bool, cases_eq, cases_lt}
use Rattle.scq_word.specs.Exports.{n_of}
use Rattle.scq_core.proofs.Entries.{some_indices, some_slots}
use Rattle.std.proofs.lemmas.List.Elements.{Contains-append_right}
use Rattle.std.proofs.Common.{leb-true}
use Rattle.scq_word.specs.declared.setup.Setup.{Setup}
use Rattle.scq_core.specs.declared.ended.Ended.{Ended}
use Rattle.scq_core.specs.declared.ended.Ended.TheVariants.{Done}
use Rattle.scq_core.specs.declared.phase.Phase.{Phase}
use Rattle.scq_core.specs.declared.phase.Phase.TheVariants.{AtE5, AtE6, AtD1, AtD2, AtD4, AtD6, AtD10}
use Rattle.scq_core.specs.Exports.{read, ring_slots, zero_level, reset_level, location_of, moved, CountersRise, Busy}
use Rattle.scq_core.specs.Machine.{Machine}
use Rattle.scq_core.proofs.UpdatedLemmas.{updated_here}
use Rattle.scq_core.proofs.Steady.{either_way}
use Rattle.std.proofs.lemmas.List.{length-set}
use Rattle.scq_law.specs.Exports.{IsFinished, ThresholdCovers}
use Rattle.scq_band.specs.declared.numbers.Numbers.{Numbers}
use Rattle.scq_band.specs.Exports.{IsTrue, changed, finishes, sees, passes, empties, learned}
use Rattle.scq_band.proofs.Knowledge.{AllTrue, FinishedStay, all_stay, changed_true, finishes_true, sees_true, passes_true}

module _ (c : Setup) (m : Machine) (k : ℕ) where
  -- Head is past a finished place where Threshold is too low for one at or past it
  past_done : (r : ℕ) (x : Numbers) → ThresholdCovers c m → m.cells.threshold r ≤ zero_level → IsFinished c m r x.finished → x.finished + 1 ≤ m.cells.head r
  past_done r x covers low done =
      elim (cases_lt x.finished (m.cells.head r)) [
        | inl below ↦ omega arith
        | inr past ↦ let over = covers.covers r x.finished done past in absurd (omega arith)
      ]

  -- a state in which Threshold is too low for a finished place at or past Head: what is known as finished is below it
  low_threshold : (r : ℕ) (x : Numbers) → ThresholdCovers c m → ring_slots c ≤ m.cells.head r → m.cells.threshold r ≤ zero_level → IsTrue c m r x
      → x.finished + 1 ≤ m.cells.head r
  low_threshold r x covers first low t =
      elim (t.finished) [
        | inl start ↦
            elim (cases_eq r 0) [
              | inl zeroth ↦
                  let is : x.finished ≡ ring_slots c + n_of c.order - 1 = rw (eq-eqb r 0 zeroth) at start in
                  past_done r x covers low (inr (record { ring = zeroth; first = omega (arith, is, some_indices c); last = omega (arith, is, some_indices c) }))
              | inr other ↦ let is : x.finished ≡ ring_slots c - 1 = rw (ne_eqb r 0 other) at start in omega (arith, is, some_slots c)
            ]
        | inr done ↦ past_done r x covers low done
      ]

  -- the numbers of the ring before the turn, changed to what is true already
  told_before : (t : Phase) (f : Numbers → Numbers) (r : ℕ) (numbers : List Numbers) → CountersRise m.cells (moved c m k t).cells
      → FinishedStay c m (moved c m k t) → AllTrue c m numbers
      → ((x : Numbers) → IsTrue c m r x → IsTrue c m r (f x)) → AllTrue c (moved c m k t) (changed f r numbers)
  told_before t f r numbers up stay all new =
      all_stay c m (moved c m k t) (changed f r numbers) up stay (changed_true c m f r numbers all new)

  told_after : (t : Phase) (f : Numbers → Numbers) (r : ℕ) (numbers : List Numbers) → CountersRise m.cells (moved c m k t).cells
      → FinishedStay c m (moved c m k t) → AllTrue c m numbers
      → ((x : Numbers) → IsTrue c (moved c m k t) r x → IsTrue c (moved c m k t) r (f x)) → AllTrue c (moved c m k t) (changed f r numbers)
  told_after t f r numbers up stay all new =
      changed_true c (moved c m k t) f r numbers (all_stay c m (moved c m k t) numbers up stay all) new

  last_call : (calls : List Ended) (x : Ended) → Contains (calls ++ x ∷ []) x
  last_call calls x = Contains-append_right calls (x ∷ []) x (0, omega arith, refl)

  -- a put's end stands in the record afterwards
  done_by : (t : Phase) (r p : ℕ) (w : List ℕ) → Contains ((moved c m k t).part k).calls (Done r p w) → IsFinished c (moved c m k t) r p
  done_by t r p w there = inl (record { seat = k; content = w; ended = there })

  -- equal lists say the same
  same_list : (n : Machine) (xs ys : List Numbers) → xs ≡ ys → AllTrue c n ys → AllTrue c n xs
  same_list n xs ys e all = subst (λ (z : List Numbers). AllTrue c n z) (sym e) all

  pub learned_true : (t : Phase) (numbers : List Numbers) → Busy c m.cells (m.part k).hand t → CountersRise m.cells (moved c m k t).cells
      → FinishedStay c m (moved c m k t) → ThresholdCovers c m
      → ((r : ℕ) → ring_slots c ≤ m.cells.head r) → ((r h : ℕ) → t ≡ AtD4 r h → h < m.cells.tail r) → AllTrue c m numbers
      → AllTrue c (moved c m k t) (learned c t (read m.cells (location_of c t)) numbers)
  learned_true (AtE5 r i w t) numbers busy up stay covers first got all =
      elim (cases_Bool (m.cells.threshold r == reset_level c)) [
        | inl ends_here ↦
            let low = busy.1.below in
            let le = up.tail r in
            let there : Contains ((moved c m k (AtE5 r i w t)).part k).calls (Done r t w) =
            rw (updated_here m.part k _) (rw ends_here (last_call (m.part k).calls (Done r t w))) in
            same_list _ (learned c (AtE5 r i w t) (m.cells.threshold r) numbers) _ (rw ends_here refl)
            (told_after (AtE5 r i w t) (finishes t) r numbers up stay all
            (λ x h. finishes_true c (moved c m k (AtE5 r i w t)) r t x (done_by (AtE5 r i w t) r t w there) (omega arith) h))
        | inr goes ↦ same_list _ (learned c (AtE5 r i w t) (m.cells.threshold r) numbers) _ (rw goes refl)
            (all_stay c m (moved c m k (AtE5 r i w t)) numbers up stay all)
      ]
  learned_true (AtE6 r i w t) numbers busy up stay covers first got all =
      let low = busy.1.below in
      let le = up.tail r in
      let there : Contains ((moved c m k (AtE6 r i w t)).part k).calls (Done r t w) =
      rw (updated_here m.part k _) (last_call (m.part k).calls (Done r t w)) in
      told_after (AtE6 r i w t) (finishes t) r numbers up stay all
      (λ x h. finishes_true c (moved c m k (AtE6 r i w t)) r t x (done_by (AtE6 r i w t) r t w there) (omega arith) h)
  learned_true (AtD1 r) numbers busy up stay covers first got all =
      elim (cases_Bool (nat_lt (m.cells.threshold r) zero_level)) [
        | inl ends_here ↦
            let low = ltb-true _ _ ends_here in
            same_list _ (learned c (AtD1 r) (m.cells.threshold r) numbers) _ (rw ends_here refl) (told_before (AtD1 r) empties r numbers up stay all
            (λ x h. passes_true c m r (x.finished + 1) x (low_threshold r x covers (first r) (omega arith) h) h))
        | inr goes ↦ same_list _ (learned c (AtD1 r) (m.cells.threshold r) numbers) _ (rw goes refl) (all_stay c m (moved c m k (AtD1 r)) numbers up stay all)
      ]
  learned_true (AtD2 r l) numbers busy up stay covers first got all =
      let here = updated_here m.cells.head r (m.cells.head r + 1) in
      told_after (AtD2 r l) (passes (m.cells.head r + 1)) r numbers up stay all
      (λ x h. passes_true c (moved c m k (AtD2 r l)) r (m.cells.head r + 1) x (omega arith) h)
  learned_true (AtD4 r h) numbers busy up stay covers first got all =
      told_before (AtD4 r h) (sees h) r numbers up stay all (λ x t. sees_true c m r h x (got r h refl) t)
  learned_true (AtD6 r h) numbers busy up stay covers first got all =
      elim (cases_Bool (nat_le (m.cells.tail r) (h + 1))) [
        | inl leaves ↦
            let low = leb-true _ _ leaves in
            let drawn = busy.1.below in
            same_list _ (learned c (AtD6 r h) (m.cells.tail r) numbers) _ (rw leaves refl) (told_before (AtD6 r h) empties r numbers up stay all
            (λ x t. passes_true c m r (x.finished + 1) x (let o = t.order in let s = t.seen in omega arith) t))
        | inr goes ↦ same_list _ (learned c (AtD6 r h) (m.cells.tail r) numbers) _ (rw goes refl) (all_stay c m (moved c m k (AtD6 r h)) numbers up stay all)
      ]
  learned_true (AtD10 r h false) numbers busy up stay covers first got all =
      elim (cases_Bool (nat_le (m.cells.threshold r) zero_level)) [
        | inl ends_here ↦
            let low = leb-true _ _ ends_here in
            same_list _ (learned c (AtD10 r h false) (m.cells.threshold r) numbers) _ (rw ends_here refl)
            (told_before (AtD10 r h false) empties r numbers up stay all
            (λ x t. passes_true c m r (x.finished + 1) x (low_threshold r x covers (first r) low t) t))
        | inr goes ↦ same_list _ (learned c (AtD10 r h false) (m.cells.threshold r) numbers) _ (rw goes refl)
            (all_stay c m (moved c m k (AtD10 r h false)) numbers up stay all)
      ]
  learned_true turn numbers busy up stay covers first got all = all_stay c m _ numbers up stay all

-- a turn tells of no ring more than there are
pub changed_length : (f : Numbers → Numbers) (r : ℕ) (numbers : List Numbers) → length (changed f r numbers) ≡ length numbers
changed_length f r numbers = length-set numbers r _

pub learned_length : (c : Setup) (t : Phase) (x : ℕ) (numbers : List Numbers) → length (learned c t x numbers) ≡ length numbers
learned_length c (AtE5 r i w t) x numbers =
    either_way (λ (ns : List Numbers). length ns ≡ length numbers) (x == reset_level c) _ _ (changed_length (finishes t) r numbers) refl
learned_length c (AtE6 r i w t) x numbers = changed_length (finishes t) r numbers
learned_length c (AtD1 r) x numbers =
    either_way (λ (ns : List Numbers). length ns ≡ length numbers) (nat_lt x zero_level) _ _ (changed_length empties r numbers) refl
learned_length c (AtD2 r l) x numbers = changed_length (passes (x + 1)) r numbers
learned_length c (AtD4 r h) x numbers = changed_length (sees h) r numbers
learned_length c (AtD6 r h) x numbers =
    either_way (λ (ns : List Numbers). length ns ≡ length numbers) (nat_le x (h + 1)) _ _ (changed_length empties r numbers) refl
learned_length c (AtD10 r h false) x numbers =
    either_way (λ (ns : List Numbers). length ns ≡ length numbers) (nat_le x zero_level) _ _ (changed_length empties r numbers) refl
learned_length c turn x numbers = refl
