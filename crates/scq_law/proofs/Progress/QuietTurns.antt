-- A turn that ends no call leaves a ring no more of anything. Plan: on the turn's own ring by what
-- the turn does to it and by the counts of all seats, of which its own alone changes; on another
-- ring nothing changes.
use Rattle.std.proofs.Common.{◌≡◌, ◌≢◌, ℕ, ◌+◌, ◌-◌, ◌<◌, ◌≤◌, List, refl, sym, ap, ◌∙◌, inl, inr, arith}
use Rattle.std.specs.Prelude.{◌==◌, if◌then◌else◌, Option, Some, None}
use Rattle.std.proofs.lemmas.Bool.{cases_eq}
use Rattle.scq_word.specs.declared.setup.Setup.{Setup}
use Rattle.scq_core.specs.declared.phase.Phase.{Phase}
use Rattle.scq_core.specs.declared.phase.Phase.TheVariants.{Idle}
use Rattle.scq_core.specs.declared.slot.Cell.{Cell}
use Rattle.scq_core.specs.declared.slot.Cell.TheVariants.{Tail, Head, Threshold, Entry}
use Rattle.scq_core.specs.declared.step.Step.{Step}
use Rattle.scq_core.specs.Exports.{Cells, SeatPart, location_at, read, beside, written, slot, zero_level, turn_of, ring_of, cell_of, location_of}
use Rattle.scq_core.specs.Exports.{cells_after, moved, writes, stores, stance_of, IsReachable, CountersRise, word_at}
use Rattle.scq_core.specs.Machine.{Machine}
use Rattle.scq_core.proofs.UpdatedLemmas.{updated_else, updated_entry_or}
use Rattle.scq_core.proofs.Turns.{Begins, begins_put, begins_get, begins, awake}
use Rattle.scq_core.proofs.Steady.{has, steady, keeps_none, kept_after, either_way}
use Rattle.scq_core.proofs.Ranks.{counters_rise}
use Rattle.scq_core.proofs.Counts.{total_updated, total_one}
use Rattle.scq_law.proofs.Progress.Potential.{part_after, draw_of, draw_on, change_of, change_on, draws_on, changes_on, spare_at, stale, Leaves}
use Rattle.scq_law.proofs.Progress.SeatCounts.{own_draw, own_change, draw_own, change_own, draw_apart, change_apart, draw_bit}
use Rattle.scq_law.proofs.Progress.TurnEffects.{ring_after, effect_turn}

-- the words of a ring, as they were
record SameRing (m n : Cells) (r : ℕ) : Type 0 where
  tail : n.tail r ≡ m.tail r
  head : n.head r ≡ m.head r
  threshold : n.threshold r ≡ m.threshold r
  words : (s : ℕ) → n.entries.word r s ≡ m.entries.word r s

other_ring : (m : Cells) (q r : ℕ) (cell : Cell) (x : ℕ) (y : List ℕ) → r ≢ q
    → SameRing m (written m (location_at q cell) x y) r
other_ring m q r Tail x y other =
    record {
      tail = updated_else m.tail q x r other;
      head = refl;
      threshold = refl;
      words = λ s. refl;
    }
other_ring m q r Head x y other =
    record {
      tail = refl;
      head = updated_else m.head q x r other;
      threshold = refl;
      words = λ s. refl;
    }
other_ring m q r Threshold x y other =
    record {
      tail = refl;
      head = refl;
      threshold = updated_else m.threshold q x r other;
      words = λ s. refl;
    }
other_ring m q r (Entry z) x y other =
    record {
      tail = refl;
      head = refl;
      threshold = refl;
      words = λ s. elim (updated_entry_or m.entries.word q z x r s)
          [ inl a ↦ absurd (other a.0) | inr a ↦ a.1 ];
    }

pub stale_same : (c : Setup) (m n : Cells) (r : ℕ)
    → ((s : ℕ) → n.entries.word r s ≡ m.entries.word r s) → (t e : ℕ)
    → stale c n r t e ≡ stale c m r t e
stale_same c m n r same t e = ap (λ (w : ℕ). if w == e then 0 else 1) (same (slot c t))

pub stale_bit : (c : Setup) (m : Cells) (r t e : ℕ) → stale c m r t e ≤ 1
stale_bit c m r t e = either_way (λ (v : ℕ). v ≤ 1) (word_at c m r t == e) 0 1 (omega arith)
    (omega arith)

-- a step of seat j by an enabled turn
module _ (c : Setup) (m : Machine) (j : ℕ) (s : Step) (turn : Phase) (low : j < c.seats)
    (reachable : IsReachable c m) (enabled : turn_of c (m.part j) s ≡ Some turn) where
  abbrev part_then : SeatPart
  part_then = part_after c m j turn

  -- what its seat counted before the turn
  pub draw_before : own_draw turn ≤ draw_on (ring_of turn) (m.part j)
  draw_before =
      let p = m.part j in
      let none = keeps_none c m j s turn (steady c m reachable) enabled in
      elim (begins c p.hand p.spent p.phase s turn enabled) [
        | inl same ↦
            let is = draw_own turn in
            let stands : draw_on (ring_of turn) p ≡ draw_of (ring_of turn) None (stance_of turn) =
            rw (none, same) refl in
            omega arith
        | inr new ↦
            let stands : draw_on (ring_of turn) p ≡ 1 = rw (none, new.0) refl in
            let bit = draw_own turn in
            let most = draw_bit (ring_of turn) None (stance_of turn) in
            omega arith
      ]

  pub change_before : own_change turn ≡ change_on (ring_of turn) (m.part j)
  change_before =
      let p = m.part j in
      elim (begins c p.hand p.spent p.phase s turn enabled) [
        | inl same ↦
            let is = change_own turn in
            let stands : change_on (ring_of turn) p ≡ change_of (ring_of turn) (stance_of turn) =
            rw same refl in omega arith
        | inr new ↦
            let stands : change_on (ring_of turn) p ≡ 1 = rw new.0 refl in
            let one = begun_change turn new.2 in
            omega arith
      ]
    where
      begun_change : (t : Phase) → Begins c (m.part j).hand t → own_change t ≡ 1
      begun_change t (begins_put r i w ring index held) = refl
      begun_change t (begins_get r ring) = refl

  spent_then : (part_then.phase ≡ Idle → ⊥) → part_then.spent ≡ None
  spent_then goes =
      elim (kept_after c turn (read m.cells (location_of c turn))
      (beside m.cells (location_of c turn)) (m.part j)) [
        | inl same ↦ same ∙ keeps_none c m j s turn (steady c m reachable) enabled
        | inr ended ↦ absurd (goes ended.1)
      ]

  stays : (part_then.phase ≡ Idle → ⊥) → ring_of part_then.phase ≡ ring_of turn
  stays = ring_after c (read m.cells (location_of c turn)) (beside m.cells (location_of c turn))
      (m.part j) turn (awake c (m.part j).hand (m.part j).spent (m.part j).phase s turn enabled)

  draw_then : (part_then.phase ≡ Idle → ⊥)
      → draw_on (ring_of turn) part_then ≡ own_draw part_then.phase
  draw_then goes =
      let none : draw_on (ring_of turn) part_then
      ≡ draw_of (ring_of turn) None (stance_of part_then.phase) =
      ap (λ (o : Option ℕ). draw_of (ring_of turn) o (stance_of part_then.phase))
      (spent_then goes) in
      let ring : draw_of (ring_of turn) None (stance_of part_then.phase)
      ≡ draw_of (ring_of part_then.phase) None (stance_of part_then.phase) =
      ap (λ (r : ℕ). draw_of r None (stance_of part_then.phase)) (sym (stays goes)) in
      none ∙ ring ∙ draw_own part_then.phase

  change_then : (part_then.phase ≡ Idle → ⊥)
      → change_on (ring_of turn) part_then ≡ own_change part_then.phase
  change_then goes = ap (λ (r : ℕ). change_of r (stance_of part_then.phase)) (sym (stays goes))
      ∙ change_own part_then.phase

  -- how the counts of its ring move
  pub draws_move : (part_then.phase ≡ Idle → ⊥)
      → draws_on c (moved c m j turn) (ring_of turn) + own_draw turn
      ≤ draws_on c m (ring_of turn) + own_draw part_then.phase
  draws_move goes =
      let sum = total_updated (λ (p : SeatPart). draw_on (ring_of turn) p) m.part j part_then c.seats
      low in
      let was = draw_before in let now = draw_then goes in omega arith

  pub changes_move : (part_then.phase ≡ Idle → ⊥)
      → changes_on c (moved c m j turn) (ring_of turn) + own_change turn
      ≡ changes_on c m (ring_of turn) + own_change part_then.phase
  changes_move goes =
      let sum = total_updated (λ (p : SeatPart). change_on (ring_of turn) p) m.part j part_then c.seats
      low in
      let was = change_before in let now = change_then goes in omega arith

  pub change_some : own_change turn ≤ changes_on c m (ring_of turn)
  change_some =
      let one = total_one (λ (p : SeatPart). change_on (ring_of turn) p) m.part c.seats j low in
      let was = change_before in
      omega arith

  pub rises : CountersRise m.cells (cells_after c turn m.cells)
  rises =
      let p = m.part j in
      counters_rise c m.cells p.hand turn
      (has c m.cells p s turn ((steady c m reachable).busy j) enabled)

  quieter_here : (part_then.phase ≡ Idle → ⊥)
      → Leaves 0 c m.cells (cells_after c turn m.cells) (draws_on c m) (changes_on c m)
      (draws_on c (moved c m j turn)) (changes_on c (moved c m j turn)) (ring_of turn)
  quieter_here goes =
      let p = m.part j in
      let r = ring_of turn in
      let n = cells_after c turn m.cells in
      let effect = effect_turn c m.cells p turn (awake c p.hand p.spent p.phase s turn enabled)
      goes in
      let ends = effect.ends in
      let draws = draws_move goes in
      let bits = changes_move goes in
      record {
        ends = omega arith;
        tail = rises.tail r;
        level = effect.level;
        change = elim effect.entries
            [ inl same ↦ let less = same.1 in omega arith | inr less ↦ omega arith ];
        looks = λ t e. elim effect.entries [
          | inl same ↦ let less = same.1 in let word = stale_same c m.cells n r same.0 t e in omega arith
          | inr less ↦ let bit = stale_bit c n r t e in omega arith
        ];
      }

  -- what its seat counts on another ring
  draw_there : (r : ℕ) → ring_of turn ≢ r → draw_on r (m.part j) ≡ 1
  draw_there r other =
      let p = m.part j in
      let none = keeps_none c m j s turn (steady c m reachable) enabled in
      let plain : draw_on r p ≡ draw_of r None (stance_of p.phase) =
      ap (λ (o : Option ℕ). draw_of r o (stance_of p.phase)) none in
      elim (begins c p.hand p.spent p.phase s turn enabled) [
        | inl same ↦ plain ∙ ap (λ (v : Phase). draw_of r None (stance_of v)) (sym same)
            ∙ draw_apart r turn other
        | inr new ↦ plain ∙ ap (λ (v : Phase). draw_of r None (stance_of v)) new.0
      ]

  change_there : (r : ℕ) → ring_of turn ≢ r → change_on r (m.part j) ≡ 1
  change_there r other =
      let p = m.part j in
      elim (begins c p.hand p.spent p.phase s turn enabled) [
        | inl same ↦ ap (λ (v : Phase). change_of r (stance_of v)) (sym same)
            ∙ change_apart r turn other
        | inr new ↦ ap (λ (v : Phase). change_of r (stance_of v)) new.0
      ]

  quieter_apart : (r : ℕ) → ring_of turn ≢ r
      → Leaves 0 c m.cells (cells_after c turn m.cells) (draws_on c m) (changes_on c m)
      (draws_on c (moved c m j turn)) (changes_on c (moved c m j turn)) r
  quieter_apart r other =
      let n = cells_after c turn m.cells in
      let x = read m.cells (location_of c turn) in
      let y = beside m.cells (location_of c turn) in
      let same = other_ring m.cells (ring_of turn) r (cell_of c turn) (writes c turn x)
      (stores turn x y) (λ e. other (sym e)) in
      let head = same.head in
      let level : spare_at n r ≡ spare_at m.cells r =
      ap (λ (v : ℕ). v - zero_level) same.threshold in
      let draws = total_updated (λ (p : SeatPart). draw_on r p) m.part j part_then c.seats low in
      let draw = draw_there r other in
      let draw_few = draw_bit r part_then.spent (stance_of part_then.phase) in
      let bits = total_updated (λ (p : SeatPart). change_on r p) m.part j part_then c.seats low in
      let bit = change_there r other in
      let tail = same.tail in
      record {
        ends = omega arith;
        tail = omega arith;
        level = omega arith;
        change = omega arith;
        looks = λ t e. let word = stale_same c m.cells n r same.words t e in omega arith;
      }

  -- on each ring on which it ends no call
  pub quieter : (r : ℕ) → (ring_of turn ≡ r → part_then.phase ≡ Idle → ⊥)
      → Leaves 0 c m.cells (cells_after c turn m.cells) (draws_on c m) (changes_on c m)
      (draws_on c (moved c m j turn)) (changes_on c (moved c m j turn)) r
  quieter r goes =
      elim (cases_eq (ring_of turn) r) [
        | inl here ↦ rw (← here) (quieter_here (goes here))
        | inr apart ↦ quieter_apart r apart
      ]
