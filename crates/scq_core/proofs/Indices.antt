-- Each entry of a reachable state has an index of the ring or the mark.
use Rattle.std.proofs.Common.{ℕ, ◌<◌, List, inl, inr, arith}
use Rattle.std.specs.Prelude.{◌==◌, if◌then◌else◌}
use Rattle.std.proofs.lemmas.Bool.Decides.{eqb_tells}
use Rattle.scq_word.specs.declared.setup.Setup.{Setup}
use Rattle.scq_word.specs.Exports.{n_of, packed, mark_of, index_in, safe_in, cycle_in, is_none_in, IsIndexOrMark}
use Rattle.scq_word.proofs.WordLemmas.{index_in-packed, index_in_small}
use Rattle.scq_core.specs.declared.phase.Phase.{Phase}
use Rattle.scq_core.specs.declared.phase.Phase.TheVariants.{AtE2, AtE4, AtD3, AtD4, AtD5}
use Rattle.scq_core.specs.Exports.{Cells, read, updated_entry, ring_slots, cycle, passed, location_of, cells_after, start_of, filled, unused}
use Rattle.scq_core.specs.Exports.{IsReachable, at_start, by_step, Busy}
use Rattle.scq_core.specs.Machine.{Machine}
use Rattle.scq_core.proofs.UpdatedLemmas.{updated_entry_cases}
use Rattle.scq_core.proofs.Turns.{turned}
use Rattle.scq_core.proofs.Entries.{some_slots}
use Rattle.scq_core.proofs.Steady.{has, steady, either_way}
use Rattle.scq_core.proofs.Limits.{filled_cases}

-- each entry has an index of the ring or the mark
pub record HasIndices (c : Setup) (m : Cells) : Type 0 where
  pub entries : (r s : ℕ) → IsIndexOrMark c.order (m.entries.word r s)

marked : (c : Setup) (cyc safe : ℕ) → IsIndexOrMark c.order (packed (ring_slots c) cyc safe (mark_of (ring_slots c)))
marked c cyc safe =
    let some = some_slots c in inr (index_in-packed (ring_slots c) cyc safe (mark_of (ring_slots c)) (omega arith))

placed : (c : Setup) (cyc safe i : ℕ) → i < n_of c.order → IsIndexOrMark c.order (packed (ring_slots c) cyc safe i)
placed c cyc safe i small =
    inl (rw (index_in-packed (ring_slots c) cyc safe i (omega arith)) small)

kept : (c : Setup) (cyc safe e : ℕ) → IsIndexOrMark c.order e → IsIndexOrMark c.order (packed (ring_slots c) cyc safe (index_in (ring_slots c) e))
kept c cyc safe e valid =
    rw (index_in-packed (ring_slots c) cyc safe (index_in (ring_slots c) e) (index_in_small (ring_slots c) e (some_slots c))) valid

passed_valid : (c : Setup) (h e : ℕ) → IsIndexOrMark c.order e → IsIndexOrMark c.order (passed c h e)
passed_valid c h e valid =
    either_way
    (λ (v : ℕ). IsIndexOrMark c.order v)
    (is_none_in (ring_slots c) e)
    (packed (ring_slots c) (cycle c h) (safe_in (ring_slots c) e) (mark_of (ring_slots c)))
    (packed (ring_slots c) (cycle_in (ring_slots c) e) 0 (index_in (ring_slots c) e))
    (marked c (cycle c h) (safe_in (ring_slots c) e))
    (kept c (cycle_in (ring_slots c) e) 0 e valid)

passed_here : (c : Setup) (h e x : ℕ) → IsIndexOrMark c.order x → IsIndexOrMark c.order (if x == e then passed c h e else x)
passed_here c h e x valid =
    elim (eqb_tells x e) [ inl is ↦ rw is.0 (rw (← is.1) (passed_valid c h x valid)) | inr other ↦ rw other.0 valid ]

written_valid : (c : Setup) (m : Cells) (r s x : ℕ) → HasIndices c m → IsIndexOrMark c.order x → (q z : ℕ)
    → IsIndexOrMark c.order (updated_entry m.entries.word r s x q z)
written_valid c m r s x all valid q z =
    updated_entry_cases (λ (a b v : ℕ). IsIndexOrMark c.order v) m.entries.word r s x q z (λ _ _. valid) (λ _. all.entries q z)

-- a turn leaves each entry so
indices_after : (c : Setup) (m : Cells) (hand : List ℕ) (turn : Phase) → Busy c m hand turn → HasIndices c m → HasIndices c (cells_after c turn m)
indices_after c m hand (AtE2 r i w t l) busy all =
    record { entries = written_valid c m r _ _ all (all.entries r _) }
indices_after c m hand (AtE4 r i w t e) busy all =
    let x = read m (location_of c (AtE4 r i w t e)) in
    record {
      entries = written_valid c m r _ _ all
          (either_way (λ (v : ℕ). IsIndexOrMark c.order v) (x == e) (packed (ring_slots c) (cycle c t) 1 i) x (placed c (cycle c t) 1 i busy.0.index)
          (all.entries r _));
    }
indices_after c m hand (AtD3 r h l) busy all =
    record { entries = written_valid c m r _ _ all (all.entries r _) }
indices_after c m hand (AtD4 r h) busy all = record { entries = written_valid c m r _ _ all (marked c _ _) }
indices_after c m hand (AtD5 r h e) busy all =
    record { entries = written_valid c m r _ _ all (passed_here c h e _ (all.entries r _)) }
indices_after c m hand turn busy all = record { entries = λ r s. all.entries r s }

indices_start : (c : Setup) (opening : List (List ℕ)) → HasIndices c (start_of c opening).cells
indices_start c opening =
    record {
      entries =
          λ r s.
          either_way
          (λ (v : ℕ). IsIndexOrMark c.order v)
          (r == 0)
          (filled c (n_of c.order) s)
          (unused (ring_slots c))
          (filled_cases (λ (v : ℕ). IsIndexOrMark c.order v) c (n_of c.order) s (marked c 0 1) (λ j low. placed c 1 1 j low))
          (marked c 0 1);
    }

pub has_indices : (c : Setup) (m : Machine) → IsReachable c m → HasIndices c m.cells
has_indices c m (at_start opening full) = indices_start c opening
has_indices c m (by_step {m = before} seat step reach low e) =
    let t = turned c before seat step m e in
    let all = steady c before reach in
    let busy = has c before.cells (before.part seat) step t.turn (all.busy seat) t.enabled in
    rw t.next (indices_after c before.cells (before.part seat).hand t.turn busy (has_indices c before reach))
