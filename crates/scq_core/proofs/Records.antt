-- A seat's record grows only at its end: a turn adds at most its own call.
use Rattle.std.proofs.Common.{◌≡◌, ℕ, ◌+◌, true, false, ◌&&◌, List, [], ◌∷◌, ◌++◌, refl, sym, ◌∙◌, ap, append-nil, append_assoc}
use Rattle.std.specs.Prelude.{◌==◌, nat_lt, nat_le, Some}
use Rattle.scq_word.specs.declared.setup.Setup.{Setup}
use Rattle.scq_word.specs.Exports.{safe_in, cycle_in, is_none_in}
use Rattle.scq_core.specs.declared.ended.Ended.{Ended}
use Rattle.scq_core.specs.declared.phase.Phase.{Phase}
use Rattle.scq_core.specs.declared.phase.Phase.TheVariants.{Idle, AtE1, AtE2, AtE3, AtE4, AtE5, AtE6, AtD1, AtD2, AtD3, AtD4, AtD5, AtD6, AtD7, AtD8, AtD9, AtD10}
use Rattle.scq_core.specs.declared.step.Step.{Step}
use Rattle.scq_core.specs.Exports.{SeatPart, read, beside, ring_slots, cycle, zero_level, reset_level, location_of, after, step_of, Grows}
use Rattle.scq_core.specs.Exports.{RecordsGrow}
use Rattle.scq_core.specs.Machine.{Machine}
use Rattle.scq_core.proofs.UpdatedLemmas.{updated_cases}
use Rattle.scq_core.proofs.Turns.{turned}
use Rattle.scq_core.proofs.Steady.{either_way}

-- nothing more
pub grows_by_none : (calls : List Ended) → Grows calls calls
grows_by_none calls = record { more = []; appended = sym (append-nil calls) }

-- one call more
grows_by_one : (calls : List Ended) (ended : Ended) → Grows calls (calls ++ ended ∷ [])
grows_by_one calls ended = record { more = ended ∷ []; appended = refl }

-- more, and more again
pub grows_on : (a b c : List Ended) → Grows a b → Grows b c → Grows a c
grows_on a b c first second =
    record {
      more = first.more ++ second.more;
      appended = second.appended ∙ ap (λ (calls : List Ended). calls ++ second.more) first.appended
          ∙ append_assoc a first.more second.more;
    }

-- a turn adds at most its own call
pub calls_after : (c : Setup) (turn : Phase) (x : ℕ) (y : List ℕ) (p : SeatPart) → Grows p.calls (after c turn x y p).calls
calls_after c Idle x y p = grows_by_none p.calls
calls_after c (AtE1 r i w l) x y p = either_way (λ (q : SeatPart). Grows p.calls q.calls) (nat_le c.limit x) _ _ (grows_by_one p.calls _) (grows_by_none p.calls)
calls_after c (AtE2 r i w t l) x y p =
    either_way (λ (q : SeatPart). Grows p.calls q.calls) (nat_lt (cycle_in (ring_slots c) x) (cycle c t) && is_none_in (ring_slots c) x) _ _
    (either_way (λ (q : SeatPart). Grows p.calls q.calls) (safe_in (ring_slots c) x == 1) _ _ (grows_by_none p.calls) (grows_by_none p.calls))
    (grows_by_none p.calls)
calls_after c (AtE3 r i w t e) x y p = either_way (λ (q : SeatPart). Grows p.calls q.calls) (nat_le x t) _ _ (grows_by_none p.calls) (grows_by_none p.calls)
calls_after c (AtE4 r i w t e) x y p = either_way (λ (q : SeatPart). Grows p.calls q.calls) (x == e) _ _ (grows_by_none p.calls) (grows_by_none p.calls)
calls_after c (AtE5 r i w t) x y p = either_way (λ (q : SeatPart). Grows p.calls q.calls) (x == reset_level c) _ _ (grows_by_one p.calls _) (grows_by_none p.calls)
calls_after c (AtE6 r i w t) x y p = grows_by_one p.calls _
calls_after c (AtD1 r) x y p = either_way (λ (q : SeatPart). Grows p.calls q.calls) (nat_lt x zero_level) _ _ (grows_by_one p.calls _) (grows_by_none p.calls)
calls_after c (AtD2 r l) x y p = either_way (λ (q : SeatPart). Grows p.calls q.calls) (nat_le c.limit x) _ _ (grows_by_one p.calls _) (grows_by_none p.calls)
calls_after c (AtD3 r h l) x y p =
    either_way (λ (q : SeatPart). Grows p.calls q.calls) (cycle_in (ring_slots c) x == cycle c h) _ _ (grows_by_none p.calls)
    (either_way (λ (q : SeatPart). Grows p.calls q.calls) (nat_lt (cycle_in (ring_slots c) x) (cycle c h)) _ _ (grows_by_none p.calls) (grows_by_none p.calls))
calls_after c (AtD4 r h) x y p = grows_by_one p.calls _
calls_after c (AtD5 r h e) x y p = either_way (λ (q : SeatPart). Grows p.calls q.calls) (x == e) _ _ (grows_by_none p.calls) (grows_by_none p.calls)
calls_after c (AtD6 r h) x y p = either_way (λ (q : SeatPart). Grows p.calls q.calls) (nat_le x (h + 1)) _ _ (grows_by_none p.calls) (grows_by_none p.calls)
calls_after c (AtD7 r h from to) x y p = either_way (λ (q : SeatPart). Grows p.calls q.calls) (x == from) _ _ (grows_by_none p.calls) (grows_by_none p.calls)
calls_after c (AtD8 r h from) x y p = grows_by_none p.calls
calls_after c (AtD9 r h from to) x y p = either_way (λ (q : SeatPart). Grows p.calls q.calls) (nat_le to x) _ _ (grows_by_none p.calls) (grows_by_none p.calls)
calls_after c (AtD10 r h true) x y p = grows_by_one p.calls _
calls_after c (AtD10 r h false) x y p =
    either_way (λ (q : SeatPart). Grows p.calls q.calls) (nat_le x zero_level) _ _ (grows_by_one p.calls _) (grows_by_none p.calls)

-- so a step leaves what stands in each seat's record
pub records_grow : (c : Setup) (m later : Machine) (k : ℕ) (step : Step) → step_of c m k step ≡ Some later → RecordsGrow m later
records_grow c m later k step e =
    let t = turned c m k step later e in
    let location = location_of c t.turn in
    rw t.next
    (record {
      calls =
          λ j.
          updated_cases
          (λ (i : ℕ) (q : SeatPart). Grows (m.part i).calls q.calls)
          m.part
          k
          (after c t.turn (read m.cells location) (beside m.cells location) (m.part k))
          j
          (λ same. rw same (calls_after c t.turn (read m.cells location) (beside m.cells location) (m.part k)))
          (λ other. grows_by_none (m.part j).calls);
    })
