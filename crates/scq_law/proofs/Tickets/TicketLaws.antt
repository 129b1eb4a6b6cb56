-- The ticket bound. Plan: Head is within what gets that took, attempts in flight, kept tickets and resets come to; gets took no
-- more than puts placed; the attempts in flight are made up by the floor of Threshold, and the rest is within the enqueues that
-- were begun.
use Rattle.std.proofs.Common.{◌≡◌, ℕ, ◌+◌, ◌-◌, ◌*◌, ◌≤◌, List, [], ◌∷◌, inl, inr, arith}
use Rattle.std.specs.Prelude.{min}
use Rattle.std.proofs.Math.Nat.{mul-le-mul_right}
use Rattle.std.proofs.lemmas.Bool.{cases_lt}
use Rattle.scq_word.specs.declared.setup.Setup.{Setup}
use Rattle.scq_word.specs.Exports.{n_of, reset_value, ticket_bound}
use Rattle.scq_core.specs.declared.ended.Ended.{Ended}
use Rattle.scq_core.specs.declared.ended.Ended.TheVariants.{Done}
use Rattle.scq_core.specs.Exports.{SeatPart, IsReachable, total, dequeues, dequeues_of, spent_of, Stance, drawing, seeking, stance_of, placed_ring}
use Rattle.scq_core.specs.Exports.{put_ring, entered_ring, one_on}
use Rattle.scq_core.specs.Machine.{Machine}
use Rattle.scq_core.proofs.Entries.{some_indices}
use Rattle.scq_core.proofs.Floor.{threshold_floor}
use Rattle.scq_core.proofs.Limits.{counters_bounded}
use Rattle.scq_law.specs.Exports.{WithinWindow, ThresholdCovers, tally, was_put, is_putting, enqueues, TicketsBounded, was_done, gets_of, puts_of}
use Rattle.scq_law.proofs.Base.Ghosts.{Ghost}
use Rattle.scq_law.proofs.Base.Traces.{Trace, has_trace}
use Rattle.scq_law.proofs.Base.Based.{based}
use Rattle.scq_law.proofs.Window.CoverThroughout.{windowed}
use Rattle.scq_law.proofs.Base.SeatSums.{total_le, total_plus}
use Rattle.scq_law.proofs.Threshold.Covering.{flying, covers}
use Rattle.scq_law.proofs.Balance.KeptLaws.{balanced}
use Rattle.scq_law.proofs.Tickets.RunCounts.{done_of, tallied, trace_reaches}

-- the window and the threshold's cover on every reachable state
pub within_window : (c : Setup) (m : Machine) → IsReachable c m → WithinWindow c m
within_window c m reach =
    let past = has_trace c m reach in
    let window = windowed c past.time past.ghost m past.trace in
    record {
      within =
          λ r.
          let far = (based c past.time past.ghost m past.trace).drawn.first_head r in
          elim (cases_lt 0 (min (m.cells.tail r) c.limit)) [
            | inl some ↦
                let last = window.within r (min (m.cells.tail r) c.limit - 1) (omega arith) (omega arith) in
                omega arith
            | inr none ↦ omega (arith, some_indices c)
          ];
    }

pub threshold_covers : (c : Setup) (m : Machine) → IsReachable c m → ThresholdCovers c m
threshold_covers c m reach = let past = has_trace c m reach in covers c past.time past.ghost m past.trace

-- a seat's counts, each within another
tally_le : (f h : Ended → ℕ) → ((x : Ended) → f x ≤ h x) → (xs : List Ended) → tally f xs ≤ tally h xs
tally_le f h le [] = omega arith
tally_le f h le (x ∷ xs) = let here = le x in let rest = tally_le f h le xs in omega arith

done_put : (r : ℕ) (x : Ended) → was_done r x ≤ was_put r x
done_put r (Done q p w) = omega arith
done_put r x = omega arith

placed_putting : (r : ℕ) (s : Stance) → one_on r (placed_ring s) ≤ one_on r (put_ring s)
placed_putting r (drawing q i w) = omega arith
placed_putting r s = omega arith

flying_dequeues : (r : ℕ) (s : Stance) → flying r s ≤ one_on r (entered_ring s)
flying_dequeues r (seeking q) = omega arith
flying_dequeues r s = omega arith

-- the bound's product
bound_parts : (e x : ℕ) → (e + 1) * (x + 1) ≡ e * x + e + x + 1
bound_parts e x = grind arith

head_bounded : (c : Setup) (time : ℕ) (g : Ghost) (m : Machine) → Trace c time g m → (r : ℕ)
    → m.cells.head r + 2 * n_of c.order ≤ ticket_bound c.order c.seats (enqueues c m r)
head_bounded c time g m trace r =
    let reach = trace_reaches c time g m trace in
    let t = tallied c time g m trace in
    let balance = (balanced c m reach).balance r in
    let spends = t.spends r in
    let floor = (threshold_floor c m reach).floor r in
    let few = (counters_bounded c m reach).spent in
    let puts = λ (p : SeatPart). tally (was_put r) p.calls + is_putting r p.phase in
    let placed : total (puts_of r) m.part c.seats ≤ total puts m.part c.seats =
    total_le (puts_of r) puts m.part
    (λ k.
    let calls = tally_le (was_done r) (was_put r) (done_put r) (m.part k).calls in
    let phase = placed_putting r (stance_of (m.part k).phase) in omega arith)
    c.seats in
    let dones : total (done_of r) m.part c.seats ≤ total puts m.part c.seats =
    total_le (done_of r) puts m.part (λ k. let calls = tally_le (was_done r) (was_put r) (done_put r) (m.part k).calls in omega arith) c.seats in
    let split = total_plus (gets_of r) (λ (p : SeatPart). flying r (stance_of p.phase) + spent_of p.spent) m.part c.seats in
    let again = total_plus (λ (p : SeatPart). flying r (stance_of p.phase)) (λ (p : SeatPart). spent_of p.spent) m.part c.seats in
    let attempts_in_flight : total (λ (p : SeatPart). flying r (stance_of p.phase)) m.part c.seats ≤ dequeues_of c m r =
    total_le (λ (p : SeatPart). flying r (stance_of p.phase)) (λ (p : SeatPart). dequeues r p.phase) m.part
    (λ k. flying_dequeues r (stance_of (m.part k).phase)) c.seats in
    let product : total (done_of r) m.part c.seats * (reset_value c.order c.seats + c.seats) ≤ enqueues c m r * (reset_value c.order c.seats + c.seats) =
    mul-le-mul_right (reset_value c.order c.seats + c.seats) (omega arith) in
    let parts = bound_parts (enqueues c m r) (reset_value c.order c.seats + c.seats) in
    let same : reset_value c.order c.seats + 1 + c.seats ≡ reset_value c.order c.seats + c.seats + 1 = omega arith in
    rw same (omega arith)

pub tickets_bounded : (c : Setup) (m : Machine) → IsReachable c m → TicketsBounded c m
tickets_bounded c m reach =
    let past = has_trace c m reach in
    let window = within_window c m reach in
    record {
      head = λ r. head_bounded c past.time past.ghost m past.trace r;
      tail =
          λ r.
          let high = head_bounded c past.time past.ghost m past.trace r in
          let near = window.within r in
          omega arith;
    }
