-- On each ring, what is left and what gets took is what puts placed; and what is left in all rings and lies in hands is n.
-- Plan: at the start ring 0 has n indices and no other ring has any; each turn moves both sides of each equation alike.
use Rattle.std.proofs.Common.{◌≡◌, ◌≢◌, ℕ, zero, suc, ◌+◌, ◌<◌, ◌≤◌, true, false, List, [], ◌∷◌, ◌++◌, length, length-append, refl, ap, ◌∙◌, inl, inr, arith, eq-eqb, ne_eqb}
use Rattle.std.proofs.lemmas.Bool.{cases_eq, cases_lt}
use Rattle.scq_word.specs.declared.setup.Setup.{Setup}
use Rattle.scq_word.specs.Exports.{n_of}
use Rattle.scq_word.proofs.TicketLemmas.{slot_of_small}
use Rattle.scq_core.specs.Exports.{Cells, SeatPart, ring_slots, slot, hand_without, moved, unused, filled, start_cells, start_of, IsReachable, total}
use Rattle.scq_core.specs.Exports.{Stance, putting, trying, placed_ring, one_on}
use Rattle.scq_core.specs.Machine.{Machine}
use Rattle.scq_core.proofs.Steady.{has}
use Rattle.scq_core.proofs.Counts.{total_none, total_one}
use Rattle.scq_core.proofs.Entries.{some_slots, below_mark, none_in-marked, none_in-filled}
use Rattle.scq_core.proofs.Starts.{fills}
use Rattle.scq_law.specs.Exports.{times, tally, openings, sum_to, has_index, left_in, left_below, was_done, was_got, gets_of, puts_of, Balanced}
use Rattle.scq_law.specs.Exports.{AllKept}
use Rattle.scq_law.proofs.Base.Ghosts.{Ghost}
use Rattle.scq_law.proofs.Base.TicketEvents.{TicketEvent, calm, drew, fell, laid, finished, entered, refused, began, died, saw_end, lifted, taken, lowered, emptied, overran, ended_by}
use Rattle.scq_law.proofs.Base.EventFacts.{stance}
use Rattle.scq_law.proofs.Base.Traces.{Trace, trace_start, trace_step, has_trace, event_of}
use Rattle.scq_law.proofs.Base.StartTickets.{one_place}
use Rattle.scq_law.proofs.Base.Based.{based, turn_knows}
use Rattle.scq_law.proofs.Base.EventSteps.{EventStep, event_step}
use Rattle.scq_law.proofs.Base.SeatStances.{stance_has}
use Rattle.scq_law.proofs.Base.SeatSums.{total_change}
use Rattle.scq_law.proofs.Balance.Sums.{sum_same, sum_change}
use Rattle.scq_law.proofs.Threshold.Covering.{bit, here_one, there_none}
use Rattle.scq_law.proofs.Tickets.RunCounts.{calls_then}
use Rattle.scq_law.proofs.Places.HandLemmas.{seen_times}
use Rattle.scq_law.proofs.Places.Throughout.{once, reached}
use Rattle.scq_law.proofs.Balance.LeftTurns.{laid_bit, got_bit, left_turn}

-- what an event does to the indices of each ring
abbrev Lefts : Setup → TicketEvent → Machine → Machine → Type 0
Lefts c e m n = (r : ℕ) → left_in c n.cells r + got_bit r e ≡ left_in c m.cells r + laid_bit r e

-- a seat's placed index, by its stance and by its phase
abbrev landing : ℕ → Stance → ℕ
landing r s = one_on r (placed_ring s)

-- the call that an event ends took an index where the event takes one
ends_got : (r : ℕ) (e : TicketEvent) → tally (was_got r) (ended_by e) ≡ got_bit r e
ends_got r (taken q h i w) = omega arith
ends_got r e = refl

-- a put that ends had placed its index; an event that places has its seat place one
puts_event : (c : Setup) (time : ℕ) (g : Ghost) (m : Machine) (k : ℕ) (e : TicketEvent) (n : Machine) → EventStep c time g m k e n → (r : ℕ)
    → tally (was_done r) (ended_by e) + landing r (stance n k) ≡ landing r (stance m k) + laid_bit r e
puts_event c time g m k (calm) n event_step r = let d = event_step.event_facts in rw d.stance (omega arith)
puts_event c time g m k (drew q i w t) n event_step r =
    let d = event_step.event_facts in
    elim d.proper.was [ inl rests ↦ rw (d.stance, rests.rests) refl | inr was ↦ rw (d.stance, was) refl ]
puts_event c time g m k (fell q i w t found) n event_step r = let d = event_step.event_facts in rw (d.stance, d.proper.was) refl
puts_event c time g m k (laid q i w t) n event_step r = let d = event_step.event_facts in rw (d.stance, d.proper.was) refl
puts_event c time g m k (finished q i w t) n event_step r =
    let d = event_step.event_facts in rw (d.stance, d.proper.was) (omega arith)
puts_event c time g m k (entered q) n event_step r = let d = event_step.event_facts in rw (d.stance, d.proper.was.rests) refl
puts_event c time g m k (refused q) n event_step r = let d = event_step.event_facts in rw (d.stance, d.proper.was.rests) refl
puts_event c time g m k (began q h) n event_step r = let d = event_step.event_facts in rw (d.stance, d.proper.was) refl
puts_event c time g m k (died q h) n event_step r = let d = event_step.event_facts in rw (d.stance, d.proper.was) refl
puts_event c time g m k (saw_end q h) n event_step r = let d = event_step.event_facts in rw (d.stance, d.proper.was) refl
puts_event c time g m k (lifted q h to) n event_step r = let d = event_step.event_facts in rw (d.stance, d.proper.was) refl
puts_event c time g m k (taken q h i w) n event_step r = let d = event_step.event_facts in rw (d.stance, d.proper.was) refl
puts_event c time g m k (lowered q h) n event_step r = let d = event_step.event_facts in rw (d.stance, d.proper.was) refl
puts_event c time g m k (emptied q h) n event_step r =
    let d = event_step.event_facts in
    elim d.proper.was [ inl was ↦ rw (d.stance, was) refl | inr was ↦ rw (d.stance, was.0) refl ]
puts_event c time g m k (overran q t true) n event_step r =
    let d = event_step.event_facts in
    elim d.proper.was [ inl rests ↦ rw (d.stance, rests.rests) refl | inr was ↦ rw (d.stance, was.2) refl ]
puts_event c time g m k (overran q t false) n event_step r = let d = event_step.event_facts in rw (d.stance, d.proper.was) refl

balanced_step : (c : Setup) (time : ℕ) (g : Ghost) (m : Machine) (k : ℕ) (e : TicketEvent) (n : Machine) → EventStep c time g m k e n → Lefts c e m n
    → Balanced c m → Balanced c n
balanced_step c time g m k e n event_step lefts was =
    record {
      balance =
          λ r.
          let left = lefts r in
          let before = was.balance r in
          let gets = total_change (gets_of r) m.part n.part k c.seats event_step.low event_step.event_facts.others in
          let puts = total_change (puts_of r) m.part n.part k c.seats event_step.low event_step.event_facts.others in
          let got_calls = calls_then (was_got r) c g m k e n event_step.event_facts in
          let done_calls = calls_then (was_done r) c g m k e n event_step.event_facts in
          let got = ends_got r e in
          let put = puts_event c time g m k e n event_step r in
          omega arith;
    }

-- a hand that an index leaves
without-length : (hand : List ℕ) (i : ℕ) → length (hand_without i hand) + times i hand ≡ length hand
without-length [] i = refl
without-length (y ∷ hand) i =
    let rest = without-length hand i in
    elim (cases_eq y i) [ inl same ↦ rw (eq-eqb y i same) (omega arith) | inr other ↦ rw (ne_eqb y i other) (omega arith) ]

-- a sum in which one number grows, or falls
sum_at : (f h : ℕ → ℕ) (q n a : ℕ) → q < n → ((r : ℕ) → r ≢ q → h r ≡ f r) → h q ≡ f q + a → sum_to h n ≡ sum_to f n + a
sum_at f h q n a low others here = let moved = sum_change f h q n low others in omega arith

sum_none : (f : ℕ → ℕ) (n : ℕ) → ((j : ℕ) → j < n → f j ≡ 0) → sum_to f n ≡ 0
sum_none f zero none = refl
sum_none f (suc n) none =
    let here = none n (omega arith) in
    let rest = sum_none f n (λ j low. none j (omega arith)) in
    omega arith

-- the rings below a number, where an index comes to one of them
below_more : (c : Setup) (m n : Cells) (q : ℕ) → q < c.rings → ((r : ℕ) → left_in c n r ≡ left_in c m r + bit q r)
    → left_below c n c.rings ≡ left_below c m c.rings + 1
below_more c m n q low moves =
    sum_at (left_in c m) (left_in c n) q c.rings 1 low
    (λ r other. let there = there_none q r other in let move = moves r in omega arith)
    (let here = here_one q q refl in let move = moves q in omega arith)

kept_step : (c : Setup) (time : ℕ) (g : Ghost) (m : Machine) (k : ℕ) (e : TicketEvent) (n : Machine) → Trace c time g m → EventStep c time g m k e n
    → Lefts c e m n → left_below c m.cells c.rings + total (λ p. length p.hand) m.part c.seats ≡ n_of c.order
    → left_below c n.cells c.rings + total (λ p. length p.hand) n.part c.seats ≡ n_of c.order
kept_step c time g m k (laid q i w t) n trace event_step lefts was =
    let d = event_step.event_facts in
    let hands = total_change (λ p. length p.hand) m.part n.part k c.seats event_step.low d.others in
    let offers = (stance_has c g m k (putting q i w t) event_step.base d.proper.was).0 in
    let below = below_more c m.cells n.cells q offers.ring (λ r. let move = lefts r in omega arith) in
    let single = (once c time g m trace).single k i in
    let some = seen_times (m.part k).hand i d.proper.held in
    let rest = without-length (m.part k).hand i in
    let hand : length (n.part k).hand ≡ length (hand_without i (m.part k).hand) = ap length d.hand in
    omega arith
kept_step c time g m k (taken q h i w) n trace event_step lefts was =
    let d = event_step.event_facts in
    let hands = total_change (λ p. length p.hand) m.part n.part k c.seats event_step.low d.others in
    let ring = (stance_has c g m k (trying q h) event_step.base d.proper.was).0 in
    let below = below_more c n.cells m.cells q ring (λ r. let move = lefts r in omega arith) in
    let rest = length-append (m.part k).hand (i ∷ []) in
    let hand : length (n.part k).hand ≡ length ((m.part k).hand ++ i ∷ []) = ap length d.hand in
    omega arith
kept_step c time g m k e n trace event_step lefts was =
    let d = event_step.event_facts in
    let hands = total_change (λ p. length p.hand) m.part n.part k c.seats event_step.low d.others in
    let below = sum_same (left_in c m.cells) (left_in c n.cells) c.rings (λ r low. let move = lefts r in omega arith) in
    let hand : length (n.part k).hand ≡ length (m.part k).hand = ap length d.hand in
    omega arith

-- so many slots of ring 0 have an index at the start
module _ (c : Setup) where
  abbrev slots : ℕ
  slots = ring_slots c

  abbrev has_at : ℕ → ℕ → ℕ
  has_at j s = has_index c (filled c j s)

  unused_none : has_index c (unused slots) ≡ 0
  unused_none = rw (none_in-marked slots 0 1 (some_slots c)) refl

  -- the slot of the next opening place is free
  still_free : (j : ℕ) → j < n_of c.order → has_at j (slot c (slots + j)) ≡ 0
  still_free j low =
      elim (fills c [] j (slot c (slots + j))) [
        | inl f ↦
            let less = f.low in
            let same : slots + j ≡ slots + f.index = one_place c (slots + j) f.index (omega arith) (omega arith) (omega arith) f.slot in
            absurd (omega arith)
        | inr f ↦ rw f.word unused_none
      ]

  filled_left : (j : ℕ) → j ≤ n_of c.order → sum_to (has_at j) slots ≡ j
  filled_left zero le = sum_none (has_at 0) slots (λ s low. unused_none)
  filled_left (suc j) le =
      let at = slot c (slots + j) in
      let rest = filled_left j (omega arith) in
      let free = still_free j (omega arith) in
      let some = none_in-filled slots 1 1 j (below_mark c j (omega arith)) in
      let here : has_at (suc j) at ≡ 1 = rw (eq-eqb at at refl, some) refl in
      let moved = sum_change (has_at j) (has_at (suc j)) at slots (slot_of_small c.order (slots + j)) (λ s other. rw (ne_eqb s at other) refl) in
      omega arith

  start_left : (opening : List (List ℕ)) (r : ℕ) → left_in c (start_cells c opening) r ≡ openings c r
  start_left opening r =
      elim (cases_eq r 0) [
        | inl ring ↦ rw ring (filled_left (n_of c.order) (omega arith))
        | inr other ↦
            rw (ne_eqb r 0 other) (sum_none (λ s. has_index c (unused slots)) slots (λ s low. unused_none))
      ]

  start_balanced : (opening : List (List ℕ)) → Balanced c (start_of c opening)
  start_balanced opening =
      record {
        balance =
            λ r.
            let left = start_left opening r in
            let gets = total_none (gets_of r) (start_of c opening).part c.seats (λ k low. refl) in
            let puts = total_none (puts_of r) (start_of c opening).part c.seats (λ k low. refl) in
            omega arith;
      }

  start_kept : (opening : List (List ℕ))
      → left_below c (start_cells c opening) c.rings + total (λ p. length p.hand) (start_of c opening).part c.seats ≡ n_of c.order
  start_kept opening =
      let some = c.rings_in_range in
      let none = sum_none (λ r. 0) c.rings (λ r low. refl) in
      let all = sum_at (λ r. 0) (left_in c (start_cells c opening)) 0 c.rings (n_of c.order) (omega arith)
      (λ r other. start_left opening r ∙ rw (ne_eqb r 0 other) refl)
      (let full : left_in c (start_cells c opening) 0 ≡ n_of c.order = start_left opening 0 in omega arith) in
      let hands = total_none (λ p. length p.hand) (start_of c opening).part c.seats (λ k low. refl) in
      omega arith

-- both, throughout a run
record IsKept (c : Setup) (m : Machine) : Type 0 where
  balanced : Balanced c m
  kept : left_below c m.cells c.rings + total (λ p. length p.hand) m.part c.seats ≡ n_of c.order

kept_along : (c : Setup) (time : ℕ) (g : Ghost) (m : Machine) → Trace c time g m → IsKept c m
kept_along c time g m (trace_start opening full) =
    record { balanced = start_balanced c opening; kept = start_kept c opening }
kept_along c time g m (trace_step {time = t} {g = h} {m = old} k s turn trace low enabled) =
    let p = old.part k in
    let base = based c t h old trace in
    let sc = event_step c t h old k s turn low enabled base in
    let busy = has c old.cells p s turn (base.steady.busy k) enabled in
    let knows = turn_knows c old.cells h p s turn enabled (base.knows k) in
    let lefts : Lefts c (event_of c old turn) old (moved c old k turn) = λ r. left_turn c old.cells h p.hand r turn busy knows in
    let was = kept_along c t h old trace in
    record {
      balanced = balanced_step c t h old k (event_of c old turn) (moved c old k turn) sc lefts was.balanced;
      kept = kept_step c t h old k (event_of c old turn) (moved c old k turn) trace sc lefts was.kept;
    }

pub balanced : (c : Setup) (m : Machine) → IsReachable c m → Balanced c m
balanced c m reach = let s = has_trace c m reach in (kept_along c s.time s.ghost m s.trace).balanced

-- a seat's hand holds at most n, since all that is kept is n
hand_within : (c : Setup) (time : ℕ) (g : Ghost) (m : Machine) → Trace c time g m → (k : ℕ) → length (m.part k).hand ≤ n_of c.order
hand_within c time g m trace k =
    let all = (kept_along c time g m trace).kept in
    elim (cases_lt k c.seats) [
      | inl low ↦ let one = total_one (λ p. length p.hand) m.part c.seats k low in omega arith
      | inr high ↦
          let none : length (m.part k).hand ≡ 0 = ap (λ (p : SeatPart). length p.hand) ((reached c time g m trace).absent k high) in
          omega arith
    ]

pub all_kept : (c : Setup) (m : Machine) → IsReachable c m → AllKept c m
all_kept c m reach =
    let s = has_trace c m reach in
    record { kept = (kept_along c s.time s.ghost m s.trace).kept; fits = hand_within c s.time s.ghost m s.trace }

pub hand_fits : (c : Setup) (m : Machine) (k : ℕ) → IsReachable c m → length (m.part k).hand ≤ n_of c.order
hand_fits c m k reach = (all_kept c m reach).fits k
