-- The orders of a finished run's rings, written one after another.
use Rattle.std.proofs.Common.{◌≡◌, ◌≢◌, ℕ, zero, suc, ◌+◌, ◌<◌, ◌≤◌, inl, inr, List, [], ◌++◌, get_or, refl, sym, ◌∙◌, ap, subst, arith}
use Rattle.std.specs.Prelude.{Some, slice_get}
use Rattle.std.specs.List.{All}
use Rattle.std.proofs.lemmas.Bool.{cases_eq}
use Rattle.std.proofs.lemmas.Option.{slice_get-get_or, slice_get_within}
use Rattle.scq_core.specs.declared.step.Step.{Step}
use Rattle.scq_core.specs.Machine.{Machine}
use Rattle.scq_core.specs.Exports.{machine_of, updated}
use Rattle.scq_core.proofs.UpdatedLemmas.{updated_here, updated_else}
use Rattle.scq_law.specs.declared.ordered.Ordered.{Ordered}
use Rattle.scq_law.specs.Exports.{Key, HasKey, of_nothing, of_put, of_get, IsLinearization, IsFinishedRun}
use Rattle.scq_law.specs.Order.{of_opening}
use Rattle.scq_law.proofs.Order.RunStates.{get_or_any}
use Rattle.scq_replay.specs.declared.ordering.Schedule.{Schedule}
use Rattle.scq_replay.specs.Exports.{run_of_schedule, ScheduleLeads, IsScheduleOf, IsNumberedCall, IsOrderText, ring_lines, rings_lines}
use Rattle.scq_replay.proofs.ScheduleRuns.{last_is}

-- the lines of the first rings, each of which has its order
pub record OrdersAreWritten (s : Schedule) (ring : ℕ) (text : List ℕ) : Type 0 where
  pub orders : ℕ → List Ordered
  pub each : (r : ℕ) → r < ring → IsFinishedRun (run_of_schedule s) × IsLinearization (run_of_schedule s) r (orders r)
  pub written : text ≡ rings_lines (machine_of s.state) orders ring

pub written_none : (s : Schedule) (text : List ℕ) → text ≡ [] → OrdersAreWritten s 0 text
written_none s text none = record { orders = λ r. []; each = λ r low. absurd (omega arith); written = none }

-- a ring's order plays no part in the lines of those below it
below_same : (m : Machine) (orders : ℕ → List Ordered) (order : List Ordered) (ring at : ℕ) → at ≤ ring
    → rings_lines m (updated orders ring order) at ≡ rings_lines m orders at
below_same m orders order ring zero low = refl
below_same m orders order ring (suc at) low =
    let other : at ≢ ring = λ same. (absurd (omega (arith, low, same))) in
    let rest = below_same m orders order ring at (omega (arith, low)) in
    let here : updated orders ring order at ≡ orders at = updated_else orders ring order at other in
    ap (λ (lines : List ℕ). lines ++ ring_lines m at (updated orders ring order at)) rest
    ∙ ap (λ (own : List Ordered). rings_lines m orders at ++ ring_lines m at own) here

pub written_next : (s : Schedule) (ring : ℕ) (order : List Ordered) (old new : List ℕ) → OrdersAreWritten s ring old → IsFinishedRun (run_of_schedule s)
    → IsLinearization (run_of_schedule s) ring order → new ≡ old ++ ring_lines (machine_of s.state) ring order → OrdersAreWritten s (ring + 1) new
written_next s ring order old new before finished linear adds =
    let m = machine_of s.state in
    let orders = updated before.orders ring order in
    let here : orders ring ≡ order = updated_here before.orders ring order in
    let next : ring + 1 ≡ suc ring = omega arith in
    record {
      orders = orders;
      each =
          λ r low.
          elim (cases_eq r ring) [
            | inl same ↦ (finished, rw (same, here) linear)
            | inr other ↦
                let below = before.each r (omega (arith, low, other)) in
                (below.0, rw (updated_else before.orders ring order r other) below.1)
          ];
      written =
          adds
          ∙ ap (λ (lines : List ℕ). lines ++ ring_lines m ring order)
          (before.written ∙ sym (below_same m before.orders order ring ring (omega arith)))
          ∙ ap (λ (own : List Ordered). rings_lines m orders ring ++ ring_lines m ring own) (sym here)
          ∙ ap (rings_lines m orders) (sym next);
    }

-- after the last ring
pub written_all : (lines : List (List ℕ)) (s : Schedule) (ring : ℕ) (text : List ℕ) → IsScheduleOf lines s → s.state.setup.rings ≤ ring
    → ring ≤ s.state.setup.rings → OrdersAreWritten s ring text → IsOrderText lines text
written_all lines s ring text is up down all =
    let same : ring ≡ s.state.setup.rings = omega (arith, up, down) in
    let some = s.state.setup.rings_in_range in
    let first = all.each 0 (omega (arith, some.0, up)) in
    record {
      setup = s.state.setup;
      steps = s.steps.items;
      says = is.says;
      finished = first.0;
      orders = all.orders;
      each = λ r low. (all.each r (omega (arith, low, up))).1;
      written =
          all.written ∙ ap (rings_lines (machine_of s.state) all.orders) same
          ∙ ap (λ (m : Machine). rings_lines m all.orders s.state.setup.rings) (sym (last_is s is.leads));
    }

-- the seat of each step is one of the setup's
module _ (s : Schedule) (leads : ScheduleLeads s) where
  seat_low : (i seat : ℕ) (step : Step) → slice_get s.steps.items i ≡ Some (seat, step) → seat < s.state.setup.seats
  seat_low i seat step there =
      let within = slice_get_within s.steps.items i (seat, step) there in
      let here : Some (get_or s.steps.items i (seat, step)) ≡ Some (seat, step) =
      sym (slice_get-get_or s.steps.items i (seat, step) within) ∙ there in
      let same : get_or s.steps.items i (seat, step) ≡ (seat, step) = cc in
      subst (λ (x : ℕ × Step). x.0 < s.state.setup.seats) same (leads.is_run.seats i (seat, step) within)

  -- so is that of a call in an order, which has a number from 1
  numbered : (r : ℕ) (x : Ordered) (f : Key) → HasKey (run_of_schedule s) r x f → IsNumberedCall s.state.setup x
  numbered r x f (of_opening j ring low) = tt
  numbered r x f (of_nothing seat call d ended decides) = (seat_low d seat decides.makes.step decides.makes.there, omega arith)
  numbered r x f (of_put seat call p point w ended put) = (seat_low put.drawn seat put.draws.makes.step put.draws.makes.there, omega arith)
  numbered r x f (of_get seat call p point w ended get) = (seat_low get.drawn seat get.draws.makes.step get.draws.makes.there, omega arith)

  pub all_numbered : (r : ℕ) (order : List Ordered) → IsLinearization (run_of_schedule s) r order → All (IsNumberedCall s.state.setup) order
  all_numbered r order linear k d low =
      let x = get_or order k d in
      let one = linear.only x (k, low, get_or_any order k x d low) in
      numbered r x one.0 one.1
