-- Runs and reachable states are one; what a word was does not come back.
use Rattle.std.proofs.Common.{◌≡◌, ℕ, List, [], ◌∷◌, ◌++◌, refl, ap, inl, inr, sym}
use Rattle.std.specs.Prelude.{Some}
use Rattle.std.specs.Option.{option_map}
use Rattle.std.proofs.lemmas.Bool.{cases_eq}
use Rattle.scq_word.specs.declared.setup.Setup.{Setup}
use Rattle.scq_core.specs.declared.step.Step.{Step}
use Rattle.scq_core.specs.Machine.{Machine}
use Rattle.scq_core.specs.Exports.{turn_of, ring_slots, RankRises, CountersRise, IsReachable, at_start}
use Rattle.scq_core.specs.Reach as reach
use Rattle.scq_core.proofs.Entries.{above_apart}
use Rattle.scq_core.proofs.Fits.{step_rises}
use Rattle.scq_core.proofs.Ranks.{ranks_same, ranks_trans, counters_same, counters_trans}
use Rattle.scq_core.proofs.Turns.{turned}
use Rattle.scq_law.specs.Exports.{IsLater, at_once, Recorded, recorded_after, recorded_first, IsRun, EndsRun}
use Rattle.scq_law.specs.Later as later
use Rattle.scq_law.proofs.Replays.LongerRuns.{run_first, run_last}
use Rattle.scq_law.proofs.Replays.RecordedRuns.{all_along, turn_reaches}

-- a run ends in a reachable state
pub run_reaches : (c : Setup) (opening : List (List ℕ)) (steps : List (ℕ × Step)) (recorded : Recorded)
    → IsRun c opening steps recorded → IsReachable c recorded.state
run_reaches c opening steps recorded run =
    all_along c (λ t. IsReachable c t.state) (λ t k s turn low enabled holds. turn_reaches c t.state k s turn low enabled holds)
    steps (recorded_first c opening) recorded run.seats run.recorded_is (at_start opening run.full)

-- and each reachable state is the end of one, by its steps in order
pub reached_by_run : (c : Setup) (m : Machine) → IsReachable c m → EndsRun c m
reached_by_run c m (at_start opening full) =
    record {
      opening = opening;
      steps = [];
      recorded = recorded_first c opening;
      run = run_first c opening full;
      ends = refl;
    }
reached_by_run c m' (reach.by_step {m = m} k s before low is) =
    let e = reached_by_run c m before in
    let t = turned c m k s m' is in
    let enabled : turn_of c (e.recorded.state.part k) s ≡ Some t.turn = rw e.ends t.enabled in
    let next = recorded_after c k t.turn e.recorded in
    record {
      opening = e.opening;
      steps = e.steps ++ (k, s) ∷ [];
      recorded = next;
      run = run_last c e.opening e.steps e.recorded next (k, s) e.run low (ap (option_map (λ turn. recorded_after c k turn e.recorded)) enabled);
      ends = rw e.ends (sym t.next);
    }

-- what comes later rises
pub later_rises : (c : Setup) (m n : Machine) → IsReachable c m → IsLater c m n → IsReachable c n × RankRises c m.cells n.cells × CountersRise m.cells n.cells
later_rises c m n start at_once = (start, ranks_same c m.cells, counters_same m.cells)
later_rises c m n' start (later.by_step {n = n} k s before low is) =
    let h = later_rises c m n start before in
    let up = step_rises c n n' k s h.0 is in
    (reach.by_step k s h.0 low is, ranks_trans c m.cells n.cells n'.cells h.1 up.0, counters_trans m.cells n.cells n'.cells h.2 up.1)

-- a word that has changed never comes back
pub never_back : (c : Setup) (m n o : Machine) (r s : ℕ) → IsReachable c m → IsLater c m n → IsLater c n o
    → o.cells.entries.word r s ≡ m.cells.entries.word r s → n.cells.entries.word r s ≡ m.cells.entries.word r s
never_back c m n o r s start first second same =
    let low = later_rises c m n start first in
    let high = later_rises c n o low.0 second in
    elim (cases_eq (n.cells.entries.word r s) (m.cells.entries.word r s)) [
      | inl is ↦ is
      | inr apart ↦ absurd (above_apart (ring_slots c) _ _ _ (low.1.rises r s) apart (high.1.rises r s) same)
    ]
