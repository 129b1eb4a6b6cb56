-- The state in which a run ends: steps reach it, and its opening contents are the run's.
use Rattle.std.proofs.Common.{◌≡◌, ℕ, List, refl, sym, ◌∙◌, ap, subst}
use Rattle.scq_word.specs.declared.setup.Setup.{Setup}
use Rattle.scq_core.specs.declared.step.Step.{Step}
use Rattle.scq_core.specs.Machine.{Machine}
use Rattle.scq_core.specs.Exports.{IsReachable}
use Rattle.scq_law.specs.Exports.{recorded_first}
use Rattle.scq_law.proofs.Replays.RecordedRuns.{all_along}
use Rattle.scq_law.proofs.Replays.RunLaws.{run_reaches}
use Rattle.scq_band.specs.Exports.{LeadsTo}

pub reaches : {c : Setup} {opening : List (List ℕ)} {run : List (ℕ × Step)} {m : Machine} → LeadsTo c opening run m → IsReachable c m
reaches {c} {opening} {run} {m} leads =
    subst (λ (n : Machine). IsReachable c n) leads.ends (run_reaches c opening run leads.recorded leads.is_run)

pub opens_with : {c : Setup} {opening : List (List ℕ)} {run : List (ℕ × Step)} {m : Machine} → LeadsTo c opening run m → m.opening ≡ opening
opens_with {c} {opening} {run} {m} leads =
    sym (ap (λ (n : Machine). n.opening) leads.ends)
    ∙ all_along c (λ t. t.state.opening ≡ opening) (λ t k s turn low enabled holds. holds) run (recorded_first c opening) leads.recorded leads.is_run.seats
    leads.is_run.recorded_is refl
