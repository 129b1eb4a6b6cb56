-- The laws of what was replayed: the state is that of a run, and the history and counts are its own.
use Rattle.std.proofs.Common.{◌≡◌, ℕ, ◌+◌, ◌<◌, ◌≤◌, List, length, sym, subst, arith}
use Rattle.std.specs.List.{All}
use Rattle.std.proofs.lemmas.List.Elements.{All-from_get_or}
use Rattle.scq_word.specs.declared.setup.Setup.{Setup}
use Rattle.scq_word.specs.Exports.{reset_value, n_of}
use Rattle.scq_core.specs.declared.step.Step.{Step}
use Rattle.scq_core.specs.Machine.{Machine}
use Rattle.scq_core.specs.Exports.{machine_of, IsReachable}
use Rattle.scq_core.proofs.Limits.{counters_bounded}
use Rattle.scq_core.proofs.Floor.{threshold_floor}
use Rattle.scq_hist.specs.Exports.{HasAspects}
use Rattle.scq_law.specs.declared.replayed.Replayed.{Replayed}
use Rattle.scq_law.specs.Exports.{EnqueuesBegun, FewSteps, ReplaysRun, ObeysStateLaws, CountsHold, ObeysLaws, ObeysRunLaws}
use Rattle.scq_law.proofs.Aspects.CoupledRuns.{tied_run}
use Rattle.scq_law.proofs.Aspects.EmptyRight.{has_aspects}
use Rattle.scq_law.proofs.Balance.KeptLaws.{balanced, all_kept}
use Rattle.scq_law.proofs.Places.EntryLaws.{entries_match_places}
use Rattle.scq_law.proofs.Places.HandLaws.{one_hand}
use Rattle.scq_law.proofs.Places.PlaceLaws.{places_once}
use Rattle.scq_law.proofs.Progress.AloneCalls.{ends_alone}
use Rattle.scq_law.proofs.Progress.ProgressLaws.{has_progress}
use Rattle.scq_law.proofs.Progress.WholeCalls.{delayed_by_ends}
use Rattle.scq_law.proofs.Replays.LastingPlaces.{places_last_throughout}
use Rattle.scq_law.proofs.Replays.RisingWords.{rises_throughout}
use Rattle.scq_law.proofs.Replays.RunLaws.{run_reaches}
use Rattle.scq_law.proofs.Retries.CallLaws.{calls_end}
use Rattle.scq_law.proofs.Retries.RetryLaws.{retries_rise}
use Rattle.scq_law.proofs.Retries.StepLaws.{few_steps}
use Rattle.scq_law.proofs.Threshold.FailsBound.{fails_bounded}
use Rattle.scq_law.proofs.Tickets.BegunLaws.{enqueues_begun}
use Rattle.scq_law.proofs.Tickets.SpentLaws.{spent_kept}
use Rattle.scq_law.proofs.Tickets.SpentTickets.{none_spent}
use Rattle.scq_law.proofs.Tickets.TicketLaws.{within_window, threshold_covers, tickets_bounded}

-- every state that steps reach
pub state_obeys : (c : Setup) (m : Machine) → IsReachable c m → ObeysStateLaws c m
state_obeys c m reach =
    record {
      one_hand = one_hand c m reach;
      places_once = places_once c m reach;
      entries_match_places = entries_match_places c m reach;
      counters_bounded = counters_bounded c m reach;
      threshold_floor = threshold_floor c m reach;
      within_window = within_window c m reach;
      threshold_covers = threshold_covers c m reach;
      tickets_bounded = tickets_bounded c m reach;
      none_spent = none_spent c m reach;
      spent_kept = spent_kept c m reach;
      balanced = balanced c m reach;
      all_kept = all_kept c m reach;
      retries_rise = retries_rise c m reach;
      calls_end = calls_end c m reach;
    }

module _ (c : Setup) (opening : List (List ℕ)) (steps : List (ℕ × Step)) (full : length opening ≡ n_of c.order)
    (seats : All (λ (x : ℕ × Step). x.0 < c.seats) steps) where
  pub run_obeys : ObeysRunLaws c opening steps
  run_obeys =
      record {
        progress = has_progress c opening steps;
        delayed_by_ends = delayed_by_ends c opening steps;
        ends_alone = ends_alone c opening steps;
        rises = rises_throughout c opening steps full seats;
        places_last = places_last_throughout c opening steps full seats;
      }

  module _ (replayed : Replayed) (shows : ReplaysRun c opening steps replayed) where
    replayed_state : ObeysStateLaws c (machine_of replayed.state)
    replayed_state =
        subst (ObeysStateLaws c) (sym shows.state)
        (state_obeys c shows.recorded.state (run_reaches c opening steps shows.recorded shows.run))

    replayed_history : HasAspects opening replayed.events.items
    replayed_history =
        subst (HasAspects opening) (sym shows.events)
        (has_aspects c opening full shows.recorded (tied_run c opening steps shows.recorded full seats shows.run))

    replayed_counts : CountsHold c steps replayed
    replayed_counts =
        let few = fails_bounded c opening steps shows.recorded full seats shows.run.recorded_is in
        record {
          fails_bounded =
              All-from_get_or (λ fails. fails ≤ reset_value c.order c.seats + c.seats) replayed.fails.items 0
              (λ r low. (let is = shows.fails.each r in let bound = few.fails r in omega arith));
          begun =
              subst (λ m. EnqueuesBegun c m replayed.events.items) (sym shows.state)
              (subst (EnqueuesBegun c shows.recorded.state) (sym shows.events) (enqueues_begun c opening steps shows.recorded shows.run));
          few_steps = subst (FewSteps c steps) (sym shows.state) (few_steps c opening steps shows.recorded shows.run);
        }

    pub replayed_laws : ObeysLaws c opening steps replayed
    replayed_laws = record { state = replayed_state; history = replayed_history; counts = replayed_counts }
