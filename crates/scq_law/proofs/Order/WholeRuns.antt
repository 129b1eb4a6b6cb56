-- The members that were marked of a finished run, sorted, are its order.
use Rattle.std.proofs.Common.{◌≡◌, ℕ, List, map, sym, subst}
use Rattle.std.specs.List.Sorted.{IsPermutation}
use Rattle.scq_word.specs.declared.setup.Setup.{Setup}
use Rattle.scq_core.specs.declared.step.Step.{Step}
use Rattle.scq_core.specs.Machine.{Machine}
use Rattle.scq_core.specs.Exports.{machine_of}
use Rattle.scq_law.specs.Exports.{AllIdle, IsMarkedRun, HoldsOrder, AreInKeyOrder, IsLinearization, run_of, IsFinishedRun}
use Rattle.scq_law.specs.declared.marking.Marking.{Marking}
use Rattle.scq_law.specs.declared.marks.Member.{Member}
use Rattle.scq_law.specs.declared.ordered.Ordered.{Ordered}
use Rattle.scq_law.proofs.Order.Linear.{linear}

module _ (c : Setup) (opening : List (List ℕ)) (steps : List (ℕ × Step)) (r : ℕ) (v : Marking) (marked : IsMarkedRun c opening steps r v)
    (idle : AllIdle v.state.setup (machine_of v.state)) where
  all_idle : AllIdle c marked.recorded.state
  all_idle = subst (λ (m : Machine). AllIdle c m) marked.state (subst (λ (d : Setup). AllIdle d (machine_of v.state)) marked.setup idle)

  pub finished : IsFinishedRun (run_of c opening steps)
  finished = record { recorded = marked.recorded; is_run = marked.is_run; idle = all_idle }

  pub whole : (members sorted : List Member) (list : List Ordered) → members ≡ v.marks.members.items → IsPermutation members sorted → AreInKeyOrder sorted
      → list ≡ map (λ (m : Member). m.ordered) sorted → IsLinearization (run_of c opening steps) r list
  whole members sorted list same permuted ordered is =
      subst (IsLinearization (run_of c opening steps) r) (sym is)
      (linear (run_of c opening steps) finished r members sorted (subst (HoldsOrder (run_of c opening steps) r) (sym same)
      (marked.marks all_idle)) permuted ordered)
