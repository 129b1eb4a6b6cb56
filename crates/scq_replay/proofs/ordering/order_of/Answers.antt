use Rattle.std.proofs.Common.{◌≡◌, ℕ, List, Err, ap, subst}
use Rattle.scq_word.specs.declared.setup.Setup.{Setup}
use Rattle.scq_core.specs.declared.step.Step.{Step}
use Rattle.scq_law.specs.Exports.{StopsAt}
use Rattle.scq_replay.proofs.ScheduleRuns.{no_contents, stops_nowhere}
use Rattle.scq_replay.proofs.ordering.order_of.Goals as goal

-- where steps stop is where they stop from equal starts
same_stop : (c d : Setup) (opening : List (List ℕ)) (steps others : List (ℕ × Step)) (at : ℕ) → c ≡ d → opening ≡ no_contents c → steps ≡ others
    → StopsAt c opening steps at → StopsAt d (no_contents d) others at
same_stop c d opening steps others at setup none same stops =
    subst (λ (e : Setup). StopsAt e (no_contents e) others at) setup
    (subst (λ (xs : List (ℕ × Step)). StopsAt c (no_contents c) xs at) same (subst (λ (os : List (List ℕ)). StopsAt c os steps at) none stops))

pub unreachable-requires : goal.unreachable-requires
unreachable-requires c =
    let s = c.args.schedule.now in
    let at = c.in-Err-NotEnabled.field-0-0 in
    let stops = c.in-Err-NotEnabled.ensures.not_enabled at (ap Err c.in-Err-NotEnabled.field-0-is) in
    stops_nowhere s at c.requires.leads
    (same_stop c.setup-setup.result s.state.setup c.in_ok-opening.opening.items c.deref.result.now s.steps.items at c.setup-setup.ensures
    c.in_ok-opening.ensures.none c.deref.ensures.value stops)
