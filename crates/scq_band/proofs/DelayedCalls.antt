-- A call in the run makes few steps for each call that ends on its ring meanwhile: the law of whole calls, from the run
-- before it to the run that its last step ends.
use Rattle.std.proofs.Common.{◌≡◌, ℕ, ◌<◌, List, [], ◌∷◌, ◌++◌, length, append_assoc, ◌∙◌}
use Rattle.std.specs.List.{All}
use Rattle.std.proofs.Math.Seq.{drop-append_seam}
use Rattle.std.proofs.lemmas.List.Elements.{All-head, All-drop}
use Rattle.scq_word.specs.declared.setup.Setup.{Setup}
use Rattle.scq_core.specs.declared.ended.Ended.{Ended}
use Rattle.scq_core.specs.declared.step.Step.{Step}
use Rattle.scq_law.specs.Exports.{IsPrefix, IsRecordAfter, WholeCallIsDelayedByEnds}
use Rattle.scq_law.proofs.Progress.WholeCalls.{whole_calls_delayed}
use Rattle.scq_law.proofs.Replays.RunPrefixes.{prefix_trans, prefix_shorter}

-- the call's first step is the next after `before`, so its seat is one of the setup's
pub call_delayed : (c : Setup) (opening : List (List ℕ)) (before after : List (ℕ × Step)) (seat : ℕ)
    (first : Step) (calls later : List Ended) → IsPrefix (before ++ (seat, first) ∷ []) after
    → (was : IsRecordAfter c opening before seat calls)
    → (now : IsRecordAfter c opening after seat later)
    → (ended : Ended) → later ≡ calls ++ ended ∷ []
    → WholeCallIsDelayedByEnds c before after was.recorded.state now.recorded.state seat ended
call_delayed c opening before after seat first calls later begins was now ended more =
    let Low = λ (x : ℕ × Step). x.0 < c.seats in
    let one : List (ℕ × Step) = (seat, first) ∷ [] in
    let begun : IsPrefix before after =
    prefix_trans before (before ++ one) after (prefix_shorter before one) begins in
    let rest : List (ℕ × Step) = (seat, first) ∷ begins.more in
    let is : after ≡ before ++ rest = begins.is ∙ append_assoc before one begins.more in
    let all : All Low (before ++ rest) = rw is at now.is_run.seats in
    let low : All Low rest =
    rw (drop-append_seam before rest) at (All-drop Low (length before) (before ++ rest) all) in
    let finished : IsRecordAfter c opening after seat (calls ++ ended ∷ []) = record {
      recorded = now.recorded;
      is_run = now.is_run;
      idle = now.idle;
      calls_are = now.calls_are ∙ more;
    } in
    whole_calls_delayed c opening before after seat calls ended
    (All-head Low (seat, first) begins.more low) begun was finished
