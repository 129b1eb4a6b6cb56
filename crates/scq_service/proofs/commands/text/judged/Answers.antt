use Rattle.std.proofs.Common.{◌≡◌, ◌∙◌, subst, ℕ, List}
use Rattle.scq_hist.specs.declared.events.Event.{Event}
use Rattle.scq_lines.specs.Exports.{lines_of}
use Rattle.scq_check.specs.Exports.{tokens_in, events_in, IsVerdictOf}
use Rattle.scq_service.proofs.commands.text.judged.Goals as goal

pub returns-clause-told : goal.returns-clause-told
returns-clause-told c =
    let lines = lines_of c.args.text.now in
    let read = c.in_ok-history.ensures in
    let verdict = c.in_ok-verdict.verdict in
    let opening : c.as_slice.result.now ≡ tokens_in lines = c.as_slice.ensures.value ∙ read.opening in
    let events : c.as_slice-2.result.now ≡ events_in lines = c.as_slice-2.ensures.value ∙ read.events in
    let O : List (List ℕ) → Type 0 = λ tokens. IsVerdictOf tokens c.as_slice-2.result.now verdict in
    let E : List Event → Type 0 = λ events. IsVerdictOf (tokens_in lines) events verdict in
    record {
      history = read.history;
      verdict = verdict;
      judged = subst E events (subst O opening c.in_ok-verdict.ensures.verdict);
      said = c.in_ok-verdict_text.ensures;
    }
