use Rattle.std.proofs.Common.{refl, map}
use Rattle.clap.specs.Words.{found_of}
use Rattle.scq_words.specs.Exports.{run_app, asked_of_run, asked_run, run_asked, run, run_tests}
use Rattle.scq_words.proofs.Answered.{tested, unparsed}
use Rattle.scq_words.proofs.Answering.{given_or_empty, run-texts}
use Rattle.scq_words.proofs.InRange.{run-other}
use Rattle.scq_words.proofs.run.read_run.Goals as goal

pub returns : goal.returns
unfolding asked_of_run
returns c =
    let parsed = c.in_ok-matches.ensures run_app refl c.run_command.ensures in
    let its = c.check_run.ensures in
    tested run_app _ run_tests run run_asked asked_run _ _ c.check_run.result parsed.passes
    (run-texts (found_of c.in_ok-matches.matches) parsed.rows c.get_str-workers.ensures
    c.get_str-order.ensures c.get_str-size.ensures c.get_str-topics.ensures c.get_str-batch.ensures c.get_str-report.ensures
    c.get_strs.ensures (given_or_empty c.get_strs.result _ (λ s. map (λ v. v.now) s.now) c.unwrap_or-files.ensures refl))
    its.request its.refused run-other its.ranges

pub returns-in_err-matches : goal.returns-in_err-matches
unfolding asked_of_run
returns-in_err-matches c =
    unparsed run_app _ _ _ (λ request. run (asked_run request)) c.in_err-matches.field-0.0 c.from_residual.result
    (c.in_err-matches.ensures run_app refl c.run_command.ensures) c.from_residual.ensures.1
