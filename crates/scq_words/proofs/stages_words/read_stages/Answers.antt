use Rattle.std.proofs.Common.{refl, map}
use Rattle.clap.specs.Words.{found_of}
use Rattle.scq_words.specs.Exports.{stages_app, asked_of_stages, stages_of, stages_asked, staged, stages_tests}
use Rattle.scq_words.proofs.Answered.{tested, unparsed}
use Rattle.scq_words.proofs.Answering.{given_or_empty, stages-texts}
use Rattle.scq_words.proofs.InRange.{stages-other}
use Rattle.scq_words.proofs.stages_words.read_stages.Goals as goal

pub returns : goal.returns
unfolding asked_of_stages
returns c =
    let parsed = c.in_ok-matches.ensures stages_app refl c.stages_command.ensures in
    let its = c.check_stages.ensures in
    tested stages_app _ stages_tests staged stages_asked stages_of _ _ c.check_stages.result parsed.passes
    (stages-texts (found_of c.in_ok-matches.matches) parsed.rows c.get_str-workers.ensures c.get_str-order.ensures c.get_str-size.ensures
    c.get_strs.ensures (given_or_empty c.get_strs.result _ (λ s. map (λ v. v.now) s.now) c.unwrap_or-files.ensures refl))
    its.request its.refused stages-other its.ranges

pub returns-in_err-matches : goal.returns-in_err-matches
unfolding asked_of_stages
returns-in_err-matches c =
    unparsed stages_app _ _ _ (λ request. staged (stages_of request)) c.in_err-matches.field-0.0 c.from_residual.result
    (c.in_err-matches.ensures stages_app refl c.stages_command.ensures) c.from_residual.ensures.1
