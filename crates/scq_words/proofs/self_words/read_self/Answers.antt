use Rattle.std.proofs.Common.{◌≡◌, ◌∙◌, refl, ap, sym, Some, Ok, Err}
use Rattle.clap.specs.Words.{found_of}
use Rattle.scq_words.specs.Exports.{self_app, generated, self_of, asked_of_self, self_tests, self_asked}
use Rattle.scq_words.specs.declared.fault.WordsError.TheVariants.{Refused}
use Rattle.scq_words.proofs.Answered.{tested, unparsed}
use Rattle.scq_words.proofs.Answering.{self-texts}
use Rattle.scq_words.proofs.InRange.{self-other}
use Rattle.scq_words.proofs.self_words.read_self.Goals as goal

pub returns-in-Ok : goal.returns-in-Ok
unfolding asked_of_self
returns-in-Ok c =
    let parsed = c.in_ok-matches.ensures self_app refl c.self_command.ensures in
    tested self_app _ self_tests generated self_asked self_of _ _ (Ok c.in-Ok.request) parsed.passes
    (self-texts (found_of c.in_ok-matches.matches) parsed.rows c.get_str-seed.ensures c.get_str-lines.ensures c.get_str-workers.ensures)
    (sym c.in-Ok.ensures.refused, c.in-Ok.ensures.request) (λ fault is. cc) self-other c.in-Ok.ensures.ranges

pub returns : goal.returns
unfolding asked_of_self
returns c =
    let parsed = c.in_ok-matches.ensures self_app refl c.self_command.ensures in
    tested self_app _ self_tests generated self_asked self_of _ _ (Err (Refused c.in-Err.fault)) parsed.passes
    (self-texts (found_of c.in_ok-matches.matches) parsed.rows c.get_str-seed.ensures c.get_str-lines.ensures c.get_str-workers.ensures)
    tt (λ fault is. let same : c.in-Err.fault ≡ fault = cc in sym c.in-Err.ensures.refused ∙ ap Some same) self-other tt

pub returns-in_err-matches : goal.returns-in_err-matches
unfolding asked_of_self
returns-in_err-matches c =
    unparsed self_app _ _ _ (λ request. generated (self_of request)) c.in_err-matches.field-0.0 c.from_residual.result
    (c.in_err-matches.ensures self_app refl c.self_command.ensures) c.from_residual.ensures.1
