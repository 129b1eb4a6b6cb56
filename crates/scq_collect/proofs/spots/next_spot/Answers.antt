-- What was put is what is found.
use Rattle.std.proofs.Common.{◌≡◌, ◌∙◌, ℕ, List, Option, Some, None, arith}
use Rattle.scq_collect.specs.Exports.{PartAnswer, viewed_answer}
use Rattle.scq_collect.proofs.SpotLaws.{found, some-body, some-place}
use Rattle.scq_collect.proofs.spots.next_spot.Goals as goal

pub returns-in_err-place-clause-again : goal.returns-in_err-place-clause-again
returns-in_err-place-clause-again c = λ answer rest fits its.
    let some : ◌≡◌ {A = Option ((ℕ × ℕ) × List ℕ)} None (Some _) =
    c.in_err-place.ensures.read ∙ some-place c.args.before answer c.args.bytes.now rest (omega arith) (omega arith) fits its in
    absurd (cc)

pub returns-in_err-answer-clause-again : goal.returns-in_err-answer-clause-again
returns-in_err-answer-clause-again c = λ answer rest fits its.
    let some : ◌≡◌ {A = Option (PartAnswer × List ℕ)} None (Some (answer, rest)) =
    c.in_err-answer.ensures.read
    ∙ some-body c.args.before answer c.args.bytes.now rest c.in_ok-place.place c.in_ok-place.body.now (omega arith) (omega arith) fits its c.in_ok-place.ensures.read in
    absurd (cc)

pub returns-clause-again : goal.returns-clause-again
returns-clause-again c = λ answer rest fits its.
    found c.args.before answer c.args.bytes.now rest c.in_ok-place.place c.in_ok-place.body.now (viewed_answer c.in_ok-answer.answer) c.in_ok-answer.behind.now
    (omega arith) (omega arith) fits its c.in_ok-place.ensures.read c.in_ok-answer.ensures.read
