use Rattle.std.proofs.Common.{◌≡◌, Bool, true, false, refl, map}
use Rattle.std.specs.Prelude.{◌&&◌, not, string_bytes}
use Rattle.clap.specs.Words.{found_of, matches_of, takes}
use Rattle.scq_words.specs.Exports.{judge_app, judge_takes, judge_texts, asked_of_judge, judge_of, judge_asked, judged, judge_tests}
use Rattle.scq_words.proofs.Answered.{tested-too, unparsed, less-taken}
use Rattle.scq_words.proofs.Answering.{given_or_empty, judge-texts}
use Rattle.scq_words.proofs.InRange.{judge-beside}
use Rattle.scq_words.proofs.judge_words.read_judge.Goals as goal

none-beside : (a b : Bool) → b ≡ true → (a && not b) ≡ false
none-beside true b is = rw is refl
none-beside false b is = refl

none-taken : (a b : Bool) → a ≡ false → (a && not b) ≡ false
none-taken a b is = rw is refl

pub returns : goal.returns
unfolding asked_of_judge
returns c =
    let parsed = c.in_ok-matches.ensures judge_app refl c.judge_command.ensures in
    let its = c.check_judge.ensures in
    let texts = judge-texts (found_of c.in_ok-matches.matches) parsed.rows c.get_str-room.ensures c.get_str-strict.ensures c.get_str-order.ensures
    c.get_strs.ensures (given_or_empty c.get_strs.result _ (λ s. map (λ v. v.now) s.now) c.unwrap_or-files.ensures refl) in
    tested-too judge_app _ (judge_takes (map string_bytes c.args.words.now)) judge_tests judged judge_asked judge_of _ _ c.check_judge.result parsed.passes texts
    its.request its.refused (λ e. none-beside _ _ (judge-beside (judge_texts (matches_of judge_app (map string_bytes c.args.words.now))) e)) its.ranges

pub returns-in_err-matches : goal.returns-in_err-matches
unfolding asked_of_judge
returns-in_err-matches c =
    less-taken (λ request. judged (judge_of request)) _ (takes judge_app (map string_bytes c.args.words.now)) _ c.from_residual.result (none-taken _ _)
    (unparsed judge_app _ _ _ (λ request. judged (judge_of request)) c.in_err-matches.field-0.0 c.from_residual.result
    (c.in_err-matches.ensures judge_app refl c.judge_command.ensures) c.from_residual.ensures.1)
