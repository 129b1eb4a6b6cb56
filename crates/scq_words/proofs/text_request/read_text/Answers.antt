use Rattle.std.proofs.Common.{◌≡◌, ◌∙◌, refl, ℕ, List, true, ap, sym, map, Some, Ok, Err, arith}
use Rattle.std.specs.Prelude.{string_bytes}
use Rattle.std.proofs.lemmas.Grind.{common_steps}
use Rattle.clap.specs.Words.{found_of, is_simple_and_free, matches_of}
use Rattle.scq_words.specs.Exports.{text_app, asked_of_text, whole, text_command, text_file, text_of, with_flag, Parses}
use Rattle.scq_words.specs.declared.fault.WordsFault.TheVariants.{NoName}
use Rattle.scq_words.specs.declared.text_request.TextCommand.{TextCommand}
use Rattle.scq_words.specs.declared.text_request.TextCommand.TheVariants.{Check, Replay, Order}
use Rattle.scq_words.proofs.Answered.{unparsed}
use Rattle.scq_words.proofs.Answering.{file-text, flag-text, text-answer, given_or_empty, name-missing, name-there, answer-ok, answer-err}
use Rattle.scq_words.proofs.text_request.read_text.Goals as goal
use Rattle.scq_words.proofs.text_request.read_text.Goals.{After-is_empty}

simple : (command : TextCommand) → is_simple_and_free (text_app command) ≡ true
simple Check = refl
simple Replay = refl
simple Order = refl

pub returns-in_err-matches : goal.returns-in_err-matches
unfolding asked_of_text
returns-in_err-matches c =
    let app = text_app c.args.command in
    unparsed app _ _ _ (λ request. whole (text_of request)) c.in_err-matches.field-0.0 c.from_residual.result
    (c.in_err-matches.ensures app (simple c.args.command) c.text_command.ensures) c.from_residual.ensures.1

parsed : (c : After-is_empty) → Parses (text_app c.args.command) (map string_bytes c.args.words.now) (Ok c.in_ok-matches.matches)
parsed c = c.in_ok-matches.ensures (text_app c.args.command) (simple c.args.command) c.text_command.ensures

-- the name that was got
named : (c : After-is_empty) → c.unwrap_or-name.result.now ≡ text_file (matches_of (text_app c.args.command) (map string_bytes c.args.words.now))
named c =
    given_or_empty c.get_str.result _ (λ r. r.now) c.unwrap_or-name.ensures refl
    ∙ file-text (found_of c.in_ok-matches.matches) _ _ (parsed c).rows c.get_str.ensures

pub returns-then-is_empty : goal.returns-then-is_empty
returns-then-is_empty c =
    let at = (goal.at.returns-then-is_empty c).After-is_empty in
    let name = c.unwrap_or-name.result.now in
    record {
      request = tt;
      refused = λ fault is.
          let one : NoName 1 ≡ fault = cc in
          text-answer c.args.command _ (map string_bytes c.args.words.now) name (Err fault) (parsed at).passes (named at) refl
          (answer-err _ _ fault (name-missing name (sym c.is_empty.ensures ∙ c.if-is_empty.true) ∙ ap Some one));
      taken = λ is. cc;
      ranges = tt;
    }

pub returns : goal.returns
returns c =
    let at = (goal.at.returns c).After-is_empty in
    let name = c.unwrap_or-name.result.now in
    let words = map string_bytes c.args.words.now in
    let rows = matches_of (text_app c.args.command) words in
    let asks : c.with_flag-command.result ≡ text_command c.args.command rows =
    c.with_flag-command.ensures ∙ ap (with_flag c.args.command) c.is_given.ensures
    ∙ flag-text c.args.command (found_of c.in_ok-matches.matches) rows _ (parsed at).rows c.get_str-2.ensures in
    record {
      request = text-answer c.args.command c.with_flag-command.result words name _ (parsed at).passes (named at) asks
          (answer-ok _ _ _ (name-there name (sym c.is_empty.ensures ∙ c.if-is_empty.false))
          (ap (λ (file : List ℕ). whole (record { command = c.with_flag-command.result; file = file })) (sym c.in_ok-file.ensures.ok)));
      refused = λ fault is. cc;
      taken = λ is. cc;
      ranges = grind (arith, common_steps);
    }
