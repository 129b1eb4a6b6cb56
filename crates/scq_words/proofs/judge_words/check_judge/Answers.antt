use Rattle.std.proofs.Common.{◌≡◌, ◌∷◌, [], ap, arith, map, sym, ◌∙◌, false, Bool, refl}
use Rattle.std.specs.Option.{option_or}
use Rattle.std.specs.Prelude.{None}
use Rattle.scq_words.specs.Exports.{files_tests, refused_outside, refused_if, is_beside, text_in}
use Rattle.scq_words.specs.declared.fault.WordsFault.TheVariants.{NotUnderstood, Room, TooManyRecordings}
use Rattle.scq_words.proofs.Answering.{tests-pass}
use Rattle.scq_words.proofs.InRange.{in-range}
use Rattle.scq_words.proofs.judge_words.check_judge.Goals as goal

stands : (b : Bool) → b ≡ false → refused_if b NotUnderstood ≡ None
stands b is = rw is refl

pub returns-clause-request : goal.returns-clause-request
returns-clause-request c =
    let files = files_tests 4096 TooManyRecordings (map (λ name. name.now) c.args.files.now) in
    let none = stands (is_beside (text_in c.args.room) (text_in c.args.strict) (text_in c.args.order)) (sym c.is_beside.ensures ∙ c.if-is_beside.false) in (
      tests-pass
          (refused_if (is_beside (text_in c.args.room) (text_in c.args.strict) (text_in c.args.order)) NotUnderstood
          ∷ refused_outside 1 4294967295 Room (text_in c.args.room) ∷ [])
          files _
          (ap (λ test. option_or test None) c.in_ok-number.ensures.refused
          ∙ ap (λ test. option_or test (option_or (refused_outside 1 4294967295 Room (text_in c.args.room)) None)) (sym none))
          c.in_ok-files.ensures.passes,
      λ i. record {
        room = sym c.room_given.ensures.room i;
        strict = sym c.is_given.ensures i;
        order = sym c.is_given-2.ensures i;
        files = sym c.in_ok-files.ensures.names i;
      },
    )

pub returns-clause-ranges : goal.returns-clause-ranges
returns-clause-ranges c = record {
  room = c.room_given.ensures.range (in-range _ 1 1 4294967295 c.in_ok-number.ensures.within (omega arith) (omega arith));
  files = c.in_ok-files.ensures.few_names;
  names = c.in_ok-files.ensures.named;
}
