use Rattle.std.proofs.Common.{◌∷◌, [], None, Err, ap, map, sym}
use Rattle.scq_words.specs.Exports.{refused_topics, text_in, numbers_tests, files_tests}
use Rattle.scq_words.specs.declared.fault.WordsFault.TheVariants.{TooManyFiles}
use Rattle.std.specs.Option.{option_or}
use Rattle.scq_words.specs.declared.fault.WordsError.TheVariants.{Refused}
use Rattle.scq_words.proofs.Answering.{handed-on, tests-pass, tests-refuse}
use Rattle.scq_words.proofs.run.check_run.Goals as goal

pub returns-in_err-workers-clause-refused : goal.returns-in_err-workers-clause-refused
returns-in_err-workers-clause-refused c = λ fault is.
    let numbers = numbers_tests (text_in c.args.workers) (text_in c.args.order) (text_in c.args.size) in
    let files = files_tests 64 TooManyFiles (map (λ name. name.now) c.args.files.now) in
    tests-refuse numbers
    (refused_topics (text_in c.args.topics) ∷ files)
    c.from_residual.result c.in_err-workers.field-0.0 fault c.in_err-workers.ensures.refused c.from_residual.ensures.1 is

pub returns-in_err-topics-clause-refused : goal.returns-in_err-topics-clause-refused
returns-in_err-topics-clause-refused c = λ fault is.
    let numbers = numbers_tests (text_in c.args.workers) (text_in c.args.order) (text_in c.args.size) in
    let files = files_tests 64 TooManyFiles (map (λ name. name.now) c.args.files.now) in
    tests-pass numbers (refused_topics (text_in c.args.topics) ∷ files) _
    c.in_ok-workers.ensures.refused
    (tests-refuse (refused_topics (text_in c.args.topics) ∷ []) files
    c.from_residual-in_err-topics.result c.in_err-topics.field-0.0 fault (ap (λ test. option_or test None) c.in_err-topics.ensures.refused)
    c.from_residual-in_err-topics.ensures.1 is)

pub returns-in_err-files-clause-refused : goal.returns-in_err-files-clause-refused
returns-in_err-files-clause-refused c = λ fault is.
    let numbers = numbers_tests (text_in c.args.workers) (text_in c.args.order) (text_in c.args.size) in
    let files = files_tests 64 TooManyFiles (map (λ name. name.now) c.args.files.now) in
    let same = handed-on c.from_residual-in_err-files.result c.in_err-files.field-0.0 (Refused fault) c.from_residual-in_err-files.ensures.1 is in
    tests-pass numbers (refused_topics (text_in c.args.topics) ∷ files) _
    c.in_ok-workers.ensures.refused
    (tests-pass (refused_topics (text_in c.args.topics) ∷ []) files _
    (ap (λ test. option_or test None) c.in_ok-topics.ensures.refused) (c.in_err-files.ensures.refused fault (ap Err same)))

pub returns-clause-request : goal.returns-clause-request
returns-clause-request c =
    let numbers = numbers_tests (text_in c.args.workers) (text_in c.args.order) (text_in c.args.size) in
    let files = files_tests 64 TooManyFiles (map (λ name. name.now) c.args.files.now) in (
      tests-pass numbers (refused_topics (text_in c.args.topics) ∷ files) _
          c.in_ok-workers.ensures.refused
          (tests-pass (refused_topics (text_in c.args.topics) ∷ []) files _
          (ap (λ test. option_or test None) c.in_ok-topics.ensures.refused) c.in_ok-files.ensures.passes),
      λ i. record {
        workers = sym c.in_ok-workers.ensures.workers i;
        order = sym c.in_ok-workers.ensures.order i;
        size = sym c.in_ok-workers.ensures.size i;
        topics = sym c.in_ok-topics.ensures.topics i;
        batch = sym c.is_given.ensures i;
        report = sym c.is_given-2.ensures i;
        files = sym c.in_ok-files.ensures.names i;
      },
    )
