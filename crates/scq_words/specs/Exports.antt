-- What proofs and other crates import of these files.
pub use Rattle.scq_words.specs.Numbers.{number_in, fault_outside, refused_outside, number_or}
pub use Rattle.scq_words.specs.Numbers.{text_in}
pub use Rattle.scq_words.specs.Commands.{plain_app, option_rule, required_rule, flag_rule}
pub use Rattle.scq_words.specs.Commands.{files_rule, numbers_app, run_app, stages_app, self_app}
pub use Rattle.scq_words.specs.Commands.{judge_app}
pub use Rattle.scq_words.specs.Commands.{file_rule, named_app, text_app}
pub use Rattle.scq_words.specs.Asked.{first_of_tests, refused_if, refused_by_clap, topics_or_none}
pub use Rattle.scq_words.specs.Asked.{refused_topics, refused_names, is_given, asked, RunAsked}
pub use Rattle.scq_words.specs.Asked.{StagesAsked, generated, SelfAsked, whole, TextAsked, judged}
pub use Rattle.scq_words.specs.Asked.{staged, run, RunTexts, StagesTexts, SelfTexts, JudgeTexts}
pub use Rattle.scq_words.specs.Asked.{texts_of_run, texts_of_stages, texts_of_self, run_texts}
pub use Rattle.scq_words.specs.Asked.{stages_texts, self_texts, run_tests, stages_tests, self_tests}
pub use Rattle.scq_words.specs.Asked.{run_asked, stages_asked, self_asked, answered_by, text_file}
pub use Rattle.scq_words.specs.Asked.{with_flag, text_command, texts_of_judge, judge_texts}
pub use Rattle.scq_words.specs.Asked.{judge_tests, is_beside, judge_takes}
pub use Rattle.scq_words.specs.Asked.{room_of, judge_asked, asked_for_run, asked_run}
pub use Rattle.scq_words.specs.Asked.{stages_of, self_of, judge_of, text_of, asked_by}
unfoldable pub use Rattle.scq_words.specs.Asked.{asked_of_run, asked_of_stages, asked_of_self}
unfoldable pub use Rattle.scq_words.specs.Asked.{asked_of_text, asked_of_judge}
pub use Rattle.scq_words.specs.Parsing.{Answered, Parses}
pub use Rattle.scq_words.specs.Ranges.{is_accepted, is_taken_for_run, IsRunInRange, IsStagesInRange}
pub use Rattle.scq_words.specs.Ranges.{IsJudgeInRange, IsInRange}
pub use Rattle.scq_words.specs.Asked.{numbers_tests, files_tests}
pub use Rattle.scq_words.specs.Texts.{behind, text_after, option_text, is_command}
