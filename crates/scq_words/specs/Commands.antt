-- The commands as `clap` knows them: `run` and `stages` with options and files, `self` with
-- options, `judge` with an option, two flags and files, `check` and `replay` with one file, and
-- `replay` with a flag besides.
use Rattle.std.specs.Prelude.{ℕ, List, [], ◌∷◌, Some, true, codes}
use Rattle.clap.specs.Words.{App, Rule, new_app, new_rule, with_rule}
use Rattle.scq_words.specs.declared.text_request.TextCommand.{TextCommand}
use Rattle.scq_words.specs.declared.text_request.TextCommand.TheVariants.{Check}
use Rattle.clap.specs.declared.builder.action.ArgAction.TheVariants.{Append, SetTrue}

-- a command that reads the words as they are, with neither help nor version
abbrev pub plain_app : List ℕ → App
plain_app name = let app = new_app name in
    record app {
      top = record app.top {
        no_binary_name = true;
        disable_help_flag =
            true;
        disable_version_flag = true;
      };
    }

-- `--name VALUE` or `--name=VALUE`, at most once
abbrev pub option_rule : List ℕ → Rule
option_rule name = record (new_rule name) { long = Some name }

-- the same, once
abbrev pub required_rule : List ℕ → Rule
required_rule name = record (option_rule name) { required = true }

-- `--name`, at most once
abbrev pub flag_rule : List ℕ → Rule
flag_rule name = record (option_rule name) { action = Some SetTrue }

-- one or more files
abbrev pub files_rule : Rule
files_rule = record (new_rule (codes "files")) { required = true; action = Some Append }

-- a command with arguments more, one after the other
abbrev pub with_rules : App → List Rule → App
with_rules app [] = app
with_rules app (rule ∷ rules) = with_rules (with_rule app rule) rules

-- with the options that are numbers of a run
abbrev pub numbers_app : List ℕ → App
numbers_app name =
    with_rules (plain_app name) (option_rule (codes "workers") ∷ option_rule (codes "order")
    ∷ option_rule (codes "size") ∷ [])

-- `run` has an option and two flags more, and files
abbrev pub run_app : App
run_app =
    with_rules (numbers_app (codes "run")) (option_rule (codes "topics")
    ∷ flag_rule (codes "batch") ∷ flag_rule (codes "report") ∷ files_rule ∷ [])

abbrev pub stages_app : App
stages_app = with_rule (numbers_app (codes "stages")) files_rule

-- `self` has options alone
abbrev pub self_app : App
self_app =
    with_rules (plain_app (codes "self")) (required_rule (codes "seed")
    ∷ required_rule (codes "lines") ∷ option_rule (codes "workers") ∷ [])

-- recordings have an option, two flags, and files
abbrev pub judge_app : App
judge_app =
    with_rules (plain_app (codes "judge")) (option_rule (codes "room") ∷ flag_rule (codes "strict")
    ∷ flag_rule (codes "order") ∷ files_rule ∷ [])

-- the one file
abbrev pub file_rule : Rule
file_rule = record (new_rule (codes "file")) { required = true }

-- the word of a command; `replay`, by which orders are asked for too, knows `--order`
abbrev pub named_app : TextCommand → App
named_app Check = plain_app (codes "check")
named_app _ = with_rule (plain_app (codes "replay")) (flag_rule (codes "order"))

-- a command that takes one file
abbrev pub text_app : TextCommand → App
text_app command = with_rule (named_app command) file_rule
