use Rattle.std.proofs.Common.{◌≡◌, ◌∙◌, false, Result}
use Rattle.std.specs.Prelude.{IfOk}
use Rattle.std.proofs.lemmas.Result.{IfOk-weaker}
use Rattle.clap.specs.Words.{AddsArg, App, Rule, app_of, rule_of, with_rule}
use Rattle.clap.specs.declared.builder.arg.Arg.{Arg}
use Rattle.clap.specs.declared.builder.command.Command.{Command}
use Rattle.scq_words.proofs.parsing.with.Goals as goal

adds : {E : Type 0} (app : App) (rule : Rule) (old : Command) (arg : Arg) (result : Result Command E) → arg.global ≡ false → app_of old ≡ app → rule_of arg ≡ rule
    → IfOk result (λ new. AddsArg old arg new) → IfOk result (λ new. app_of new ≡ with_rule app rule)
adds app rule old arg result local is same added =
    IfOk-weaker result (λ new. AddsArg old arg new) (λ new. app_of new ≡ with_rule app rule) (λ new a. a.shape local ∙ (λ i. with_rule (is i) (same i))) added

pub returns : goal.returns
returns c = λ app rule local is same.
    let before : app_of c.in_ok-command.field-0 ≡ app = rw c.in_ok-command.was at is in
    adds app rule c.in_ok-command.field-0 c.args.arg c.arg.result local before same c.arg.ensures
