use Rattle.std.proofs.Common.{◌≡◌, ◌∙◌, ap, codes, inl, inr, refl, subst, sym}
use Rattle.std.specs.Prelude.{IfOk}
use Rattle.clap.specs.Words.{App, app_of}
use Rattle.scq_words.specs.Exports.{flag_rule, named_app, plain_app}
use Rattle.scq_words.specs.declared.text_request.TextCommand.{TextCommand}
use Rattle.scq_words.specs.declared.text_request.TextCommand.TheVariants.{Replay, Order}
use Rattle.scq_words.proofs.parsing.named_command.Goals as goal

pub returns-in-Replay : goal.returns-in-Replay
returns-in-Replay c =
    let replay : IfOk c.with.result (λ app. app_of app ≡ named_app Replay) =
    c.with.ensures (plain_app (codes "replay")) (flag_rule (codes "order")) c.flag.ensures.local c.plain_command-in-Replay.ensures c.flag.ensures.rule in
    let of : (command : TextCommand) → c.args.command ≡ command → named_app command ≡ named_app Replay → IfOk c.with.result (λ app. app_of app ≡ named_app c.args.command) =
    λ command is same. subst (λ (app : App). IfOk c.with.result (λ command. app_of command ≡ app)) (sym (ap named_app is ∙ same)) replay in
    elim c.in-Replay.is [ inl e ↦ of Replay e refl | inr e ↦ of Order e refl ]
