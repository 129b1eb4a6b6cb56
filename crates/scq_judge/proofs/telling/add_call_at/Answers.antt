use Rattle.std.proofs.Common.{◌∙◌, ◌++◌, ℕ, List, ap, slice_get, sym}
use Rattle.scq_judge.specs.Exports.{call_text, got_name_text}
use Rattle.scq_judge.proofs.ReadLemmas.{on_ok}
use Rattle.scq_judge.proofs.TextLemmas.{behind}
use Rattle.scq_judge.proofs.telling.add_call_at.Goals as goal

pub returns : goal.returns
returns c =
    let events = c.args.events.now in
    let text = c.args.text.now.items in
    let call : ℕ → List ℕ = λ s. call_text events s (slice_get events s) in
    let got = sym c.event_at-2.ensures in
    let began = ap (λ o. call_text events c.own_start-s.result o) (sym c.event_at.ensures) ∙ ap call c.own_start-s.ensures.start in
    on_ok c.add_got_name.result _ _ (λ more. behind text c.add_call.new.text.items c.add_got_name.new.text.items _ _
    (c.in_ok-add_call.ensures ∙ ap (λ t. text ++ t) began) (more ∙ ap (λ o. c.add_call.new.text.items ++ got_name_text o) got))
    c.add_got_name.ensures
