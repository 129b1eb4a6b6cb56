use Rattle.std.proofs.Common.{◌∙◌, ap, ℕ, List, ◌++◌, codes, decimal}
use Rattle.scq_collect.proofs.Lines.{pushed-line}
use Rattle.scq_collect.proofs.text.push_total.Goals as goal

pub returns : goal.returns
returns c = λ answers counts bytes.
    let named = c.extend_from_slice-2.new.self.items in
    let counted = c.push_number.new.text.items in
    pushed-line c.args.text.now.items _ _ _ _ _ _ _ _ named counted _ _ c.in_ok-extend_from_slice.ensures.items
    (c.in_ok-extend_from_slice-2.ensures.items ∙ ap (λ (name : List ℕ). c.extend_from_slice.new.self.items ++ name) c.name.ensures)
    (c.in_ok-push_number.ensures ∙ ap (λ n. named ++ codes " " ++ decimal n) (c.from.ensures ∙ counts))
    (c.in_ok-push_number-2.ensures ∙ ap (λ n. counted ++ codes " " ++ decimal n) bytes)
    c.in_ok-extend_from_slice-3.ensures.items
