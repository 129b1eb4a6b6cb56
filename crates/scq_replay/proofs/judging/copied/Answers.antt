use Rattle.std.proofs.Common.{◌∙◌, List, ℕ, [], ◌∷◌, ◌++◌, take, sym, ap}
use Rattle.std.proofs.lemmas.List.{take_more}
use Rattle.scq_replay.proofs.judging.copied.Goals as goal

pub loop-content-preserved : goal.loop-content-preserved
loop-content-preserved c =
    let contents : List (List ℕ) = c.deref-content-items.result.now in
    let at = c.loop-content.content-index in
    let copy : List ℕ = c.in_ok-copy_of.field-0 in
    c.in_ok-push.ensures.items
    ∙ ap (λ (copies : List (List ℕ)). copies ++ copy ∷ []) c.loop-content.invariant
    ∙ ap (λ (content : List ℕ). take at contents ++ content ∷ []) (c.in_ok-copy_of.ensures ∙ c.bytes.ensures ∙ c.content-item.is)
    ∙ sym (take_more contents at c.content-item.result c.loop-content-test.true)
