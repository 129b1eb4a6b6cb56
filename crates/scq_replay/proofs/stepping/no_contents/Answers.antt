use Rattle.std.proofs.Common.{◌∙◌, List, ℕ, [], ◌∷◌, ◌++◌, ap}
use Rattle.std.specs.Prelude.{replicate}
use Rattle.std.proofs.lemmas.List.{replicate_more}
use Rattle.scq_replay.proofs.stepping.no_contents.Goals as goal

pub loop-preserved : goal.loop-preserved
loop-preserved c =
    let before : List (List ℕ) = replicate c.loop.counter [] in
    c.in_ok-push.ensures.items
    ∙ ap (λ (contents : List (List ℕ)). contents ++ c.from.result ∷ []) c.loop.invariant
    ∙ ap (λ (content : List ℕ). before ++ content ∷ []) (c.from.ensures ∙ c.new.ensures.items)
    ∙ replicate_more c.loop.counter []
