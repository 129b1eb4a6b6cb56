use Rattle.std.proofs.Common.{◌≡◌, ◌∙◌, ℕ, ◌+◌, ◌<◌, List, [], ◌∷◌, ◌++◌, get_or, length, map, take, sym, ap}
use Rattle.std.proofs.lemmas.List.{map-append, take_more}
use Rattle.scq_law.specs.declared.marks.Member.{Member}
use Rattle.scq_law.proofs.ordering.ordered.Goals as goal

-- what is made of one element more
next-of : {A B : Type 0} (f : A → B) (xs : List A) (at : ℕ) (d : A) (old new : List B) → at < length xs → old ≡ map f (take at xs)
    → new ≡ old ++ f (get_or xs at d) ∷ [] → new ≡ map f (take (at + 1) xs)
next-of f xs at d old new within so_far more =
    let x = get_or xs at d in
    more
    ∙ ap (λ (ys : List _). ys ++ f x ∷ []) so_far
    ∙ sym (map-append f (take at xs) (x ∷ []))
    ∙ ap (map f) (sym (take_more xs at d within))

pub loop-member-preserved : goal.loop-member-preserved
loop-member-preserved c =
    next-of (λ (m : Member). m.ordered) c.deref-member-items.result.now c.loop-member.member-index _ c.loop-member.list.items c.push.new.self.items
    c.loop-member-test.true c.loop-member.invariant c.in_ok-push.ensures.items
