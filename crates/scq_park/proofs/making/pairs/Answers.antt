use Rattle.std.proofs.Common.{◌≡◌, ◌∙◌, List, [], ◌∷◌, ◌++◌, All, map, sym, ap, subst, arith}
use Rattle.std.proofs.lemmas.List.{map-append}
use Rattle.std.proofs.lemmas.List.Elements.{All-push}
use Rattle.scq_park.specs.Exports.{deeds, ParkerDeeds, first_link}
use Rattle.scq_park.proofs.making.pairs.Goals as goal

pub loop-preserved : goal.loop-preserved
loop-preserved c =
    let inv = c.loop.invariant in
    let ws : List ParkerDeeds = c.loop.wakers.items in
    let waker : ParkerDeeds = c.in_ok-waker.waker in
    let IsFirst : ParkerDeeds → Type 0 = λ w. w.deeds ≡ deeds 8191 0 0 in (
      (let many = inv.0 in let more = c.push_reserved.ensures.len in omega arith),
      subst (All IsFirst) (sym c.push_reserved.ensures.items) (All-push IsFirst ws waker inv.1 c.in_ok-waker.ensures.waker),
      c.push_reserved-in-loop.ensures.items
          ∙ ap (λ (ss : List ParkerDeeds). ss ++ c.in_ok-waker.sleeper ∷ []) inv.2
          ∙ ap (λ (s : ParkerDeeds). map first_link ws ++ s ∷ []) c.in_ok-waker.ensures.sleeper
          ∙ sym (map-append first_link ws (waker ∷ []))
          ∙ ap (map first_link) (sym c.push_reserved.ensures.items),
      c.push_reserved.ensures.capacity ∙ inv.3,
      c.push_reserved-in-loop.ensures.capacity ∙ inv.4,
    )
