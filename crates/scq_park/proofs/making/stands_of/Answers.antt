use Rattle.std.proofs.Common.{◌≡◌, ℕ, suc, ◌-◌, List, [], ◌∷◌, ◌++◌, All, reverse, sym, ◌∙◌, ap, subst, arith}
use Rattle.std.specs.Prelude.{Some, slice_get, vec_len}
use Rattle.std.proofs.lemmas.List.{reverse-append}
use Rattle.atomic_table.specs.Seated.{TableId}
use Rattle.scq_park.specs.Exports.{deeds, Post, first_post, first_posts, ParkerDeeds, parkers_of, post_of, IsStand}
use Rattle.scq_park.proofs.Rows.{links_from, next_link, new_stand, new_post, less_parkers, less_parts}
use Rattle.scq_park.proofs.making.stands_of.Goals as goal

pub invariant_of-push_reserved : goal.invariant_of-push_reserved
invariant_of-push_reserved c =
    let ws = c.args.wakers.now.items in
    let now = c.loop-sleeper.wakers.items in
    let n = vec_len c.loop-sleeper.stands in
    let left = c.pop.new.self.items in
    let own = c.in-Some.sleeper in
    let worker = c.len-worker.result in
    let inv = c.loop-sleeper.invariant in
    let next = next_link n ws own (reverse left) (sym (ap reverse c.in-Some.ensures.items ∙ reverse-append left (own ∷ [])) ∙ inv.3) in
    let place : slice_get (parkers_of now) worker ≡ Some own.parker =
    ap (λ (ts : List TableId). slice_get ts worker) inv.0 ∙ ap (λ (k : ℕ). slice_get (parkers_of ws) k) c.len-worker.ensures ∙ next.place in
    subst (λ (ls : List ParkerDeeds). IsStand worker own ls) (sym c.in_ok-links.ensures.row) (new_stand worker own now place next.one)

pub loop-sleeper-preserved : goal.loop-sleeper-preserved
loop-sleeper-preserved c =
    let ws = c.args.wakers.now.items in
    let ts = parkers_of ws in
    let now = c.loop-sleeper.wakers.items in
    let n = vec_len c.loop-sleeper.stands in
    let m = vec_len c.push_reserved.new.self in
    let left = c.pop.new.self.items in
    let own = c.in-Some.sleeper in
    let worker = c.len-worker.result in
    let links = c.in_ok-links.links.items in
    let inv = c.loop-sleeper.invariant in
    let next = next_link n ws own (reverse left) (sym (ap reverse c.in-Some.ensures.items ∙ reverse-append left (own ∷ [])) ∙ inv.3) in
    let many : m ≡ suc n = let more = c.push_reserved.ensures.len in omega arith in
    let fewer : 8191 - m ≡ 8191 - n - 1 = omega (arith, many) in
    let one : post_of worker own links ≡ first_post ts n =
    ap (λ (ls : List ParkerDeeds). post_of worker own ls) c.in_ok-links.ensures.row
    ∙ new_post worker own now next.one
    ∙ ap (λ (us : List TableId). first_post us worker) inv.0
    ∙ ap (λ (k : ℕ). first_post ts k) c.len-worker.ensures in (
      ap parkers_of c.in_ok-links.ensures.wakers ∙ less_parkers now ∙ inv.0,
      subst (λ (xs : List ParkerDeeds). All (λ (w : ParkerDeeds). w.deeds ≡ deeds (8191 - m) 0 0) xs) (sym c.in_ok-links.ensures.wakers)
          (less_parts (8191 - m) (8191 - n) now fewer inv.1),
      c.push_reserved.ensures.items
          ∙ ap (λ (ps : List Post). ps ++ post_of worker own links ∷ []) inv.2
          ∙ ap (λ (p : Post). first_posts ts n ++ p ∷ []) one
          ∙ ap (λ (k : ℕ). first_posts ts k) (sym many),
      next.more ∙ ap (λ (k : ℕ). links_from k ws) (sym many),
      (let whole = inv.4 in let less = c.in-Some.ensures.len in omega (arith, many)),
      (let room = inv.5 in let less = c.in-Some.ensures.len in let same = c.push_reserved.ensures.capacity in omega (arith, many)),
    )
