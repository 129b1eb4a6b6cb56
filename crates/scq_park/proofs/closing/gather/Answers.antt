use Rattle.std.proofs.Common.{◌≡◌, ◌<◌, List, [], ◌∷◌, ◌++◌, map, length, All, reverse, rules, sym, ◌∙◌, ap, subst, arith}
use Rattle.std.proofs.lemmas.List.{reverse-append, reverse-reverse}
use Rattle.std.proofs.lemmas.List.Elements.{All-cons, All-head, All-tail}
use Rattle.atomic_table.specs.Seated.{TableId}
use Rattle.scq_park.specs.Exports.{Post, ParkerDeeds, parkers_of, with_row, gathered, told, told_by_post}
use Rattle.scq_park.proofs.Ends.{are_for, row_parkers, row_has_parts, told_more, told_stand, wide_post}
use Rattle.scq_park.proofs.closing.gather.Goals as goal

pub loop-stand-init : goal.loop-stand-init
loop-stand-init c =
    let ws = c.args.wakers.now.items in
    let whole = ap reverse c.reverse.ensures.items ∙ reverse-reverse c.args.stands.items in (
      subst (λ (ps : List Post). All (λ (p : Post). p.crew ≡ parkers_of ws) ps) (sym whole) c.requires.crew,
      c.requires.parts,
      ap (λ (ps : List Post). gathered ws ps) whole,
      ap (λ (os : List ParkerDeeds). map told os ++ map told_by_post (reverse c.reverse.new.self.items)) c.requires.empty ∙ ap (λ (ps : List Post). map told_by_post ps) whole,
      search rules,
      λ all. subst (λ (ps : List Post). All (λ (p : Post). length p.wakes ≡ length p.crew) ps) whole all,
    )

pub take_row-requires : goal.take_row-requires
take_row-requires c =
    let ws = c.loop-stand.wakers.items in
    let left = c.pop.new.self.items in
    let stand = c.in-Some.stand in
    let turned : reverse c.loop-stand.stands.items ≡ stand ∷ reverse left = ap reverse c.in-Some.ensures.items ∙ reverse-append left (stand ∷ []) in
    let all = subst (λ (ps : List Post). All (λ (p : Post). p.crew ≡ parkers_of ws) ps) turned c.loop-stand.invariant.0 in
    let crew = All-head (λ (p : Post). p.crew ≡ parkers_of ws) stand (reverse left) all in
    record {
      links = are_for c.stand.inside.links.items ws (ap (λ (p : Post). p.crew) c.stand.view_is ∙ crew) c.stand.invariant.each c.loop-stand.invariant.1;
    }

pub loop-stand-preserved : goal.loop-stand-preserved
loop-stand-preserved c =
    let ws = c.loop-stand.wakers.items in
    let left = c.pop.new.self.items in
    let stand = c.in-Some.stand in
    let inv = c.loop-stand.invariant in
    let turned : reverse c.loop-stand.stands.items ≡ stand ∷ reverse left = ap reverse c.in-Some.ensures.items ∙ reverse-append left (stand ∷ []) in
    let all = subst (λ (ps : List Post). All (λ (p : Post). p.crew ≡ parkers_of ws) ps) turned inv.0 in
    let row : c.take_row.new.wakers.items ≡ with_row ws stand.wakes = c.take_row.ensures ∙ ap (λ (p : Post). with_row ws p.wakes) c.stand.view_is in
    let parkers : parkers_of c.take_row.new.wakers.items ≡ parkers_of ws = ap parkers_of row ∙ row_parkers ws stand.wakes in
    let owned = told_stand c.stand.inside.worker c.stand.inside.sleeper c.stand.inside.links.items c.into_pass.result stand c.stand.invariant
    c.into_pass.ensures c.stand.view_is in
    let wide = wide_post c.stand.inside.worker c.stand.inside.sleeper c.stand.inside.links.items stand c.stand.view_is in (
      subst (λ (ts : List TableId). All (λ (p : Post). p.crew ≡ ts) (reverse left)) (sym parkers)
          (All-tail (λ (p : Post). p.crew ≡ parkers_of ws) stand (reverse left) all),
      subst (λ (xs : List ParkerDeeds). All (λ (w : ParkerDeeds). 0 < w.deeds.parts) xs) (sym row) (row_has_parts ws stand.wakes inv.1),
      ap (λ (xs : List ParkerDeeds). gathered xs (reverse left)) row ∙ ap (λ (ps : List Post). gathered ws ps) (sym turned) ∙ inv.2,
      told_more c.push_reserved.new.self.items c.loop-stand.owns.items c.into_pass.result stand (reverse left) (map told_by_post c.args.stands.items)
          c.push_reserved.ensures.items owned
          (ap (λ (ps : List Post). map told c.loop-stand.owns.items ++ map told_by_post ps) (sym turned) ∙ inv.3),
      (let room = inv.4 in
          let less = c.in-Some.ensures.len in
          let more = c.push_reserved.ensures.len in
          let same = c.push_reserved.ensures.capacity in
          omega arith),
      λ rest. inv.5 (subst (λ (ps : List Post). All (λ (p : Post). length p.wakes ≡ length p.crew) ps) (sym turned)
          (All-cons (λ (p : Post). length p.wakes ≡ length p.crew) stand (reverse left) wide rest)),
    )
