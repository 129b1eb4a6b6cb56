use Rattle.std.proofs.Common.{◌≡◌, ◌<◌, List, length, sym, ◌∙◌, ap, subst, arith}
use Rattle.std.specs.Prelude.{slice_set}
use Rattle.atomic_table.specs.Seated.{TableId}
use Rattle.scq_park.specs.Exports.{Post, with_wake, ParkerDeeds, parkers_of, post_of, IsStand}
use Rattle.scq_park.proofs.Rows.{read_at, parkers_length, same_parker, stand_woke, post_woke}
use Rattle.scq_park.proofs.crew.Crew.wake.Goals as goal

pub wake-requires-clause-own : goal.wake-requires-clause-own
wake-requires-clause-own c =
    let links = c.stand.inside.links.items in
    let wakers = c.self.inside.wakers.items in
    let own : parkers_of links ≡ c.args.self.now = ap (λ (p : Post). p.crew) c.stand.view_is ∙ c.requires.stand in
    let same : parkers_of links ≡ parkers_of wakers = own ∙ sym c.self.view_is in
    let low : c.args.worker < length links =
    omega (arith, parkers_length links, ap (λ (ts : List TableId). length ts) own, c.requires.worker) in
    let low_waker : c.args.worker < length wakers =
    omega (arith, parkers_length wakers, ap (λ (ts : List TableId). length ts) c.self.view_is, c.requires.worker) in
    same_parker links wakers c.args.worker c.index_mut.result.now c.index.result.now same
    (read_at links c.args.worker c.index_mut.result.now low c.index_mut.ensures.value)
    (read_at wakers c.args.worker c.index.result.now low_waker c.index.ensures)

pub invariant_of-stand : goal.invariant_of-stand
invariant_of-stand c =
    let links = c.stand.inside.links.items in
    let own : parkers_of links ≡ c.args.self.now = ap (λ (p : Post). p.crew) c.stand.view_is ∙ c.requires.stand in
    let low : c.args.worker < length links =
    omega (arith, parkers_length links, ap (λ (ts : List TableId). length ts) own, c.requires.worker) in
    subst (λ (y : ParkerDeeds). IsStand c.stand.inside.worker c.stand.inside.sleeper (slice_set links c.args.worker y)) (sym c.wake.ensures)
    (stand_woke c.stand.inside.worker c.stand.inside.sleeper links c.args.worker c.index_mut.result.now c.stand.invariant
    (read_at links c.args.worker c.index_mut.result.now low c.index_mut.ensures.value))

pub returns : goal.returns
returns c =
    let links = c.stand.inside.links.items in
    let own : parkers_of links ≡ c.args.self.now = ap (λ (p : Post). p.crew) c.stand.view_is ∙ c.requires.stand in
    let low : c.args.worker < length links =
    omega (arith, parkers_length links, ap (λ (ts : List TableId). length ts) own, c.requires.worker) in
    ap (λ (y : ParkerDeeds). post_of c.stand.inside.worker c.stand.inside.sleeper (slice_set links c.args.worker y)) c.wake.ensures
    ∙ post_woke c.stand.inside.worker c.stand.inside.sleeper links c.args.worker c.index_mut.result.now
    (read_at links c.args.worker c.index_mut.result.now low c.index_mut.ensures.value)
    ∙ ap (λ (p : Post). with_wake c.args.worker p) c.stand.view_is
