use Rattle.std.proofs.Common.{List, sym, ◌∙◌, ap, subst}
use Rattle.atomic_table.specs.Seated.{TableId}
use Rattle.scq_park.specs.Exports.{AreAll, no_wakes, woken, ended, ParkerDeeds, EachEnds, rests_between}
use Rattle.scq_park.proofs.Ends.{all_end, all_told}
use Rattle.scq_park.proofs.crew.Crew.close.Goals as goal

pub all_ended-requires-clause-ends : goal.all_ended-requires-clause-ends
all_ended-requires-clause-ends c =
    let ws = c.self.inside.wakers.items in
    let os = c.gather.new.owns.items in
    let ps = c.args.stands.items in
    let are = subst (λ (ts : List TableId). AreAll ts ps) (sym c.self.view_is) c.requires.stands in
    subst (λ (xs : List ParkerDeeds). EachEnds xs os) (sym c.gather.ensures.wakers)
    (all_end ws os ps c.self.invariant.few c.self.invariant.rest are c.gather.ensures.wide c.gather.ensures.owns)

pub returns-clause-counts : goal.returns-clause-counts
returns-clause-counts c =
    let ws = c.self.inside.wakers.items in
    let os = c.gather.new.owns.items in
    let ps = c.args.stands.items in
    let are = subst (λ (ts : List TableId). AreAll ts ps) (sym c.self.view_is) c.requires.stands in
    c.all_ended.ensures.counts ∙ ap (λ (xs : List ParkerDeeds). rests_between xs os) c.gather.ensures.wakers
    ∙ all_told ws os ps c.self.invariant.few c.self.invariant.rest are c.gather.ensures.wide c.gather.ensures.owns
    ∙ ap (λ (ts : List TableId). ended ps (woken (no_wakes ts) ps)) c.self.view_is
