use Rattle.std.proofs.Common.{◌<◌, length, refl, sym, subst, arith}
use Rattle.std.proofs.lemmas.Option.{slice_get_within, slice_get-get_or}
use Rattle.scq_hist.specs.Exports.{IsPending, IsCount}
use Rattle.scq_hist.specs.declared.events.Call.TheVariants.{Put}
use Rattle.scq_hist.specs.declared.events.Event.TheVariants.{Start}
use Rattle.scq_hist.proofs.Claims.{claims_iff}
use Rattle.scq_hist.proofs.OrderLemmas.{claims_decide, no_put_in_order}
use Rattle.scq_check.specs.declared.queues.Queue.{Queue}
use Rattle.scq_check.proofs.order.is_in_order_at.Goals as goal

pub returns-in-None : goal.returns-in-None
returns-in-None c = λ opening saved at. (λ _. no_put_in_order opening _ _ c.in-None.ensures, λ _. refl)

pub returns-in-Some : goal.returns-in-Some
returns-in-Some c = λ opening saved at.
    let put = c.in-Some.ensures.put in
    let within : c.in-Some.start < length c.args.tallies.now =
    (let before = slice_get_within c.args.events.now c.in-Some.start
    (Start c.in-Some.ensures.seat (Put c.in-Some.queue c.in-Some.ensures.content)) put.starts in
    let many = c.requires.many in omega arith) in
    claims_decide opening _ _ _ _ _ c.in-Some.ensures
    (claims_iff _ _ _ _ _ _ _ _ c.requires.event.lawful
    (saved.before _ _ _ _ _ put.starts (slice_get-get_or c.args.tallies.now c.in-Some.start (record { ungot = 0; claimed_from = 0 }) within))
    (subst (λ (q : Queue). IsCount (IsPending c.args.events.now c.in-Some.queue c.args.e) q.pending) (sym c.get.ensures) (at.each c.in-Some.queue).pending)
    c.is_claimed.ensures)
