use Rattle.std.proofs.Common.{◌≡◌, ◌+◌, ◌<◌, ◌≤◌, length, drop, refl, subst, sym, arith, rules}
use Rattle.std.specs.Prelude.{IsTrue}
use Rattle.std.proofs.lemmas.List.{take_at}
use Rattle.std.proofs.lemmas.Option.{slice_get_read}
use Rattle.scq_judge.specs.Walking.{IsTaken, AreGone}
use Rattle.scq_judge.proofs.WalkLemmas.{gone_more, are_orders}
use Rattle.scq_judge.proofs.walking.are_orders.Goals as goal

pub loop-i-preserved : goal.loop-i-preserved
loop-i-preserved c =
    let lt : c.loop-i.i < length c.args.orders.now = omega arith in
    let yes_taken : IsTrue c.in_ok-taken.taken = search rules in
    let is : IsTaken c.args.history.opening.now c.args.history.events.now c.index-orders-i.result c.loop-i.placed.items c.is_order.new.placed =
    rw c.deref_mut.ensures.value at (c.in_ok-taken.ensures yes_taken) in
    let queue : c.from-queue.result ≡ c.index-orders-i.result.queue = c.from-queue.ensures in
    let above : c.loop-i.least ≤ c.index-orders-i.result.queue = omega arith in
    let many = is.all.many in
    let old = c.loop-i.invariant.many in
    let full : length c.is_order.new.placed ≡ c.loop-i.placed.len = omega (arith, c.loop-i.placed.ok) in
    let gone = gone_more c.args.history.opening.now c.args.history.events.now c.args.orders.now c.loop-i.i c.loop-i.least c.loop-i.placed.items c.is_order.new.placed
    c.index-orders-i.result (slice_get_read c.args.orders.now (length c.args.orders.now) c.loop-i.i c.index-orders-i.result refl lt c.index-orders-i.is) above is
    c.loop-i.invariant in
    subst (λ xs. AreGone c.args.history.opening.now c.args.history.events.now c.args.orders.now (c.loop-i.i + 1) (c.from-queue.result + 1) xs)
    (sym (take_at c.is_order.new.placed (drop (length c.is_order.new.placed) c.loop-i.placed.items) c.loop-i.placed.len full))
    (subst (λ q. AreGone c.args.history.opening.now c.args.history.events.now c.args.orders.now (c.loop-i.i + 1) (q + 1) c.is_order.new.placed) (sym queue) gone)

pub returns : goal.returns
returns c = λ all.
    let whole : length c.args.orders.now ≤ c.loop-i.i = omega arith in
    are_orders c.args.history.opening.now c.args.history.events.now c.args.orders.now c.loop-i.i c.loop-i.least c.loop-i.placed.items whole c.loop-i.invariant
    (rw c.deref.ensures.value at (c.are_all_placed.ensures all))
