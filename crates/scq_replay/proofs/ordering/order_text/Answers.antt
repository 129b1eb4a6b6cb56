use Rattle.scq_replay.proofs.ordering.order_text.Goals as goal
use Rattle.std.proofs.Common.{◌≡◌, ◌⊎◌, inl, inr, sym, subst, rules}
use Rattle.scq_hist.proofs.HandedOn.{handed_on}
use Rattle.scq_lines.specs.Exports.{lines_of}
use Rattle.scq_replay.specs.Exports.{IsOrderText, HasNoOrders, at_line, at_seat}
use Rattle.scq_replay.specs.declared.replaying.ScheduleFault.TheVariants.{NoMemory}
use Rattle.scq_replay.proofs.RingOrders.{written_none, written_next, written_all, all_numbered}

pub returns-in_err-schedule-clause-refused : goal.returns-in_err-schedule-clause-refused
returns-in_err-schedule-clause-refused c =
    let lines = lines_of c.args.text.now in
    let fault = c.in_err-schedule.field-0.0 in
    handed_on c.from_residual.result fault (λ fault. (fault ≡ NoMemory) ⊎ HasNoOrders lines fault) c.from_residual.ensures.1
    (elim c.in_err-schedule.ensures.refused [ inl want ↦ inl want | inr gives ↦ inr (at_line fault gives) ])

pub loop-ring-init : goal.loop-ring-init
loop-ring-init c = written_none c.in_ok-schedule.schedule c.new-written.result.items c.new-written.ensures.items

pub returns-in_err-order-clause-refused : goal.returns-in_err-order-clause-refused
returns-in_err-order-clause-refused c =
    let lines = lines_of c.args.text.now in
    let s = c.in_ok-schedule.schedule in
    let fault = c.in_err-order.field-0.0 in
    handed_on c.from_residual-in_err-order.result fault (λ fault. (fault ≡ NoMemory) ⊎ HasNoOrders lines fault)
    c.from_residual-in_err-order.ensures.1
    (elim c.in_err-order.ensures.refused [
      | inl want ↦ inl want
      | inr busy ↦
          inr (subst (HasNoOrders lines) (sym busy.1) (at_seat s.state.setup s.steps.items busy.0 c.in_ok-schedule.ensures.schedule.says busy.2))
    ])

pub add_ring-requires : goal.add_ring-requires
add_ring-requires c =
    all_numbered c.in_ok-schedule.schedule c.in_ok-schedule.ensures.schedule.leads c.loop-ring.ring c.in_ok-order.order.items c.in_ok-order.ensures.order

pub loop-ring-preserved : goal.loop-ring-preserved
loop-ring-preserved c =
    written_next c.in_ok-schedule.schedule c.loop-ring.ring c.in_ok-order.order.items c.loop-ring.written.items c.add_ring.new.text.items
    c.loop-ring.invariant c.in_ok-order.ensures.finished c.in_ok-order.ensures.order c.in_ok-add_ring.ensures

pub returns-clause-written : goal.returns-clause-written
returns-clause-written c =
    subst (IsOrderText (lines_of c.args.text.now)) (sym c.from.ensures)
    (written_all (lines_of c.args.text.now) c.in_ok-schedule.schedule c.loop-ring.ring c.loop-ring.written.items c.in_ok-schedule.ensures.schedule
    (search rules) (search rules) c.loop-ring.invariant)
