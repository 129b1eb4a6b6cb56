use Rattle.scq_port.proofs.port.Port.leave.Goals as goal

pub let_go-ended-requires : goal.let_go-ended-requires
let_go-ended-requires c =
    let hand = c.self.inside.hand in
    let kept = c.retire.ensures.kept hand.slots.items hand.room hand.hold (rw c.deref.ensures c.self.invariant.keeps) in
    record { kept = rw c.deref-3.ensures (rw c.deref.ensures at kept) }
