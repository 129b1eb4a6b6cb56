use Rattle.std.proofs.Common.{◌≡◌, take}
use Rattle.std.specs.Prelude.{flat_map}
use Rattle.scq_judge.specs.OrderText.{queue_lines}
use Rattle.scq_judge.proofs.order_text.order_text.Given as goal

abbrev pub invariant-loop-order : goal.invariant-loop-order
invariant-loop-order l = l.text.items ≡ flat_map (queue_lines l.history.events.now) (take l.order-index l.orders)
