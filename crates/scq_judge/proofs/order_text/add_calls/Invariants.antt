use Rattle.std.proofs.Common.{◌≡◌, ◌++◌, take}
use Rattle.std.specs.Prelude.{flat_map}
use Rattle.scq_judge.specs.OrderText.{call_line}
use Rattle.scq_judge.proofs.order_text.add_calls.Given as goal

abbrev pub invariant-loop-e : goal.invariant-loop-e
invariant-loop-e l = l.text.items ≡ l.fn.text.items ++ flat_map (call_line l.history.events.now) (take l.e-index l.ends)
