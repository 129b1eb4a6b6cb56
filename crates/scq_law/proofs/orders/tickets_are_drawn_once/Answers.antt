use Rattle.scq_law.proofs.Order.DrawOrder.{one_put_draw, one_get_draw}
use Rattle.scq_law.proofs.orders.tickets_are_drawn_once.Goals as goal

pub returns : goal.returns
returns c = record {
  puts = λ run i j seat k r p fin first second. one_put_draw run fin.recorded fin.is_run i j seat k r p first second;
  gets = λ run i j seat k r p fin first second. one_get_draw run fin.recorded fin.is_run i j seat k r p first second;
}
