use Rattle.scq_law.proofs.Order.CallSpans.{seen_first}
use Rattle.scq_law.proofs.orders.calls_seen_come_first.Goals as goal

pub returns : goal.returns
returns c =
    record {
      apart = seen_first;
      in_order =
          λ run recorded seen begun seat k calls others call x is_run one other was ended since starts r a b order is_order at there.
          is_order.real_time a b seat call k x at there
          (seen_first run recorded seen begun seat k calls others call x is_run one other was ended since starts);
    }
