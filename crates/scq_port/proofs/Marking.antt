-- A port whose pass has seen more of the run keeps what it kept.
use Rattle.std.proofs.Common.{◌≡◌, ℕ, Bool, sym, ◌∙◌, ap}
use Rattle.std.specs.Prelude.{Option, is_none}
use Rattle.scq_queue.specs.Exports.{PassStanding, having_seen}
use Rattle.scq_queue.proofs.HeldOnce.{IsAlike}
use Rattle.scq_port.specs.declared.port_buffer.PortBuffer.{PortBuffer}
use Rattle.scq_port.specs.declared.hand.Hand.{Hand}
use Rattle.scq_port.specs.Exports.{PortQueue}
use Rattle.scq_port.specs.Kept.{IsPort}
use Rattle.scq_port.proofs.Keeping.{keeps_alike}

pub has_seen : {queue : PortQueue} {old new : PassStanding PortBuffer} {hand : Hand} {many sends number : ℕ} {awake : Bool} → IsPort queue old hand many sends number awake
    → new ≡ having_seen new.seen old → IsPort queue new hand many sends number awake
has_seen {queue = queue} {old = old} {new = new} {hand = hand} before is =
    let alike : IsAlike old new =
    record {
      queue = ap (λ (p : PassStanding PortBuffer). p.queue) is;
      number = ap (λ (p : PassStanding PortBuffer). p.number) is;
      held = ap (λ (p : PassStanding PortBuffer). p.held) is;
      retired = ap (λ (p : PassStanding PortBuffer). p.retired) is;
    } in
    record {
      keeps = keeps_alike queue old new hand.slots.items hand.room hand.hold before.keeps alike;
      topics = before.topics;
      sends_is = before.sends_is;
      number_is = alike.number ∙ before.number_is;
      low = before.low;
      awake_is = before.awake_is ∙ ap (λ (o : Option ℕ). is_none o) (sym alike.retired);
    }
