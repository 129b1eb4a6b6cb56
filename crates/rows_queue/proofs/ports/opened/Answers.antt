use Rattle.std.proofs.Common.{◌≡◌, List, sym, subst}
use Rattle.std.specs.Prelude.{All}
use Rattle.std.proofs.lemmas.List.Elements.{All-map}
use Rattle.scq_port.specs.Ports.{PortStanding}
use Rattle.scq_port.specs.Exports.{new_port}
use Rattle.scq_queue.specs.Exports.{first_passes}
use Rattle.scq_queue.proofs.NewPasses.{all_own}
use Rattle.rows_queue.proofs.ports.opened.Goals as goal

pub tell_each_other-requires : goal.tell_each_other-requires
tell_each_other-requires c =
    let opened = c.in_ok-ports.ensures in
    let queue = opened.queue in
    let passes = first_passes queue c.in_ok-setup.setup.seats in
    record {
      own = (
        queue,
        subst (λ (ports : List PortStanding). All (λ (p : PortStanding). p.pass.queue ≡ queue) ports) (sym opened.ports)
            (All-map (λ (p : PortStanding). p.pass.queue ≡ queue) (new_port c.number.result) passes (all_own queue c.in_ok-setup.setup.seats)),
      );
    }
