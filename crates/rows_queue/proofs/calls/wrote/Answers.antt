use Rattle.std.proofs.Common.{List, refl, sym, subst}
use Rattle.scq_queue.specs.Exports.{HeldStanding}
use Rattle.scq_queue.specs.HoldsJust.{HoldsJust}
use Rattle.scq_queue.proofs.HeldOnce.{holds_written}
use Rattle.rows_queue.proofs.calls.wrote.Goals as goal

pub returns : goal.returns
returns g c =
    record {
      stack =
          subst (λ (vs : List (HeldStanding g.row.B.Denot)). HoldsJust c.args.queue.now c.args.pass.now vs) (sym c.push_reserved.ensures.items)
          (holds_written c.args.queue.now c.args.pass.now c.pop.new.self.items c.in-Some.held _
          (subst (λ (vs : List (HeldStanding g.row.B.Denot)). HoldsJust c.args.queue.now c.args.pass.now vs) c.in-Some.ensures.items c.requires.stack) refl refl refl);
    }
