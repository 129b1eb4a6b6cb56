use Rattle.std.proofs.Common.{List, sym, subst}
use Rattle.scq_queue.specs.Exports.{HeldStanding}
use Rattle.scq_queue.specs.HoldsJust.{HoldsJust}
use Rattle.scq_queue.proofs.HeldOnce.{holds_more, holds_same, take_refused}
use Rattle.rows_queue.proofs.calls.took.Goals as goal

pub returns-in-Ok : goal.returns-in-Ok
returns-in-Ok g c =
    record {
      stack =
          subst (λ (vs : List (HeldStanding g.row.B.Denot)). HoldsJust c.args.queue.now c.take.new.pass vs) (sym c.push_reserved.ensures.items)
          (holds_more c.requires.stack c.in-Ok.ensures.took.got);
    }

pub returns-in-Err : goal.returns-in-Err
returns-in-Err g c =
    let e = c.in-Err.ensures in
    record {
      stack =
          holds_same c.args.queue.now c.args.pass.now c.take.new.pass c.args.values.now.items c.requires.stack
          (take_refused c.args.pass.now c.take.new.pass e.kept c.args.topic c.in-Err.refusal e.empty e.spent);
    }
