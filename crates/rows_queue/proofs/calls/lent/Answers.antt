use Rattle.std.proofs.Common.{List, sym, subst}
use Rattle.scq_queue.specs.Exports.{HeldStanding}
use Rattle.scq_queue.specs.HoldsJust.{HoldsJust}
use Rattle.scq_queue.proofs.HeldOnce.{holds_more, holds_same, lend_refused}
use Rattle.rows_queue.proofs.calls.lent.Goals as goal

pub returns-in-Ok : goal.returns-in-Ok
returns-in-Ok g c =
    record {
      stack =
          subst (λ (vs : List (HeldStanding g.row.B.Denot)). HoldsJust c.args.queue.now c.lend.new.pass vs) (sym c.push_reserved.ensures.items)
          (holds_more c.requires.stack c.in-Ok.ensures.lent.lent.got);
    }

pub returns-in-Err : goal.returns-in-Err
returns-in-Err g c =
    record {
      stack =
          holds_same c.args.queue.now c.args.pass.now c.lend.new.pass c.args.values.now.items c.requires.stack
          (lend_refused c.args.pass.now c.lend.new.pass c.in-Err.ensures.kept c.in-Err.refusal c.in-Err.ensures.full c.in-Err.ensures.spent);
    }
