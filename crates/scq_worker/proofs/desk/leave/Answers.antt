use Rattle.std.proofs.Common.{◌≡◌, ◌∙◌, refl, ap, subst, None}
use Rattle.scq_block.specs.Exports.{bytes_of}
use Rattle.scq_queue.specs.Exports.{PassStanding}
use Rattle.scq_worker.specs.declared.worker.Worker.{Worker}
use Rattle.scq_desk.proofs.Passes.{none-or}
use Rattle.scq_worker.proofs.Produced.{sweep-suits, swept-out, late-out, left-swept}
use Rattle.scq_worker.proofs.desk.leave.Goals as goal

pub sweep_out-requires-clause-suits : goal.sweep_out-requires-clause-suits
sweep_out-requires-clause-suits g c κs within =
    let was = c.args.desk.now.worker in
    sweep-suits c.args.queue.now c.args.job.now g.S.Source c.args.desk.now.files.items was.worker was.worker was.kept
    c.requires.sweep

pub returns-in-Ok : goal.returns-in-Ok
returns-in-Ok g c =
    let end = c.in-Ok.ensures in
    let was = c.args.desk.now in
    record {
      same = refl;
      run = swept-out c.args.queue.now c.args.job.now g.S.Source was.files.items was.worker.worker c.sweep_out.new.taker was.worker.kept c.requires.sweep
          c.len.result c.len.ensures.value end.taken end.past end.made;
      behind = λ awake. left-swept c.args.queue.now c.args.job.now g.S.Source was.files.items was.worker.worker c.sweep_out.new.taker was.worker.kept
          c.requires.sweep bytes_of c.len.result c.len.ensures.value end.taken end.swept;
      number = ap (λ (p : PassStanding _). p.number) end.taken.pass;
    }

pub returns-in-Err : goal.returns-in-Err
returns-in-Err g c =
    let was = c.args.desk.now in
    let left = c.in-Err.ensures.left 0 in
    record {
      same = refl;
      run = late-out c.args.queue.now c.args.job.now g.S.Source was.files.items was.worker.worker c.sweep_out.new.taker was.worker.kept c.requires.sweep
          c.keep.new.self c.in-Err.at_limit.held c.in-Err.ensures.left c.keep.ensures.same c.keep.ensures.kept;
      behind = λ awake. absurd (none-or c.sweep_out.new.taker.pass.spent left.spent.0 left.spent.1
          (subst (λ (w : Worker _ _). w.pass.spent ≡ None) c.keep.ensures.same awake));
      number = ap (λ (w : Worker _ _). w.pass.number) c.keep.ensures.same ∙ left.own.1;
    }
