use Rattle.std.proofs.Common.{◌∙◌, ap, sym, subst, []}
use Rattle.scq_queue.specs.Exports.{PassStanding}
use Rattle.scq_worker.specs.Exports.{but_wakes, IsWorking}
use Rattle.scq_worker.specs.declared.worker.Worker.{Worker}
use Rattle.scq_worker.proofs.Gathered.{gathered-none}
use Rattle.scq_desk.proofs.Passes.{none-or}
use Rattle.scq_worker.proofs.Produced.{produced-awake, produced-stopped, vain-first}
use Rattle.scq_worker.proofs.RunLemmas.{work-first}
use Rattle.scq_worker.proofs.Rung.{rung-retired}
use Rattle.scq_worker.proofs.desk.produce.Goals as goal
use Rattle.scq_worker.proofs.desk.produce.Goals.{After-pass_all_on}

-- nothing was passed on before
begun : (g : _) (c : After-pass_all_on g) → IsWorking c.args.job.now.topics c.args.job.now.most [] c.args.desk.now.worker.worker
begun g c =
    let worker = c.args.desk.now.worker.worker in
    let fresh = c.requires.fresh in
    work-first c.args.job.now.topics c.args.job.now.most c.args.queue.now worker.pass.number worker.pass worker.opens.items worker.members
    worker.starved fresh.pass fresh.members.0 fresh.members.1

-- it still fits its bell
fits-at : (g : _) (c : After-pass_all_on g) → g.W.Bell.fits c.args.bell.now (but_wakes (g.W.Bell.seen c.pass_all_on.new.stand)) c.args.job.now.workers
fits-at g c = subst (λ k. g.W.Bell.fits c.args.bell.now k c.args.job.now.workers) (sym c.pass_all_on.ensures.still.bell) c.requires.bell

pub retire-requires-clause-pass : goal.retire-requires-clause-pass
retire-requires-clause-pass g c κs = c.in-Ok.ensures.gathered.goes.suits.queue

pub retire-requires-clause-stays : goal.retire-requires-clause-stays
retire-requires-clause-stays g c κs = c.in-Ok.ensures.gathered.goes.stays

pub retire-requires-in-Err-clause-pass : goal.retire-requires-in-Err-clause-pass
retire-requires-in-Err-clause-pass g c κs =
    (c.in-Err.ensures.stopped [] (begun g (goal.at.retire-requires-in-Err-clause-pass g c).After-pass_all_on)).queue

pub retire-requires-in-Err-clause-stays : goal.retire-requires-in-Err-clause-stays
retire-requires-in-Err-clause-stays g c κs =
    (c.in-Err.ensures.stopped [] (begun g (goal.at.retire-requires-in-Err-clause-stays g c).After-pass_all_on)).stays

pub after_retire-requires-clause-fits : goal.after_retire-requires-clause-fits
after_retire-requires-clause-fits g c = fits-at g (goal.at.after_retire-requires-clause-fits g c).After-pass_all_on

pub returns-in-Ok : goal.returns-in-Ok
returns-in-Ok g c =
    let at = (goal.at.returns-in-Ok g c).After-pass_all_on in
    let q = c.args.queue.now in
    let job = c.args.job.now in
    let all = c.pass_all_on.ensures in
    let its = c.in-Ok.ensures in
    let desk = c.pass_all_on.new.desk in
    let was = desk.worker.worker in
    let now = c.retire.new.self in
    let start = c.args.desk.now.worker.worker in
    let work = its.gathered.work [] (begun g at) in
    let first = g.W.Bell.seen c.args.stand.now in
    let mid = g.W.Bell.seen c.pass_all_on.new.stand in
    record {
      same = all.files.same;
      produced = produced-awake q job.topics job.size job.most job.longest g.S.Source desk.files.items was.pass now.pass was.members now.members
          was.starved now.starved desk.worker.kept all.files.read all.files.stops its.gathered.goes.suits
          (record {
            batches = work.batches;
            gathered = gathered-none job.most _ work.batches was.opens.items work.gathered its.closed;
            passed = work.passed;
          })
          (its.gathered.goes.vain (vain-first q _ _ start.pass.number start.pass c.requires.fresh.pass)) c.retire.ensures.pass c.retire.ensures.same.0
          c.retire.ensures.same.1 (all.kept ∙ c.requires.fresh.kept);
      number = ap (λ (p : PassStanding _). p.number) c.retire.ensures.pass ∙ all.still.pass;
      bell = all.still.bell;
      rung = λ awake. rung-retired first.worker job.workers q start.pass.number start.pass was.pass now.pass first.wakes mid.wakes
          c.requires.fresh.pass its.gathered.goes.rung c.retire.ensures.pass;
    }

-- at a ticket past the limit nothing is said of whom it woke
pub returns-in-Err : goal.returns-in-Err
returns-in-Err g c =
    let at = (goal.at.returns-in-Err g c).After-pass_all_on in
    let job = c.args.job.now in
    let its = c.pass_all_on.ensures in
    let desk = c.pass_all_on.new.desk in
    let now = c.keep.new.self in
    let end = c.in-Err.ensures.stopped [] (begun g at) in
    let retired = ap (λ (w : Worker _ _). w.pass) c.keep.ensures.same ∙ c.retire-in-Err.ensures.pass in
    record {
      same = its.files.same;
      produced = produced-stopped c.args.queue.now job.topics job.size job.most job.longest g.S.Source desk.files.items desk.worker.worker.pass
          now.worker.pass now.worker.members now.worker.starved now.kept c.in-Err.at_limit.held its.files.read its.files.stops end retired
          c.keep.ensures.kept;
      number = ap (λ (p : PassStanding _). p.number) retired ∙ its.still.pass;
      bell = c.after_retire.ensures.kept ∙ its.still.bell;
      rung = λ awake.
          absurd (none-or now.worker.pass.spent end.spent.0 (ap (λ (p : PassStanding _). p.spent) retired ∙ end.spent.1) awake);
    }
