use Rattle.std.proofs.Common.{◌∙◌, ap}
use Rattle.scq_park.specs.Exports.{Post}
use Rattle.scq_files.specs.Exports.{ids_of}
use Rattle.scq_rest.specs.Exports.{task}
use Rattle.scq_rest.proofs.Wakes.{rung-on}
use Rattle.scq_rest.proofs.threads.Work.finish.Goals as goal

pub finish-requires-clause-produced : goal.finish-requires-clause-produced
finish-requires-clause-produced g c κs within = c.requires.begun.produced

pub finish-requires-clause-stand : goal.finish-requires-clause-stand
finish-requires-clause-stand g c κs within = (c.requires.begun.stand, c.requires.begun.unrested)

pub finish-requires-clause-workers : goal.finish-requires-clause-workers
finish-requires-clause-workers g c κs within = c.requires.begun.crew

pub returns : goal.returns
returns g c given one = record {
  run = c.finish.ensures.run;
  waited = c.finish.ensures.waited;
  files = ap ids_of c.finish.ensures.same ∙ one.files;
  number = c.finish.ensures.number ∙ one.number;
  crew = c.finish.ensures.stand.0 ∙ ap (λ (p : Post). p.crew) one.stand;
  worker = c.finish.ensures.stand.1 ∙ ap (λ (p : Post). p.worker) one.stand;
  rung = λ awake.
      let its = c.finish.ensures.unsent awake in
      let t = task c.args.queue.now c.args.job.now c.args.crew.now g.S.Source in
      rung-on given.stand.worker c.args.self.now.stand.worker t.workers c.args.self.now.desk.worker.worker.pass
      c.finish.new.desk.worker.worker.pass given.stand.wakes c.args.self.now.stand.wakes c.finish.new.stand.wakes its.1
      (ap (λ (p : Post). p.worker) one.stand) (c.finish.ensures.rung awake) (one.rung its.0);
}
