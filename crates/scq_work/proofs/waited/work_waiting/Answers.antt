use Rattle.std.proofs.Common.{sym, ap, subst, arith}
use Rattle.scq_park.specs.Exports.{AreAll}
use Rattle.scq_park.proofs.Firsts.{firsts_all}
use Rattle.scq_work.proofs.Starved.{ends-starved}
use Rattle.scq_work.proofs.waited.work_waiting.Goals as goal

pub make-requires-clause-some : goal.make-requires-clause-some
make-requires-clause-some g c = omega (arith, c.args.job.now.valid.some_workers)

pub make-requires-clause-most : goal.make-requires-clause-most
make-requires-clause-most g c = c.args.job.now.valid.workers_fit

-- the stands of a new crew are all of it
pub close-rested-requires : goal.close-rested-requires
close-rested-requires g c =
    record {
      stands = subst (AreAll c.in-Ok.crew) (sym c.in-Ok.ensures.stands) (firsts_all c.in-Ok.crew c.args.job.now.workers (sym c.in-Ok.ensures.crew));
    }

pub wait_in-requires-clause-work_room : goal.wait_in-requires-clause-work_room
wait_in-requires-clause-work_room g c κs within =
    let room = c.in-Ok-make_all.ensures.work_room in
    record {
      lists = room.lists;
      each = λ k d less. let one = room.each k d less in (one.0, one.1, omega (arith, one.2, c.len.ensures));
      desks = room.desks;
      left = room.left;
    }

-- no source was read where memory was wanted for a crew, its room or its queue
pub returns-in_default-clause-end : goal.returns-in_default-clause-end
returns-in_default-clause-end g c =
    let said = c.starved.ensures in
    ends-starved c.args.job.now g.S.Source c.args.sources.items c.starved.result.end (ap (λ v. v.items) said.sources) said.fault said.left.0

pub returns-in-Err-clause-end : goal.returns-in-Err-clause-end
returns-in-Err-clause-end g c =
    let said = c.starved-in-Err.ensures in
    ends-starved c.args.job.now g.S.Source c.args.sources.items c.starved-in-Err.result.end (ap (λ v. v.items) said.sources) said.fault said.left.0
