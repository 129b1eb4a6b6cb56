use Rattle.std.proofs.Common.{map}
use Rattle.std.specs.List.{range_with_len}
use Rattle.scq_frames.specs.Exports.{part_of}
use Rattle.scq_worker.specs.Exports.{ClosesWhereFull, HasGathered, IsSameWorker}
use Rattle.scq_worker.proofs.worker.Worker.pass_on.Given as goal

-- so many parts are passed on
abbrev pub invariant-parts : goal.invariant-parts
invariant-parts g l = record {
  gathered : HasGathered l.queue l.job (map (part_of l.job.size l.message) (range_with_len 1 l.before)) l.fn.self l.self
      (g.W.Bell.seen l.fn.stand) (g.W.Bell.seen l.stand);
  closes : ClosesWhereFull l.job.most l.message.topic (map (part_of l.job.size l.message) (range_with_len 1 l.before)) l.fn.self l.self;
  still : IsSameWorker l.fn.self l.self (g.W.Bell.seen l.fn.stand) (g.W.Bell.seen l.stand);
}
