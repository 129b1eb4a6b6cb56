use Rattle.std.proofs.Common.{◌≡◌, ◌<◌, ℕ, []}
use Rattle.scq_worker.specs.Exports.{open_on, HasGathered, IsSameWorker}
use Rattle.scq_worker.proofs.worker.Worker.pass_all_open.Given as goal

-- on the topics so far nothing is open
abbrev pub invariant-topics : goal.invariant-topics
invariant-topics g l = record {
  gathered : HasGathered l.queue l.job [] l.fn.self l.self (g.W.Bell.seen l.fn.stand) (g.W.Bell.seen l.stand);
  closed : (t : ℕ) → t < l.topic → open_on t l.self.opens.items ≡ [];
  still : IsSameWorker l.fn.self l.self (g.W.Bell.seen l.fn.stand) (g.W.Bell.seen l.stand);
}
