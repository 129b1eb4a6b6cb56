use Rattle.std.proofs.Common.{◌≡◌, ◌≤◌, ◌<◌, ◌+◌, ℕ}
use Rattle.std.specs.Prelude.{count_by}
use Rattle.scq_passes.specs.Exports.{is_take}
use Rattle.scq_worker.specs.Exports.{HasTakenAll, KeepsItsOwn}
use Rattle.scq_worker.proofs.worker.Worker.help.Given as goal

-- each topic so far was taken from once
abbrev pub invariant-topics : goal.invariant-topics
invariant-topics g l = record {
  took : HasTakenAll l.job.topics l.topic l.fn.self l.self;
  kept : KeepsItsOwn l.fn.self l.self;
  below : (t : ℕ) → t < l.topic → count_by (is_take t) l.self.pass.calls ≡ count_by (is_take t) l.fn.self.pass.calls + 1;
  above : (t : ℕ) → l.topic ≤ t → count_by (is_take t) l.self.pass.calls ≡ count_by (is_take t) l.fn.self.pass.calls;
}
