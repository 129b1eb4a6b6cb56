use Rattle.std.proofs.Common.{◌≡◌, ◌-◌}
use Rattle.scq_queue.specs.Exports.{known_on}
use Rattle.scq_stages.specs.Exports.{first, HasTakenOrMoved, HasMovedIts, HasFinishedOnlySeconds}
use Rattle.scq_stages.proofs.worker.Worker.empty_first.Given as goal

-- what was taken so far was moved
abbrev pub invariant-moves : goal.invariant-moves
invariant-moves g l = record {
  taken : HasTakenOrMoved l.fn.self.pass l.self.pass;
  moves : HasMovedIts l.fn.self.pass l.self.pass;
  helped : HasFinishedOnlySeconds l.fn.self.pass l.self.pass l.fn.self.members.items l.self.members.items;
  members : l.self.members.items ≡ l.fn.self.members.items;
  starved : l.self.starved ≡ l.fn.self.starved;
  gates : l.self.pass.gates ≡ l.fn.self.pass.gates;
}

-- each take that gets something has a place that is not below the head known, and below the limit
abbrev pub decreases-moves : goal.decreases-moves
decreases-moves g l = l.queue.setup.limit - (known_on first l.self.pass).head
