use Rattle.std.proofs.Common.{◌≡◌, ◌≤◌, ◌+◌, ◌-◌, ℕ, length, max}
use Rattle.scq_worker.specs.Exports.{open_on}
use Rattle.scq_worker.proofs.worker.Worker.begin_up_to.Given as goal

-- nothing more is open, however many batches are begun
abbrev pub invariant-topics : goal.invariant-topics
invariant-topics g l = record {
  few : length l.self.opens.items ≤ max (length l.fn.self.opens.items) (l.topic + 1);
  opens : (t : ℕ) → open_on t l.self.opens.items ≡ open_on t l.fn.self.opens.items;
  pass : l.self.pass ≡ l.fn.self.pass;
  members : l.self.members ≡ l.fn.self.members;
  starved : l.self.starved ≡ l.fn.self.starved;
  number : l.self.number ≡ l.fn.self.number;
}

abbrev pub decreases-topics : goal.decreases-topics
decreases-topics g l = l.topic + 1 - length l.self.opens.items
