use Rattle.std.proofs.Common.{◌≡◌, ◌≤◌, ◌+◌, ◌++◌, length, false}
use Rattle.scq_frames.specs.Exports.{parts_at}
use Rattle.scq_worker.specs.Exports.{answers_by, answers_from}
use Rattle.scq_worker.proofs.worker.Worker.answer_parts.Given as goal

-- the parts so far are answered, and those of the rest are still to be
abbrev pub invariant-parts : goal.invariant-parts
invariant-parts g l = record {
  few : l.number + length l.rest ≤ length l.bytes;
  listed : l.self.starved ≡ false
      → l.fn.self.members ++ answers_by l.job.topics l.way (parts_at l.bytes)
      ≡ l.self.members ++ answers_from l.job.topics l.way l.number (parts_at l.rest);
  starved : l.self.starved ≡ false → l.fn.self.starved ≡ false;
  pass : l.self.pass ≡ l.fn.self.pass;
  number : l.self.number ≡ l.fn.self.number;
  opens : l.self.opens ≡ l.fn.self.opens;
}

abbrev pub decreases-parts : goal.decreases-parts
decreases-parts g l = length l.rest
