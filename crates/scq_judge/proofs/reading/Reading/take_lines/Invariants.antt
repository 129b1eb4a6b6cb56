use Rattle.std.proofs.Common.{◌≡◌, ◌+◌, ◌≤◌, ◌++◌, ℕ, List, length}
use Rattle.scq_lines.specs.Exports.{lines_of}
use Rattle.scq_judge.specs.Exports.{IsFile, after_lines, AllAreOfFiles}
use Rattle.scq_judge.proofs.reading.Reading.take_lines.Given as goal

abbrev pub invariant-lines : goal.invariant-lines
invariant-lines l = record {
  few : l.lines + length l.rest ≤ l.fn.before + length l.fn.bytes;
  taken : (more : List ℕ) → after_lines l.fn.self.file l.fn.self.lone l.fn.before l.fn.recorded (lines_of (l.fn.bytes ++ more))
      ≡ after_lines l.fn.self.file l.fn.self.lone l.lines l.recorded (lines_of (l.rest ++ more));
  files : (count : ℕ) → IsFile count l.fn.self.file → AllAreOfFiles count l.fn.recorded → AllAreOfFiles count l.recorded;
}

abbrev pub decreases-lines : goal.decreases-lines
decreases-lines l = length l.rest
