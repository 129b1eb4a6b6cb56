use Rattle.std.proofs.Common.{◌≡◌, ◌+◌, ◌-◌, ◌≤◌, ℕ, None, length}
use Rattle.std.specs.Option.{option_map}
use Rattle.memchr.specs.Find.{IsFirstByte, is_byte}
use Rattle.scq_judge.specs.Exports.{IsFile, most_bytes, AllAreOfFiles}
use Rattle.scq_judge.specs.declared.recorded.Last.TheVariants.{NoEvent}
use Rattle.scq_judge.proofs.ReadLemmas.{BytesAreTaken}
use Rattle.scq_judge.proofs.SourceLemmas.{HasGivenSoFar}
use Rattle.scq_judge.proofs.reading.Reading.read.Given as goal

abbrev pub invariant-reads : goal.invariant-reads
invariant-reads g l = record {
  few : l.lines + length l.front.items ≤ l.size;
  small : l.size ≤ most_bytes;
  front : IsFirstByte (is_byte 10) l.front.items None;
  taken : BytesAreTaken l.fn.self.file l.fn.self.lone (record l.fn.recorded { last = NoEvent }) l.recorded l.lines l.front.items
      (g.S.Source.left l.fn.source) (g.S.Source.left l.source);
  left : option_map length (g.S.Source.left l.fn.source) ≡ option_map (λ rest. l.size + length rest) (g.S.Source.left l.source);
  files : (count : ℕ) → IsFile count l.fn.self.file → AllAreOfFiles count l.fn.recorded → AllAreOfFiles count l.recorded;
  source : HasGivenSoFar g.S.Source.faults g.S.Source.ends g.S.Source.left l.fn.source l.source;
}

abbrev pub decreases-reads : goal.decreases-reads
decreases-reads g l = most_bytes - l.size
