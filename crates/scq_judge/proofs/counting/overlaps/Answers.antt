use Rattle.scq_judge.proofs.CountLemmas.{no_overlap, overlap_busy, overlap_next}
use Rattle.scq_judge.proofs.counting.overlaps.Goals as goal

pub returns-else-starts : goal.returns-else-starts
returns-else-starts c = no_overlap _ _ _ c.is_start-starts.ensures c.if-starts.false

pub returns-then-busy-gt0 : goal.returns-then-busy-gt0
returns-then-busy-gt0 c = overlap_busy _ _ _ _ c.is_start-starts.ensures c.if-starts.true c.requires.busy c.if-busy-gt0.true

pub returns-else-busy-gt0 : goal.returns-else-busy-gt0
returns-else-busy-gt0 c =
    overlap_next _ _ _ _ _ c.is_start-starts.ensures c.if-starts.true c.is_start-next.ensures c.requires.busy c.if-busy-gt0.false
