-- What the history of a run has.
use Rattle.std.specs.Prelude.{ℕ, List}
use Rattle.scq_hist.specs.Exports.{HasAspects}
use Rattle.scq_law.specs.Run.{Recorded}

-- the history of what is recorded has the four aspects: lawful and fresh, once, in order, and each
-- of its Empties is right
abbrev pub HistoryHasAspects : List (List ℕ) → Recorded → Type 0
HistoryHasAspects opening recorded = HasAspects opening recorded.events
