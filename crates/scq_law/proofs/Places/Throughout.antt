-- The invariants above the base group, throughout a run.
use Rattle.std.proofs.Common.{ℕ}
use Rattle.scq_word.specs.declared.setup.Setup.{Setup}
use Rattle.scq_core.specs.Machine.{Machine}
use Rattle.scq_law.proofs.Base.Ghosts.{Ghost}
use Rattle.scq_law.proofs.Base.Traces.{Trace}
use Rattle.scq_law.proofs.Base.EventSteps.{along}
use Rattle.scq_law.proofs.Places.SeatTickets.{IsRooted, rooted_start, rooted_step}
use Rattle.scq_law.proofs.Places.OneSpot.{IsAtOneSpot, once_start, once_step}
use Rattle.scq_law.proofs.Places.SmallIndices.{HasSmallIndices, small_start, small_step}
use Rattle.scq_law.proofs.Places.ReachedTickets.{IsReached, reached_start, reached_step}
use Rattle.scq_law.proofs.Places.RecordsAgree.{RecordsAgree, records_agree_start, records_agree_step}

pub rooted : (c : Setup) (time : ℕ) (g : Ghost) (m : Machine) → Trace c time g m → IsRooted g m
rooted c time g m trace = along c (λ t h n. IsRooted h n) (λ o full. rooted_start c o) (rooted_step c) time g m trace

pub once : (c : Setup) (time : ℕ) (g : Ghost) (m : Machine) → Trace c time g m → IsAtOneSpot c g m
once c time g m trace = along c (λ t h n. IsAtOneSpot c h n) (λ o full. once_start c o) (once_step c) time g m trace

pub reached : (c : Setup) (time : ℕ) (g : Ghost) (m : Machine) → Trace c time g m → IsReached c g m
reached c time g m trace =
    along c (λ t h n. IsReached c h n) (λ o full. reached_start c o) (reached_step c) time g m trace

pub records_agree : (c : Setup) (time : ℕ) (g : Ghost) (m : Machine) → Trace c time g m → RecordsAgree c g m
records_agree c time g m trace =
    along c (λ t h n. RecordsAgree c h n) (λ o full. records_agree_start c o) (records_agree_step c) time g m trace

pub small : (c : Setup) (time : ℕ) (g : Ghost) (m : Machine) → Trace c time g m → HasSmallIndices c g m
small c time g m trace = along c (λ t h n. HasSmallIndices c h n) (λ o full. small_start c o) (small_step c) time g m trace
