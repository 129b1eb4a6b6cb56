use Rattle.std.proofs.Common.{ℕ, List, [], take}
use Rattle.scq_law.specs.Exports.{IsRecording}
use Rattle.scq_law.proofs.replaying.make_all.Given as goal

-- the steps so far are recorded
abbrev pub invariant-loop-at : goal.invariant-loop-at
invariant-loop-at l = (opening : List (List ℕ)) → IsRecording l.setup opening [] l.fn.recording → IsRecording l.setup opening (take l.at l.steps) l.recording
