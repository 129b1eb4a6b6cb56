use Rattle.std.proofs.Common.{◌≡◌, ◌++◌, take, drop}
use Rattle.scq_stages.specs.Exports.{redacted}
use Rattle.scq_stages.proofs.in_place.redact.Given as goal

-- the bytes so far are redacted, and the others stand as they did
abbrev pub invariant-loop-at : goal.invariant-loop-at
invariant-loop-at l = l.payload ≡ redacted (take l.at l.initial.payload) ++ drop l.at l.initial.payload
