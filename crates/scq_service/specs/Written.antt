-- What becomes of bytes that are to be written.
use Rattle.std.specs.Prelude.{◌≡◌, ℕ, List, OnErr, OnOk, Result}
use Rattle.scq_outside.specs.Exports.{Rose}
use Rattle.scq_service.specs.Members.{SinkOf}
use Rattle.scq_service.specs.Writing.{written_with, WrotePart}

-- these bytes were written: all of them where no write failed, and else a front of them
pub record HasWritten {K E : Type 0} (sink : SinkOf K) (old new : K) (bytes : List ℕ)
    (result : Result (Unit {0}) E) : Type 0 where
  pub whole : OnOk result (sink.written new ≡ written_with (sink.written old) bytes)
  pub part : WrotePart (sink.written old) (sink.written new) bytes
  pub kept : OnOk result (sink.faults new ≡ sink.faults old)
  pub rose : OnErr result (Rose (sink.faults old) (sink.faults new))
