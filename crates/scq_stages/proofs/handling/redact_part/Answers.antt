use Rattle.scq_frames.specs.Exports.{part_at, part_of_view}
use Rattle.scq_frames.proofs.EncodedLemmas.{begins-room}
use Rattle.scq_stages.proofs.Handlings.{redacted-over}
use Rattle.scq_stages.proofs.handling.redact_part.Goals as goal

pub redact_behind-requires : goal.redact_behind-requires
redact_behind-requires c = (begins-room c.args.bytes.now (part_of_view c.in-Some.view) c.in-Some.ensures.found).0

pub returns-clause-redacted : goal.returns-clause-redacted
returns-clause-redacted c =
    let bytes = c.args.bytes.now in
    redacted-over bytes c.redact_behind.new.bytes (part_of_view c.in-Some.view) (part_at bytes) c.in-Some.ensures.found c.in-Some.ensures.part
    c.redact_behind.ensures.redacted
