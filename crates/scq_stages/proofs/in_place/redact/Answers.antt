use Rattle.std.proofs.Common.{◌∙◌, ap, arith, get_or}
use Rattle.std.specs.Prelude.{slice_set}
use Rattle.std.proofs.lemmas.List.{get_or_default}
use Rattle.std.proofs.lemmas.List.Edits.{map_over_more}
use Rattle.scq_stages.specs.Exports.{redacted_byte}
use Rattle.scq_stages.proofs.in_place.redact.Goals as goal

pub loop-at-preserved : goal.loop-at-preserved
loop-at-preserved c =
    let xs = c.args.payload.now in
    let ys = c.loop-at.payload in
    let at = c.loop-at.at in
    let byte = get_or ys at 0 in
    ap (slice_set ys at) c.redact_byte.ensures
    ∙ map_over_more redacted_byte xs ys at byte c.loop-at-test.true c.loop-at.invariant
    (get_or_default ys at 0 byte (omega (arith, c.loop-at-test.true, c.loop-at.auto.payload)))
