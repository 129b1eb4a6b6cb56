-- The payload goes behind the six numbers.
use Rattle.std.proofs.Common.{refl, length, take}
use Rattle.scq_frames.specs.Exports.{message_bytes, part_of_view}
use Rattle.scq_frames.proofs.EncodedLemmas.{written}
use Rattle.scq_frames.proofs.encoded.write_part.Goals as goal

pub returns : goal.returns
unfolding message_bytes
returns c =
    let payload = c.args.view.payload.now in
    written (take 24 (message_bytes (part_of_view c.args.view))) c.args.into.now c.write_head.new.into c.write_bytes.new.into payload 24 (length payload)
    c.write_head.ensures refl refl c.write_bytes.ensures
