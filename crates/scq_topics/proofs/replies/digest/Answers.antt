-- A digest has 64 bytes in hexadecimal, so it is no short reply.
use Rattle.std.proofs.Common.{◌≡◌, ◌*◌, arith, length}
use Rattle.hex.specs.Hex.{encode_lower, lower_digits}
use Rattle.hex.proofs.HexLemmas.{length-encode_with}
use Rattle.sha2.specs.Sha256.{sha256}
use Rattle.sha2.proofs.Facts256.{length-sha256}
use Rattle.scq_topics.proofs.replies.digest.Goals as goal

pub returns-in_err-encode-clause-short : goal.returns-in_err-encode-clause-short
returns-in_err-encode-clause-short c = λ short.
    let two : length (encode_lower (sha256 c.args.payload.now)) ≡ 2 * length (sha256 c.args.payload.now) =
    length-encode_with lower_digits (sha256 c.args.payload.now) in
    absurd (omega (arith, short, two, length-sha256 c.args.payload.now))
