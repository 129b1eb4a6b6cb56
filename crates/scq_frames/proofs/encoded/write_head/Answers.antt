-- Each number goes behind those written before it.
use Rattle.std.proofs.Common.{refl, [], ◌++◌, length}
use Rattle.byteorder.specs.Endian.{big_bytes}
use Rattle.scq_frames.specs.Exports.{message_bytes}
use Rattle.scq_frames.proofs.EncodedLemmas.{written}
use Rattle.scq_frames.proofs.encoded.write_head.Goals as goal

pub returns : goal.returns
unfolding message_bytes
returns c =
    let v = c.args.view in
    let old = c.args.into.now in
    let len = big_bytes 4 (length v.payload.now) in
    let front1 = big_bytes 4 v.file in
    let front2 = front1 ++ big_bytes 4 v.line in
    let front3 = front2 ++ big_bytes 4 v.topic in
    let front4 = front3 ++ len in
    let front5 = front4 ++ big_bytes 4 v.part in
    let one = written [] old old c.write_number.new.into (big_bytes 4 v.file) 0 4 refl refl refl c.write_number.ensures.written in
    let two = written front1 old c.write_number.new.into c.write_number-2.new.into (big_bytes 4 v.line) 4 4 one refl refl c.write_number-2.ensures.written in
    let three = written front2 old c.write_number-2.new.into c.write_number-3.new.into (big_bytes 4 v.topic) 8 4 two refl refl
    c.write_number-3.ensures.written in
    let four = written front3 old c.write_number-3.new.into c.write_number-4.new.into len 12 4 three refl refl c.write_number-4.ensures.written in
    let five = written front4 old c.write_number-4.new.into c.write_number-5.new.into (big_bytes 4 v.part) 16 4 four refl refl
    c.write_number-5.ensures.written in
    written front5 old c.write_number-5.new.into c.write_number-6.new.into (big_bytes 4 v.parts) 20 4 five refl refl c.write_number-6.ensures.written
