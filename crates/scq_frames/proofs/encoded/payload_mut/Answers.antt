-- What is lent is the part's payload.
use Rattle.std.proofs.Common.{◌≡◌, ◌+◌, ◌-◌, sym, arith}
use Rattle.scq_frames.proofs.encoded.payload_mut.Goals as goal

pub returns : goal.returns
returns c =
    let len = c.in_ok-len.len in
    let same : 24 + len - 24 ≡ len = omega arith in
    rw same (sym c.in_ok-len.ensures.bytes)
