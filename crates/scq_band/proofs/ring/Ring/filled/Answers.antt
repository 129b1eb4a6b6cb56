use Rattle.std.proofs.Common.{◌+◌, ◌-◌, ◌*◌, ◌∙◌, ap}
use Rattle.std.specs.Int.Bits.{bit_and}
use Rattle.scq_band.proofs.RingWords.{filled_is}
use Rattle.scq_band.proofs.ring.Ring.filled.Goals as goal

pub returns : goal.returns
returns c k is =
    let t = c.args.ticket in
    let mark = c.from-mark.result in
    ap (λ n. 2 * (t - bit_and t mark) + (mark + 1) + n) c.from.ensures ∙ filled_is k t c.args.index mark (c.from-mark.ensures ∙ is.mark)
