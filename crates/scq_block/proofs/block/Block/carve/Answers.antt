use Rattle.std.proofs.Common.{sym, ap, ◌∙◌}
use Rattle.scq_block.proofs.BlockFrames.{carved}
use Rattle.scq_block.proofs.block.Block.carve.Goals as goal

pub returns : goal.returns
returns c =
    let start = c.as_mut_ptr-start.ensures in
    let place = start.value ∙ sym (ap (λ v. v.ptr) start.unchanged) ∙ sym c.open-shell.ensures.0 in
    record { carved = carved _ c.as_mut_ptr-start.result c.deal-frames.result.items place c.deal-frames.ensures }
