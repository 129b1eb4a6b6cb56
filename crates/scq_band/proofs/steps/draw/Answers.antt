use Rattle.std.proofs.Common.{◌+◌, ◌%◌, ◌^◌}
use Rattle.scq_core.proofs.Fits.{words_fit}
use Rattle.scq_band.proofs.RunShown.{moves}
use Rattle.scq_band.proofs.Operations.{draw_says, draw_carries}
use Rattle.scq_band.proofs.steps.draw.Goals as goal

pub add_told-requires-clause-allows : goal.add_told-requires-clause-allows
add_told-requires-clause-allows g c κs within =
    let k = c.args.words.now.key.setup in
    moves _ k _ _ _ _ _ (λ n. (n + 1) % 2 ^ 64) c.requires.may (draw_carries _ _ _ c.requires.kind) c.requires.word
    (λ m r b. draw_says k m.cells _ (words_fit k m r) c.requires.kind)
