use Rattle.std.proofs.Common.{◌+◌, ◌-◌, ◌%◌, ◌^◌}
use Rattle.scq_core.proofs.Fits.{words_fit}
use Rattle.scq_band.proofs.RunShown.{moves}
use Rattle.scq_band.proofs.Operations.{count_says, count_carries}
use Rattle.scq_band.proofs.steps.count_down.Goals as goal

pub subtract_told-requires-clause-allows : goal.subtract_told-requires-clause-allows
subtract_told-requires-clause-allows g c κs within =
    let k = c.args.words.now.key.setup in
    moves _ k _ _ _ _ _ (λ n. (n + (2 ^ 64 - 1)) % 2 ^ 64) c.requires.may (count_carries _ _ _ c.requires.kind) c.requires.word
    (λ m r b. count_says k m.cells _ (words_fit k m r) c.requires.kind)
