use Rattle.scq_band.proofs.RunShown.{moves}
use Rattle.scq_band.proofs.Operations.{load_says, load_carries}
use Rattle.scq_band.proofs.steps.load.Goals as goal

pub load_told-requires-clause-allows : goal.load_told-requires-clause-allows
load_told-requires-clause-allows g c κs within =
    let k = c.args.words.now.key.setup in
    moves _ k _ _ _ _ _ (λ n. n) c.requires.may (load_carries _ _ _ c.requires.kind) c.requires.word
    (λ m r b. load_says k _ _ c.requires.kind)
