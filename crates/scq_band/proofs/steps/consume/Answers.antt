use Rattle.std.specs.Prelude.{bit_or}
use Rattle.scq_band.proofs.RunShown.{moves}
use Rattle.scq_band.proofs.Operations.{consume_says, consume_carries}
use Rattle.scq_band.proofs.steps.consume.Goals as goal

pub or_told-requires-clause-allows : goal.or_told-requires-clause-allows
or_told-requires-clause-allows g c κs within =
    let k = c.args.words.now.key.setup in
    moves _ k _ _ _ _ _ (λ n. bit_or n c.args.mark) c.requires.may (consume_carries _ _ _ c.requires.kind) c.requires.word
    (λ m r b. consume_says k _ _ _ c.requires.kind c.requires.mark)
