use Rattle.std.proofs.Common.{◌==◌}
use prog.Atomic.{either}
use Rattle.scq_band.proofs.RunShown.{moves}
use Rattle.scq_band.proofs.Operations.{exchange_says}
use Rattle.scq_band.proofs.steps.exchange.Goals as goal

pub exchange_told-requires-clause-allows : goal.exchange_told-requires-clause-allows
exchange_told-requires-clause-allows g c κs within =
    let k = c.args.words.now.key.setup in
    moves _ k _ _ _ _ _ (λ n. either (n == c.args.old) c.args.new n) c.requires.may c.requires.carries c.requires.word
    (λ m r b. exchange_says k _ _ _ _ c.requires.kind)
