use Rattle.scq_band.specs.Exports.{ShowsRun, my_phase}
use Rattle.scq_band.proofs.RunShown.{moves}
use Rattle.scq_band.proofs.Operations.{Tells, reset_says, reset_carries, reset_tells, allows_map}
use Rattle.scq_band.proofs.steps.reset.Goals as goal

pub store_told-requires-clause-allows : goal.store_told-requires-clause-allows
store_told-requires-clause-allows g c κs within =
    let k = c.args.words.now.key in
    let me = c.args.token.now.me in
    let t = my_phase me.0.known in
    allows_map (ShowsRun _ _ k.setup) c.args.words.now.table_id.slots c.args.token.now.id me c.args.word (λ _. c.args.level)
    (Tells g.B.Buffer.contents g.B.Buffer.IsSameBuffer k t me) (λ x later. Tells g.B.Buffer.contents g.B.Buffer.IsSameBuffer k t me c.args.level later)
    (λ n later told. (reset_tells _ k.setup t _ _ n c.args.level c.requires.kind told.0, told.1))
    (moves _ k.setup c.args.words.now.table_id.slots c.args.token.now.id me t c.args.word (λ _. c.args.level) c.requires.may
    (reset_carries _ t me.1 c.requires.kind) c.requires.word (λ m r b. reset_says k.setup t _ c.args.level c.requires.kind c.requires.level))
