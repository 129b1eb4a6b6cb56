use Rattle.std.proofs.Common.{◌≡◌, [], ◌∷◌}
use Rattle.atomic_table.specs.Table.{rest}
use Rattle.scq_band.specs.Exports.{LiesIn, known_me, front_index, front_bytes, at_home}
use Rattle.scq_band.proofs.Bringing.{brings}
use Rattle.scq_band.proofs.RunShown.{stays}
use Rattle.scq_band.proofs.closing.bring_home.Goals as goal

pub load_told-requires-clause-allows : goal.load_told-requires-clause-allows
load_told-requires-clause-allows g c κs within =
    let k = c.args.words.now.key in
    let Lie = LiesIn g.B.Buffer.contents g.B.Buffer.IsSameBuffer k.given.value.items in
    let me = c.args.token.now.me in
    let w = front_bytes g.B.Buffer.contents me.1 in
    let slots = c.args.words.now.table_id.slots in
    stays Lie k.setup slots c.args.token.now.id me 0 (λ n. n) (λ n later. later ≡ (at_home ((front_index me.1, w) ∷ []) me.0.known, rest me.1))
    (λ gone run. brings Lie k.setup slots c.args.token.now.id w (known_me me) c.requires.may)
