use Rattle.scq_band.specs.Exports.{load_turn}
use Rattle.scq_band.proofs.Operations.{Tells}
use Rattle.scq_band.proofs.steps.load.Given as goal

abbrev pub ghosts-load_told : goal.ghosts-load_told
ghosts-load_told g a =
    let key = a.words.now.key in
    record { tells = Tells g.B.Buffer.contents g.B.Buffer.IsSameBuffer key (load_turn key.setup a.word a.token.now.me.0.known) }
