use Rattle.std.proofs.Common.{◌≡◌}
use Rattle.scq_band.specs.Exports.{opening_of, HasFound}
use Rattle.scq_band.proofs.marks.find.Given as goal

abbrev pub ghosts-load_told : goal.ghosts-load_told
ghosts-load_told g a =
    record {
      tells =
          λ me n later.
          (later.0.known ≡ me.0.known) × (later.1 ≡ me.1)
          × HasFound a.words.now.key.setup (opening_of g.B.Buffer.contents a.words.now.key.given.value.items)
          a.word n me.0 later.0;
    }
