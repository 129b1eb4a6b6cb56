use Rattle.std.proofs.Common.{◌≡◌}
use Rattle.scq_band.specs.Exports.{opening_of, Looked, IsReading, my, looked}
use Rattle.scq_band.proofs.gate.read_gate.Given as goal

abbrev pub ghosts-load_told : goal.ghosts-load_told
ghosts-load_told g a =
    record {
      tells =
          λ me n later.
          (later.0.known ≡ looked n me.0.known) × (later.1 ≡ me.1) × IsReading a.words.now.key.setup.seats me.0.known.gate (my me.0.known).retired n
          × Looked a.words.now.key.setup (opening_of g.B.Buffer.contents a.words.now.key.given.value.items) me.0 later.0 n;
    }
