use Rattle.std.proofs.Common.{◌≡◌, [], ◌∷◌}
use Rattle.atomic_table.specs.Table.{rest}
use Rattle.scq_band.specs.Exports.{known_me, front_index, front_bytes, at_home}
use Rattle.scq_band.proofs.closing.bring_home.Given as goal

abbrev pub ghosts-load_told : goal.ghosts-load_told
ghosts-load_told g a =
    record {
      tells =
          λ me n later.
          (known_me later ≡ (at_home ((front_index me.1, front_bytes g.B.Buffer.contents me.1) ∷ []) me.0.known, rest me.1)) × (later.0.seen ≡ me.0.seen);
    }
