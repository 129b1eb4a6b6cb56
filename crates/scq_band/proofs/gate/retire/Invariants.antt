use Rattle.std.proofs.Common.{◌≡◌, length}
use Rattle.scq_band.specs.Exports.{with_retiree, my, retired_at}
use Rattle.scq_band.proofs.gate.retire.Given as goal

abbrev pub ghosts-subtract_told : goal.ghosts-subtract_told
ghosts-subtract_told g a = record { tells = λ me n later. ((later.0.known ≡ retired_at me.0.known) × (later.1 ≡ me.1)) × (later.0.seen ≡ with_retiree ((my me.0.known).number, length (my me.0.known).part.calls) me.0.seen) }
