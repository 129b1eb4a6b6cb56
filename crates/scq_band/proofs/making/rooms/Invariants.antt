use Rattle.std.proofs.Common.{◌≡◌, All}
use Rattle.std.specs.Prelude.{vec_len}
use Rattle.scq_band.specs.Exports.{IsRoom}
use Rattle.scq_band.proofs.making.rooms.Given as goal

abbrev pub invariant-loop : goal.invariant-loop
invariant-loop l = (vec_len l.rooms ≡ l.counter) × All (IsRoom l.setup) l.rooms.items
