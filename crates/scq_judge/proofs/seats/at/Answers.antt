use Rattle.std.proofs.Common.{refl}
use Rattle.std.proofs.lemmas.Option.{slice_get_read}
use Rattle.scq_judge.proofs.seats.at.Goals as goal

pub returns : goal.returns
returns c = record {
  event = c.index-events-i.result;
  stands = slice_get_read _ _ _ _ refl c.requires c.index-events-i.is;
  seat_is = c.seat_of.ensures;
  place_is = refl;
}
