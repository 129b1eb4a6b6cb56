-- What lasts of the places, from each moment of a run to each later one.
use Rattle.std.proofs.Common.{◌≡◌, ℕ, ◌<◌, List, length}
use Rattle.std.specs.List.{All}
use Rattle.scq_word.specs.declared.setup.Setup.{Setup}
use Rattle.scq_word.specs.Exports.{n_of}
use Rattle.scq_core.specs.declared.step.Step.{Step}
use Rattle.scq_law.specs.Exports.{PlacesLastThroughout}
use Rattle.scq_law.proofs.Replays.RisingWords.{moments_later, moment_reached}
use Rattle.scq_law.proofs.Places.LaterLaws.{places_last}

pub places_last_throughout : (c : Setup) (opening : List (List ℕ)) (steps : List (ℕ × Step)) → length opening ≡ n_of c.order
    → All (λ (x : ℕ × Step). x.0 < c.seats) steps → PlacesLastThroughout c opening steps
places_last_throughout c opening steps full seats =
    record {
      last =
          λ i j now later order first second.
          places_last c now.state later.state (moment_reached c opening steps i now first)
          (moments_later c opening steps i j now later seats order first second);
    }
