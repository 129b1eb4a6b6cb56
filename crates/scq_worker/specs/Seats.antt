-- Workers at their desks.
use Rattle.std.specs.Prelude.{◌≡◌, []}
use Rattle.scq_band.specs.Exports.{Identity}
use Rattle.scq_desk.specs.Seats as seats
use Rattle.scq_desk.specs.declared.seat.Seat.{Seat}
use Rattle.scq_worker.specs.declared.worker.Worker.{Worker}

-- a worker, seated
abbrev pub Seated : Type 0 → Type 0 → Type 0
Seated B Place = Seat (Worker B Place) B Place

-- it is to begin: it has a new pass, an empty list, nothing open, and keeps no value
abbrev pub IsToBegin : {B Place : Type 0} → Identity B → Seated B Place → Type 0
IsToBegin shared s =
    seats.IsToBegin (λ w. w.pass) (λ w. (w.members ≡ []) × (w.opens.items ≡ [])) shared s
