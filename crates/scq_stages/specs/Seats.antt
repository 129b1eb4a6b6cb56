-- Workers at their desks.
use Rattle.std.specs.Prelude.{◌≡◌, ℕ, []}
use Rattle.scq_band.specs.Exports.{Identity}
use Rattle.scq_files.specs.Exports.{SourceOf}
use Rattle.scq_files.specs.declared.desk.Desk.{Desk}
use Rattle.scq_desk.specs.Seats as seats
use Rattle.scq_desk.specs.declared.seat.Seat.{Seat}
use Rattle.scq_stages.specs.Working.{HasRun}
use Rattle.scq_stages.specs.declared.worker.Worker.{Worker}

-- a worker of stages, seated
abbrev pub Seated : Type 0 → Type 0 → Type 0
Seated B Place = Seat (Worker B Place) B Place

-- it is to begin: it has a new pass, an empty list, and keeps no value
abbrev pub IsToBegin : {B Place : Type 0} → Identity B → Seated B Place → Type 0
IsToBegin shared s = seats.IsToBegin (λ w. w.pass) (λ w. w.members.items ≡ []) shared s

-- the worker at this desk has done its work
abbrev pub HasRunAt : {B Place S : Type 0} → Identity B → ℕ → SourceOf S → Desk (Seated B Place) S
    → Type 0
HasRunAt shared size src d = HasRun shared size src d.files.items d.worker.worker.pass
    d.worker.worker.members.items d.worker.worker.starved d.worker.kept
