-- Workers before they begin. A worker's pass, and whether its list is empty, are as its kind tells
-- them.
use Rattle.std.specs.Prelude.{◌≡◌, None}
use Rattle.scq_band.specs.Exports.{Identity}
use Rattle.scq_queue.specs.Exports.{PassStanding, first_pass}
use Rattle.scq_desk.specs.declared.seat.Seat.{Seat}

-- a worker that is to begin: it has a new pass, an empty list, and keeps no value
pub record IsToBegin {W B Place : Type 0} (pass_of : W → PassStanding B) (has_none : W → Type 0)
    (shared : Identity B) (s : Seat W B Place) : Type 0 where
  pub pass : pass_of s.worker ≡ first_pass shared (pass_of s.worker).number
  pub members : has_none s.worker
  pub kept : s.kept ≡ None
