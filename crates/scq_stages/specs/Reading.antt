-- What passing messages on makes of a worker.
use Rattle.std.specs.Prelude.{List, length, Option}
use Rattle.scq_frames.specs.declared.message.Message.{Message}
use Rattle.scq_band.specs.Exports.{Identity}
use Rattle.scq_queue.specs.Exports.{HeldStanding}
use Rattle.scq_desk.specs.GoingOn as going
use Rattle.scq_stages.specs.Working.{IsAtWork, HasStopped}
use Rattle.scq_stages.specs.declared.worker.Worker.{Worker}

module _ {B Place : Type 0} (shared : Identity B) where
  -- it has passed these messages on
  abbrev pub IsAt : List Message → Worker B Place → Type 0
  IsAt messages w = IsAtWork messages w.pass w.members.items w.starved

  -- it met a ticket past the limit at the last of these messages
  abbrev pub IsOver : List Message → Worker B Place → Option (HeldStanding B) → Type 0
  IsOver messages w kept = HasStopped shared (length messages) w.pass kept

  -- it has passed these messages on, and goes on
  abbrev pub HasGoneOn : List Message → Worker B Place → Worker B Place → Type 0
  HasGoneOn messages old new =
      going.HasGoneOn (λ w. w.pass) (λ w. w.starved) IsAt shared 1 messages old new

  -- it met a ticket past the limit at the last of these messages
  abbrev pub HasStoppedAt : List Message → Worker B Place → Worker B Place
      → Option (HeldStanding B) → Type 0
  HasStoppedAt messages old new kept =
      going.HasStoppedAt (λ w. w.pass) (λ w. w.starved) IsAt IsOver messages old new kept
