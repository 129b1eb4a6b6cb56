-- Which ticket a seat keeps that ended for want of one.
use Rattle.std.specs.Prelude.{◌≡◌, ℕ, ◌<◌, Bool, List, [], ◌∷◌, ◌++◌, Some}
use Rattle.std.specs.List.{Contains}
use Rattle.scq_word.specs.declared.setup.Setup.{Setup}
use Rattle.scq_core.specs.declared.ended.Ended.{Ended}
use Rattle.scq_core.specs.declared.ended.Ended.TheVariants.{Spent}
use Rattle.scq_core.specs.Exports.{SeatPart}
use Rattle.scq_core.specs.Machine.{Machine}
use Rattle.scq_word.specs.Exports.{ticket_bound}
use Rattle.scq_law.specs.Bounds.{enqueues}

-- the record ends with a call of this ring that ended with Spent and this ticket
pub record EndedSpent (p : SeatPart) (r t : ℕ) : Type 0 where
  pub before : List Ended
  pub is_put : Bool
  pub calls : p.calls ≡ before ++ Spent r t is_put ∷ []

pub record SpentKept (c : Setup) (m : Machine) : Type 0 where
  -- a ticket that a seat keeps is that of its last call, whose ring's bound for the enqueues begun
  -- is past the limit
  pub last : (k t : ℕ) → (m.part k).spent ≡ Some t
      → (r : ℕ) × EndedSpent (m.part k) r t × (r < c.rings)
      × (c.limit < ticket_bound c.order c.seats (enqueues c m r))
  -- and a call that has ended with Spent is its seat's last: the seat keeps its ticket
  pub kept : (k r t : ℕ) (is_put : Bool) → Contains (m.part k).calls (Spent r t is_put)
      → (m.part k).spent ≡ Some t
