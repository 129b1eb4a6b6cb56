-- Whose an event is, and on what queue.
use Rattle.std.specs.Prelude.{◌≡◌, ℕ, ⊤}
use Rattle.scq_hist.specs.declared.events.Call.TheVariants.{Put, Get}
use Rattle.scq_hist.specs.declared.events.Event.{Event}
use Rattle.scq_hist.specs.declared.events.Event.TheVariants.{Start, End}

-- the seat whose call starts or ends
abbrev pub seat_of_call : Event → ℕ
seat_of_call (Start seat _) = seat
seat_of_call (End seat _) = seat

-- no call starts on another queue than this
abbrev pub IsOn : ℕ → Event → Type 0
IsOn queue (Start _ (Put q _)) = q ≡ queue
IsOn queue (Start _ (Get q)) = q ≡ queue
IsOn queue (End _ _) = ⊤
