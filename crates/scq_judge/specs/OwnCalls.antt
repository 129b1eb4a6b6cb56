-- Which of its seat's calls a call is. For private calls: the table that says so
use Rattle.std.specs.Prelude.{◌≡◌, ℕ, zero, suc, ◌+◌, ◌<◌, ◌==◌, List, Option, Some, length}
use Rattle.std.specs.Prelude.{slice_get, slice_index_or, unwrap_or, if◌then◌else◌}
use Rattle.std.specs.Ordering.{nat_cmp}
use Rattle.std.specs.BTreeMap.{BTreeMap, get}
use Rattle.scq_hist.specs.Exports.{under_way, puts_before, IsCall}
use Rattle.scq_hist.specs.declared.events.Call.{Call}
use Rattle.scq_hist.specs.declared.events.Call.TheVariants.{Put, Get}
use Rattle.scq_hist.specs.declared.events.Event.{Event}
use Rattle.scq_hist.specs.declared.events.Event.TheVariants.{Start, End}
use Rattle.scq_hist.specs.declared.events.Reply.{Reply}
use Rattle.scq_judge.specs.declared.own_calls.EndedCall.{EndedCall}
use Rattle.scq_judge.specs.declared.own_calls.OwnCall.{OwnCall}
use Rattle.scq_judge.specs.declared.own_calls.OwnCalls.{OwnCalls}

-- this event is a Start of the seat: 1, else 0
abbrev pub seat_start : Option Event → ℕ → ℕ
seat_start (Some (Start k _)) seat = if k == seat then 1 else 0
seat_start _ seat = 0

-- how many calls the seat began by moment m, over all queues
abbrev pub calls_before : List Event → ℕ → ℕ → ℕ
calls_before events seat zero = 0
calls_before events seat (suc m) =
    calls_before events seat m + seat_start (slice_get events m) seat

-- how many puts a seat has begun that began so many before this call
abbrev pub put_with : ℕ → Call → ℕ
put_with n (Put queue content) = n + 1
put_with n (Get queue) = n

-- what is kept of the seat that has begun no call
abbrev pub no_call : OwnCall
no_call = record { start = 0; number = 0; put = 0 }

abbrev pub last_of_seat : BTreeMap ℕ OwnCall → ℕ → OwnCall
last_of_seat last seat = unwrap_or (get nat_cmp last seat) no_call

-- the call that the seat began last before moment m, if it is still under way then
pub record IsOwnCall (events : List Event) (m seat : ℕ) (own : OwnCall) : Type 0 where
  pub start : (s : ℕ) → under_way events seat m ≡ Some s → own.start ≡ s
  pub number : own.number ≡ calls_before events seat m
  pub put : own.put ≡ puts_before events seat m

-- after the first m events: of each the call that its seat began last before it, and of each seat
-- the last one
pub record AreOwnCalls (events : List Event) (m : ℕ) (calls : OwnCalls) : Type 0 where
  pub many : length calls.calls.items ≡ m
  pub each : (e seat : ℕ) (reply : Reply) → e < m → slice_get events e ≡ Some (End seat reply)
      → IsOwnCall events e seat (slice_index_or calls.calls.items e no_call)
  pub last : (seat : ℕ) → IsOwnCall events m seat (last_of_seat calls.last seat)

-- no call ends at position e
abbrev pub NoCallEnds : List Event → ℕ → Type 0
NoCallEnds events e = (seat s : ℕ) (call : Call) (reply : Reply) → ¬ IsCall events seat call s e reply

-- this call ends at position e
pub record IsEndedAt (events : List Event) (e : ℕ) (ended : EndedCall) : Type 0 where
  pub is : IsCall events ended.seat ended.call.now ended.own.start e ended.reply.now
  pub number : ended.own.number ≡ suc (calls_before events ended.seat ended.own.start)
  pub put : ended.own.put ≡ put_with (puts_before events ended.seat ended.own.start) ended.call.now
