-- Orders as text
use Rattle.std.specs.Prelude.{ℕ, ◌+◌, List, [], ◌++◌, Option, Some, codes, decimal, flat_map, slice_get}
use Rattle.scq_hist.specs.Exports.{puts_before}
use Rattle.scq_hist.specs.declared.events.Call.{Call}
use Rattle.scq_hist.specs.declared.events.Call.TheVariants.{Put, Get}
use Rattle.scq_hist.specs.declared.events.Event.{Event}
use Rattle.scq_hist.specs.declared.events.Event.TheVariants.{Start, End}
use Rattle.scq_hist.specs.declared.events.Reply.{Reply}
use Rattle.scq_hist.specs.declared.events.Reply.TheVariants.{Got}
use Rattle.scq_judge.specs.Ordering.{start_at}
use Rattle.scq_judge.specs.OwnCalls.{calls_before}
use Rattle.scq_judge.specs.Telling.{put_name_text}
use Rattle.scq_judge.specs.declared.walking.QueueOrder.{QueueOrder}

-- what a call did: a put, with its number among the seat's puts, or what a get has got
abbrev pub done_text : ℕ → Call → Reply → List ℕ
done_text put (Put queue content) reply = codes " put " ++ decimal put
done_text put (Get queue) (Got name content) = codes " got " ++ put_name_text name
done_text put (Get queue) _ = codes " nothing"

-- the line of a call: its seat, its number among the seat's calls, and what it did
abbrev pub call_words : ℕ → ℕ → ℕ → Call → Reply → List ℕ
call_words seat number put call reply =
    decimal seat ++ codes " " ++ decimal number ++ done_text put call reply ++ codes "\n"

abbrev pub line_by : List Event → ℕ → Option Event → Option Event → List ℕ
line_by events s (Some (Start seat call)) (Some (End k reply)) =
    call_words seat (calls_before events seat s + 1) (puts_before events seat s + 1) call reply
line_by events s _ _ = []

-- that of the call that ends at position e
abbrev pub call_line : List Event → ℕ → List ℕ
call_line events e =
    let s = start_at events e in line_by events s (slice_get events s) (slice_get events e)

-- a line for the queue, and behind it one for each call, in order
abbrev pub queue_lines : List Event → QueueOrder → List ℕ
queue_lines events order =
    codes "queue " ++ decimal order.queue ++ codes "\n" ++ flat_map (call_line events) order.ends.items

abbrev pub order_lines : List Event → List QueueOrder → List ℕ
order_lines events orders = flat_map (queue_lines events) orders
