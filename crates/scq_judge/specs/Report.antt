-- What is said of a merged history
use Rattle.std.specs.Prelude.{◌≡◌, ℕ, ◌+◌, Bool, true, false, ◌&&◌, ◌||◌, nat_lt, nat_le, List, []}
use Rattle.std.specs.Prelude.{◌++◌, Option, Some, None, length, codes, decimal, slice_get}
use Rattle.std.specs.Prelude.{if◌then◌else◌}
use Rattle.scq_hist.specs.Exports.{IsCount}
use Rattle.scq_hist.specs.declared.events.Event.{Event}
use Rattle.scq_hist.specs.declared.events.Event.TheVariants.{End}
use Rattle.scq_hist.specs.declared.events.Reply.TheVariants.{Done}
use Rattle.scq_check.specs.Exports.{AreFailures, KeepsRoomAt, AreBreaches}
use Rattle.scq_check.specs.declared.counterparts.Origin.{Origin}
use Rattle.scq_check.specs.declared.counterparts.Origin.TheVariants.{Nobody, Token, Start}
use Rattle.scq_check.specs.declared.failures.Failures.{Failures}
use Rattle.scq_check.specs.declared.waiting.Waiting.{Waiting}
use Rattle.scq_judge.specs.Counted.{IsStartAt, IsNamed, NeverEnds, Overlaps}
use Rattle.scq_judge.specs.declared.counting.Counts.{Counts}
use Rattle.scq_judge.specs.declared.counting.Named.TheVariants.{Seat, Queue}
use Rattle.scq_judge.specs.declared.judging.Report.{Report}
use Rattle.scq_judge.specs.Telling.{Told, event_at_text, token_text}
use Rattle.scq_order.specs.Exports.{HasOrders, IsComplete}

-- where it is known for how many values each queue has room: the puts that break it
abbrev pub AreRoomBreaches : Option ℕ → List (List ℕ) → List Event → Option Failures → Type 0
AreRoomBreaches None opening history told = told ≡ None
AreRoomBreaches (Some room) opening history None = ⊥
AreRoomBreaches (Some room) opening history (Some failures) =
    AreFailures (KeepsRoomAt room opening history) failures

-- where each call has ended: whether the history is linearizable
abbrev pub IsOrderTold : List (List ℕ) → List Event → Option Bool → Type 0
IsOrderTold opening history None = ¬ IsComplete history
IsOrderTold opening history (Some true) = IsComplete history × HasOrders opening history
IsOrderTold opening history (Some false) = IsComplete history × (¬ HasOrders opening history)

-- of a history: the events that break each aspect, whether it is linearizable, and how many opening
-- tokens, events, queues, seats, calls, overlapping calls and calls that never end there are
pub record IsReport (room : Option ℕ) (opening : List (List ℕ)) (history : List Event)
    (report : Report) : Type 0 where
  pub breaches : AreBreaches opening history report.breaches
  pub full : AreRoomBreaches room opening history report.full
  pub linearizable : IsOrderTold opening history report.linearizable
  pub tokens : report.tokens ≡ length opening
  pub events : report.counts.events ≡ length history
  pub queues : IsCount (IsNamed Queue history) report.counts.queues
  pub seats : IsCount (IsNamed Seat history) report.counts.seats
  pub calls : IsCount (IsStartAt history) report.counts.calls
  pub overlapping : IsCount (Overlaps history) report.counts.overlapping
  pub never_ended : IsCount (NeverEnds history) report.counts.never_ended

-- Whether the history has a case of an aspect: of `fresh` and `once` a get that got something; of
-- `in order` such a get too, and where there are several seats calls side by side; of `empty` a get
-- that found nothing; of refusals a put that was refused; of the order of opening tokens a get that
-- got one
abbrev pub tests_gots : Report → Bool
tests_gots r = nat_lt 0 r.breaches.endings.got

abbrev pub tests_order : Report → Bool
tests_order r = tests_gots r && (nat_le r.counts.seats 1 || nat_lt 0 r.counts.overlapping)

abbrev pub tests_empty : Report → Bool
tests_empty r = nat_lt 0 r.breaches.endings.nothing

abbrev pub tests_refused : Report → Bool
tests_refused r = nat_lt 0 r.breaches.endings.refused

abbrev pub tests_opening : Report → Bool
tests_opening r = nat_lt 0 r.breaches.endings.tokens

-- the verdict on an aspect: its name, and ` fails at` the first event that breaks it, and how many
-- do; else ` holds`, or ` not tested` where the history has no case of it
abbrev pub unbroken_text : Bool → List ℕ
unbroken_text true = codes " holds"
unbroken_text false = codes " not tested"

abbrev pub failures_text : List ℕ → Told → Bool → Option ℕ → ℕ → List ℕ
failures_text name t tested None count = name ++ unbroken_text tested
failures_text name t tested (Some e) count =
    name ++ codes " fails at " ++ event_at_text t e ++ codes ", " ++ decimal count
    ++ codes " in all"

abbrev pub verdict_text : List ℕ → Told → Bool → Failures → List ℕ
verdict_text name t tested failures = failures_text name t tested failures.first failures.count

-- these words and this event, where there is one
abbrev pub event_text : List ℕ → Told → Option ℕ → List ℕ
event_text words t None = []
event_text words t (Some e) = words ++ event_at_text t e

-- a put that waits: its opening token, or its End
abbrev pub put_text : Told → Option ℕ → Option ℕ → List ℕ
put_text t (Some number) put = token_text t number
put_text t None (Some d) = event_at_text t d
put_text t None None = []

-- where it is got
abbrev pub got_text : Told → Option ℕ → List ℕ
got_text t None = codes ", never got"
got_text t (Some e) = codes ", got at " ++ event_at_text t e

-- how many puts wait, and of the one that is told where it was put and where it is got
abbrev pub waiting_text : Told → Option Waiting → List ℕ
waiting_text t None = []
waiting_text t (Some w) =
    codes "; " ++ decimal (w.tokens.count + w.puts.count) ++ codes " waiting, one put at "
    ++ put_text t w.token w.put ++ got_text t w.got

-- where the put that a Got names was put
abbrev pub origin_text : Told → Option Origin → List ℕ
origin_text t None = []
origin_text t (Some Nobody) =
    codes "; names a put that nobody made: values have to be the recorder's"
origin_text t (Some (Token number)) = codes "; names the opening at " ++ token_text t number
origin_text t (Some (Start s)) = codes "; names the put started at " ++ event_at_text t s

-- where the put that has overtaken others was put, which is no opening token
abbrev pub overtaker_text : Told → Option Origin → List ℕ
overtaker_text t (Some (Start s)) = codes "; overtaken by the put started at " ++ event_at_text t s
overtaker_text t _ = []

-- the lines of aspects: the verdict, and behind it what its first event stands against, which is
-- nothing, where a put was put, an event, puts that wait, or puts that wait and where that was put
-- which has overtaken them
abbrev pub plain_line : List ℕ → Told → Bool → Failures → List ℕ
plain_line name t tested failures = verdict_text name t tested failures ++ codes "\n"

abbrev pub origin_line : List ℕ → Told → Bool → Failures → Option Origin → List ℕ
origin_line name t tested failures origin =
    verdict_text name t tested failures ++ origin_text t origin ++ codes "\n"

abbrev pub beside_line : List ℕ → Told → Bool → Failures → List ℕ → Option ℕ → List ℕ
beside_line name t tested failures words event =
    verdict_text name t tested failures ++ event_text words t event ++ codes "\n"

abbrev pub waiting_line : List ℕ → Told → Bool → Failures → Option Waiting → List ℕ
waiting_line name t tested failures waiting =
    verdict_text name t tested failures ++ waiting_text t waiting ++ codes "\n"

abbrev pub order_line : List ℕ → Told → Bool → Failures → Option Waiting → Option Origin → List ℕ
order_line name t tested failures waiting overtaker =
    verdict_text name t tested failures ++ waiting_text t waiting ++ overtaker_text t overtaker
    ++ codes "\n"

-- of the put that breaks the room first: where it was answered Done, that its queue is over-full
abbrev pub over_by : Option Event → List ℕ
over_by (Some (End seat Done)) = codes "; there is no room for it"
over_by _ = []

abbrev pub over_text : Told → Option ℕ → List ℕ
over_text t None = []
over_text t (Some e) = over_by (slice_get t.events e)

-- the line on the room, where it is known
abbrev pub full_line : Told → Bool → Option Failures → List ℕ
full_line t tested None = []
full_line t tested (Some failures) =
    verdict_text (codes "full") t tested failures ++ over_text t failures.first ++ codes "\n"

-- the line on opening tokens, where there are two or more
abbrev pub opening_line : Told → Bool → ℕ → Failures → List ℕ
opening_line t tested tokens failures =
    if nat_lt 1 tokens then plain_line (codes "opening in order") t tested failures else []

-- the last line
abbrev pub linearizable_line : Option Bool → List ℕ
linearizable_line (Some true) = codes "linearizable yes\n"
linearizable_line (Some false) = codes "linearizable no\n"
linearizable_line None = codes "linearizable not told: calls never ended\n"

-- the line of a count: its name and the number
abbrev pub count_line : List ℕ → ℕ → List ℕ
count_line name count = name ++ codes " " ++ decimal count ++ codes "\n"

-- the lines of the counts
abbrev pub count_lines : Counts → List ℕ
count_lines c =
    count_line (codes "events") c.events ++ count_line (codes "queues") c.queues
    ++ count_line (codes "seats") c.seats ++ count_line (codes "calls") c.calls
    ++ count_line (codes "overlapping") c.overlapping

-- and of how calls end
abbrev pub ending_lines : Report → List ℕ
ending_lines r =
    count_line (codes "got") r.breaches.endings.got
    ++ count_line (codes "nothing") r.breaches.endings.nothing
    ++ count_line (codes "refused") r.breaches.endings.refused
    ++ count_line (codes "spent") r.breaches.endings.spent
    ++ count_line (codes "never ended") r.counts.never_ended

-- the report as text
abbrev pub report_lines : Told → Report → List ℕ
report_lines t r =
    let told = r.breaches.counterparts in
    origin_line (codes "fresh") t (tests_gots r) r.breaches.fresh told.fresh
    ++ beside_line (codes "once") t (tests_gots r) r.breaches.once
    (codes "; named before at ") told.once
    ++ order_line (codes "in order") t (tests_order r) r.breaches.in_order told.in_order
    told.overtaker
    ++ waiting_line (codes "empty") t (tests_empty r) r.breaches.empty_right told.empty_right
    ++ beside_line (codes "refused never got") t (tests_refused r) r.breaches.accepted
    (codes "; put refused at ") told.accepted
    ++ full_line t (tests_refused r) r.full
    ++ opening_line t (tests_opening r) r.tokens r.breaches.opening
    ++ count_lines r.counts ++ ending_lines r ++ linearizable_line r.linearizable
