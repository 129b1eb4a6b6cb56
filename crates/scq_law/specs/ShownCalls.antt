-- The calls of a seat as a history shows them, and as the seat's record has them.
use Rattle.std.specs.Prelude.{◌≡◌, ℕ, true, ◌==◌, if◌then◌else◌, List, [], ◌∷◌, ◌++◌, Option, Some}
use Rattle.std.specs.Prelude.{None}
use Rattle.scq_core.specs.declared.ended.Ended.{Ended}
use Rattle.scq_core.specs.declared.ended.Ended.TheVariants as ended
use Rattle.scq_hist.specs.declared.events.Call.{Call}
use Rattle.scq_hist.specs.declared.events.Call.TheVariants.{Put}
use Rattle.scq_hist.specs.declared.events.Event.{Event}
use Rattle.scq_hist.specs.declared.events.Event.TheVariants.{Start, End}
use Rattle.scq_hist.specs.declared.events.PutName.{PutName}
use Rattle.scq_hist.specs.declared.events.Reply.{Reply}
use Rattle.scq_law.specs.Run.{Recorded, recorded_reply}
use Rattle.scq_law.specs.Plain.{call_of_ended}

-- the call that a reply ends, where one is under way
abbrev pub ended_call : Option Call → Reply → List (Call × Reply)
ended_call None reply = []
ended_call (Some call) reply = (call, reply) ∷ []

-- the calls of a seat that end in these events, each with its reply, where this call is under way
-- before them
abbrev pub calls_from : ℕ → Option Call → List Event → List (Call × Reply)
calls_from k under [] = []
calls_from k under (Start seat call ∷ events) =
    calls_from k (if seat == k then Some call else under) events
calls_from k under (End seat reply ∷ events) =
    (if seat == k then ended_call under reply else [])
    ++ calls_from k (if seat == k then None else under) events

-- those of a history, in order
abbrev pub calls_shown : ℕ → List Event → List (Call × Reply)
calls_shown k events = calls_from k None events

-- the call that was asked for where a record has this: of a put that ended with Spent it does not
-- keep the content
abbrev pub AskedFor : Ended → Call → Type 0
AskedFor (ended.Spent r t true) call = (content : List ℕ) × (call ≡ Put r content)
AskedFor e call = call ≡ call_of_ended e

-- one by one the calls of a record, each with its reply, in which a get names the put that placed
-- where it took
abbrev pub AllShown : (ℕ → ℕ → PutName) → List Ended → List (Call × Reply) → Type 0
AllShown placer [] [] = Unit {0}
AllShown placer [] (x ∷ xs) = ⊥
AllShown placer (e ∷ es) [] = ⊥
AllShown placer (e ∷ es) (x ∷ xs) =
    AskedFor e x.0 × (x.1 ≡ recorded_reply placer e) × AllShown placer es xs

-- the history of what is recorded shows each seat's calls just as its record has them, in order,
-- and none besides
pub record HistoryShowsRecords (recorded : Recorded) : Type 0 where
  pub shows : (seat : ℕ)
      → AllShown recorded.placer (recorded.state.part seat).calls (calls_shown seat recorded.events)
