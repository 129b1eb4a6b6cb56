-- A plain queue: a list of puts, the front first, each with its name and content. What it replies
-- to a call, and what it is after it.
use Rattle.std.specs.Prelude.{ℕ, ◌+◌, Bool, true, false, List, [], ◌∷◌, ◌++◌, take}
use Rattle.std.specs.List.{count_by}
use Rattle.scq_core.specs.declared.ended.Ended.{Ended}
use Rattle.scq_core.specs.declared.ended.Ended.TheVariants as ended
use Rattle.scq_hist.specs.declared.events.Call.{Call}
use Rattle.scq_hist.specs.declared.events.Call.TheVariants.{Put, Get}
use Rattle.scq_hist.specs.declared.events.PutName.{PutName}
use Rattle.scq_hist.specs.declared.events.PutName.TheVariants.{Of}
use Rattle.scq_hist.specs.declared.events.Reply.{Reply}
use Rattle.scq_hist.specs.declared.events.Reply.TheVariants.{Done, Got, Nothing}

-- a put is done, and a get has got the front, or nothing where the list is empty
abbrev pub plain_reply : List (PutName × List ℕ) → Call → Reply
plain_reply queue (Put r w) = Done
plain_reply [] (Get r) = Nothing
plain_reply (front ∷ queue) (Get r) = Got front.0 front.1

-- a put of this name stands at the end, and a get has removed the front
abbrev pub plain_after : List (PutName × List ℕ) → PutName → Call → List (PutName × List ℕ)
plain_after queue name (Put r w) = queue ++ (name, w) ∷ []
plain_after [] name (Get r) = []
plain_after (front ∷ queue) name (Get r) = queue

-- the call that has ended so
abbrev pub call_of_ended : Ended → Call
call_of_ended (ended.Done r p w) = Put r w
call_of_ended (ended.Got r p w) = Get r
call_of_ended (ended.Nothing r) = Get r
call_of_ended (ended.Spent r t true) = Put r []
call_of_ended (ended.Spent r t false) = Get r

abbrev pub ends_put : Ended → Bool
ends_put (ended.Done r p w) = true
ends_put (ended.Spent r t put) = put
ends_put _ = false

-- the name of a seat's put that is its call of this number, from 0: a seat's puts are numbered from
-- 1
abbrev pub name_of_put : List Ended → ℕ → ℕ → PutName
name_of_put calls seat call = Of seat (count_by ends_put (take (call + 1) calls))
