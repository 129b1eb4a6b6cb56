-- What a line of a history's text says: an opening token, or an event. The fields of a line stand
-- one space apart
use Rattle.std.specs.Prelude.{ℕ, ◌+◌, List, [], ◌∷◌, Option, Some, None, codes, if◌then◌else◌}
use Rattle.std.specs.Option.{option_map}
use Rattle.std.specs.Str.{bytes_eq}
use Rattle.scq_hist.specs.declared.events.Call.{Call}
use Rattle.scq_hist.specs.declared.events.Call.TheVariants.{Put, Get}
use Rattle.scq_hist.specs.declared.events.Event.TheVariants.{Start, End}
use Rattle.scq_hist.specs.declared.events.PutName.{PutName}
use Rattle.scq_hist.specs.declared.events.PutName.TheVariants as name
use Rattle.scq_hist.specs.declared.events.Reply.{Reply}
use Rattle.scq_hist.specs.declared.events.Reply.TheVariants.{Done, Got, Nothing, Spent}
use Rattle.scq_lines.specs.Exports.{fields_of, number_of, number_below, field_content}
use Rattle.scq_check.specs.declared.line.Bounds.{Bounds}
use Rattle.scq_check.specs.declared.line.Line.{Line}
use Rattle.scq_check.specs.declared.line.Line.TheVariants.{Opening, Happens}

-- a seat, a queue and the number of an opening token, within bounds; a content
abbrev pub seat_in : Bounds → List ℕ → Option ℕ
seat_in bounds field = number_below (bounds.seat + 1) field

abbrev pub said_queue : Bounds → List ℕ → Option ℕ
said_queue bounds field = number_below (bounds.queue + 1) field

abbrev pub token_in : Bounds → List ℕ → Option ℕ
token_in bounds field = number_below (bounds.token + 1) field

abbrev pub said_content : List ℕ → Option (List ℕ)
said_content field = field_content 64 field

-- the put of this name: `o J` is the opening token J, and `S2 N` the put number N of seat S2
abbrev pub name_of_seat : Option ℕ → Option ℕ → Option PutName
name_of_seat (Some seat) (Some number) = Some (name.Of seat number)
name_of_seat _ _ = None

abbrev pub said_name : Bounds → List ℕ → List ℕ → Option PutName
said_name bounds by number =
    if bytes_eq by (codes "o") then option_map name.Opening (token_in bounds number)
    else name_of_seat (seat_in bounds by) (number_of number)

-- the call of `put Q X` or `get Q`
abbrev pub said_put : Option ℕ → Option (List ℕ) → Option Call
said_put (Some queue) (Some content) = Some (Put queue content)
said_put _ _ = None

abbrev pub call_of : Bounds → List (List ℕ) → Option Call
call_of bounds (word ∷ queue ∷ []) =
    if bytes_eq word (codes "get") then option_map Get (said_queue bounds queue) else None
call_of bounds (word ∷ queue ∷ content ∷ []) =
    if bytes_eq word (codes "put") then said_put (said_queue bounds queue) (said_content content)
    else None
call_of bounds _ = None

-- the reply of `done`, `nothing`, `spent` or `got NAME X`
abbrev pub got_of : Option PutName → Option (List ℕ) → Option Reply
got_of (Some name) (Some content) = Some (Got name content)
got_of _ _ = None

abbrev pub bare_reply : List ℕ → Option Reply
bare_reply word =
    if bytes_eq word (codes "done") then Some Done
    else if bytes_eq word (codes "nothing") then Some Nothing
    else if bytes_eq word (codes "spent") then Some Spent
    else None

abbrev pub said_reply : Bounds → List (List ℕ) → Option Reply
said_reply bounds (word ∷ []) = bare_reply word
said_reply bounds (word ∷ by ∷ number ∷ content ∷ []) =
    if bytes_eq word (codes "got") then got_of (said_name bounds by number) (said_content content)
    else None
said_reply bounds _ = None

-- the event of `start S CALL` or `end S REPLY`
abbrev pub said_start : Option ℕ → Option Call → Option Line
said_start (Some seat) (Some call) = Some (Happens (Start seat call))
said_start _ _ = None

abbrev pub said_end : Option ℕ → Option Reply → Option Line
said_end (Some seat) (Some reply) = Some (Happens (End seat reply))
said_end _ _ = None

-- the opening token of `opening X`
abbrev pub opened : Option (List ℕ) → List (List ℕ) → Option Line
opened (Some content) [] = Some (Opening content)
opened _ _ = None

-- what the fields of a line say within bounds, if they are of the form: `opening X`, or an event
abbrev pub said : Bounds → List (List ℕ) → Option Line
said bounds (word ∷ field ∷ more) =
    if bytes_eq word (codes "opening") then opened (said_content field) more
    else if bytes_eq word (codes "start")
    then said_start (seat_in bounds field) (call_of bounds more)
    else if bytes_eq word (codes "end")
    then said_end (seat_in bounds field) (said_reply bounds more)
    else None
said bounds _ = None

-- the last queue that a history may name which is read whole
abbrev pub last_queue : ℕ
last_queue = 17

-- its bounds
abbrev pub small : Bounds
small = record { seat = 4095; queue = last_queue; token = 4095 }

-- what a line of it says
abbrev pub line_of : List ℕ → Option Line
line_of line = said small (fields_of line)
