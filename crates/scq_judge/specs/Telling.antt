-- What is said of a place, of an event and of an opening token
use Rattle.std.specs.Prelude.{ℕ, ◌+◌, ◌-◌, ◌/◌, ◌%◌, ◌&&◌, nat_lt, nat_le, if◌then◌else◌, List, []}
use Rattle.std.specs.Prelude.{◌∷◌, ◌++◌, Option, Some, map, string_bytes, slice_get, slice_index_or}
use Rattle.std.specs.Prelude.{flat_map, codes, decimal}
use Rattle.scq_hist.specs.Exports.{puts_before}
use Rattle.scq_hist.specs.declared.events.Call.TheVariants.{Put, Get}
use Rattle.scq_hist.specs.declared.events.Event.{Event}
use Rattle.scq_hist.specs.declared.events.Event.TheVariants.{Start, End}
use Rattle.scq_hist.specs.declared.events.PutName.{PutName}
use Rattle.scq_hist.specs.declared.events.PutName.TheVariants.{Opening, Of}
use Rattle.scq_hist.specs.declared.events.Reply.TheVariants.{Got}
use Rattle.scq_check.specs.Exports.{own_start}
use Rattle.scq_judge.specs.declared.recorded.Place.{Place}
use Rattle.scq_judge.specs.declared.teller.Teller.{Teller}

-- what places and events are told by: the names of the files, the place of each event, and the
-- history
pub record Told : Type 0 where
  pub names : List (List ℕ)
  pub places : List Place
  pub events : List Event

-- a hexadecimal digit with lower-case letters, and a byte of a name: as it is, or as `\xHH` where
-- it is below 33 or above 126
abbrev pub hex_digit : ℕ → ℕ
hex_digit n = if nat_lt n 10 then n + 48 else n + 87

abbrev pub byte_text : ℕ → List ℕ
byte_text b = if nat_le 33 b && nat_le b 126 then b ∷ []
    else codes "\\x" ++ hex_digit (b / 16) ∷ hex_digit (b % 16) ∷ []

-- a name, byte by byte
abbrev pub name_text : List ℕ → List ℕ
name_text name = flat_map byte_text name

-- a line of the file of this number: the file's name, and the number of the line
abbrev pub line_text : List (List ℕ) → ℕ → ℕ → List ℕ
line_text names file line =
    name_text (slice_index_or names (file - 1) []) ++ codes " line " ++ decimal line

abbrev pub place_text : List (List ℕ) → Place → List ℕ
place_text names place = line_text names place.file place.line

-- the place of the event at this position
abbrev pub place_at : List Place → ℕ → Place
place_at places e = slice_index_or places e (record { file = 0; line = 0 })

-- the name of a put: its number, and the seat that counts so
abbrev pub put_name_text : PutName → List ℕ
put_name_text (Opening number) = codes "opening " ++ decimal number
put_name_text (Of seat number) = codes "put " ++ decimal number ++ codes " of seat " ++ decimal seat

-- what an event says of its own call: the put that a get has got
abbrev pub got_name_text : Option Event → List ℕ
got_name_text (Some (End seat (Got name content))) = codes " got " ++ put_name_text name
got_name_text _ = []

-- the call that starts at position s by this event: its queue, its seat and, of a put, which of the
-- seat's puts it is, from 1
abbrev pub seat_text : ℕ → ℕ → List ℕ
seat_text queue seat = codes "queue " ++ decimal queue ++ codes " seat " ++ decimal seat

abbrev pub call_text : List Event → ℕ → Option Event → List ℕ
call_text events s (Some (Start seat (Put queue content))) =
    seat_text queue seat ++ codes " put " ++ decimal (puts_before events seat s + 1)
call_text events s (Some (Start seat (Get queue))) = seat_text queue seat
call_text events s _ = []

-- the call that the event at position e belongs to, and what that has got
abbrev pub call_at_text : List Event → ℕ → List ℕ
call_at_text events e =
    let s = own_start events e (slice_get events e) in
    call_text events s (slice_get events s) ++ got_name_text (slice_get events e)

-- the event at position e: its place and its call
abbrev pub event_at_text : Told → ℕ → List ℕ
event_at_text t e =
    place_text t.names (place_at t.places e) ++ codes " (" ++ call_at_text t.events e ++ codes ")"

-- the opening token of this number, which stands in file 1 behind those before it
abbrev pub token_text : Told → ℕ → List ℕ
token_text t number =
    line_text t.names 1 (number + 1) ++ codes " (opening " ++ decimal number ++ codes ")"

-- For private calls: what a teller tells by
abbrev pub told_by : Teller → Told
told_by teller = record {
  names = map string_bytes teller.names.now;
  places =
      teller.places.now;
  events = teller.events.now;
}
