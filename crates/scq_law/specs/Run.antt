-- What a run is, and what is recorded of it: the state that it leads to, its history, and the
-- counts of each ring.
use Rattle.std.specs.Prelude.{◌≡◌, ℕ, ◌+◌, ◌-◌, ◌==◌, ◌&&◌, ◌<◌, nat_le, nat_lt, if◌then◌else◌}
use Rattle.std.specs.Prelude.{List, [], ◌∷◌, ◌++◌, length, Option, Some, None, slice_get}
use Rattle.std.specs.List.{All}
use Rattle.std.specs.Option.{option_and_then, option_map}
use Rattle.scq_word.specs.declared.setup.Setup.{Setup}
use Rattle.scq_word.specs.Exports.{n_of}
use Rattle.scq_core.specs.declared.ended.Ended.{Ended}
use Rattle.scq_core.specs.declared.ended.Ended.TheVariants as ended
use Rattle.scq_core.specs.declared.phase.Phase.{Phase}
use Rattle.scq_core.specs.declared.phase.Phase.TheVariants.{Idle, AtE1, AtE4, AtE5, AtE6, AtD1}
use Rattle.scq_core.specs.declared.phase.Phase.TheVariants.{AtD10}
use Rattle.scq_core.specs.declared.step.Step.{Step}
use Rattle.scq_core.specs.Exports.{updated, read, updated_entry, moved, ring_slots, turn_of}
use Rattle.scq_core.specs.Exports.{location_of, start_of}
use Rattle.scq_core.specs.Machine.{Machine}
use Rattle.scq_hist.specs.declared.events.Call.TheVariants.{Put, Get}
use Rattle.scq_hist.specs.declared.events.Event.{Event}
use Rattle.scq_hist.specs.declared.events.Event.TheVariants.{Start, End}
use Rattle.scq_hist.specs.declared.events.PutName.{PutName}
use Rattle.scq_hist.specs.declared.events.PutName.TheVariants.{Opening, Of}
use Rattle.scq_hist.specs.declared.events.Reply.{Reply}
use Rattle.scq_hist.specs.declared.events.Reply.TheVariants.{Done, Got, Nothing, Spent}

-- what is recorded of a run: the state that it has led to, the events so far, how many puts each
-- seat has begun, the put that placed at each place of each ring, and for each ring how often a put
-- has ended with Done and how many attempts to dequeue failed since the last of these, or since the
-- start
pub record Recorded : Type 0 where
  pub state : Machine
  pub events : List Event
  pub puts : ℕ → ℕ
  pub placer : ℕ → ℕ → PutName
  pub resets : ℕ → ℕ
  pub fails : ℕ → ℕ

-- the reply of a call that has ended: a get names the put that placed where it took
abbrev pub recorded_reply : (ℕ → ℕ → PutName) → Ended → Reply
recorded_reply placer (ended.Done r p w) = Done
recorded_reply placer (ended.Got r p w) = Got (placer r p) w
recorded_reply placer (ended.Nothing r) = Nothing
recorded_reply placer (ended.Spent r t is_put) = Spent

-- the Start at a call's first step: the seat was idle before it
abbrev pub starts : ℕ → Phase → Phase → List Event
starts seat Idle (AtE1 r i w l) = Start seat (Put r w) ∷ []
starts seat Idle (AtD1 r) = Start seat (Get r) ∷ []
starts seat phase turn = []

-- the End at a call's last step: the seat is idle after it, and its record has the call at its end
abbrev pub end_of : ℕ → (ℕ → ℕ → PutName) → Option Ended → List Event
end_of seat placer None = []
end_of seat placer (Some call) = End seat (recorded_reply placer call) ∷ []

abbrev pub end_if_idle : ℕ → (ℕ → ℕ → PutName) → Phase → List Ended → List Event
end_if_idle seat placer Idle calls = end_of seat placer (slice_get calls (length calls - 1))
end_if_idle seat placer phase calls = []

-- one more where a put begins
abbrev pub puts_after : ℕ → Phase → Phase → (ℕ → ℕ) → ℕ → ℕ
puts_after seat Idle (AtE1 r i w l) puts = updated puts seat (puts seat + 1)
puts_after seat phase turn puts = puts

-- an exchange that succeeds places the put that its seat has under way
abbrev pub placer_after : ℕ → Phase → ℕ → (ℕ → ℕ) → (ℕ → ℕ → PutName) → ℕ → ℕ → PutName
placer_after seat (AtE4 r i w t e) found puts placer =
    if found == e then updated_entry placer r t (Of seat (puts seat)) else placer
placer_after seat turn found puts placer = placer

-- a put ends with Done at the step E5 or E6 after which its seat is idle
abbrev pub is_reset : Phase → Phase → Option ℕ
is_reset (AtE5 r i w t) Idle = Some r
is_reset (AtE6 r i w t) Idle = Some r
is_reset turn phase = None

abbrev pub resets_after : Option ℕ → (ℕ → ℕ) → ℕ → ℕ
resets_after None resets = resets
resets_after (Some r) resets = updated resets r (resets r + 1)

-- a step D10 is one more failed attempt; after a reset there is none yet
abbrev pub fails_after : Phase → Option ℕ → (ℕ → ℕ) → ℕ → ℕ
fails_after (AtD10 r h leaving) reset fails = updated fails r (fails r + 1)
fails_after turn None fails = fails
fails_after turn (Some r) fails = updated fails r 0

-- what is recorded after a turn of a seat
abbrev pub recorded_after : Setup → ℕ → Phase → Recorded → Recorded
recorded_after c seat turn recorded =
    let before = recorded.state.part seat in
    let state = moved c recorded.state seat turn in
    let found = read recorded.state.cells (location_of c turn) in
    let after = state.part seat in
    let placer = placer_after seat turn found recorded.puts recorded.placer in
    record {
      state = state;
      events = recorded.events ++ starts seat before.phase turn
          ++ end_if_idle seat placer after.phase after.calls;
      puts = puts_after seat before.phase turn recorded.puts;
      placer = placer;
      resets = resets_after (is_reset turn after.phase) recorded.resets;
      fails = fails_after turn (is_reset turn after.phase) recorded.fails;
    }

-- what is recorded after one more step, or None where it isn't enabled
abbrev pub recorded_by : Setup → Recorded → ℕ × Step → Option Recorded
recorded_by c recorded x =
    option_map (λ turn.
    recorded_after c x.0 turn recorded) (turn_of c (recorded.state.part x.0) x.1)

-- the name of no put, since a seat's puts are numbered from 1
abbrev pub name_of_none : PutName
name_of_none = Of 0 0

-- at the start opening put j stands in ring 0, at the place j behind the number of slots
abbrev pub first_placer : Setup → ℕ → ℕ → PutName
first_placer c r p =
    if (r == 0) && nat_le (ring_slots c) p && nat_lt p (ring_slots c + n_of c.order)
    then Opening (p - ring_slots c) else name_of_none

-- what is recorded before the first step
abbrev pub recorded_first : Setup → List (List ℕ) → Recorded
recorded_first c opening = record {
  state = start_of c opening;
  events = [];
  puts = λ seat. 0;
  placer = first_placer c;
  resets = λ r. 0;
  fails = λ r. 0;
}

-- what is recorded after more steps, or None where one of them isn't enabled
abbrev pub recorded_along : Setup → Recorded → List (ℕ × Step) → Option Recorded
recorded_along c recorded [] = Some recorded
recorded_along c recorded (x ∷ xs) =
    option_and_then (λ next. recorded_along c next xs) (recorded_by c recorded x)

-- what is recorded of these steps from the start, or None where they are no run: where one isn't
-- enabled in its turn
abbrev pub recorded_of : Setup → List (List ℕ) → List (ℕ × Step) → Option Recorded
recorded_of c opening steps = recorded_along c (recorded_first c opening) steps

-- these steps are a run, and this is recorded of it: there is an opening content for each index,
-- the seats are the setup's, and each step is enabled in its turn
pub record IsRun (c : Setup) (opening : List (List ℕ)) (steps : List (ℕ × Step))
    (recorded : Recorded) : Type 0 where
  pub full : length opening ≡ n_of c.order
  pub seats : All (λ (x : ℕ × Step). x.0 < c.seats) steps
  pub recorded_is : recorded_of c opening steps ≡ Some recorded
