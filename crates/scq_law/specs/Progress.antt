-- How soon some call ends, and what delays a call. Of a setup with n indices, k seats and a
-- Threshold that resets to R the bounds are made of b = 6 (R + n + k).
use Rattle.std.specs.Prelude.{◌≡◌, ℕ, ◌+◌, ◌*◌, ◌<◌, ◌≤◌, ◌==◌, if◌then◌else◌, List, [], ◌∷◌, ◌++◌}
use Rattle.std.specs.Prelude.{length}
use Rattle.std.specs.List.{All}
use Rattle.scq_word.specs.declared.setup.Setup.{Setup}
use Rattle.scq_word.specs.Exports.{n_of, reset_value}
use Rattle.scq_core.specs.declared.ended.Ended.{Ended}
use Rattle.scq_core.specs.declared.ended.Ended.TheVariants.{Done, Got, Nothing, Spent}
use Rattle.scq_core.specs.declared.step.Step.{Step}
use Rattle.scq_core.specs.Machine.{Machine}
use Rattle.scq_core.specs.Exports.{ring_of, total}
use Rattle.scq_law.specs.Bounds.{tally}
use Rattle.scq_law.specs.CallSteps.{steps_of}
use Rattle.scq_law.specs.Run.{Recorded, IsRun}
use Rattle.scq_law.specs.Prefixes.{IsPrefix, IsRecordAfter}

-- b: the most steps that a call makes while no call on its ring ends
abbrev pub quiet_steps : Setup → ℕ
quiet_steps c = 6 * (reset_value c.order c.seats + n_of c.order + c.seats)

-- the most steps that a call makes while no other seat makes one
abbrev pub alone_steps : Setup → ℕ
alone_steps c = 10 * n_of c.order + 3 * c.seats + 3

-- k b: the most steps that all seats make together while no call ends
abbrev pub progress_bound : Setup → ℕ
progress_bound c = c.seats * quiet_steps c

-- how many calls have ended, of all seats and on all rings
abbrev pub ended_calls : Setup → Machine → ℕ
ended_calls c m = total (λ p. length p.calls) m.part c.seats

-- lock-freedom: from one moment of a run to a later one at most k b steps are made for each call
-- that ends between them, and k b more. So among any k b + 1 steps that follow one another one ends
-- a call, whichever seats make them. The calls that have ended at the first moment stand on the
-- left side
pub record HasProgress (c : Setup) (opening : List (List ℕ))
    (steps : List (ℕ × Step)) : Type 0 where
  pub soon : (front back : List (ℕ × Step)) (was now : Recorded)
      → IsPrefix front back → IsPrefix back steps
      → IsRun c opening front was → IsRun c opening back now
      → length back + ended_calls c was.state * progress_bound c
      ≤ length front + (ended_calls c now.state + 1) * progress_bound c

-- the ring of a call that has ended
abbrev pub ring_ended : Ended → ℕ
ring_ended (Done r p w) = r
ring_ended (Got r p w) = r
ring_ended (Nothing r) = r
ring_ended (Spent r t is_put) = r

-- how many steps more the end of a call may cost each other call that is under way on its ring:
-- that of a put resets Threshold; a get may have passed one entry and one ticket; a call that met
-- the limit of tickets has done nothing
abbrev pub end_delay : Setup → Ended → ℕ
end_delay c (Done r p w) = quiet_steps c
end_delay c (Got r p w) = 6
end_delay c (Nothing r) = 6
end_delay c (Spent r t is_put) = 0

-- a call that ended on another ring costs nothing
abbrev pub delay_on : Setup → ℕ → Ended → ℕ
delay_on c r ended = if ring_ended ended == r then end_delay c ended else 0

-- what the ends of all calls come to that have ended on a ring
abbrev pub delays : Setup → Machine → ℕ → ℕ
delays c m r = total (λ p. tally (delay_on c r) p.calls) m.part c.seats

-- a whole call of a seat, which is at rest before it and after: its steps are at most b, and what
-- the ends of other calls come to that end on its ring meanwhile. Its own end is among those that
-- ended, and is taken off on the left side
pub record WholeCallIsDelayedByEnds (c : Setup) (before after : List (ℕ × Step)) (was now : Machine)
    (seat : ℕ) (ended : Ended) : Type 0 where
  pub few : steps_of seat after + delays c was (ring_ended ended) + end_delay c ended
      ≤ steps_of seat before + quiet_steps c + delays c now (ring_ended ended)

-- others delay a call by what they finish on its ring alone: of a call that is under way the steps
-- so far, which is where the seat has ended no call between two moments (one that is at rest at the
-- later moment made no step), and of one that has ended all of its steps
pub record DelayedByEnds (c : Setup) (opening : List (List ℕ))
    (steps : List (ℕ × Step)) : Type 0 where
  pub so_far : (k : ℕ) → k < c.seats → (front back : List (ℕ × Step)) (was now : Recorded)
      → IsPrefix front back → IsPrefix back steps
      → IsRun c opening front was → IsRun c opening back now
      → length (was.state.part k).calls ≡ length (now.state.part k).calls
      → steps_of k back + delays c was.state (ring_of (now.state.part k).phase)
      ≤ steps_of k front + quiet_steps c + delays c now.state (ring_of (now.state.part k).phase)
  pub whole : (k : ℕ) → k < c.seats
      → (before after : List (ℕ × Step)) (calls : List Ended) (ended : Ended)
      → IsPrefix before after → IsPrefix after steps
      → (was : IsRecordAfter c opening before k calls)
      → (now : IsRecordAfter c opening after k (calls ++ ended ∷ []))
      → WholeCallIsDelayedByEnds c before after was.recorded.state now.recorded.state k ended

-- a call that runs alone, from whatever state the others left, all of them stopped wherever they
-- were: where so many steps follow one another that are all of one seat, they end a call of it
pub record EndsAlone (c : Setup) (opening : List (List ℕ)) (steps : List (ℕ × Step)) : Type 0 where
  pub ends : (k : ℕ) → (front own : List (ℕ × Step)) (was now : Recorded)
      → IsPrefix (front ++ own) steps → All (λ (x : ℕ × Step). x.0 ≡ k) own
      → IsRun c opening front was → IsRun c opening (front ++ own) now
      → alone_steps c ≤ length own
      → length (was.state.part k).calls < length (now.state.part k).calls
