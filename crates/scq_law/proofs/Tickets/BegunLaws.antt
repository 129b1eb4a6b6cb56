-- The enqueues begun on a ring are the Starts of puts there and the opening puts. Plan: a turn's calls that end and its next
-- phase come to what the turn is itself; so a seat has begun one more only where its turn begins a put, and there a Start is
-- recorded.
use Rattle.std.proofs.Common.{◌≡◌, ℕ, ◌+◌, ◌<◌, true, false, ◌&&◌, List, [], ◌∷◌, ◌++◌, refl, inl, inr, arith}
use Rattle.std.specs.Prelude.{◌==◌, nat_lt, nat_le, if◌then◌else◌, Option, Some, None}
use Rattle.std.proofs.lemmas.List.Sums.{sum_by-append}
use Rattle.scq_word.specs.declared.setup.Setup.{Setup}
use Rattle.scq_word.specs.Exports.{safe_in, cycle_in, is_none_in}
use Rattle.scq_core.specs.declared.ended.Ended.{Ended}
use Rattle.scq_core.specs.declared.ended.Ended.TheVariants.{Done, Got, Nothing, Spent}
use Rattle.scq_core.specs.declared.phase.Phase.{Phase}
use Rattle.scq_core.specs.declared.phase.Phase.TheVariants.{Idle, AtE1, AtE2, AtE3, AtE4, AtE5, AtE6, AtD1, AtD2, AtD3, AtD4, AtD5, AtD6, AtD7, AtD8, AtD9, AtD10}
use Rattle.scq_core.specs.declared.step.Step.{Step}
use Rattle.scq_core.specs.Exports.{SeatPart, read, beside, ring_slots, cycle, zero_level, reset_level, turn_of, location_of, after, start_of}
use Rattle.scq_core.proofs.Steady.{either_way}
use Rattle.scq_core.proofs.Counts.{total_updated, total_none}
use Rattle.scq_core.proofs.Turns.{Begins, begins_put, begins_get, begins, awake}
use Rattle.scq_hist.specs.declared.events.Event.{Event}
use Rattle.scq_hist.specs.declared.events.PutName.{PutName}
use Rattle.scq_law.specs.Exports.{Recorded, starts, end_of, end_if_idle, recorded_after, recorded_first, IsRun, tally, was_put, is_putting, enqueues}
use Rattle.scq_law.specs.Exports.{openings, starts_put, puts_started, EnqueuesBegun}
use Rattle.scq_law.proofs.Base.SeatSums.{tally-append}
use Rattle.scq_law.proofs.Replays.RecordedRuns.{all_along}

-- how many puts on a ring a seat has begun
abbrev begun_of : ℕ → SeatPart → ℕ
begun_of r p = tally (was_put r) p.calls + is_putting r p.phase

module _ (c : Setup) (x : ℕ) (y : List ℕ) (p : SeatPart) (r : ℕ) where
  -- so many, where the seat's turn is this one
  abbrev With : Phase → SeatPart → Type 0
  With turn q = begun_of r q ≡ tally (was_put r) p.calls + is_putting r turn

  -- a call that ends
  ended : (e : Ended) → tally (was_put r) (p.calls ++ e ∷ []) + 0 ≡ tally (was_put r) p.calls + was_put r e
  ended e = let sum = tally-append (was_put r) p.calls (e ∷ []) in omega arith

  -- a seat has begun after its turn what it had with it
  begun_turn : (turn : Phase) → (turn ≡ Idle → ⊥) → With turn (after c turn x y p)
  begun_turn Idle awake = absurd (awake refl)
  begun_turn (AtE1 q i w l) awake = either_way (With (AtE1 q i w l)) (nat_le c.limit x) _ _ (ended (Spent q x true)) refl
  begun_turn (AtE2 q i w t l) awake =
      either_way (With (AtE2 q i w t l)) (nat_lt (cycle_in (ring_slots c) x) (cycle c t) && is_none_in (ring_slots c) x) _ _
      (either_way (With (AtE2 q i w t l)) (safe_in (ring_slots c) x == 1) _ _ refl refl)
      refl
  begun_turn (AtE3 q i w t e) awake = either_way (With (AtE3 q i w t e)) (nat_le x t) _ _ refl refl
  begun_turn (AtE4 q i w t e) awake = either_way (With (AtE4 q i w t e)) (x == e) _ _ refl refl
  begun_turn (AtE5 q i w t) awake = either_way (With (AtE5 q i w t)) (x == reset_level c) _ _ (ended (Done q t w)) refl
  begun_turn (AtE6 q i w t) awake = ended (Done q t w)
  begun_turn (AtD1 q) awake = either_way (With (AtD1 q)) (nat_lt x zero_level) _ _ (ended (Nothing q)) refl
  begun_turn (AtD2 q l) awake = either_way (With (AtD2 q l)) (nat_le c.limit x) _ _ (ended (Spent q x false)) refl
  begun_turn (AtD3 q h l) awake =
      either_way (With (AtD3 q h l)) (cycle_in (ring_slots c) x == cycle c h) _ _
      refl
      (either_way (With (AtD3 q h l)) (nat_lt (cycle_in (ring_slots c) x) (cycle c h)) _ _ refl refl)
  begun_turn (AtD4 q h) awake = ended (Got q h y)
  begun_turn (AtD5 q h e) awake = either_way (With (AtD5 q h e)) (x == e) _ _ refl refl
  begun_turn (AtD6 q h) awake = either_way (With (AtD6 q h)) (nat_le x (h + 1)) _ _ refl refl
  begun_turn (AtD7 q h from to) awake = either_way (With (AtD7 q h from to)) (x == from) _ _ refl refl
  begun_turn (AtD8 q h from) awake = refl
  begun_turn (AtD9 q h from to) awake = either_way (With (AtD9 q h from to)) (nat_le to x) _ _ refl refl
  begun_turn (AtD10 q h true) awake = ended (Nothing q)
  begun_turn (AtD10 q h false) awake = either_way (With (AtD10 q h false)) (nat_le x zero_level) _ _ (ended (Nothing q)) refl

-- the puts that start in one history after another
started-append : (r : ℕ) (xs ys : List Event) → puts_started r (xs ++ ys) ≡ puts_started r xs + puts_started r ys
started-append r xs ys = sum_by-append (λ x. if starts_put r x then 1 else 0) xs ys

-- a call that goes on starts nothing
none_starts : (k : ℕ) (phase : Phase) → starts k phase phase ≡ []
none_starts k Idle = refl
none_starts k phase = refl

-- and no End is a Start
no_start : (r k : ℕ) (placer : ℕ → ℕ → PutName) (o : Option Ended) → puts_started r (end_of k placer o) ≡ 0
no_start r k placer None = refl
no_start r k placer (Some call) = refl

none_finishes : (r k : ℕ) (placer : ℕ → ℕ → PutName) (phase : Phase) (calls : List Ended) → puts_started r (end_if_idle k placer phase calls) ≡ 0
none_finishes r k placer Idle calls = no_start r k placer _
none_finishes r k placer phase calls = refl

-- what the turn is, is what the phase was and the Start that is recorded
begun_start : (c : Setup) (p : SeatPart) (k r : ℕ) (s : Step) (turn : Phase) → turn_of c p s ≡ Some turn
    → is_putting r turn ≡ is_putting r p.phase + puts_started r (starts k p.phase turn)
begun_start c p k r s turn enabled =
    elim (begins c p.hand p.spent p.phase s turn enabled) [
      | inl same ↦ rw (same, none_starts k p.phase) (omega arith)
      | inr new ↦ rw new.0 (go turn new.2)
    ]
  where
    go : (t : Phase) → Begins c p.hand t → is_putting r t ≡ 0 + puts_started r (starts k Idle t)
    go t (begins_put q i w ring index held) = omega arith
    go t (begins_get q ring) = refl

begun_step : (c : Setup) (recorded : Recorded) (k : ℕ) (s : Step) (turn : Phase) → k < c.seats → turn_of c (recorded.state.part k) s ≡ Some turn
    → ((r : ℕ) → enqueues c recorded.state r ≡ puts_started r recorded.events + openings c r) → (r : ℕ)
    → enqueues c (recorded_after c k turn recorded).state r ≡ puts_started r (recorded_after c k turn recorded).events + openings c r
begun_step c recorded k s turn low enabled was r =
    let m = recorded.state in
    let p = m.part k in
    let next = recorded_after c k turn recorded in
    let x = read m.cells (location_of c turn) in
    let y = beside m.cells (location_of c turn) in
    let sum = total_updated (begun_of r) m.part k (after c turn x y p) c.seats low in
    let own = begun_turn c x y p r turn (awake c p.hand p.spent p.phase s turn enabled) in
    let start = begun_start c p k r s turn enabled in
    let begins = starts k p.phase turn in
    let ends = end_if_idle k next.placer (next.state.part k).phase (next.state.part k).calls in
    let none = none_finishes r k next.placer (next.state.part k).phase (next.state.part k).calls in
    let with_ends : puts_started r next.events ≡ puts_started r (recorded.events ++ begins) + puts_started r ends =
    started-append r (recorded.events ++ begins) ends in
    let with_begins = started-append r recorded.events begins in
    let before = was r in
    omega arith

pub enqueues_begun : (c : Setup) (opening : List (List ℕ)) (steps : List (ℕ × Step)) (recorded : Recorded)
    → IsRun c opening steps recorded → EnqueuesBegun c recorded.state recorded.events
enqueues_begun c opening steps recorded run =
    record {
      begun = all_along c (λ t. (r : ℕ) → enqueues c t.state r ≡ puts_started r t.events + openings c r) (begun_step c) steps (recorded_first c opening)
          recorded run.seats run.recorded_is first;
    }
  where
    first : (r : ℕ) → enqueues c (start_of c opening) r ≡ 0 + openings c r
    first r = let none = total_none (begun_of r) (start_of c opening).part c.seats (λ k low. refl) in omega arith
