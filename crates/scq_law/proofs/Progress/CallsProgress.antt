-- A call is delayed only by calls that end on its ring. Plan: what is left to its seat falls with
-- its steps, is raised by no other step but one that ends a call on its ring, and is raised by that
-- no higher than the bound.
use Rattle.std.proofs.Common.{◌≡◌, ℕ, ◌+◌, ◌*◌, ◌<◌, ◌≤◌, true, false, ◌&&◌, List, [], ◌∷◌, ◌++◌, length, length-append, refl, sym, ap, ◌∙◌, inl, inr, arith, eq-eqb, ne_eqb}
use Rattle.std.specs.Prelude.{◌==◌, nat_lt, nat_le, if◌then◌else◌, Some}
use Rattle.std.specs.List.{All}
use Rattle.std.proofs.lemmas.Bool.{cases_eq}
use Rattle.std.proofs.lemmas.List.Sums.{sum_by-append}
use Rattle.scq_word.specs.declared.setup.Setup.{Setup}
use Rattle.scq_word.specs.Exports.{safe_in, cycle_in, is_none_in}
use Rattle.scq_core.specs.declared.ended.Ended.{Ended}
use Rattle.scq_core.specs.declared.ended.Ended.TheVariants.{Done, Got, Nothing, Spent}
use Rattle.scq_core.specs.declared.phase.Phase.{Phase}
use Rattle.scq_core.specs.declared.phase.Phase.TheVariants.{Idle, AtE1, AtE2, AtE3, AtE4, AtE5, AtE6, AtD1, AtD2, AtD3, AtD4, AtD5, AtD6, AtD7, AtD8, AtD9, AtD10}
use Rattle.scq_core.specs.declared.step.Step.{Step}
use Rattle.scq_core.specs.Exports.{SeatPart, read, beside, ring_slots, cycle, zero_level, reset_level, turn_of, ring_of, location_of, after, moved}
use Rattle.scq_core.specs.Exports.{IsReachable}
use Rattle.scq_core.specs.Machine.{Machine}
use Rattle.scq_core.proofs.UpdatedLemmas.{updated_here, updated_else}
use Rattle.scq_core.proofs.Turns.{begins, awake}
use Rattle.scq_core.proofs.Steady.{steady, either_way}
use Rattle.scq_core.proofs.Counts.{total_updated}
use Rattle.scq_law.specs.Exports.{tally, steps_of, Recorded, recorded_along, IsRun, IsPrefix, quiet_steps, ring_ended, end_delay, delay_on, delays}
use Rattle.scq_law.proofs.Base.SeatSums.{tally-append}
use Rattle.scq_law.proofs.Replays.RecordedRuns.{FirstStep, first_step, turn_reaches}
use Rattle.scq_law.proofs.Retries.StepLaws.{steps-first}
use Rattle.scq_law.proofs.Progress.Potential.{part_after, draws_on, changes_on, left_to_seat}
use Rattle.scq_law.proofs.Progress.TurnEffects.{ring_after}
use Rattle.scq_law.proofs.Progress.EndedTurns.{is_done, end_units, end_left}
use Rattle.scq_law.proofs.Progress.LeftBounds.{left_of, most_left, idle_or}
use Rattle.scq_law.proofs.Progress.ProgressLaws.{own_less, others_less, leads_on}

-- a seat's call has ended on this ring, or goes on
pub data AfterOn (r : ℕ) (p q : SeatPart) : Type 0 where
  ended_there : (e : Ended) → q.phase ≡ Idle → ring_ended e ≡ r → q.calls ≡ p.calls ++ e ∷ []
      → AfterOn r p q
  stays_there : (q.phase ≡ Idle → ⊥) → q.calls ≡ p.calls → AfterOn r p q

module _ (c : Setup) (x : ℕ) (y : List ℕ) (p : SeatPart) where
  pub after_on : (turn : Phase) → (turn ≡ Idle → ⊥) → AfterOn (ring_of turn) p (after c turn x y p)
  after_on Idle awake = absurd (awake refl)
  after_on (AtE1 q i w l) awake =
      either_way (AfterOn q p) (nat_le c.limit x) _ _
      (ended_there (Spent q x true) refl refl refl) (stays_there (λ is. cc) refl)
  after_on (AtE2 q i w t l) awake =
      either_way (AfterOn q p) (nat_lt (cycle_in (ring_slots c) x) (cycle c t) && is_none_in
      (ring_slots c) x) _ _
      (either_way (AfterOn q p) (safe_in (ring_slots c) x == 1) _ _ (stays_there (λ is. cc) refl)
      (stays_there (λ is. cc) refl))
      (stays_there (λ is. cc) refl)
  after_on (AtE3 q i w t e) awake =
      either_way (AfterOn q p) (nat_le x t) _ _ (stays_there (λ is. cc) refl)
      (stays_there (λ is. cc) refl)
  after_on (AtE4 q i w t e) awake =
      either_way (AfterOn q p) (x == e) _ _ (stays_there (λ is. cc) refl)
      (stays_there (λ is. cc) refl)
  after_on (AtE5 q i w t) awake =
      either_way (AfterOn q p) (x == reset_level c) _ _ (ended_there (Done q t w) refl refl refl)
      (stays_there (λ is. cc) refl)
  after_on (AtE6 q i w t) awake = ended_there (Done q t w) refl refl refl
  after_on (AtD1 q) awake =
      either_way (AfterOn q p) (nat_lt x zero_level) _ _ (ended_there (Nothing q) refl refl refl)
      (stays_there (λ is. cc) refl)
  after_on (AtD2 q l) awake =
      either_way (AfterOn q p) (nat_le c.limit x) _ _
      (ended_there (Spent q x false) refl refl refl) (stays_there (λ is. cc) refl)
  after_on (AtD3 q h l) awake =
      either_way (AfterOn q p) (cycle_in (ring_slots c) x == cycle c h) _ _
      (stays_there (λ is. cc) refl)
      (either_way (AfterOn q p) (nat_lt (cycle_in (ring_slots c) x) (cycle c h)) _ _
      (stays_there (λ is. cc) refl) (stays_there (λ is. cc) refl))
  after_on (AtD4 q h) awake = ended_there (Got q h y) refl refl refl
  after_on (AtD5 q h e) awake =
      either_way (AfterOn q p) (x == e) _ _ (stays_there (λ is. cc) refl)
      (stays_there (λ is. cc) refl)
  after_on (AtD6 q h) awake =
      either_way (AfterOn q p) (nat_le x (h + 1)) _ _ (stays_there (λ is. cc) refl)
      (stays_there (λ is. cc) refl)
  after_on (AtD7 q h from to) awake =
      either_way (AfterOn q p) (x == from) _ _ (stays_there (λ is. cc) refl)
      (stays_there (λ is. cc) refl)
  after_on (AtD8 q h from) awake = stays_there (λ is. cc) refl
  after_on (AtD9 q h from to) awake =
      either_way (AfterOn q p) (nat_le to x) _ _ (stays_there (λ is. cc) refl)
      (stays_there (λ is. cc) refl)
  after_on (AtD10 q h true) awake = ended_there (Nothing q) refl refl refl
  after_on (AtD10 q h false) awake =
      either_way (AfterOn q p) (nat_le x zero_level) _ _ (ended_there (Nothing q) refl refl refl)
      (stays_there (λ is. cc) refl)

-- what the end of a call comes to
done_delay : (c : Setup) (e : Ended) → is_done e ≡ true → end_delay c e ≡ quiet_steps c
done_delay c (Done r p w) done = refl
done_delay c (Got r p w) done = absurd (cc)
done_delay c (Nothing r) done = absurd (cc)
done_delay c (Spent r t is_put) done = absurd (cc)

units_delay : (c : Setup) (e : Ended) → 6 * end_units e ≤ end_delay c e
units_delay c (Done r p w) = omega arith
units_delay c (Got r p w) = omega arith
units_delay c (Nothing r) = omega arith
units_delay c (Spent r t is_put) = omega arith

-- a step of seat j
module _ (c : Setup) (m : Machine) (j : ℕ) (s : Step) (turn : Phase) (low : j < c.seats)
    (reachable : IsReachable c m) (enabled : turn_of c (m.part j) s ≡ Some turn) where
  abbrev part_then : SeatPart
  part_then = part_after c m j turn

  part_after_on : AfterOn (ring_of turn) (m.part j) part_then
  part_after_on =
      after_on c (read m.cells (location_of c turn)) (beside m.cells (location_of c turn))
      (m.part j) turn
      (awake c (m.part j).hand (m.part j).spent (m.part j).phase s turn enabled)

  -- what ends come to on a ring: more by its end where its call ended there
  pub ended_more : (r : ℕ) → delays c m r ≤ delays c (moved c m j turn) r
  ended_more r =
      let sum = total_updated (λ (p : SeatPart). tally (delay_on c r) p.calls) m.part j part_then
      c.seats low in
      let grows = by part_then part_after_on in
      omega arith
    where
      by : (q : SeatPart) → AfterOn (ring_of turn) (m.part j) q
          → tally (delay_on c r) (m.part j).calls ≤ tally (delay_on c r) q.calls
      by q (ended_there e idle ring calls) =
          let sum = tally-append (delay_on c r) (m.part j).calls (e ∷ []) in
          rw calls (omega arith)
      by q (stays_there busy calls) = rw calls (omega arith)

  pub ended_one : (e : Ended) → ring_ended e ≡ ring_of turn
      → part_then.calls ≡ (m.part j).calls ++ e ∷ []
      → delays c m (ring_of turn) + end_delay c e ≤ delays c (moved c m j turn) (ring_of turn)
  ended_one e ring calls =
      let sum = total_updated (λ (p : SeatPart). tally (delay_on c (ring_of turn)) p.calls) m.part j
      part_then c.seats low in
      let more = tally-append (delay_on c (ring_of turn)) (m.part j).calls (e ∷ []) in
      let is : tally (delay_on c (ring_of turn)) part_then.calls
      ≡ tally (delay_on c (ring_of turn)) ((m.part j).calls ++ e ∷ []) =
      ap (tally (delay_on c (ring_of turn))) calls in
      let one : delay_on c (ring_of turn) e ≡ end_delay c e =
      rw (eq-eqb (ring_ended e) (ring_of turn) ring) refl in
      omega arith

  -- the call that has ended
  record EndedCall : Type 0 where
    ended : Ended
    ring : ring_ended ended ≡ ring_of turn
    calls : part_then.calls ≡ (m.part j).calls ++ ended ∷ []

  ended_call : part_then.phase ≡ Idle → EndedCall
  ended_call = by part_then refl part_after_on
    where
      by : (q : SeatPart) → q ≡ part_then → AfterOn (ring_of turn) (m.part j) q → q.phase ≡ Idle
          → EndedCall
      by q is (ended_there e idle ring calls) rests =
          record { ended = e; ring = ring; calls = ap (λ (v : SeatPart). v.calls) (sym is) ∙ calls }
      by q is (stays_there busy calls) rests = absurd (busy rests)

  -- a record never gets shorter, and stays as long only where the call goes on
  calls_more : length (m.part j).calls ≤ length part_then.calls
  calls_more = by part_then part_after_on
    where
      by : (q : SeatPart) → AfterOn (ring_of turn) (m.part j) q
          → length (m.part j).calls ≤ length q.calls
      by q (ended_there e idle ring calls) = let sum = length-append (m.part j).calls (e ∷ []) in
          rw calls (omega arith)
      by q (stays_there busy calls) = rw calls (omega arith)

  pub calls_same : length (m.part j).calls ≡ length part_then.calls → part_then.phase ≡ Idle → ⊥
  calls_same = by part_then part_after_on
    where
      by : (q : SeatPart) → AfterOn (ring_of turn) (m.part j) q
          → length (m.part j).calls ≡ length q.calls → q.phase ≡ Idle → ⊥
      by q (ended_there e idle ring calls) same is =
          let sum = length-append (m.part j).calls (e ∷ []) in
          let long : length (m.part j).calls ≡ length ((m.part j).calls ++ e ∷ []) =
          same ∙ ap (λ (l : List Ended). length l) calls in
          absurd (omega arith)
      by q (stays_there busy calls) same is = busy is

  -- of any seat
  pub calls_of_more : (k : ℕ) → length (m.part k).calls ≤ length ((moved c m j turn).part k).calls
  calls_of_more k =
      elim (cases_eq k j) [
        | inl own ↦
            let here : length ((moved c m j turn).part k).calls ≡ length part_then.calls =
            ap (λ (i : ℕ). length ((moved c m j turn).part i).calls) own
            ∙ ap (λ (v : SeatPart). length v.calls) (updated_here m.part j part_then) in
            let was : length (m.part k).calls ≡ length (m.part j).calls =
            ap (λ (i : ℕ). length (m.part i).calls) own in
            let more = calls_more in
            omega arith
        | inr other ↦
            let there : length ((moved c m j turn).part k).calls ≡ length (m.part k).calls =
            ap (λ (v : SeatPart). length v.calls) (updated_else m.part j part_then k other) in
            omega arith
      ]

  -- what is left to a seat whose record stays, on the ring of its call or one that it may begin
  pub kept_step : (k r : ℕ) → k < c.seats
      → length (m.part k).calls ≡ length ((moved c m j turn).part k).calls
      → (((m.part k).phase ≡ Idle → ⊥) → ring_of (m.part k).phase ≡ r)
      → left_of c (moved c m j turn) k + (if j == k then 1 else 0) + delays c m r
      ≤ left_of c m k + delays c (moved c m j turn) r
  kept_step k r small same ring =
      let n = moved c m j turn in
      let more = ended_more r in
      elim (cases_eq j k) [
        | inl own ↦
            let here : length ((moved c m j turn).part k).calls ≡ length part_then.calls =
            ap (λ (i : ℕ). length ((moved c m j turn).part i).calls) (sym own)
            ∙ ap (λ (v : SeatPart). length v.calls) (updated_here m.part j part_then) in
            let was : length (m.part k).calls ≡ length (m.part j).calls =
            ap (λ (i : ℕ). length (m.part i).calls) (sym own) in
            let less = own_less c m j s turn low reachable enabled
            (calls_same (sym was ∙ same ∙ here)) in
            let left_was : left_of c m j ≡ left_of c m k = ap (left_of c m) own in
            let left_now : left_of c n j ≡ left_of c n k = ap (left_of c n) own in
            rw (eq-eqb j k own) (omega arith)
        | inr other ↦
            let part_is : n.part k ≡ m.part k =
            updated_else m.part j part_then k (λ e. other (sym e)) in
            let left_now : left_of c n k
            ≡ left_to_seat c n.cells (draws_on c n) (changes_on c n) (m.part k).phase =
            ap (λ (v : SeatPart). left_to_seat c n.cells (draws_on c n) (changes_on c n) v.phase) part_is in
            rw (ne_eqb j k other)
            (elim (idle_or (m.part k).phase) [
              | inl idle ↦
                  let left_was : left_of c m k ≡ quiet_steps c =
                  ap (left_to_seat c m.cells (draws_on c m) (changes_on c m)) idle in
                  let left_idle : left_of c n k ≡ quiet_steps c =
                  left_now ∙ ap (left_to_seat c n.cells (draws_on c n) (changes_on c n)) idle in
                  omega arith
              | inr busy ↦
                  elim (idle_or part_then.phase) [
                    | inl rests ↦
                        elim (cases_eq (ring_of turn) r) [
                          | inl there ↦
                              let over = ended_call rests in
                              let one : delays c m r + end_delay c over.ended ≤ delays c n r =
                              rw (← there) (ended_one over.ended over.ring over.calls) in
                              elim
                              (end_left c m j s turn low reachable enabled over.ended
                              (m.part k).hand (m.part k).phase ((steady c m reachable).busy k)
                              (ring busy ∙ sym there) rests over.calls) [
                                | inl done ↦
                                    let whole = done_delay c over.ended done in
                                    let most = most_left c n (turn_reaches c m j s turn low enabled
                                    reachable) k small in
                                    omega arith
                                | inr few ↦ let units = units_delay c over.ended in omega arith
                              ]
                          | inr apart ↦
                              let less = others_less c m j s turn low reachable enabled k
                              (λ e. other (sym e)) (λ e _. apart (e ∙ ring busy)) in
                              omega arith
                        ]
                    | inr goes ↦
                        let less = others_less c m j s turn low reachable enabled k
                        (λ e. other (sym e)) (λ _ idle. goes idle) in omega arith
                  ]
            ])
      ]

  -- a seat whose record stays is in its call still, on the same ring
  pub ring_stays : (k : ℕ) → length (m.part k).calls ≡ length ((moved c m j turn).part k).calls
      → ((m.part k).phase ≡ Idle → ⊥)
      → (((moved c m j turn).part k).phase ≡ Idle → ⊥)
      × (ring_of ((moved c m j turn).part k).phase ≡ ring_of (m.part k).phase)
  ring_stays k same busy =
      let n = moved c m j turn in
      elim (cases_eq k j) [
        | inl own ↦
            let part_is : n.part k ≡ part_then = ap n.part own ∙ updated_here m.part j part_then in
            let was : length (m.part k).calls ≡ length (m.part j).calls =
            ap (λ (i : ℕ). length (m.part i).calls) own in
            let goes = calls_same (sym was ∙ same ∙ ap (λ (v : SeatPart). length v.calls) part_is) in
            let ring = ring_after c (read m.cells (location_of c turn))
            (beside m.cells (location_of c turn)) (m.part j) turn
            (awake c (m.part j).hand (m.part j).spent (m.part j).phase s turn enabled) goes in
            let phase_was : (m.part k).phase ≡ (m.part j).phase =
            ap (λ (i : ℕ). (m.part i).phase) own in
            let turn_is : turn ≡ (m.part j).phase =
            elim (begins c (m.part j).hand (m.part j).spent (m.part j).phase s turn enabled) [
              | inl is ↦ is
              | inr new ↦ absurd (busy (phase_was ∙ new.0))
            ] in (
              (λ idle. goes (sym (ap (λ (v : SeatPart). v.phase) part_is) ∙ idle)),
              ap (λ (v : SeatPart). ring_of v.phase) part_is ∙ ring
                  ∙ ap ring_of (turn_is ∙ sym phase_was),
            )
        | inr other ↦
            let part_is : n.part k ≡ m.part k = updated_else m.part j part_then k other in (
              (λ idle. busy (sym (ap (λ (v : SeatPart). v.phase) part_is) ∙ idle)),
              ap
                  (λ (v : SeatPart). ring_of v.phase) part_is,
            )
      ]

-- records never get shorter
pub longer_along : (c : Setup) (k : ℕ) (steps : List (ℕ × Step)) (t last : Recorded)
    → All (λ (x : ℕ × Step). x.0 < c.seats) steps → IsReachable c t.state
    → recorded_along c t steps ≡ Some last
    → length (t.state.part k).calls ≤ length (last.state.part k).calls
longer_along c k [] t last seats reachable e = let same : t ≡ last = cc in rw (← same) (omega arith)
longer_along c k (x ∷ xs) t last seats reachable e =
    let f = first_step c x xs t last seats reachable e in
    let rest = longer_along c k xs f.next last f.rest_low f.reach f.along in
    let here = calls_of_more c t.state x.0 x.1 f.turn f.low reachable f.enabled k in
    let calls_are : length (f.next.state.part k).calls
    ≡ length ((moved c t.state x.0 f.turn).part k).calls =
    ap (λ (z : Machine). length (z.part k).calls) f.state in
    omega arith

-- a seat's record that is as long at the end is as long after the first step
pub record Stays (c : Setup) (k : ℕ) (x : ℕ × Step) (xs : List (ℕ × Step)) (t last : Recorded)
    (f : FirstStep c x xs t last) : Type 0 where
  pub next : length (f.next.state.part k).calls ≡ length (last.state.part k).calls
  pub here : length (t.state.part k).calls
      ≡ length ((moved c t.state x.0 f.turn).part k).calls

pub stays_same : (c : Setup) (k : ℕ) (x : ℕ × Step) (xs : List (ℕ × Step)) (t last : Recorded)
    (f : FirstStep c x xs t last) → IsReachable c t.state
    → length (t.state.part k).calls ≡ length (last.state.part k).calls
    → Stays c k x xs t last f
stays_same c k x xs t last f reachable same =
    let longer = longer_along c k xs f.next last f.rest_low f.reach f.along in
    let here = calls_of_more c t.state x.0 x.1 f.turn f.low reachable f.enabled k in
    let calls_are : length (f.next.state.part k).calls
    ≡ length ((moved c t.state x.0 f.turn).part k).calls =
    ap (λ (z : Machine). length (z.part k).calls) f.state in
    record { next = omega arith; here = omega arith }

-- while a seat's record stays, its steps, what is left to it, and the calls that ended on the ring
-- of its call
pub record Along (c : Setup) (k : ℕ) (steps : List (ℕ × Step)) (t last : Recorded) : Type 0 where
  pub few : steps_of k steps + left_of c last.state k + delays c t.state
      (ring_of (last.state.part k).phase)
      ≤ left_of c t.state k + delays c last.state (ring_of (last.state.part k).phase)
  pub ring : ((t.state.part k).phase ≡ Idle → ⊥)
      → ((last.state.part k).phase ≡ Idle → ⊥)
      × (ring_of (last.state.part k).phase ≡ ring_of (t.state.part k).phase)

pub along_kept : (c : Setup) (k : ℕ) (steps : List (ℕ × Step)) (t last : Recorded) → k < c.seats
    → All (λ (x : ℕ × Step). x.0 < c.seats) steps
    → IsReachable c t.state → recorded_along c t steps ≡ Some last
    → length (t.state.part k).calls ≡ length (last.state.part k).calls
    → Along c k steps t last
along_kept c k [] t last small seats reachable e same =
    let is : t ≡ last = cc in rw (← is) (record { few = omega arith; ring = λ busy. (busy, refl) })
along_kept c k (x ∷ xs) t last small seats reachable e same =
    let f = first_step c x xs t last seats reachable e in
    let n = moved c t.state x.0 f.turn in
    let stay = stays_same c k x xs t last f reachable same in
    let rest = along_kept c k xs f.next last small f.rest_low f.reach f.along stay.next in
    let stays = ring_stays c t.state x.0 x.1 f.turn f.low reachable f.enabled k stay.here in
    let phase_is : (f.next.state.part k).phase ≡ (n.part k).phase =
    ap (λ (z : Machine). (z.part k).phase) f.state in
    let ring : ((t.state.part k).phase ≡ Idle → ⊥)
    → ((last.state.part k).phase ≡ Idle → ⊥)
    × (ring_of (last.state.part k).phase ≡ ring_of (t.state.part k).phase) =
    λ busy.
    let on = stays busy in
    let far = rest.ring (λ idle. on.0 (sym phase_is ∙ idle)) in
    (far.0, far.1 ∙ ap ring_of phase_is ∙ on.1) in
    let r = ring_of (last.state.part k).phase in
    let step = kept_step c t.state x.0 x.1 f.turn f.low reachable f.enabled k r small stay.here
    (λ busy. sym (ring busy).1) in
    let left_is : left_of c f.next.state k ≡ left_of c n k =
    ap (λ (z : Machine). left_of c z k) f.state in
    let ended_is : delays c f.next.state r ≡ delays c n r =
    ap (λ (z : Machine). delays c z r) f.state in
    let first = steps-first k x xs in
    let few = rest.few in
    record { few = omega arith; ring = ring }

-- a call that is still under way
pub delayed_so_far : (c : Setup) (opening : List (List ℕ)) (k : ℕ) → k < c.seats
    → (front back : List (ℕ × Step)) (was now : Recorded) → IsPrefix front back
    → IsRun c opening front was → IsRun c opening back now
    → length (was.state.part k).calls ≡ length (now.state.part k).calls
    → steps_of k back + delays c was.state (ring_of (now.state.part k).phase)
    ≤ steps_of k front + quiet_steps c + delays c now.state (ring_of (now.state.part k).phase)
delayed_so_far c opening k small front back was now one front_run back_run same =
    let on = leads_on c opening front one.more was now front_run (rw one.is at back_run) in
    let along = (along_kept c k one.more was now small on.low on.reachable on.along same).few in
    let most = most_left c was.state on.reachable k small in
    let size : steps_of k back ≡ steps_of k front + steps_of k one.more =
    ap (steps_of k) one.is ∙ sum_by-append (λ (z : ℕ × Step). if z.0 == k then 1 else 0) front
    one.more in
    omega arith
