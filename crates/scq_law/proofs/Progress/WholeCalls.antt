-- A whole call makes at most so many steps for each call that ends on its ring from when it begins
-- until it has ended, itself among them. Plan: up to its last step, what is left falls as while it
-- goes on; its last step is paid by its own end; after it the seat rests.
use Rattle.std.proofs.Common.{◌≡◌, ℕ, ◌+◌, ◌<◌, ◌≤◌, ◌⊎◌, List, [], ◌∷◌, ◌++◌, length, length-append, refl, sym, ap, ◌∙◌, inl, inr, arith, eq-eqb, ne_eqb}
use Rattle.std.specs.Prelude.{◌==◌, if◌then◌else◌, Some}
use Rattle.std.specs.List.{All}
use Rattle.std.proofs.lemmas.Bool.{cases_eq}
use Rattle.std.proofs.lemmas.List.Sums.{sum_by-append}
use Rattle.scq_word.specs.declared.setup.Setup.{Setup}
use Rattle.scq_core.specs.declared.ended.Ended.{Ended}
use Rattle.scq_core.specs.declared.phase.Phase.{Phase}
use Rattle.scq_core.specs.declared.phase.Phase.TheVariants.{Idle}
use Rattle.scq_core.specs.declared.step.Step.{Step}
use Rattle.scq_core.specs.Exports.{SeatPart, read, beside, turn_of, ring_of, location_of, after, moved, IsReachable}
use Rattle.scq_core.specs.Machine.{Machine}
use Rattle.scq_core.proofs.UpdatedLemmas.{updated_here, updated_else}
use Rattle.scq_core.proofs.Turns.{begins, awake}
use Rattle.scq_law.specs.Exports.{steps_of, Recorded, recorded_along, IsPrefix, IsRecordAfter, ring_ended, end_delay, delays}
use Rattle.scq_law.specs.Exports.{WholeCallIsDelayedByEnds, DelayedByEnds}
use Rattle.scq_law.proofs.Replays.RecordedRuns.{first_step}
use Rattle.scq_law.proofs.Retries.StepLaws.{steps-first}
use Rattle.scq_law.proofs.Progress.Potential.{part_after, draws_on, changes_on}
use Rattle.scq_law.proofs.Progress.LeftBounds.{left_of, most_left, some_left}
use Rattle.scq_law.proofs.Progress.ProgressLaws.{leads_on}
use Rattle.scq_law.proofs.Progress.EndedTurns.{last_call}
use Rattle.scq_law.proofs.Progress.CallsProgress.{stays_same, AfterOn, ended_there, stays_there, after_on, ended_more, ended_one, calls_same, kept_step, ring_stays, along_kept, delayed_so_far}

-- a step of seat j, as seat k has it
module _ (c : Setup) (m : Machine) (j : ℕ) (s : Step) (turn : Phase) (low : j < c.seats)
    (reachable : IsReachable c m) (enabled : turn_of c (m.part j) s ≡ Some turn) (k : ℕ) where
  abbrev part_then : SeatPart
  part_then = part_after c m j turn

  -- its call has ended by this step
  record EndedHere : Type 0 where
    own : k ≡ j
    ended : Ended
    ring : ring_ended ended ≡ ring_of turn
    calls : ((moved c m j turn).part k).calls ≡ (m.part k).calls ++ ended ∷ []
    rests : ((moved c m j turn).part k).phase ≡ Idle
    had : ((m.part k).phase ≡ Idle → ⊥) → ring_of (m.part k).phase ≡ ring_of turn
    more : delays c m (ring_of turn) + end_delay c ended
        ≤ delays c (moved c m j turn) (ring_of turn)

  calls_or : (((moved c m j turn).part k).calls ≡ (m.part k).calls) ⊎ EndedHere
  calls_or =
      elim (cases_eq k j) [
        | inl own ↦
            let part_is : (moved c m j turn).part k ≡ part_then =
            ap (moved c m j turn).part own ∙ updated_here m.part j part_then in
            by own part_is part_then refl
            (after_on c (read m.cells (location_of c turn)) (beside m.cells (location_of c turn))
            (m.part j) turn
            (awake c (m.part j).hand (m.part j).spent (m.part j).phase s turn enabled))
        | inr other ↦ inl (ap (λ (v : SeatPart). v.calls) (updated_else m.part j part_then k other))
      ]
    where
      by : k ≡ j → (moved c m j turn).part k ≡ part_then → (q : SeatPart) → q ≡ part_then
          → AfterOn (ring_of turn) (m.part j) q
          → (((moved c m j turn).part k).calls ≡ (m.part k).calls) ⊎ EndedHere
      by own part_is q is (stays_there busy calls) =
          inl (ap (λ (v : SeatPart). v.calls) (part_is ∙ sym is) ∙ calls
          ∙ ap (λ (i : ℕ). (m.part i).calls) (sym own))
      by own part_is q is (ended_there e idle ring calls) =
          inr
          (record {
            own = own;
            ended = e;
            ring = ring;
            calls =
                ap (λ (v : SeatPart). v.calls) (part_is ∙ sym is) ∙ calls
                ∙ ap (λ (i : ℕ). (m.part i).calls ++ e ∷ []) (sym own);
            rests = ap (λ (v : SeatPart). v.phase) (part_is ∙ sym is) ∙ idle;
            had =
                λ busy.
                elim (begins c (m.part j).hand (m.part j).spent (m.part j).phase s turn enabled) [
                  | inl same ↦ ap (λ (i : ℕ). ring_of (m.part i).phase) own ∙ ap ring_of (sym same)
                  | inr new ↦ absurd (busy (ap (λ (i : ℕ). (m.part i).phase) own ∙ new.0))
                ];
            more = ended_one c m j s turn low reachable enabled e ring
                (ap (λ (v : SeatPart). v.calls) (sym is) ∙ calls);
          })

  -- where it makes the step and its record stays, it is in a call
  busy_then : k ≡ j → length (m.part k).calls ≡ length ((moved c m j turn).part k).calls
      → ((moved c m j turn).part k).phase ≡ Idle → ⊥
  busy_then own same idle =
      let part_is : (moved c m j turn).part k ≡ part_then =
      ap (moved c m j turn).part own ∙ updated_here m.part j part_then in
      let was : length (m.part k).calls ≡ length (m.part j).calls =
      ap (λ (i : ℕ). length (m.part i).calls) own in
      calls_same c m j s turn low reachable enabled
      (sym was ∙ same ∙ ap (λ (v : SeatPart). length v.calls) part_is)
      (sym (ap (λ (v : SeatPart). v.phase) part_is) ∙ idle)

-- a seat that rests with the record that it rested with made no step
rests_still : (c : Setup) (k : ℕ) (steps : List (ℕ × Step)) (t last : Recorded) → k < c.seats
    → All (λ (x : ℕ × Step). x.0 < c.seats) steps
    → IsReachable c t.state → recorded_along c t steps ≡ Some last → (t.state.part k).phase ≡ Idle
    → (last.state.part k).phase ≡ Idle
    → length (t.state.part k).calls ≡ length (last.state.part k).calls
    → (steps_of k steps ≡ 0) × (last.state.part k ≡ t.state.part k)
rests_still c k [] t last small seats reachable e first end same =
    let is : t ≡ last = cc in (refl, ap (λ (z : Recorded). z.state.part k) (sym is))
rests_still c k (x ∷ xs) t last small seats reachable e first end same =
    let f = first_step c x xs t last seats reachable e in
    let n = moved c t.state x.0 f.turn in
    let part_eq : f.next.state.part k ≡ n.part k = ap (λ (z : Machine). z.part k) f.state in
    let stay = stays_same c k x xs t last f reachable same in
    elim (cases_eq k x.0) [
      | inl own ↦
          let busy = busy_then c t.state x.0 x.1 f.turn f.low reachable f.enabled k own stay.here in
          let far = (along_kept c k xs f.next last small f.rest_low f.reach f.along stay.next).ring
          (λ idle. busy (sym (ap (λ (v : SeatPart). v.phase) part_eq) ∙ idle)) in
          absurd (far.0 end)
      | inr other ↦
          let part_is : n.part k ≡ t.state.part k =
          updated_else t.state.part x.0
          (after c f.turn (read t.state.cells (location_of c f.turn))
          (beside t.state.cells (location_of c f.turn)) (t.state.part x.0)) k other in
          let rest = rests_still c k xs f.next last small f.rest_low f.reach f.along
          (ap (λ (v : SeatPart). v.phase) (part_eq ∙ part_is) ∙ first) end stay.next in
          let none = rest.0 in
          let first_is = steps-first k x xs in
          let not : ◌≡◌ {A = ℕ} (if x.0 == k then 1 else 0) 0 =
          rw (ne_eqb x.0 k (λ is. other (sym is))) refl in
          (omega arith, rest.1 ∙ part_eq ∙ part_is)
    ]

-- ends only grow
ended_along : (c : Setup) (r : ℕ) (steps : List (ℕ × Step)) (t last : Recorded)
    → All (λ (x : ℕ × Step). x.0 < c.seats) steps → IsReachable c t.state
    → recorded_along c t steps ≡ Some last → delays c t.state r ≤ delays c last.state r
ended_along c r [] t last seats reachable e = let same : t ≡ last = cc in rw (← same) (omega arith)
ended_along c r (x ∷ xs) t last seats reachable e =
    let f = first_step c x xs t last seats reachable e in
    let rest = ended_along c r xs f.next last f.rest_low f.reach f.along in
    let here = ended_more c t.state x.0 x.1 f.turn f.low reachable f.enabled r in
    let ended_is : delays c f.next.state r ≡ delays c (moved c t.state x.0 f.turn) r =
    ap (λ (z : Machine). delays c z r) f.state in
    omega arith

-- one call more of a seat that rests at the end
record WholeCall (c : Setup) (k : ℕ) (steps : List (ℕ × Step)) (t last : Recorded) : Type 0 where
  ended : Ended
  calls : (last.state.part k).calls ≡ (t.state.part k).calls ++ ended ∷ []
  ring : ((t.state.part k).phase ≡ Idle → ⊥) → ring_of (t.state.part k).phase ≡ ring_ended ended
  few : steps_of k steps + delays c t.state (ring_ended ended) + end_delay c ended
      ≤ left_of c t.state k + delays c last.state (ring_ended ended)

whole_along : (c : Setup) (k : ℕ) (steps : List (ℕ × Step)) (t last : Recorded) → k < c.seats
    → All (λ (x : ℕ × Step). x.0 < c.seats) steps
    → IsReachable c t.state → recorded_along c t steps ≡ Some last
    → (last.state.part k).phase ≡ Idle
    → length (last.state.part k).calls ≡ length (t.state.part k).calls + 1
    → WholeCall c k steps t last
whole_along c k [] t last small seats reachable e end more =
    let is : t ≡ last = cc in
    let same : length (last.state.part k).calls ≡ length (t.state.part k).calls =
    ap (λ (z : Recorded). length (z.state.part k).calls) (sym is) in
    absurd (omega arith)
whole_along c k (x ∷ xs) t last small seats reachable e end more =
    let f = first_step c x xs t last seats reachable e in
    let n = moved c t.state x.0 f.turn in
    let part_eq : f.next.state.part k ≡ n.part k = ap (λ (z : Machine). z.part k) f.state in
    let left_is : left_of c f.next.state k ≡ left_of c n k =
    ap (λ (z : Machine). left_of c z k) f.state in
    let first = steps-first k x xs in
    elim (calls_or c t.state x.0 x.1 f.turn f.low reachable f.enabled k) [
      | inl same ↦
          let calls_next : (f.next.state.part k).calls ≡ (t.state.part k).calls =
          ap (λ (v : SeatPart). v.calls) part_eq ∙ same in
          let size : length (f.next.state.part k).calls ≡ length (t.state.part k).calls =
          ap (λ (l : List Ended). length l) calls_next in
          let same_here : length (t.state.part k).calls ≡ length (n.part k).calls =
          ap (λ (l : List Ended). length l) (sym same) in
          let rest = whole_along c k xs f.next last small f.rest_low f.reach f.along end (omega arith) in
          let r = ring_ended rest.ended in
          let ring : ((t.state.part k).phase ≡ Idle → ⊥) → ring_of (t.state.part k).phase ≡ r =
          λ busy.
          let on = ring_stays c t.state x.0 x.1 f.turn f.low reachable f.enabled k same_here busy in
          let phase_is : (f.next.state.part k).phase ≡ (n.part k).phase =
          ap (λ (v : SeatPart). v.phase) part_eq in
          sym on.1 ∙ ap ring_of (sym phase_is) ∙ rest.ring (λ idle. on.0 (sym phase_is ∙ idle)) in
          let step = kept_step c t.state x.0 x.1 f.turn f.low reachable f.enabled k r small same_here
          ring in
          let ended_is : delays c f.next.state r ≡ delays c n r =
          ap (λ (z : Machine). delays c z r) f.state in
          let few = rest.few in
          record {
            ended = rest.ended;
            calls = rest.calls ∙ ap (λ (l : List Ended). l ++ rest.ended ∷ []) calls_next;
            ring = ring;
            few = omega arith;
          }
      | inr over ↦
          let r = ring_of f.turn in
          let calls_next : (f.next.state.part k).calls ≡ (t.state.part k).calls ++ over.ended ∷ [] =
          ap (λ (v : SeatPart). v.calls) part_eq ∙ over.calls in
          let size : length (f.next.state.part k).calls ≡ length (t.state.part k).calls + 1 =
          ap (λ (l : List Ended). length l) calls_next
          ∙ length-append (t.state.part k).calls (over.ended ∷ []) in
          let still = rests_still c k xs f.next last small f.rest_low f.reach f.along
          (ap (λ (v : SeatPart). v.phase) part_eq ∙ over.rests) end (omega arith) in
          let none = still.0 in
          let own : ◌≡◌ {A = ℕ} (if x.0 == k then 1 else 0) 1 =
          rw (eq-eqb x.0 k (sym over.own)) refl in
          let grown = ended_along c r xs f.next last f.rest_low f.reach f.along in
          let ended_is : delays c f.next.state r ≡ delays c n r =
          ap (λ (z : Machine). delays c z r) f.state in
          let ends = over.more in
          let some = some_left c t.state.cells (draws_on c t.state) (changes_on c t.state)
          (t.state.part k).phase in
          let few : steps_of k (x ∷ xs) + delays c t.state r + end_delay c over.ended
          ≤ left_of c t.state k + delays c last.state r = omega arith in
          record {
            ended = over.ended;
            calls = ap (λ (v : SeatPart). v.calls) still.1 ∙ calls_next;
            ring = λ busy. over.had busy ∙ sym over.ring;
            few = rw over.ring few;
          }
    ]

pub whole_calls_delayed : (c : Setup) (opening : List (List ℕ)) (before after : List (ℕ × Step))
    (seat : ℕ) (calls : List Ended) (ended : Ended) → seat < c.seats
    → IsPrefix before after → (was : IsRecordAfter c opening before seat calls)
    → (now : IsRecordAfter c opening after seat (calls ++ ended ∷ []))
    → WholeCallIsDelayedByEnds c before after was.recorded.state now.recorded.state seat ended
whole_calls_delayed c opening before after seat calls ended small one was now =
    let on = leads_on c opening before one.more was.recorded now.recorded was.is_run
    (rw one.is at now.is_run) in
    let calls_was = was.calls_are in
    let size : length (now.recorded.state.part seat).calls
    ≡ length (was.recorded.state.part seat).calls + 1 =
    ap (λ (l : List Ended). length l) now.calls_are ∙ length-append calls (ended ∷ [])
    ∙ ap (λ (l : List Ended). length l + 1) (sym was.calls_are) in
    let made = whole_along c seat one.more was.recorded now.recorded small on.low on.reachable
    on.along now.idle size in
    let lists : calls ++ made.ended ∷ [] ≡ calls ++ ended ∷ [] =
    ap (λ (l : List Ended). l ++ made.ended ∷ []) (sym was.calls_are) ∙ sym made.calls
    ∙ now.calls_are in
    let is = last_call calls made.ended ended lists in
    let r = ring_ended ended in
    let most = most_left c was.recorded.state on.reachable seat small in
    let few : steps_of seat one.more + delays c was.recorded.state r + end_delay c ended
    ≤ left_of c was.recorded.state seat + delays c now.recorded.state r =
    rw is at made.few in
    let sum : steps_of seat after ≡ steps_of seat before + steps_of seat one.more =
    ap (steps_of seat) one.is
    ∙ sum_by-append (λ (z : ℕ × Step). if z.0 == seat then 1 else 0) before one.more in
    record { few = omega arith }

pub delayed_by_ends : (c : Setup) (opening : List (List ℕ)) (steps : List (ℕ × Step))
    → DelayedByEnds c opening steps
delayed_by_ends c opening steps =
    record {
      so_far = λ k small front back was now one within front_run back_run same. delayed_so_far c
          opening k small front back was now one front_run back_run same;
      whole = λ k small before after calls ended one within was now. whole_calls_delayed c opening
          before after k calls ended small one was now;
    }
