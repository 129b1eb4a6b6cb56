-- Lock-freedom: in every run some call ends soon. Plan: the sum of what is left to all seats falls
-- with each step that ends no call, and a call that ends raises it by no more than the bound.
use Rattle.std.proofs.Common.{◌≡◌, ◌≢◌, ℕ, zero, suc, ◌+◌, ◌*◌, ◌<◌, ◌≤◌, List, [], ◌∷◌, ◌++◌, length, length-append, refl, sym, ap, ◌∙◌, inl, inr, arith}
use Rattle.std.specs.Prelude.{Some}
use Rattle.std.specs.List.{All}
use Rattle.std.proofs.Math.Seq.{drop-append_seam}
use Rattle.std.proofs.lemmas.Bool.{cases_eq}
use Rattle.std.proofs.lemmas.List.Elements.{All-drop}
use Rattle.scq_word.specs.declared.setup.Setup.{Setup}
use Rattle.scq_core.specs.declared.phase.Phase.{Phase}
use Rattle.scq_core.specs.declared.phase.Phase.TheVariants.{Idle}
use Rattle.scq_core.specs.declared.step.Step.{Step}
use Rattle.scq_core.specs.Exports.{SeatPart, read, beside, turn_of, ring_of, location_of, after, moved, IsReachable}
use Rattle.scq_core.specs.Machine.{Machine}
use Rattle.scq_core.proofs.UpdatedLemmas.{updated_here, updated_else}
use Rattle.scq_core.proofs.Turns.{begins, awake}
use Rattle.scq_core.proofs.Steady.{has, steady}
use Rattle.scq_core.proofs.Counts.{total_updated}
use Rattle.scq_law.specs.Exports.{Recorded, recorded_first, recorded_along, recorded_of, IsRun, sum_to, quiet_steps, progress_bound, ended_calls}
use Rattle.scq_law.specs.Exports.{HasProgress}
use Rattle.scq_law.proofs.Replays.RecordedRuns.{chained, first_step, turn_reaches}
use Rattle.scq_law.proofs.Replays.RisingWords.{recorded_along-append}
use Rattle.scq_law.proofs.Replays.RunLaws.{run_reaches}
use Rattle.scq_law.proofs.Retries.StepLaws.{After, rests, goes, after_turn}
use Rattle.scq_law.proofs.Tickets.TicketLaws.{within_window}
use Rattle.scq_law.proofs.Progress.Potential.{part_after, draws_on, changes_on, left_to_seat, others_left}
use Rattle.scq_law.proofs.Progress.QuietTurns.{changes_move, change_some, quieter}
use Rattle.scq_law.proofs.Progress.OwnSteps.{fewer}
use Rattle.scq_law.proofs.Progress.LeftBounds.{gap, left_of, few_left, most_left, some_left}

-- a step of seat j by an enabled turn
module _ (c : Setup) (m : Machine) (j : ℕ) (s : Step) (turn : Phase) (low : j < c.seats)
    (reachable : IsReachable c m) (enabled : turn_of c (m.part j) s ≡ Some turn) where
  abbrev part_then : SeatPart
  part_then = part_after c m j turn

  next_reaches : IsReachable c (moved c m j turn)
  next_reaches = turn_reaches c m j s turn low enabled reachable

  phase_here : ((moved c m j turn).part j).phase ≡ part_then.phase
  phase_here = ap (λ (v : SeatPart). v.phase) (updated_here m.part j part_then)

  -- its own seat has less left, where its call goes on
  pub own_less : (part_then.phase ≡ Idle → ⊥) → left_of c (moved c m j turn) j < left_of c m j
  own_less goes_on =
      let p = m.part j in
      let n = moved c m j turn in
      let r = ring_of turn in
      elim (begins c p.hand p.spent p.phase s turn enabled) [
        | inl same ↦
            let by =
            fewer c m.cells p (draws_on c m) (changes_on c m) turn
            (awake c p.hand p.spent p.phase s turn enabled)
            (has c m.cells p s turn ((steady c m reachable).busy j) enabled) (draws_on c n)
            (changes_on c n) goes_on
            (quieter c m j s turn low reachable enabled r (λ _. goes_on))
            (changes_move c m j s turn low reachable enabled goes_on)
            (change_some c m j s turn low reachable enabled)
            ((within_window c n next_reaches).within r) (gap c m reachable r) in
            let now : left_of c n j ≡ left_to_seat c n.cells (draws_on c n) (changes_on c n)
            part_then.phase = ap (left_to_seat c n.cells (draws_on c n) (changes_on c n))
            phase_here in
            let was : left_of c m j ≡ left_to_seat c m.cells (draws_on c m) (changes_on c m) turn =
            ap (left_to_seat c m.cells (draws_on c m) (changes_on c m)) (sym same) in
            omega arith
        | inr new ↦
            let few = few_left c n next_reaches j low (λ idle. goes_on (sym phase_here ∙ idle)) in
            let was : left_of c m j ≡ quiet_steps c =
            ap (left_to_seat c m.cells (draws_on c m) (changes_on c m)) new.0 in
            omega arith
      ]

  -- another seat has no more left, where no call on its ring ends
  pub others_less : (k : ℕ) → k ≢ j
      → (ring_of turn ≡ ring_of (m.part k).phase → part_then.phase ≡ Idle → ⊥)
      → left_of c (moved c m j turn) k ≤ left_of c m k
  others_less k other goes_on =
      let n = moved c m j turn in
      let same : ((moved c m j turn).part k).phase ≡ (m.part k).phase =
      ap (λ (v : SeatPart). v.phase) (updated_else m.part j part_then k other) in
      let now : left_of c n k ≡ left_to_seat c n.cells (draws_on c n) (changes_on c n) (m.part k).phase =
      ap (left_to_seat c n.cells (draws_on c n) (changes_on c n)) same in
      let most =
      others_left 0 c m.cells n.cells (draws_on c m) (changes_on c m) (draws_on c n)
      (changes_on c n)
      (m.part k).hand (m.part k).phase ((steady c m reachable).busy k)
      (quieter c m j s turn low reachable enabled (ring_of (m.part k).phase) goes_on) in
      omega arith

-- sums over seats
sum_less : (f g : ℕ → ℕ) (n j : ℕ) → j < n → g j < f j → ((k : ℕ) → k ≢ j → g k ≤ f k)
    → sum_to g n < sum_to f n
sum_less f g zero j low less most = absurd (omega arith)
sum_less f g (suc n) j low less most =
    elim (cases_eq n j) [
      | inl same ↦
          let rest = sum_most n f g (λ k under. most k (λ e. omega arith)) in
          let here : g n < f n = rw same less in
          omega arith
      | inr apart ↦
          let here = most n apart in
          let rest = sum_less f g n j (omega arith) less most in
          omega arith
    ]
  where
    sum_most : (n : ℕ) (f g : ℕ → ℕ) → ((k : ℕ) → k < n → g k ≤ f k) → sum_to g n ≤ sum_to f n
    sum_most zero f g le = omega arith
    sum_most (suc n) f g le =
        let here = le n (omega arith) in
        let rest = sum_most n f g (λ k under. le k (omega arith)) in
        omega arith

sum_few : (f : ℕ → ℕ) (n b : ℕ) → ((k : ℕ) → k < n → f k ≤ b) → sum_to f n ≤ n * b
sum_few f zero b few = omega arith
sum_few f (suc n) b few =
    let here = few n (omega arith) in
    let rest = sum_few f n b (λ k low. few k (omega arith)) in
    let product : suc n * b ≡ b + n * b = grind arith in
    omega arith

sum_some : (f : ℕ → ℕ) (n j : ℕ) → j < n → 1 ≤ f j → 1 ≤ sum_to f n
sum_some f zero j low one = absurd (omega arith)
sum_some f (suc n) j low one =
    elim (cases_eq n j) [
      | inl same ↦ let here : 1 ≤ f n = rw same one in omega arith
      | inr apart ↦ let rest = sum_some f n j (omega arith) one in omega arith
    ]

-- what is left to all
abbrev all_left : Setup → Machine → ℕ
all_left c m = sum_to (left_of c m) c.seats

all_few : (c : Setup) (m : Machine) → IsReachable c m → all_left c m ≤ progress_bound c
all_few c m reachable = sum_few (left_of c m) c.seats (quiet_steps c)
    (λ k low. most_left c m reachable k low)

pub one_more : (n x : ℕ) → (n + 1) * x ≡ n * x + x
one_more n x = grind arith

-- a step, with the calls that have ended before and after it
all_step : (c : Setup) (m : Machine) (j : ℕ) (s : Step) (turn : Phase) → j < c.seats
    → IsReachable c m → turn_of c (m.part j) s ≡ Some turn
    → all_left c (moved c m j turn) + 1 + ended_calls c m * progress_bound c
    ≤ all_left c m + ended_calls c (moved c m j turn) * progress_bound c
all_step c m j s turn low reachable enabled =
    let p = m.part j in
    let x = read m.cells (location_of c turn) in
    let y = beside m.cells (location_of c turn) in
    let n = moved c m j turn in
    let counted = total_updated (λ (v : SeatPart). length v.calls) m.part j (after c turn x y p) c.seats
    low in
    by (after c turn x y p) counted
    (after_turn c x y p turn (awake c p.hand p.spent p.phase s turn enabled)) refl
  where
    by : (q : SeatPart) → ended_calls c (moved c m j turn) + length (m.part j).calls
        ≡ ended_calls c m + length q.calls → After (m.part j) q
        → q ≡ after c turn (read m.cells (location_of c turn)) (beside m.cells (location_of c turn))
        (m.part j)
        → all_left c (moved c m j turn) + 1 + ended_calls c m * progress_bound c
        ≤ all_left c m + ended_calls c (moved c m j turn) * progress_bound c
    by q counted (rests idle more) is =
        let few = all_few c (moved c m j turn) (turn_reaches c m j s turn low enabled reachable) in
        let some = sum_some (left_of c m) c.seats j low
        (some_left c m.cells (draws_on c m) (changes_on c m) (m.part j).phase) in
        let next : ended_calls c (moved c m j turn) ≡ ended_calls c m + 1 = omega arith in
        let product : ended_calls c (moved c m j turn) * progress_bound c
        ≡ ended_calls c m * progress_bound c + progress_bound c =
        ap (λ (v : ℕ). v * progress_bound c) next ∙ one_more (ended_calls c m) (progress_bound c) in
        omega arith
    by q counted (goes busy same) is =
        let less =
        sum_less (left_of c m) (left_of c (moved c m j turn)) c.seats j low
        (own_less c m j s turn low reachable enabled
        (λ idle. busy (ap (λ (v : SeatPart). v.phase) is ∙ idle)))
        (λ k other. others_less c m j s turn low reachable enabled k other
        (λ _ idle. busy (ap (λ (v : SeatPart). v.phase) is ∙ idle))) in
        let next : ended_calls c (moved c m j turn) ≡ ended_calls c m = omega arith in
        let product : ended_calls c (moved c m j turn) * progress_bound c
        ≡ ended_calls c m * progress_bound c =
        ap (λ (v : ℕ). v * progress_bound c) next in
        omega arith

-- all along
all_along_left : (c : Setup) (steps : List (ℕ × Step)) (r last : Recorded)
    → All (λ (x : ℕ × Step). x.0 < c.seats) steps → IsReachable c r.state
    → recorded_along c r steps ≡ Some last
    → length steps + all_left c last.state + ended_calls c r.state * progress_bound c
    ≤ all_left c r.state + ended_calls c last.state * progress_bound c
all_along_left c [] r last seats reachable e = let same : r ≡ last = cc in rw (← same) (omega arith)
all_along_left c (x ∷ xs) r last seats reachable e =
    let f = first_step c x xs r last seats reachable e in
    let step = all_step c r.state x.0 x.1 f.turn f.low reachable f.enabled in
    let rest = all_along_left c xs f.next last f.rest_low f.reach f.along in
    let left_is : all_left c f.next.state ≡ all_left c (moved c r.state x.0 f.turn) =
    ap (all_left c) f.state in
    let ended_is : ended_calls c f.next.state * progress_bound c
    ≡ ended_calls c (moved c r.state x.0 f.turn) * progress_bound c =
    ap (λ (z : Machine). ended_calls c z * progress_bound c) f.state in
    omega arith

-- the steps behind a front of a run lead on from what is recorded of the front
pub behind_front : (c : Setup) (opening : List (List ℕ)) (front more : List (ℕ × Step))
    (was recorded : Recorded) → IsRun c opening front was
    → IsRun c opening (front ++ more) recorded → recorded_along c was more ≡ Some recorded
behind_front c opening front more was recorded one run =
    let first = recorded_first c opening in
    let two = chained (λ t. recorded_along c t more) (recorded_of c opening front) recorded
    (sym (recorded_along-append c front more first) ∙ run.recorded_is) in
    let both : Some two.0 ≡ Some was = sym two.1 ∙ one.recorded_is in
    let same : two.0 ≡ was = cc in
    rw (← same) two.2

pub record LeadsOn (c : Setup) (more : List (ℕ × Step)) (was now : Recorded) : Type 0 where
  pub low : All (λ (x : ℕ × Step). x.0 < c.seats) more
  pub reachable : IsReachable c was.state
  pub along : recorded_along c was more ≡ Some now

pub leads_on : (c : Setup) (opening : List (List ℕ)) (front more : List (ℕ × Step))
    (was now : Recorded) → IsRun c opening front was → IsRun c opening (front ++ more) now
    → LeadsOn c more was now
leads_on c opening front more was now one whole =
    record {
      low = rw (drop-append_seam front more)
          at (All-drop (λ (x : ℕ × Step). x.0 < c.seats) (length front) (front ++ more)
          whole.seats);
      reachable = run_reaches c opening front was one;
      along = behind_front c opening front more was now one whole;
    }

pub has_progress : (c : Setup) (opening : List (List ℕ)) (steps : List (ℕ × Step))
    → HasProgress c opening steps
has_progress c opening steps =
    record {
      soon =
          λ front back was now one within front_run back_run.
          let on = leads_on c opening front one.more was now front_run (rw one.is at back_run) in
          let along = all_along_left c one.more was now on.low on.reachable on.along in
          let few = all_few c was.state on.reachable in
          let size : length back ≡ length front + length one.more =
          ap (λ (l : List (ℕ × Step)). length l) one.is ∙ length-append front one.more in
          let product = one_more (ended_calls c now.state) (progress_bound c) in
          omega arith;
    }
