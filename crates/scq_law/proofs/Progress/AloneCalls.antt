-- A call that runs alone ends soon, from any reachable state. Plan: what is left to its seat alone
-- falls with each of its steps while its record stays, is at first no more than the bound, and
-- never nothing.
use Rattle.std.proofs.Common.{◌≡◌, ℕ, ◌+◌, ◌<◌, ◌≤◌, List, [], ◌∷◌, length, sym, ap, ◌∙◌, inl, inr, arith}
use Rattle.std.specs.Prelude.{Some}
use Rattle.std.specs.List.{All}
use Rattle.std.proofs.lemmas.Bool.{cases_lt}
use Rattle.std.proofs.lemmas.List.Elements.{All-head, All-tail}
use Rattle.scq_word.specs.declared.setup.Setup.{Setup}
use Rattle.scq_core.specs.declared.phase.Phase.{Phase}
use Rattle.scq_core.specs.declared.phase.Phase.TheVariants.{Idle}
use Rattle.scq_core.specs.declared.step.Step.{Step}
use Rattle.scq_core.specs.Exports.{SeatPart, turn_of, ring_of, moved, IsReachable}
use Rattle.scq_core.specs.Machine.{Machine}
use Rattle.scq_core.proofs.UpdatedLemmas.{updated_here}
use Rattle.scq_core.proofs.Turns.{begins, awake}
use Rattle.scq_law.specs.Exports.{Recorded, recorded_along, alone_steps, EndsAlone}
use Rattle.scq_law.proofs.Replays.RecordedRuns.{first_step, turn_reaches}
use Rattle.scq_law.proofs.Tickets.TicketLaws.{within_window}
use Rattle.scq_law.proofs.Progress.Potential.{part_after}
use Rattle.scq_law.proofs.Progress.LeftBounds.{gap, lag_bit}
use Rattle.scq_law.proofs.Progress.QuietTurns.{stale_bit}
use Rattle.scq_law.proofs.Progress.ProgressLaws.{leads_on}
use Rattle.scq_law.proofs.Progress.CallsProgress.{calls_same, longer_along, stays_same}
use Rattle.scq_law.proofs.Progress.AloneSteps.{alone_left, alone_less, alone_few, alone_some}

-- what is left to each seat, and that it is few
abbrev pub left_alone : Setup → Machine → ℕ → ℕ
left_alone c m k = alone_left c m.cells (m.part k).phase

few_alone : (c : Setup) (m : Machine) → IsReachable c m → (phase : Phase)
    → alone_left c m.cells phase ≤ alone_steps c
few_alone c m reachable phase =
    alone_few c m.cells (λ r t e. stale_bit c m.cells r t e)
    (λ r from. lag_bit c m reachable r from)
    (λ r. (within_window c m reachable).within r)
    (λ r. let near = gap c m reachable r in omega arith) phase

-- a step of seat j by an enabled turn
module _ (c : Setup) (m : Machine) (j : ℕ) (s : Step) (turn : Phase) (low : j < c.seats)
    (reachable : IsReachable c m) (enabled : turn_of c (m.part j) s ≡ Some turn) where
  abbrev part_then : SeatPart
  part_then = part_after c m j turn

  -- leaves it less, where its call goes on
  alone_own : (part_then.phase ≡ Idle → ⊥) → left_alone c (moved c m j turn) j < left_alone c m j
  alone_own goes_on =
      let p = m.part j in
      let n = moved c m j turn in
      let next = turn_reaches c m j s turn low enabled reachable in
      let less =
      alone_less c m.cells p turn (awake c p.hand p.spent p.phase s turn enabled) goes_on
      ((within_window c n next).within (ring_of turn)) in
      let now : left_alone c n j ≡ alone_left c n.cells part_then.phase =
      ap (λ (v : SeatPart). alone_left c n.cells v.phase) (updated_here m.part j part_then) in
      elim (begins c p.hand p.spent p.phase s turn enabled) [
        | inl same ↦
            let was : left_alone c m j ≡ alone_left c m.cells turn =
            ap (alone_left c m.cells) (sym same) in
            omega arith
        | inr new ↦
            let was : left_alone c m j ≡ alone_steps c = ap (alone_left c m.cells) new.0 in
            let few = few_alone c m reachable turn in
            omega arith
      ]

  pub alone_step : (k : ℕ) → j ≡ k
      → length (m.part k).calls ≡ length ((moved c m j turn).part k).calls
      → left_alone c (moved c m j turn) k < left_alone c m k
  alone_step k own same =
      let n = moved c m j turn in
      let here : length (n.part k).calls ≡ length part_then.calls =
      ap (λ (i : ℕ). length (n.part i).calls) (sym own)
      ∙ ap (λ (v : SeatPart). length v.calls) (updated_here m.part j part_then) in
      let was : length (m.part k).calls ≡ length (m.part j).calls =
      ap (λ (i : ℕ). length (m.part i).calls) (sym own) in
      let less = alone_own (calls_same c m j s turn low reachable enabled
      (sym was ∙ same ∙ here)) in
      let left_was : left_alone c m j ≡ left_alone c m k = ap (left_alone c m) own in
      let left_now : left_alone c n j ≡ left_alone c n k = ap (left_alone c n) own in
      omega arith

-- while the seat's record stays
alone_along : (c : Setup) (k : ℕ) (own : List (ℕ × Step)) (t last : Recorded)
    → All (λ (x : ℕ × Step). x.0 ≡ k) own → All (λ (x : ℕ × Step). x.0 < c.seats) own
    → IsReachable c t.state → recorded_along c t own ≡ Some last
    → length (t.state.part k).calls ≡ length (last.state.part k).calls
    → length own + left_alone c last.state k ≤ left_alone c t.state k
alone_along c k [] t last its seats reachable e same =
    let is : t ≡ last = cc in rw (← is) (omega arith)
alone_along c k (x ∷ xs) t last its seats reachable e same =
    let f = first_step c x xs t last seats reachable e in
    let n = moved c t.state x.0 f.turn in
    let stay = stays_same c k x xs t last f reachable same in
    let rest = alone_along c k xs f.next last (All-tail (λ (y : ℕ × Step). y.0 ≡ k) x xs its)
    f.rest_low f.reach f.along stay.next in
    let step = alone_step c t.state x.0 x.1 f.turn f.low reachable f.enabled k
    (All-head (λ (y : ℕ × Step). y.0 ≡ k) x xs its) stay.here in
    let left_is : left_alone c f.next.state k ≡ left_alone c n k =
    ap (λ (z : Machine). left_alone c z k) f.state in
    omega arith

pub ends_alone : (c : Setup) (opening : List (List ℕ)) (steps : List (ℕ × Step))
    → EndsAlone c opening steps
ends_alone c opening steps =
    record {
      ends =
          λ k front own was now within its front_run back_run many.
          let on = leads_on c opening front own was now front_run back_run in
          elim (cases_lt (length (was.state.part k).calls) (length (now.state.part k).calls)) [
            | inl more ↦ more
            | inr high ↦
                let longer = longer_along c k own was now on.low on.reachable on.along in
                let few = alone_along c k own was now its on.low on.reachable on.along
                (omega arith) in
                let some = alone_some c now.state.cells (now.state.part k).phase in
                let most = few_alone c was.state on.reachable (was.state.part k).phase in
                absurd (omega arith)
          ];
    }
