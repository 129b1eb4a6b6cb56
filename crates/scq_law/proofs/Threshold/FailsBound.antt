-- How many attempts have failed since a reset. Plan: Threshold and the fails together are at most what a reset
-- sets: a fail lowers the one and raises the other, a reset sets both. So the floor of Threshold bounds the fails.
use Rattle.std.proofs.Common.{◌≡◌, ℕ, ◌+◌, ◌-◌, ◌<◌, ◌≤◌, List, length, refl, inl, inr, sym, ap, subst, arith}
use Rattle.std.specs.Prelude.{◌==◌, Some}
use Rattle.std.specs.List.{All}
use Rattle.std.proofs.lemmas.Bool.{cases_Bool}
use Rattle.scq_word.specs.declared.setup.Setup.{Setup}
use Rattle.scq_word.specs.Exports.{n_of}
use Rattle.scq_core.specs.declared.phase.Phase.{Phase}
use Rattle.scq_core.specs.declared.phase.Phase.TheVariants.{Idle, AtE5, AtE6, AtD1, AtD10}
use Rattle.scq_core.specs.declared.step.Step.{Step}
use Rattle.scq_core.specs.Exports.{Cells, SeatPart, read, beside, updated, turn_of, location_of, after, cells_after, moved, reset_level, start_of}
use Rattle.scq_core.specs.Exports.{IsReachable, at_start}
use Rattle.scq_core.proofs.UpdatedLemmas.{updated_here, updated_or}
use Rattle.scq_core.proofs.Turns.{awake}
use Rattle.scq_core.proofs.Fits.{words_fit}
use Rattle.scq_core.proofs.Floor.{threshold_floor}
use Rattle.scq_law.specs.Exports.{Recorded, is_reset, fails_after, recorded_after, recorded_first, recorded_of, FailsBounded}
use Rattle.scq_law.proofs.Replays.RecordedRuns.{all_along, turn_reaches}

-- the phase of a seat after its turn
abbrev phase_then : Setup → Cells → SeatPart → Phase → Phase
phase_then c m p turn = (after c turn (read m (location_of c turn)) (beside m (location_of c turn)) p).phase

-- a value that is written, where it and all old ones are within a bound with their fails
updated_both : (f g : ℕ → ℕ) (q x y bound : ℕ) → x + y ≤ bound → ((r : ℕ) → f r + g r ≤ bound) → (r : ℕ) → updated f q x r + updated g q y r ≤ bound
updated_both f g q x y bound new old r =
    let was = old r in
    elim (updated_or f q x r) [
      | inl a ↦
          elim (updated_or g q y r) [
            | inl b ↦ let left = a.1 in let right = b.1 in omega arith
            | inr b ↦ absurd (b.0 a.0)
          ]
      | inr a ↦
          elim (updated_or g q y r) [
            | inl b ↦ absurd (a.0 b.0)
            | inr b ↦ let left = a.1 in let right = b.1 in omega arith
          ]
    ]

updated_read : (f g : ℕ → ℕ) (q bound : ℕ) → ((r : ℕ) → f r + g r ≤ bound) → (r : ℕ) → updated f q (f q) r + g r ≤ bound
updated_read f g q bound old r =
    let was = old r in
    elim (updated_or f q (f q) r) [
      | inl a ↦ let here = a.1 in let same : f r ≡ f q = ap f a.0 in omega arith
      | inr a ↦ let there = a.1 in omega arith
    ]

updated_reset : (f g : ℕ → ℕ) (q bound : ℕ) → ((r : ℕ) → f r + g r ≤ bound) → (r : ℕ) → updated f q (f q) r + updated g q 0 r ≤ bound
updated_reset f g q bound old r = let here = old q in updated_both f g q (f q) 0 bound (omega arith) old r

fails_turn : (c : Setup) (m : Cells) (p : SeatPart) (turn : Phase) (fails : ℕ → ℕ) → (turn ≡ Idle → ⊥) → ((r : ℕ) → 0 < m.threshold r)
    → ((r : ℕ) → m.threshold r + fails r ≤ reset_level c) → (r : ℕ)
    → (cells_after c turn m).threshold r + fails_after turn (is_reset turn (phase_then c m p turn)) fails r ≤ reset_level c
fails_turn c m p Idle fails awake some old r = absurd (awake refl)
fails_turn c m p (AtE5 q i w t) fails awake some old r =
    elim (cases_Bool (m.threshold q == reset_level c)) [
      | inl high ↦ rw (high, fails_after) (updated_reset m.threshold fails q (reset_level c) old r)
      | inr low ↦ rw (low, fails_after) (updated_read m.threshold fails q (reset_level c) old r)
    ]
fails_turn c m p (AtE6 q i w t) fails awake some old r =
    updated_both m.threshold fails q (reset_level c) 0 (reset_level c) (omega arith) old r
fails_turn c m p (AtD1 q) fails awake some old r = updated_read m.threshold fails q (reset_level c) old r
fails_turn c m p (AtD10 q h leaving) fails awake some old r =
    let here = some q in
    let was = old q in
    updated_both m.threshold fails q (m.threshold q - 1) (fails q + 1) (reset_level c) (omega arith) old r
fails_turn c m p turn fails awake some old r = old r

-- what is recorded has a reachable state, whose Threshold with the fails is within what a reset sets
record Sums (c : Setup) (recorded : Recorded) : Type 0 where
  reach : IsReachable c recorded.state
  within : (r : ℕ) → recorded.state.cells.threshold r + recorded.fails r ≤ reset_level c

sums_step : (c : Setup) (recorded : Recorded) (k : ℕ) (s : Step) (turn : Phase) → k < c.seats → turn_of c (recorded.state.part k) s ≡ Some turn
    → Sums c recorded → Sums c (recorded_after c k turn recorded)
sums_step c recorded k s turn low enabled sums =
    let m = recorded.state in
    let p = m.part k in
    let fits = words_fit c m sums.reach in
    record {
      reach = turn_reaches c m k s turn low enabled sums.reach;
      within =
          λ r.
          let kept = fails_turn c m.cells p turn recorded.fails (awake c p.hand p.spent p.phase s turn enabled) (λ q. let some = fits.threshold q in some.0)
          sums.within r in
          let there : ((moved c m k turn).part k).phase ≡ phase_then c m.cells p turn =
          ap (λ (x : SeatPart). x.phase) (updated_here m.part k (after c turn (read m.cells (location_of c turn)) (beside m.cells (location_of c turn)) p)) in
          subst (λ (x : Phase). (cells_after c turn m.cells).threshold r + fails_after turn (is_reset turn x) recorded.fails r ≤ reset_level c) (sym there)
          kept;
    }

sums_start : (c : Setup) (opening : List (List ℕ)) → length opening ≡ n_of c.order → Sums c (recorded_first c opening)
sums_start c opening full =
    let reach : IsReachable c (start_of c opening) = at_start opening full in
    record {
      reach = reach;
      within = λ r. let ceiling = (threshold_floor c (start_of c opening) reach).ceiling r in omega arith;
    }

pub fails_bounded : (c : Setup) (opening : List (List ℕ)) (steps : List (ℕ × Step)) (recorded : Recorded) → length opening ≡ n_of c.order
    → All (λ (x : ℕ × Step). x.0 < c.seats) steps → recorded_of c opening steps ≡ Some recorded → FailsBounded c recorded
fails_bounded c opening steps recorded full seats is =
    let sums = all_along c (Sums c) (sums_step c) steps (recorded_first c opening) recorded seats is (sums_start c opening full) in
    record {
      fails =
          λ r.
          let floor = (threshold_floor c recorded.state sums.reach).floor r in let within = sums.within r in omega arith;
    }
