-- Each state of a run has the base group. Plan: a turn's own seat and books are its outcome; what the other seats claim
-- and know lasts by what stays for them.
use Rattle.std.proofs.Common.{◌≡◌, ◌≢◌, ℕ, List, length, inl, inr}
use Rattle.std.specs.Prelude.{Some}
use Rattle.scq_word.specs.declared.setup.Setup.{Setup}
use Rattle.scq_core.specs.declared.phase.Phase.{Phase}
use Rattle.scq_core.specs.declared.phase.Phase.TheVariants.{AtE4, AtD4}
use Rattle.scq_core.specs.declared.step.Step.{Step}
use Rattle.scq_core.specs.Exports.{Cells, Entries, SeatPart, turn_of, cells_after, moved, Busy, IsSteady, Stance, putting, landed, trying, gave_up}
use Rattle.scq_core.specs.Exports.{stance_of}
use Rattle.scq_core.specs.Machine.{Machine}
use Rattle.scq_core.proofs.UpdatedLemmas.{updated_cases}
use Rattle.scq_core.proofs.Turns.{Begins, begins_put, begins_get, begins, awake}
use Rattle.scq_core.proofs.Steady.{has, steady_turn, steady_start}
use Rattle.scq_law.proofs.Base.Ghosts.{Ghost}
use Rattle.scq_law.proofs.Base.Traces.{Trace, trace_start, trace_step, ghost_after}
use Rattle.scq_law.proofs.Base.BaseGroup.{IsBooked, IsDrawn, Claims, Knows, Moves}
use Rattle.scq_law.proofs.Base.TurnOutcomes.{OutcomeOf, outcome}
use Rattle.scq_law.proofs.Base.StartTickets.{start_booked, start_drawn}

-- the base group of one state
pub record IsBased (c : Setup) (g : Ghost) (m : Machine) : Type 0 where
  pub steady : IsSteady c m
  pub booked : IsBooked c m.cells.entries g
  pub drawn : IsDrawn c m.cells.tail m.cells.head g
  pub claims : (k : ℕ) → Claims g k (length (m.part k).calls) (stance_of (m.part k).phase)
  pub knows : (k : ℕ) → Knows c m.cells.entries.word g.gets (m.part k).phase

-- what an enabled turn's seat claims and knows
pub turn_claims : (c : Setup) (g : Ghost) (p : SeatPart) (k number : ℕ) (s : Step) (turn : Phase) → turn_of c p s ≡ Some turn
    → Claims g k number (stance_of p.phase) → Claims g k number (stance_of turn)
turn_claims c g p k number s turn enabled claims =
    elim (begins c p.hand p.spent p.phase s turn enabled) [
      | inl same ↦ rw same claims
      | inr new ↦ fresh_claims turn new.2
    ]
  where
    fresh_claims : (t : Phase) → Begins c p.hand t → Claims g k number (stance_of t)
    fresh_claims t (begins_put r i w ring index held) = tt
    fresh_claims t (begins_get r ring) = tt

pub turn_knows : (c : Setup) (m : Cells) (g : Ghost) (p : SeatPart) (s : Step) (turn : Phase) → turn_of c p s ≡ Some turn → Knows c m.entries.word g.gets p.phase
    → Knows c m.entries.word g.gets turn
turn_knows c m g p s turn enabled knows =
    elim (begins c p.hand p.spent p.phase s turn enabled) [
      | inl same ↦ rw same knows
      | inr new ↦ fresh_knows turn new.2
    ]
  where
    fresh_knows : (t : Phase) → Begins c p.hand t → Knows c m.entries.word g.gets t
    fresh_knows t (begins_put r i w ring index held) = tt
    fresh_knows t (begins_get r ring) = tt

-- what another seat claims lasts
claims_last : (c : Setup) (e f : Entries) (g h : Ghost) (k j number : ℕ) (s : Stance) → Moves c e g k f h → j ≢ k → Claims g j number s → Claims h j number s
claims_last c e f g h k j number (putting r i w t) moves other claims = moves.pends j r t i other claims
claims_last c e f g h k j number (landed r i w t) moves other claims = moves.lies r t i w _ claims
claims_last c e f g h k j number (trying r t) moves other claims = moves.opens j r t other claims
claims_last c e f g h k j number (gave_up r t leaves) moves other claims = moves.ends r t claims
claims_last c e f g h k j number s moves other claims = tt

-- and what it knows
knows_last : (c : Setup) (m : Cells) (f : Entries) (g h : Ghost) (hand : List ℕ) (k j number : ℕ) (phase : Phase) → Moves c m.entries g k f h → j ≢ k
    → Busy c m hand phase → Claims g j number (stance_of phase) → Knows c m.entries.word g.gets phase → Knows c f.word h.gets phase
knows_last c m f g h hand k j number (AtE4 r i w t e) moves other busy claims knows =
    moves.passes r t e (record { empty = busy.3; lags = busy.2 }) knows
knows_last c m f g h hand k j number (AtD4 r t) moves other busy claims knows = moves.holds j r t other claims knows
knows_last c m f g h hand k j number phase moves other busy claims knows = tt

-- what the turn comes to
pub turn_outcome : (c : Setup) (m : Machine) (g : Ghost) (time k : ℕ) (s : Step) (turn : Phase) → turn_of c (m.part k) s ≡ Some turn → IsBased c g m
    → OutcomeOf c m.cells g time k (m.part k) turn
turn_outcome c m g time k s turn enabled base =
    let p = m.part k in
    outcome c m.cells g time k p base.booked base.drawn turn (awake c p.hand p.spent p.phase s turn enabled)
    (has c m.cells p s turn (base.steady.busy k) enabled) (turn_claims c g p k (length p.calls) s turn enabled (base.claims k))
    (turn_knows c m.cells g p s turn enabled (base.knows k))

pub based_turn : (c : Setup) (m : Machine) (g : Ghost) (time k : ℕ) (s : Step) (turn : Phase) → turn_of c (m.part k) s ≡ Some turn → IsBased c g m
    → IsBased c (ghost_after c m time k turn g) (moved c m k turn)
based_turn c m g time k s turn enabled base =
    let out = turn_outcome c m g time k s turn enabled base in
    let h = ghost_after c m time k turn g in
    let n = cells_after c turn m.cells in
    record {
      steady = steady_turn c m k s turn base.steady enabled;
      booked = out.effect.booked;
      drawn = out.drawn;
      claims =
          λ j.
          updated_cases
          (λ (i : ℕ) (v : SeatPart). Claims h i (length v.calls) (stance_of v.phase))
          m.part
          k
          _
          j
          (λ same. rw same out.claims)
          (λ other. claims_last c m.cells.entries n.entries g h k j (length (m.part j).calls) (stance_of (m.part j).phase) out.effect.moves other
          (base.claims j));
      knows =
          λ j.
          updated_cases
          (λ (_ : ℕ) (v : SeatPart). Knows c n.entries.word h.gets v.phase)
          m.part
          k
          _
          j
          (λ same. out.knows)
          (λ other. knows_last c m.cells n.entries g h (m.part j).hand k j (length (m.part j).calls) (m.part j).phase out.effect.moves other
          (base.steady.busy j) (base.claims j) (base.knows j));
    }

pub based : (c : Setup) (time : ℕ) (g : Ghost) (m : Machine) → Trace c time g m → IsBased c g m
based c time g m (trace_start opening full) =
    record {
      steady = steady_start c opening;
      booked = start_booked c opening;
      drawn = start_drawn c opening;
      claims = λ k. tt;
      knows = λ k. tt;
    }
based c time g m (trace_step {time = t} {g = h} {m = old} k s turn trace low enabled) =
    based_turn c old h t k s turn enabled (based c t h old trace)
