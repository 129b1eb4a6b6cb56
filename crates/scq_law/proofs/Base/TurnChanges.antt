-- Each turn changes the state as its event says.
use Rattle.std.proofs.Common.{◌≡◌, ◌+◌, true, false, ◌&&◌, [], ◌++◌, append-nil, refl, sym, inl, inr, eqb-true}
use Rattle.std.specs.Prelude.{◌==◌, nat_lt, nat_le}
use Rattle.std.proofs.lemmas.Bool.{cases_Bool}
use Rattle.scq_word.specs.declared.setup.Setup.{Setup}
use Rattle.scq_word.specs.Exports.{safe_in, cycle_in, is_none_in}
use Rattle.scq_core.specs.declared.phase.Phase.{Phase}
use Rattle.scq_core.specs.declared.phase.Phase.TheVariants.{Idle, AtE1, AtE2, AtE3, AtE4, AtE5, AtE6, AtD1, AtD2, AtD3, AtD4, AtD5, AtD6, AtD7, AtD8, AtD9, AtD10}
use Rattle.scq_core.specs.Exports.{Cells, SeatPart, ring_slots, cycle, zero_level, reset_level, after, cells_after, word_at, stance_of}
use Rattle.scq_core.proofs.UpdatedLemmas.{updated_same}
use Rattle.scq_core.proofs.Turns.{awake}
use Rattle.scq_law.proofs.Base.TicketEvents.{TicketEvent, event, stance_by, hand_by, ended_by, kept_by, tail_by, head_by, threshold_by}
use Rattle.scq_law.proofs.Base.TurnOutcomes.{found, content}

-- how cells and part of seat k change, as the event e says
pub record Changes (c : Setup) (m : Cells) (p : SeatPart) (turn : Phase) (e : TicketEvent) (n : Cells) (q : SeatPart) : Type 0 where
  pub stance : stance_of q.phase ≡ stance_by e (stance_of turn)
  pub hand : q.hand ≡ hand_by e p.hand
  pub calls : q.calls ≡ p.calls ++ ended_by e
  pub kept : q.spent ≡ kept_by e p.spent
  pub tail : n.tail ≡ tail_by e m.tail
  pub head : n.head ≡ head_by e m.head
  pub threshold : n.threshold ≡ threshold_by c e m.threshold

abbrev pub ChangesOf : Setup → Cells → SeatPart → Phase → Type 0
ChangesOf c m p turn =
    Changes c m p turn (event c turn (found c m turn) (content c m turn)) (cells_after c turn m) (after c turn (found c m turn) (content c m turn) p)

-- no call ends
same_calls : (p : SeatPart) → p.calls ≡ p.calls ++ []
same_calls p = sym (append-nil p.calls)

pub changes : (c : Setup) (m : Cells) (p : SeatPart) (turn : Phase) → (turn ≡ Idle → ⊥) → ChangesOf c m p turn
changes c m p Idle awake = absurd (awake refl)
changes c m p (AtE1 r i w l) awake =
    elim (cases_Bool (nat_le c.limit (m.tail r))) [
      | inl holds ↦ rw holds (record { stance = refl; hand = refl; calls = refl; kept = refl; tail = refl; head = refl; threshold = refl })
      | inr fails ↦ rw fails (record { stance = refl; hand = refl; calls = same_calls p; kept = refl; tail = refl; head = refl; threshold = refl })
    ]
changes c m p (AtE2 r i w t l) awake =
    elim (cases_Bool (nat_lt (cycle_in (ring_slots c) (word_at c m r t)) (cycle c t) && is_none_in (ring_slots c) (word_at c m r t))) [
      | inl holds ↦
          elim (cases_Bool (safe_in (ring_slots c) (word_at c m r t) == 1)) [
            | inl safe ↦ rw (holds, safe) (record { stance = refl; hand = refl; calls = same_calls p; kept = refl; tail = refl; head = refl; threshold = refl })
            | inr unsafe ↦ rw (holds, unsafe)
                (record { stance = refl; hand = refl; calls = same_calls p; kept = refl; tail = refl; head = refl; threshold = refl })
          ]
      | inr fails ↦ rw fails (record { stance = refl; hand = refl; calls = same_calls p; kept = refl; tail = refl; head = refl; threshold = refl })
    ]
changes c m p (AtE3 r i w t e) awake =
    elim (cases_Bool (nat_le (m.head r) t)) [
      | inl holds ↦ rw holds
          (record { stance = refl; hand = refl; calls = same_calls p; kept = refl; tail = refl; head = updated_same m.head r; threshold = refl })
      | inr fails ↦ rw fails
          (record { stance = refl; hand = refl; calls = same_calls p; kept = refl; tail = refl; head = updated_same m.head r; threshold = refl })
    ]
changes c m p (AtE4 r i w t e) awake =
    elim (cases_Bool (word_at c m r t == e)) [
      | inl holds ↦ rw holds (record { stance = refl; hand = refl; calls = same_calls p; kept = refl; tail = refl; head = refl; threshold = refl })
      | inr fails ↦ rw fails (record { stance = refl; hand = refl; calls = same_calls p; kept = refl; tail = refl; head = refl; threshold = refl })
    ]
changes c m p (AtE5 r i w t) awake =
    elim (cases_Bool (m.threshold r == reset_level c)) [
      | inl holds ↦
          let same = eqb-true (m.threshold r) (reset_level c) holds in
          rw holds (record { stance = refl; hand = refl; calls = refl; kept = refl; tail = refl; head = refl; threshold = rw same refl })
      | inr fails ↦ rw fails
          (record { stance = refl; hand = refl; calls = same_calls p; kept = refl; tail = refl; head = refl; threshold = updated_same m.threshold r })
    ]
changes c m p (AtE6 r i w t) awake = record { stance = refl; hand = refl; calls = refl; kept = refl; tail = refl; head = refl; threshold = refl }
changes c m p (AtD1 r) awake =
    elim (cases_Bool (nat_lt (m.threshold r) zero_level)) [
      | inl holds ↦ rw holds
          (record { stance = refl; hand = refl; calls = refl; kept = refl; tail = refl; head = refl; threshold = updated_same m.threshold r })
      | inr fails ↦ rw fails
          (record { stance = refl; hand = refl; calls = same_calls p; kept = refl; tail = refl; head = refl; threshold = updated_same m.threshold r })
    ]
changes c m p (AtD2 r l) awake =
    elim (cases_Bool (nat_le c.limit (m.head r))) [
      | inl holds ↦ rw holds (record { stance = refl; hand = refl; calls = refl; kept = refl; tail = refl; head = refl; threshold = refl })
      | inr fails ↦ rw fails (record { stance = refl; hand = refl; calls = same_calls p; kept = refl; tail = refl; head = refl; threshold = refl })
    ]
changes c m p (AtD3 r h l) awake =
    elim (cases_Bool (cycle_in (ring_slots c) (word_at c m r h) == cycle c h)) [
      | inl same ↦ rw same (record { stance = refl; hand = refl; calls = same_calls p; kept = refl; tail = refl; head = refl; threshold = refl })
      | inr other ↦
          elim (cases_Bool (nat_lt (cycle_in (ring_slots c) (word_at c m r h)) (cycle c h))) [
            | inl lower ↦ rw (other, lower)
                (record { stance = refl; hand = refl; calls = same_calls p; kept = refl; tail = refl; head = refl; threshold = refl })
            | inr higher ↦ rw (other, higher)
                (record { stance = refl; hand = refl; calls = same_calls p; kept = refl; tail = refl; head = refl; threshold = refl })
          ]
    ]
changes c m p (AtD4 r h) awake = record { stance = refl; hand = refl; calls = refl; kept = refl; tail = refl; head = refl; threshold = refl }
changes c m p (AtD5 r h e) awake =
    elim (cases_Bool (word_at c m r h == e)) [
      | inl holds ↦ rw holds (record { stance = refl; hand = refl; calls = same_calls p; kept = refl; tail = refl; head = refl; threshold = refl })
      | inr fails ↦ rw fails (record { stance = refl; hand = refl; calls = same_calls p; kept = refl; tail = refl; head = refl; threshold = refl })
    ]
changes c m p (AtD6 r h) awake =
    elim (cases_Bool (nat_le (m.tail r) (h + 1))) [
      | inl holds ↦ rw holds
          (record { stance = refl; hand = refl; calls = same_calls p; kept = refl; tail = updated_same m.tail r; head = refl; threshold = refl })
      | inr fails ↦ rw fails
          (record { stance = refl; hand = refl; calls = same_calls p; kept = refl; tail = updated_same m.tail r; head = refl; threshold = refl })
    ]
changes c m p (AtD7 r h from to) awake =
    elim (cases_Bool (m.tail r == from)) [
      | inl holds ↦ rw holds (record { stance = refl; hand = refl; calls = same_calls p; kept = refl; tail = refl; head = refl; threshold = refl })
      | inr fails ↦ rw fails
          (record { stance = refl; hand = refl; calls = same_calls p; kept = refl; tail = updated_same m.tail r; head = refl; threshold = refl })
    ]
changes c m p (AtD8 r h from) awake =
    record { stance = refl; hand = refl; calls = same_calls p; kept = refl; tail = refl; head = updated_same m.head r; threshold = refl }
changes c m p (AtD9 r h from to) awake =
    elim (cases_Bool (nat_le to (m.tail r))) [
      | inl holds ↦ rw holds
          (record { stance = refl; hand = refl; calls = same_calls p; kept = refl; tail = updated_same m.tail r; head = refl; threshold = refl })
      | inr fails ↦ rw fails
          (record { stance = refl; hand = refl; calls = same_calls p; kept = refl; tail = updated_same m.tail r; head = refl; threshold = refl })
    ]
changes c m p (AtD10 r h true) awake = record { stance = refl; hand = refl; calls = refl; kept = refl; tail = refl; head = refl; threshold = refl }
changes c m p (AtD10 r h false) awake =
    elim (cases_Bool (nat_le (m.threshold r) zero_level)) [
      | inl holds ↦ rw holds (record { stance = refl; hand = refl; calls = refl; kept = refl; tail = refl; head = refl; threshold = refl })
      | inr fails ↦ rw fails (record { stance = refl; hand = refl; calls = same_calls p; kept = refl; tail = refl; head = refl; threshold = refl })
    ]
