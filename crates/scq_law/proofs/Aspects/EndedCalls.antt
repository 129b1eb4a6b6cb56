-- The call that a seat is seen to have ended after a turn is the one that the turn's event ends.
use Rattle.std.proofs.Common.{◌≡◌, ◌≢◌, ℕ, ◌+◌, ◌-◌, List, [], ◌∷◌, ◌++◌, length, refl, sym, ◌∙◌, arith}
use Rattle.std.specs.Prelude.{Option, Some, None}
use Rattle.std.proofs.lemmas.List.{length-append}
use Rattle.scq_word.specs.declared.setup.Setup.{Setup}
use Rattle.scq_core.specs.declared.ended.Ended.{Ended}
use Rattle.scq_core.specs.declared.phase.Phase.{Phase}
use Rattle.scq_core.specs.declared.phase.Phase.TheVariants.{Idle}
use Rattle.scq_core.specs.declared.step.Step.{Step}
use Rattle.scq_core.specs.Exports.{SeatPart, Stance, resting, stance_of, turn_of}
use Rattle.scq_law.specs.Exports.{ended_in}
use Rattle.scq_law.proofs.Aspects.EventRecording.{Within}
use Rattle.scq_law.proofs.Base.TicketEvents.{TicketEvent, calm, drew, fell, laid, finished, entered, refused, began, died, saw_end, lifted, taken, lowered, emptied, overran, event, ended_by, stance_by}
use Rattle.scq_law.proofs.Base.TurnEvents.{own_stance}
use Rattle.scq_law.proofs.Base.TurnOrigins.{came_from}
use Rattle.scq_law.proofs.Places.RecordsAgree.{call_last}

-- a list's first, if it has one
abbrev pub first_of_calls : List Ended → Option Ended
first_of_calls [] = None
first_of_calls (x ∷ xs) = Some x

pub ended_none : (phase : Phase) (calls : List Ended) → stance_of phase ≢ resting → ended_in phase calls ≡ None
ended_none Idle calls busy = absurd (busy refl)
ended_none phase calls busy = refl

ended_last : (phase : Phase) (old : List Ended) (x : Ended) → stance_of phase ≡ resting → ended_in phase (old ++ x ∷ []) ≡ Some x
ended_last Idle old x rests =
    let long : length (old ++ x ∷ []) ≡ length old + 1 = length-append old (x ∷ []) in
    let last : length (old ++ x ∷ []) - 1 ≡ length old = omega arith in
    rw last (call_last old x)
ended_last phase old x rests = absurd (cc)

-- the call that a seat is seen to have ended is the one that its event ends
module _ (q : SeatPart) (old : List Ended) (s : Stance) where
  none_ended : (e : TicketEvent) → stance_by e s ≢ resting → stance_of q.phase ≡ stance_by e s → ended_in q.phase q.calls ≡ None
  none_ended e busy is = ended_none q.phase q.calls (λ rests. busy (sym is ∙ rests))

  one_ended : (x : Ended) → stance_of q.phase ≡ resting → q.calls ≡ old ++ x ∷ [] → ended_in q.phase q.calls ≡ Some x
  one_ended x rests is = rw is (ended_last q.phase old x rests)

  pub seen_end : (e : TicketEvent) → Within e s → stance_of q.phase ≡ stance_by e s → q.calls ≡ old ++ ended_by e
      → ended_in q.phase q.calls ≡ first_of_calls (ended_by e)
  seen_end calm at is calls = none_ended calm at is
  seen_end (drew r i w t) at is calls = none_ended (drew r i w t) (λ x. cc) is
  seen_end (fell r i w t found) at is calls = none_ended (fell r i w t found) (λ x. cc) is
  seen_end (laid r i w t) at is calls = none_ended (laid r i w t) (λ x. cc) is
  seen_end (finished r i w t) at is calls = one_ended _ is calls
  seen_end (entered r) at is calls = none_ended (entered r) (λ x. cc) is
  seen_end (refused r) at is calls = one_ended _ is calls
  seen_end (began r h) at is calls = none_ended (began r h) (λ x. cc) is
  seen_end (died r h) at is calls = none_ended (died r h) (λ x. cc) is
  seen_end (saw_end r h) at is calls = none_ended (saw_end r h) (λ x. cc) is
  seen_end (lifted r h to) at is calls = none_ended (lifted r h to) (λ x. cc) is
  seen_end (taken r h i w) at is calls = one_ended _ is calls
  seen_end (lowered r h) at is calls = none_ended (lowered r h) (λ x. cc) is
  seen_end (emptied r h) at is calls = one_ended _ is calls
  seen_end (overran r t is_put) at is calls = one_ended _ is calls

-- afterwards, the stance is what the event makes of the seat's own, or of its turn's
pub turn_stance : (c : Setup) (p : SeatPart) (s : Step) (turn : Phase) (x : ℕ) (y : List ℕ) → turn_of c p s ≡ Some turn
    → stance_by (event c turn x y) (stance_of p.phase) ≡ stance_by (event c turn x y) (stance_of turn)
turn_stance c p s turn x y enabled = sym (own_stance c p turn x y (came_from c p s turn enabled))
