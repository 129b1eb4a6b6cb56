-- What the laws of the machine give for each enabled turn of a seat, in the form that the rule's steps use.
use Rattle.std.proofs.Common.{◌≡◌, ℕ, ◌<◌, ◌≤◌, false, refl, sym, ◌∙◌, ap, subst, inl, inr, arith}
use Rattle.std.specs.Prelude.{Some}
use Rattle.std.specs.Option.{option_map}
use Rattle.scq_word.specs.declared.setup.Setup.{Setup}
use Rattle.scq_word.specs.Exports.{is_none_in}
use Rattle.scq_word.proofs.TicketLemmas.{slot_of_small}
use Rattle.scq_core.specs.declared.phase.Phase.{Phase}
use Rattle.scq_core.specs.declared.phase.Phase.TheVariants.{Idle, AtE2, AtE4, AtD3, AtD4, AtD5}
use Rattle.scq_core.specs.declared.step.Step.{Step}
use Rattle.scq_core.specs.Exports.{tail_of, head_of, threshold_of, ring_slots, ring_of, turn_of, location_of, moved, IsReachable, by_step, word_at}
use Rattle.scq_core.specs.Machine.{Machine}
use Rattle.scq_core.proofs.Turns.{awake}
use Rattle.scq_core.proofs.Steady.{has, steady}
use Rattle.scq_core.proofs.Ranks.{counters_rise}
use Rattle.scq_core.proofs.Fits.{words_fit}
use Rattle.scq_core.proofs.Indices.{has_indices}
use Rattle.scq_core.proofs.Readiness.{ring_low, ready_turn}
use Rattle.scq_law.specs.Later as later
use Rattle.scq_law.proofs.Places.HandLaws.{one_hand}
use Rattle.scq_law.specs.Exports.{times, Home, hand_of, in_slot, IsHome, IsSeen, OneHand}
use Rattle.std.proofs.lemmas.Bool.{cases_eq}
use Rattle.scq_law.proofs.Places.PlaceLaws.{places_once}
use Rattle.scq_law.proofs.Places.EntryLaws.{takes_phase, stands_at_turn}
use Rattle.scq_law.proofs.Places.LaterLaws.{finished_stays}
use Rattle.scq_law.proofs.Tickets.TicketLaws.{threshold_covers}
use Rattle.scq_law.proofs.Balance.KeptLaws.{hand_fits}
use Rattle.scq_law.proofs.Retries.RetryLaws.{retries_rise}
use Rattle.scq_band.specs.Exports.{ring_at, IsSlotAt, IsLocation, entry_at}
use Rattle.scq_band.proofs.Moves.{Ground}

-- the location of a turn is on the turn's ring
ring_at-turn : (c : Setup) (t : Phase) → ring_at (location_of c t) ≡ ring_of t
ring_at-turn c Idle = refl
ring_at-turn c turn = refl

slot_at-turn : (c : Setup) (t : Phase) → IsSlotAt c (location_of c t)
slot_at-turn c (AtE2 r i w t l) = slot_of_small c.order t
slot_at-turn c (AtE4 r i w t e) = slot_of_small c.order t
slot_at-turn c (AtD3 r h l) = slot_of_small c.order h
slot_at-turn c (AtD4 r h) = slot_of_small c.order h
slot_at-turn c (AtD5 r h e) = slot_of_small c.order h
slot_at-turn c turn = tt

-- a turn's location is one of the setup's
pub is_location : (c : Setup) (t : Phase) → ring_of t < c.rings → IsLocation c (location_of c t)
is_location c t low = (subst (λ r. r < c.rings) (sym (ring_at-turn c t)) low, slot_at-turn c t)

-- an index stands at most once in a hand
each_once : (c : Setup) (m : Machine) (k i : ℕ) → OneHand c m → times i (m.part k).hand ≤ 1
each_once c m k i one =
    elim (cases_eq (times i (m.part k).hand) 0) [
      | inl none ↦ omega (arith, none)
      | inr some ↦
          let low = one.in_hands i k (omega (arith, some)) in
          let home = one.home i low in
          let same = one.alone i (hand_of k) home.0 low (omega (arith, some)) (seen_of home.0 home.1) in
          let here : IsHome c m i (hand_of k) = subst (λ (h : Home). IsHome c m i h) (sym same) home.1 in
          let single = here.1 in
          omega (arith, single)
    ]
  where
    seen_of : (h : Home) → IsHome c m i h → IsSeen c m i h
    seen_of (hand_of j) is = let one_there = is.1 in omega (arith, one_there)
    seen_of (in_slot r s) is = (is.1, is.2)

pub ground : (c : Setup) (m : Machine) (k : ℕ) (s : Step) (t : Phase) → IsReachable c m → k < c.seats → turn_of c (m.part k) s ≡ Some t → Ground c m k t
ground c m k s t reach low enabled =
    let calm = steady c m reach in
    let busy = has c m.cells (m.part k) s t (calm.busy k) enabled in
    let wakes = awake c (m.part k).hand (m.part k).spent (m.part k).phase s t enabled in
    let stands : (r h : ℕ) → t ≡ AtD4 r h → is_none_in (ring_slots c) (word_at c m.cells r h) ≡ false =
    λ r h is. stands_at_turn c m k s r h reach (enabled ∙ ap Some is) in
    let next = by_step {m' = moved c m k t} k s reach low (ap (option_map (moved c m k)) enabled) in
    let places = places_once c m reach in
    record {
      busy = busy;
      location = is_location c t (ring_low c m.cells (m.part k).hand t busy);
      one = one_hand c m reach;
      stands = stands;
      ready = ready_turn c m.cells (m.part k).hand t busy (words_fit c m reach) (has_indices c m reach) wakes;
      finds = (retries_rise c m reach).finds k s t enabled;
      covers = threshold_covers c m reach;
      tails = calm.tails;
      heads = calm.heads;
      got =
          λ r h is.
          let answer = places.answered k r h (takes_phase c (m.part k) s r h (enabled ∙ ap Some is)) in
          (places.below_limit r h _ answer.0 answer.1).1;
      up = counters_rise c m.cells (m.part k).hand t busy;
      stay = λ r p is. finished_stays c m (moved c m k t) r p
          (later.by_step {n' = moved c m k t} k s (later.at_once) low (ap (option_map (moved c m k)) enabled)) is;
      reach = next;
      fits = hand_fits c (moved c m k t) k next;
      once = λ i. each_once c (moved c m k t) k i (one_hand c (moved c m k t) next);
    }

-- the locations of a ring of the setup
pub entry_location : (c : Setup) (r t : ℕ) → r < c.rings → IsLocation c (entry_at c r t)
entry_location c r t low = (low, slot_of_small c.order t)

pub head_location : (c : Setup) (r : ℕ) → r < c.rings → IsLocation c (head_of r)
head_location c r low = (low, tt)

pub tail_location : (c : Setup) (r : ℕ) → r < c.rings → IsLocation c (tail_of r)
tail_location c r low = (low, tt)

pub threshold_location : (c : Setup) (r : ℕ) → r < c.rings → IsLocation c (threshold_of r)
threshold_location c r low = (low, tt)
