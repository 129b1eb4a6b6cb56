-- A put draws a ticket: the first one where it begins, and another after each that failed.
use Rattle.std.proofs.Common.{◌≡◌, ℕ, ◌<◌, ◌≤◌, true, List, refl, sym, ◌∙◌, ap, subst, inl, inr, lt-ltb, le-leb}
use Rattle.std.specs.Prelude.{Some, None, Option, slice_get}
use Rattle.std.proofs.lemmas.Bool.{lt-leb}
use Rattle.atomic_table.specs.Table.{Me}
use Rattle.scq_word.specs.declared.setup.Setup.{Setup}
use Rattle.scq_word.specs.Exports.{n_of}
use Rattle.scq_core.specs.declared.phase.Phase.{Phase}
use Rattle.scq_core.specs.declared.phase.Phase.TheVariants.{Idle, AtE1, AtE2}
use Rattle.scq_core.specs.declared.step.Step.TheVariants.{E1, E1Again}
use Rattle.scq_core.specs.Exports.{ring_slots, holds_index, turn_at, goes_on, spends, tail_of}
use Rattle.scq_band.specs.declared.numbers.Numbers.{Numbers}
use Rattle.scq_band.specs.declared.ring.Ring.{Ring}
use Rattle.scq_band.specs.Slots.{SlotStanding}
use Rattle.scq_band.specs.Exports.{ring_of_word, MayTurn, Turned, my, my_phase, front_index, front_bytes, drawing, draw_turn, IsAlone, IsLooking}
use Rattle.scq_band.specs.Exports.{IsToDraw, goes_to, spent_at, put_index, content_of, least_of, IsRing}
use Rattle.scq_band.specs.Known.{Known}
use Rattle.scq_band.proofs.Layouts.{ring_of_word-at}
use Rattle.scq_band.proofs.Outcomes.{goes_as, turned_as, alone_at, may_go}

-- the turn of the draw
pub draws_turn : {B : Type 0} (contents : B → List ℕ) (c : Setup) (word : ℕ) (me : Me (SlotStanding B) Known) (r i : ℕ) (w : List ℕ) → ring_of_word c word ≡ r
    → front_index me.1 ≡ i → front_bytes contents me.1 ≡ w
    → IsToDraw r i w (my_phase me.0) → draw_turn contents c word me ≡ AtE1 r i w (least_of (my_phase me.0))
draws_turn contents c word me r i w ring index content (inl idle) =
    ap (drawing (ring_of_word c word) (front_index me.1) (front_bytes contents me.1)) idle ∙ rw (ring, index, content, idle) refl
draws_turn contents c word me r i w ring index content (inr again) =
    ap (drawing (ring_of_word c word) (front_index me.1) (front_bytes contents me.1)) again

begins_put : (c : Setup) (hand : List ℕ) (spent : Option ℕ) (r i : ℕ) (w : List ℕ) → spent ≡ None → r < c.rings → i < n_of c.order → holds_index hand i ≡ true
    → turn_at c hand spent Idle (E1 r i w) ≡ Some (AtE1 r i w 0)
begins_put c hand spent r i w none ring index held =
    rw (none, lt-ltb r c.rings ring, lt-ltb i (n_of c.order) index, held) refl

-- the draw may be made
pub may_draw : (c : Setup) (v0 v : Known) (r i : ℕ) (w : List ℕ) → IsAlone v0 → v ≡ goes_to (my_phase v) v0 → IsToDraw r i w (my_phase v)
    → (my v0).part.spent ≡ None → holds_index (my v0).part.hand i ≡ true
    → r < c.rings → i < n_of c.order → MayTurn c v (AtE1 r i w (least_of (my_phase v)))
may_draw c v0 v r i w alone went (inl idle) none held ring index =
    let hand : (my v).part.hand ≡ (my v0).part.hand = ap (λ u. (my u).part.hand) went in
    let kept : (my v).part.spent ≡ (my v0).part.spent = ap (λ u. (my u).part.spent) went in
    let held_now : holds_index (my v).part.hand i ≡ true = ap (λ h. holds_index h i) hand ∙ held in
    let able : turn_at c (my v).part.hand (my v).part.spent Idle (E1 r i w) ≡ Some (AtE1 r i w 0) =
    begins_put c (my v).part.hand (my v).part.spent r i w (kept ∙ none) ring index held_now in
    let now : IsAlone v = alone_at v0 v (my_phase v) alone went in
    let zero_least : least_of (my_phase v) ≡ 0 = ap least_of idle in
    subst (λ l. MayTurn c v (AtE1 r i w l)) (sym zero_least) (record {
      member = my v;
      alone = now.seats;
      out = now.out;
      step = E1 r i w;
      enabled = subst (λ (p : Phase). turn_at c (my v).part.hand (my v).part.spent p (E1 r i w) ≡ Some (AtE1 r i w 0)) (sym idle) able;
    })
may_draw c v0 v r i w alone went (inr again) none held ring index =
    may_go c v (AtE1 r i w (least_of (my_phase v))) E1Again (alone_at v0 v (my_phase v) alone went) again refl

module _ {S : Type 0} (Lies : ℕ → S → List ℕ → Type 0) (c : Setup) (v0 : Known) (me later : Me S Known) (turn : Phase) (x r i : ℕ) (w : List ℕ) (l : ℕ) where
  pub drew_past : turn ≡ AtE1 r i w l → IsAlone v0 → me.0 ≡ goes_to (my_phase me.0) v0 → c.limit ≤ x → Turned Lies c turn me x later
      → later.0 ≡ spent_at r x true v0
  drew_past is alone went past turned =
      goes_as Lies c turn (AtE1 r i w l) me later x (spends r x true (my me.0).part) is (alone_at v0 me.0 (my_phase me.0) alone went)
      (λ y. rw (le-leb c.limit x past) refl) turned
      ∙ ap (spent_at r x true) went

  pub drew : turn ≡ AtE1 r i w l → IsAlone v0 → me.0 ≡ goes_to (my_phase me.0) v0 → x < c.limit → Turned Lies c turn me x later
      → later.0 ≡ goes_to (AtE2 r i w x 0) v0
  drew is alone went low turned =
      goes_as Lies c turn (AtE1 r i w l) me later x (goes_on (AtE2 r i w x 0) (my me.0).part) is (alone_at v0 me.0 (my_phase me.0) alone went)
      (λ y. rw (lt-leb c.limit x low) refl) turned
      ∙ ap (goes_to (AtE2 r i w x 0)) went

-- a put that looks at its ticket's slot
pub looks_as : (v : Known) (r i : ℕ) (w : List ℕ) (t l : ℕ) → my_phase v ≡ AtE2 r i w t l → IsLooking r t (my_phase v)
looks_as v r i w t l is = subst (λ (p : Phase). p ≡ AtE2 r (put_index p) (content_of p) t (least_of p)) (sym is) refl

-- the turn of a draw from a ring's Tail, with the slots that stood when the call began
pub turn_of_draw : {B : Type 0} {c : Setup} {ring : Ring} {slots : List (ℕ × SlotStanding B)} {i : ℕ} (contents : B → List ℕ) (me : Me (SlotStanding B) Known)
    → IsRing c ring → me.1 ≡ slots → front_index slots ≡ i
    → IsToDraw ring.number i (front_bytes contents slots) (my_phase me.0)
    → draw_turn contents c ring.tail me ≡ AtE1 ring.number i (front_bytes contents slots) (least_of (my_phase me.0))
turn_of_draw {c = c} {ring = ring} {slots = slots} {i = i} contents me is same first draws =
    draws_turn contents c ring.tail me ring.number i (front_bytes contents slots)
    (ap (ring_of_word c) is.tail ∙ ring_of_word-at c (tail_of ring.number) (is.low, tt)) (ap front_index same ∙ first) (ap (front_bytes contents) same)
    draws

-- what a draw tells of the ticket
pub drew_above : {S : Type 0} (Lies : ℕ → S → List ℕ → Type 0) (c : Setup) (v0 : Known) (me later : Me S Known) (turn : Phase) (x r i : ℕ) (w : List ℕ) (l : ℕ)
    → turn ≡ AtE1 r i w l → me.0 ≡ goes_to (my_phase me.0) v0
    → Turned Lies c turn me x later → (known : Numbers) → slice_get v0.numbers r ≡ Some known → known.seen < x
drew_above Lies c v0 me later turn x r i w l is went turned known e =
    let u = turned_as is turned in
    u.draws known (ap (λ (v : Known). slice_get v.numbers r) went ∙ e)

-- and of the seat: where the ticket is below the limit, and where it is not
pub record DrewFromTail {S : Type 0} (c : Setup) (v : Known) (slots : List (ℕ × S)) (x r i : ℕ) (w : List ℕ) (later : Me S Known) : Type 0 where
  pub within : x < c.limit → later.0 ≡ goes_to (AtE2 r i w x 0) v
  pub past : c.limit ≤ x → later.0 ≡ spent_at r x true v
  pub kept : later.1 ≡ slots
  pub above : (known : Numbers) → slice_get v.numbers r ≡ Some known → known.seen < x
  pub past_first : ring_slots c ≤ x

pub drew_from_tail : {S : Type 0} (Lies : ℕ → S → List ℕ → Type 0) (c : Setup) (v : Known) (slots : List (ℕ × S)) (me later : Me S Known) (turn : Phase)
    (x r i : ℕ) (w : List ℕ) (l : ℕ) → turn ≡ AtE1 r i w l → IsAlone v → me.0 ≡ goes_to (my_phase me.0) v → me.1 ≡ slots → Turned Lies c turn me x later
    → DrewFromTail c v slots x r i w later
drew_from_tail Lies c v slots me later turn x r i w l is alone went same turned =
    record {
      within = λ low. drew Lies c v me later turn x r i w l is alone went low turned;
      past = λ past. drew_past Lies c v me later turn x r i w l is alone went past turned;
      kept = (turned_as is turned).slots ∙ same;
      above = drew_above Lies c v me later turn x r i w l is went turned;
      past_first = (turned_as is turned).past_first;
    }
