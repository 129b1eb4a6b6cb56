-- The loop of E2 to E4: the exchange hits, or the entry has a higher rank than any that was found before.
use Rattle.std.proofs.Common.{◌≡◌, ◌≢◌, ℕ, ◌+◌, ◌-◌, ◌/◌, ◌^◌, ◌<◌, ◌≤◌, List, refl, ◌∙◌, ap, subst, arith, eq-eqb, ne_eqb}
use Rattle.std.proofs.Math.Nat.{div-le_self}
use Rattle.atomic_table.specs.Table.{Me, rest}
use Rattle.scq_word.specs.declared.setup.Setup.{Setup}
use Rattle.scq_word.specs.Exports.{n_of, rank_in}
use Rattle.scq_word.proofs.WordLemmas.{rank_in_range}
use Rattle.scq_word.proofs.EntryLemmas.{cycle_in_fits}
use Rattle.scq_core.specs.declared.phase.Phase.{Phase}
use Rattle.scq_core.specs.declared.phase.Phase.TheVariants.{AtE1, AtE2, AtE4, AtE5}
use Rattle.scq_core.specs.Exports.{ring_slots, goes_on, hand_without}
use Rattle.scq_band.specs.Known.{Known}
use Rattle.scq_band.specs.Exports.{Turned, my, my_phase, IsAlone, goes_to, placed_to, put_index, content_of}
use Rattle.scq_band.proofs.Outcomes.{goes_as, turned_as, higher}

module _ {S : Type 0} (Lies : ℕ → S → List ℕ → Type 0) (c : Setup) (me later : Me S Known) (turn : Phase) (x r i : ℕ) (w : List ℕ) (t e : ℕ) where
  pub saw_missed : turn ≡ AtE4 r i w t e → IsAlone me.0 → x ≢ e → Turned Lies c turn me x later
      → later.0 ≡ goes_to (AtE2 r i w t (rank_in (ring_slots c) x)) me.0
  saw_missed is alone miss turned =
      goes_as Lies c turn (AtE4 r i w t e) me later x (goes_on (AtE2 r i w t (rank_in (ring_slots c) x)) (my me.0).part) is alone
      (λ y. rw (ne_eqb x e miss) refl) turned

  -- the entry was as it was loaded: the index is in it
  pub hit : (v : Known) → turn ≡ AtE4 r i w t e → IsAlone me.0 → me.0 ≡ goes_to (AtE4 r i w t e) v → x ≡ e → Turned Lies c turn me x later
      → later.0 ≡ placed_to r i w t v
  hit v is alone here same turned =
      goes_as Lies c turn (AtE4 r i w t e) me later x (goes_on (AtE5 r i w t) (record (my me.0).part { hand = hand_without i (my me.0).part.hand })) is alone
      (λ y. rw (eq-eqb x e same) refl) turned
      ∙ ap (placed_to r i w t) here

  -- and its slot has gone with it, or stays
  pub hit_slots : turn ≡ AtE4 r i w t e → x ≡ e → Turned Lies c turn me x later → later.1 ≡ rest me.1
  hit_slots is same turned = (turned_as is turned).slots ∙ rw (eq-eqb x e same) refl

  pub missed_slots : turn ≡ AtE4 r i w t e → x ≢ e → Turned Lies c turn me x later → later.1 ≡ me.1
  missed_slots is miss turned = (turned_as is turned).slots ∙ rw (ne_eqb x e miss) refl

  pub missed_rises : turn ≡ AtE4 r i w t e → x ≢ e → Turned Lies c turn me x later → rank_in (ring_slots c) e < rank_in (ring_slots c) x
  missed_rises is miss turned = higher miss (turned_as is turned).found.above

-- the rank of a word of 64 bits is one
pub rank_fits : (c : Setup) (x : ℕ) → x < 2 ^ 64 → rank_in (ring_slots c) x < 2 ^ 64
rank_fits c x small =
    let o = c.order_in_range in
    let low = cycle_in_fits c.order (62 - c.order) x (omega arith) small in
    let le : 2 ^ 62 / n_of c.order ≤ 2 ^ 62 = div-le_self (2 ^ 62) (n_of c.order) in
    let top = (rank_in_range (ring_slots c) x).1 in
    omega arith

-- what load_vacant and exchange say of the seat, told of the view that the loop began with
pub room_then : (v w later : Known) (r i : ℕ) (content : List ℕ) (t l e : ℕ) → w ≡ goes_to (AtE2 r i content t l) v
    → later ≡ goes_to (AtE4 r (put_index (my_phase w)) (content_of (my_phase w)) t e) w → later ≡ goes_to (AtE4 r i content t e) v
room_then v w later r i content t l e first next =
    subst (λ (u : Known). later ≡ goes_to (AtE4 r (put_index (my_phase u)) (content_of (my_phase u)) t e) u) first next

pub no_room_then : (v w later : Known) (r i : ℕ) (content : List ℕ) (t l : ℕ) → w ≡ goes_to (AtE2 r i content t l) v
    → later ≡ goes_to (AtE1 r (put_index (my_phase w)) (content_of (my_phase w)) (t + 1)) w → later ≡ goes_to (AtE1 r i content (t + 1)) v
no_room_then v w later r i content t l first next =
    subst (λ (u : Known). later ≡ goes_to (AtE1 r (put_index (my_phase u)) (content_of (my_phase u)) (t + 1)) u) first next
