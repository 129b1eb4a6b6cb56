-- The loop of D3 to D5: an index is taken, the ticket is given up, or the entry has a higher rank than any that was found.
use Rattle.std.proofs.Common.{◌≡◌, ◌≢◌, ℕ, ◌<◌, ◌≤◌, false, List, refl, sym, ◌∙◌, ap, subst, inl, inr, arith, eq-eqb, ne_eqb, lt-ltb, le-ltb}
use Rattle.std.proofs.lemmas.Bool.{cases_eq, true≢false}
use Rattle.scq_word.specs.declared.entry.Entry.{Entry}
use Rattle.scq_word.specs.Exports.{n_of, slots_of, cycle_of, entry_in, IsIndexOrMark, cycle_in, rank_in, index_in, is_none_in}
use Rattle.atomic_table.specs.Table.{Me}
use Rattle.scq_word.specs.declared.setup.Setup.{Setup}
use Rattle.scq_core.specs.declared.phase.Phase.{Phase}
use Rattle.scq_core.specs.declared.phase.Phase.TheVariants.{AtD3, AtD4, AtD5, AtD6}
use Rattle.scq_core.specs.Exports.{ring_slots, cycle, goes_on}
use Rattle.scq_band.specs.Known.{Known}
use Rattle.scq_band.specs.Exports.{Turned, Takes, my, IsAlone, SeatHasGot, goes_to, got_at}
use Rattle.scq_band.proofs.Outcomes.{goes_as, turned_as, made_alone, higher}

apart_low : {a b : ℕ} → a < b → a ≢ b
apart_low less e = absurd (omega arith)

apart_high : {a b : ℕ} → b < a → a ≢ b
apart_high more e = absurd (omega arith)

below : {a b : ℕ} → b < a → b ≤ a
below more = omega arith

-- an entry's index that is there is one of the ring's
index_low : (c : Setup) (x : ℕ) → IsIndexOrMark c.order x → is_none_in (ring_slots c) x ≡ false → index_in (ring_slots c) x < n_of c.order
index_low c x (inl low) some = low
index_low c x (inr mark) some = let none = eq-eqb _ _ mark in absurd (true≢false (sym none ∙ some))

module _ {S : Type 0} (Lies : ℕ → S → List ℕ → Type 0) (c : Setup) (me later : Me S Known) (turn : Phase) (x r h : ℕ) where
  pub saw_own_cycle : (l : ℕ) → turn ≡ AtD3 r h l → IsAlone me.0 → cycle_in (ring_slots c) x ≡ cycle c h → Turned Lies c turn me x later
      → later.0 ≡ goes_to (AtD4 r h) me.0
  saw_own_cycle l is alone same turned =
      goes_as Lies c turn (AtD3 r h l) me later x (goes_on (AtD4 r h) (my me.0).part) is alone (λ y. rw (eq-eqb _ _ same) refl) turned

  pub saw_earlier : (l : ℕ) → turn ≡ AtD3 r h l → IsAlone me.0 → cycle_in (ring_slots c) x < cycle c h → Turned Lies c turn me x later
      → later.0 ≡ goes_to (AtD5 r h x) me.0
  saw_earlier l is alone low turned =
      goes_as Lies c turn (AtD3 r h l) me later x (goes_on (AtD5 r h x) (my me.0).part) is alone (λ y. rw (ne_eqb _ _ (apart_low low), lt-ltb _ _ low) refl)
      turned

  pub saw_later : (l : ℕ) → turn ≡ AtD3 r h l → IsAlone me.0 → cycle c h < cycle_in (ring_slots c) x → Turned Lies c turn me x later
      → later.0 ≡ goes_to (AtD6 r h) me.0
  saw_later l is alone high turned =
      goes_as Lies c turn (AtD3 r h l) me later x (goes_on (AtD6 r h) (my me.0).part) is alone (λ y. rw (ne_eqb _ _ (apart_high high), le-ltb _ _ (below high)) refl)
      turned

  -- the index of its ticket's entry was taken
  pub took : (v : Known) (slots : List (ℕ × S)) → turn ≡ AtD4 r h → IsAlone me.0 → me.0 ≡ goes_to (AtD4 r h) v → me.1 ≡ slots → Turned Lies c turn me x later
      → SeatHasGot Lies c r h (index_in (ring_slots c) x) (v, slots) later
  took v slots is alone here same turned =
      let u = turned_as is turned in
      let i = index_in (ring_slots c) x in
      record {
        content = u.beside;
        view = u.view ∙ made_alone c (AtD4 r h) x u.beside me.0 alone.seats ∙ ap (got_at r h i u.beside) here;
        slots = subst (λ (ss : List (ℕ × S)). Takes Lies i u.beside ss later.1) same u.slots;
        low = index_low c x u.ready u.stands;
        fits = u.fits;
        once = u.once;
      }

  pub passed_hit : (e : ℕ) → turn ≡ AtD5 r h e → IsAlone me.0 → x ≡ e → Turned Lies c turn me x later → later.0 ≡ goes_to (AtD6 r h) me.0
  passed_hit e is alone hit turned =
      goes_as Lies c turn (AtD5 r h e) me later x (goes_on (AtD6 r h) (my me.0).part) is alone (λ y. rw (eq-eqb x e hit) refl) turned

  pub passed_missed : (e : ℕ) → turn ≡ AtD5 r h e → IsAlone me.0 → x ≢ e → Turned Lies c turn me x later
      → later.0 ≡ goes_to (AtD3 r h (rank_in (ring_slots c) x)) me.0
  passed_missed e is alone miss turned =
      goes_as Lies c turn (AtD5 r h e) me later x (goes_on (AtD3 r h (rank_in (ring_slots c) x)) (my me.0).part) is alone (λ y. rw (ne_eqb x e miss) refl)
      turned

  pub passed_rises : (e : ℕ) → turn ≡ AtD5 r h e → x ≢ e → Turned Lies c turn me x later → rank_in (ring_slots c) e < rank_in (ring_slots c) x
  passed_rises e is miss turned = higher miss (turned_as is turned).found.above

-- an entry that is neither of the ticket's cycle nor of a later one
pub earlier_cycle_of : (c : Setup) (order t x cyc : ℕ) (entry : Entry) → order ≡ c.order → entry ≡ entry_in order x → cyc ≡ cycle_of (slots_of order) t
    → cycle_in (ring_slots c) x ≢ cycle c t → entry.cycle ≤ cyc → cycle_in (ring_slots c) x < cycle c t
earlier_cycle_of c order t x cyc entry same is drawn apart low =
    let a : entry.cycle ≡ cycle_in (slots_of order) x = ap (λ (e : Entry). e.cycle) is in
    let here : cycle_in (slots_of order) x ≤ cycle_of (slots_of order) t = omega (arith, low, a, drawn) in
    let le = subst (λ (o : ℕ). cycle_in (slots_of o) x ≤ cycle_of (slots_of o) t) same here in
    elim (cases_eq (cycle_in (ring_slots c) x) (cycle c t)) [ inl e ↦ absurd (apart e) | inr other ↦ omega (arith, other, le) ]

-- an entry of a later one
pub later_cycle_of : (c : Setup) (order t x cyc : ℕ) (entry : Entry) → order ≡ c.order → entry ≡ entry_in order x → cyc ≡ cycle_of (slots_of order) t
    → cyc < entry.cycle → cycle c t < cycle_in (ring_slots c) x
later_cycle_of c order t x cyc entry same is drawn high =
    let a : entry.cycle ≡ cycle_in (slots_of order) x = ap (λ (e : Entry). e.cycle) is in
    let here : cycle_of (slots_of order) t < cycle_in (slots_of order) x = omega (arith, high, a, drawn) in
    subst (λ (o : ℕ). cycle_of (slots_of o) t < cycle_in (slots_of o) x) same here
