-- What E2 and E3 make of a seat in the middle of a put, by what the entry and Head were.
use Rattle.std.proofs.Common.{◌≡◌, ℕ, ◌+◌, ◌<◌, Bool, true, false, ◌==◌, ◌&&◌, List, refl, sym, ◌∙◌, ap, subst, inl, inr, arith, eq-eqb}
use Rattle.std.specs.Prelude.{nat_lt, is_some}
use Rattle.std.specs.Cmp.Derive.{both_true}
use Rattle.std.proofs.lemmas.Bool.{cases_Bool, lt-ltb, lt-leb}
use Rattle.scq_word.specs.declared.entry.Entry.{Entry}
use Rattle.scq_word.specs.Exports.{slots_of, cycle_of, entry_in, index_unless_mark as index_of_word, safe_in, cycle_in, is_none_in}
use Rattle.atomic_table.specs.Table.{Me}
use Rattle.scq_word.specs.declared.setup.Setup.{Setup}
use Rattle.scq_core.specs.declared.phase.Phase.{Phase}
use Rattle.scq_core.specs.declared.phase.Phase.TheVariants.{AtE1, AtE2, AtE3, AtE4}
use Rattle.scq_core.specs.Exports.{ring_slots, cycle, goes_on}
use Rattle.scq_band.specs.Known.{Known}
use Rattle.scq_band.specs.Exports.{Turned, my, IsAlone, goes_to, IsPlainlyVacant}
use Rattle.scq_band.proofs.Outcomes.{goes_as}

-- what E2 tests
abbrev pub takes_an_index : Setup → ℕ → ℕ → Bool
takes_an_index c t x = nat_lt (cycle_in (ring_slots c) x) (cycle c t) && is_none_in (ring_slots c) x

module _ {S : Type 0} (Lies : ℕ → S → List ℕ → Type 0) (c : Setup) (me later : Me S Known) (turn : Phase) (x r i : ℕ) (w : List ℕ) where
  pub saw_vacant : (t l : ℕ) → turn ≡ AtE2 r i w t l → IsAlone me.0 → IsPlainlyVacant c t x → Turned Lies c turn me x later
      → later.0 ≡ goes_to (AtE4 r i w t x) me.0
  saw_vacant t l is alone vacant turned =
      let does : takes_an_index c t x ≡ true = both_true (lt-ltb _ _ vacant.earlier) vacant.none in
      let safe : (safe_in (ring_slots c) x == 1) ≡ true = eq-eqb _ _ vacant.safe in
      goes_as Lies c turn (AtE2 r i w t l) me later x (goes_on (AtE4 r i w t x) (my me.0).part) is alone (λ y. rw (does, safe) refl) turned

  -- Head was past the ticket
  pub saw_head_past : (t e : ℕ) (v : Known) → turn ≡ AtE3 r i w t e → IsAlone me.0 → me.0 ≡ goes_to (AtE3 r i w t e) v → t < x → Turned Lies c turn me x later
      → later.0 ≡ goes_to (AtE1 r i w (t + 1)) v
  saw_head_past t e v is alone here past turned =
      goes_as Lies c turn (AtE3 r i w t e) me later x (goes_on (AtE1 r i w (t + 1)) (my me.0).part) is alone (λ y. rw (lt-leb x t past) refl) turned
      ∙ ap (goes_to (AtE1 r i w (t + 1))) here

-- what the running tests of an entry say of its word
unset_index : (order x : ℕ) → is_some (index_of_word order x) ≡ false → is_none_in (slots_of order) x ≡ true
unset_index order x unset =
    elim (cases_Bool (is_none_in (slots_of order) x)) [
      | inl holds ↦ holds
      | inr fails ↦ let full : ◌≡◌ {A = Bool} true false = rw fails at unset in absurd (cc)
    ]

pub takes_one : (c : Setup) (order t x cyc : ℕ) (entry : Entry) → order ≡ c.order → entry ≡ entry_in order x → cyc ≡ cycle_of (slots_of order) t
    → entry.cycle < cyc → is_some entry.index ≡ false → takes_an_index c t x ≡ true
takes_one c order t x cyc entry same is drawn low unset =
    let a : entry.cycle ≡ cycle_in (slots_of order) x = ap (λ (e : Entry). e.cycle) is in
    let here : cycle_in (slots_of order) x < cycle_of (slots_of order) t = omega (arith, low, a, drawn) in
    let index : is_some (index_of_word order x) ≡ false = sym (ap (λ (e : Entry). is_some e.index) is) ∙ unset in
    subst (λ (o : ℕ). (nat_lt (cycle_in (slots_of o) x) (cycle_of (slots_of o) t) && is_none_in (slots_of o) x) ≡ true) same
    (both_true (lt-ltb _ _ here) (unset_index order x index))

pub is_unsafe : (c : Setup) (order x : ℕ) (entry : Entry) → order ≡ c.order → entry ≡ entry_in order x → entry.safe ≡ false
    → (safe_in (ring_slots c) x == 1) ≡ false
is_unsafe c order x entry same is unsafe =
    subst (λ (o : ℕ). (safe_in (slots_of o) x == 1) ≡ false) same (sym (ap (λ (e : Entry). e.safe) is) ∙ unsafe)
