-- A get that has given its ticket up: it catches Tail up and leaves, or counts a failed attempt and goes on or ends.
use Rattle.std.proofs.Common.{◌≡◌, ◌≢◌, ℕ, ◌+◌, ◌<◌, ◌≤◌, true, false, List, refl, ◌∙◌, ap, eq-eqb, ne_eqb, le-leb}
use Rattle.std.proofs.lemmas.Bool.{lt-leb}
use Rattle.atomic_table.specs.Table.{Me}
use Rattle.scq_word.specs.declared.setup.Setup.{Setup}
use Rattle.scq_core.specs.declared.ended.Ended.TheVariants.{Nothing}
use Rattle.scq_core.specs.declared.phase.Phase.{Phase}
use Rattle.scq_core.specs.declared.phase.Phase.TheVariants.{AtD2, AtD6, AtD7, AtD8, AtD9, AtD10}
use Rattle.scq_core.specs.Exports.{zero_level, goes_on, ends}
use Rattle.scq_band.specs.declared.numbers.Numbers.{Numbers}
use Rattle.scq_band.specs.Exports.{changed, empties, Turned, my, IsAlone, with_part, at_phase, seated, goes_to, nothing_at}
use Rattle.scq_band.specs.Known.{Known}
use Rattle.scq_band.proofs.Outcomes.{goes_as}

module _ {S : Type 0} (Lies : ℕ → S → List ℕ → Type 0) (c : Setup) (me later : Me S Known) (turn : Phase) (x r h : ℕ) where
  -- the view of a get that found Tail at most one past its ticket: it has learned that nothing was left, and is to lift Tail
  pub saw_tail_low : turn ≡ AtD6 r h → IsAlone me.0 → x ≤ h + 1 → Turned Lies c turn me x later
      → later.0 ≡ seated (at_phase (AtD7 r h x (h + 1)) (my me.0)) (changed empties r me.0.numbers) me.0
  saw_tail_low is alone low turned =
      goes_as Lies c turn (AtD6 r h) me later x (goes_on (AtD7 r h x (h + 1)) (my me.0).part) is alone (λ y. rw (le-leb x (h + 1) low) refl) turned
      ∙ ap (λ (ns : List Numbers). seated (with_part (goes_on (AtD7 r h x (h + 1)) (my me.0).part) (my me.0)) ns me.0) (rw (le-leb x (h + 1) low) refl)

  pub saw_tail_high : turn ≡ AtD6 r h → IsAlone me.0 → h + 1 < x → Turned Lies c turn me x later → later.0 ≡ goes_to (AtD10 r h false) me.0
  saw_tail_high is alone high turned =
      goes_as Lies c turn (AtD6 r h) me later x (goes_on (AtD10 r h false) (my me.0).part) is alone (λ y. rw (lt-leb x (h + 1) high) refl) turned
      ∙ ap (λ (ns : List Numbers). seated (with_part (goes_on (AtD10 r h false) (my me.0).part) (my me.0)) ns me.0) (rw (lt-leb x (h + 1) high) refl)

  pub lift_missed : (from to : ℕ) → turn ≡ AtD7 r h from to → IsAlone me.0 → x ≢ from → Turned Lies c turn me x later → later.0 ≡ goes_to (AtD8 r h from) me.0
  lift_missed from to is alone miss turned =
      goes_as Lies c turn (AtD7 r h from to) me later x (goes_on (AtD8 r h from) (my me.0).part) is alone (λ y. rw (ne_eqb x from miss) refl) turned

  pub lift_hit : (from to : ℕ) → turn ≡ AtD7 r h from to → IsAlone me.0 → x ≡ from → Turned Lies c turn me x later → later.0 ≡ goes_to (AtD10 r h true) me.0
  lift_hit from to is alone hit turned =
      goes_as Lies c turn (AtD7 r h from to) me later x (goes_on (AtD10 r h true) (my me.0).part) is alone (λ y. rw (eq-eqb x from hit) refl) turned

  pub saw_head_again : (from : ℕ) → turn ≡ AtD8 r h from → IsAlone me.0 → Turned Lies c turn me x later → later.0 ≡ goes_to (AtD9 r h from x) me.0
  saw_head_again from is alone turned =
      goes_as Lies c turn (AtD8 r h from) me later x (goes_on (AtD9 r h from x) (my me.0).part) is alone (λ y. refl) turned

  pub saw_tail_again : (from to : ℕ) → turn ≡ AtD9 r h from to → IsAlone me.0 → x < to → Turned Lies c turn me x later → later.0 ≡ goes_to (AtD7 r h x to) me.0
  saw_tail_again from to is alone low turned =
      goes_as Lies c turn (AtD9 r h from to) me later x (goes_on (AtD7 r h x to) (my me.0).part) is alone (λ y. rw (lt-leb to x low) refl) turned

  pub saw_tail_past : (from to : ℕ) → turn ≡ AtD9 r h from to → IsAlone me.0 → to ≤ x → Turned Lies c turn me x later
      → later.0 ≡ goes_to (AtD10 r h true) me.0
  saw_tail_past from to is alone high turned =
      goes_as Lies c turn (AtD9 r h from to) me later x (goes_on (AtD10 r h true) (my me.0).part) is alone (λ y. rw (le-leb to x high) refl) turned

  pub left : (v : Known) → turn ≡ AtD10 r h true → IsAlone me.0 → me.0 ≡ goes_to (AtD10 r h true) (seated (my v) (changed empties r v.numbers) v)
      → Turned Lies c turn me x later → later.0 ≡ nothing_at r v
  left v is alone here turned =
      goes_as Lies c turn (AtD10 r h true) me later x (ends (Nothing r) (my me.0).part) is alone (λ y. refl) turned
      ∙ ap (λ (u : Known). seated (with_part (ends (Nothing r) (my u).part) (my u)) u.numbers u) here

  pub ran_out : (v : Known) → turn ≡ AtD10 r h false → IsAlone me.0 → me.0 ≡ goes_to (AtD10 r h false) v → x ≤ zero_level → Turned Lies c turn me x later
      → later.0 ≡ nothing_at r v
  ran_out v is alone here low turned =
      goes_as Lies c turn (AtD10 r h false) me later x (ends (Nothing r) (my me.0).part) is alone (λ y. rw (le-leb x zero_level low) refl) turned
      ∙ ap (λ (ns : List Numbers). seated (with_part (ends (Nothing r) (my me.0).part) (my me.0)) ns me.0) (rw (le-leb x zero_level low) refl)
      ∙ ap (nothing_at r) here

  pub goes_round : (v : Known) → turn ≡ AtD10 r h false → IsAlone me.0 → me.0 ≡ goes_to (AtD10 r h false) v → zero_level < x → Turned Lies c turn me x later
      → later.0 ≡ goes_to (AtD2 r (h + 1)) v
  goes_round v is alone here high turned =
      goes_as Lies c turn (AtD10 r h false) me later x (goes_on (AtD2 r (h + 1)) (my me.0).part) is alone (λ y. rw (lt-leb x zero_level high) refl) turned
      ∙ ap (λ (ns : List Numbers). seated (with_part (goes_on (AtD2 r (h + 1)) (my me.0).part) (my me.0)) ns me.0) (rw (lt-leb x zero_level high) refl)
      ∙ ap (goes_to (AtD2 r (h + 1))) here
