-- A put ends with Done, by E5 alone or by E5 and E6.
use Rattle.std.proofs.Common.{◌≡◌, ◌≢◌, ℕ, List, refl, ◌∙◌, ap, eq-eqb, ne_eqb}
use Rattle.atomic_table.specs.Table.{Me}
use Rattle.scq_word.specs.declared.setup.Setup.{Setup}
use Rattle.scq_core.specs.declared.phase.Phase.{Phase}
use Rattle.scq_core.specs.declared.phase.Phase.TheVariants.{AtE5, AtE6}
use Rattle.scq_core.specs.declared.ended.Ended.TheVariants.{Done}
use Rattle.scq_core.specs.Exports.{goes_on, ends, reset_level}
use Rattle.scq_band.specs.declared.numbers.Numbers.{Numbers}
use Rattle.scq_band.specs.Known.{Known}
use Rattle.scq_band.specs.Exports.{Turned, my, IsAlone, with_part, seated, goes_to, done_at}
use Rattle.scq_band.proofs.Outcomes.{goes_as}

module _ {S : Type 0} (Lies : ℕ → S → List ℕ → Type 0) (c : Setup) (me later : Me S Known) (turn : Phase) (x r i : ℕ) (w : List ℕ) (t : ℕ) where
  pub saw_other_level : turn ≡ AtE5 r i w t → IsAlone me.0 → x ≢ reset_level c → Turned Lies c turn me x later → later.0 ≡ goes_to (AtE6 r i w t) me.0
  saw_other_level is alone other turned =
      goes_as Lies c turn (AtE5 r i w t) me later x (goes_on (AtE6 r i w t) (my me.0).part) is alone (λ y. rw (ne_eqb x (reset_level c) other) refl) turned
      ∙ ap (λ (ns : List Numbers). seated (with_part (goes_on (AtE6 r i w t) (my me.0).part) (my me.0)) ns me.0) (rw (ne_eqb x (reset_level c) other) refl)

  pub saw_own_level : turn ≡ AtE5 r i w t → IsAlone me.0 → x ≡ reset_level c → Turned Lies c turn me x later → later.0 ≡ done_at r t w me.0
  saw_own_level is alone same turned =
      goes_as Lies c turn (AtE5 r i w t) me later x (ends (Done r t w) (my me.0).part) is alone (λ y. rw (eq-eqb x (reset_level c) same) refl) turned
      ∙ ap (λ (ns : List Numbers). seated (with_part (ends (Done r t w) (my me.0).part) (my me.0)) ns me.0) (rw (eq-eqb x (reset_level c) same) refl)

  pub was_reset : (v : Known) → turn ≡ AtE6 r i w t → IsAlone me.0 → me.0 ≡ goes_to (AtE6 r i w t) v → Turned Lies c turn me x later
      → later.0 ≡ done_at r t w v
  was_reset v is alone here turned =
      goes_as Lies c turn (AtE6 r i w t) me later x (ends (Done r t w) (my me.0).part) is alone (λ y. refl) turned ∙ ap (done_at r t w) here
