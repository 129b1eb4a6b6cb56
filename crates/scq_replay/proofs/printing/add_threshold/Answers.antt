use Rattle.std.proofs.Common.{◌≡◌, ℕ, ℤ, pos, ◌+ℤ◌, ◌-ℤ◌, sym, ◌∙◌, ap, arith}
use Rattle.std.proofs.Math.IntN.{+ℤ-neg_ℤ_cancel}
use Rattle.std.proofs.lemmas.Grind.{common_steps}
use Rattle.scq_core.specs.Exports.{zero_level}
use Rattle.scq_replay.specs.Exports.{threshold_value}
use Rattle.scq_replay.proofs.printing.add_threshold.Goals as goal

value_is : (value : ℤ) (word : ℕ) → value +ℤ pos zero_level ≡ pos word → value ≡ threshold_value word
value_is value word raised = sym (+ℤ-neg_ℤ_cancel value (pos zero_level)) ∙ ap (λ raised. raised -ℤ pos zero_level) raised

pub returns : goal.returns
returns c = rw (sym (value_is _ _ c.threshold.ensures)) (grind (arith, common_steps))
