use Rattle.std.proofs.Common.{ℕ, ◌==◌, not, rules}
use Rattle.std.proofs.lemmas.Fn.{filter_same}
use Rattle.scq_core.proofs.seat.take_out.Goals as goal

pub returns : goal.returns
returns c = filter_same _ (λ (held : ℕ). not (held == c.args.index)) _ (λ x b f k. search rules) _ _ c.retain.ensures.filtered
