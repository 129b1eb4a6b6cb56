use Rattle.std.proofs.lemmas.Option.{MatchOption-at_none}
use Rattle.scq_hist.specs.declared.events.PutName.TheVariants.{Opening}
use Rattle.scq_check.proofs.tokens.token_at.Goals as goal

pub returns-in_default-3 : goal.returns-in_default-3
returns-in_default-3 c = record { none = λ number s lt g. (MatchOption-at_none _ _ c.in_default.is c.get_ending_at.ensures).none (Opening number) s g }
