use Rattle.scq_check.proofs.GotLemmas.{first_or_none}
use Rattle.scq_check.proofs.gots.Gots.first.Goals as goal

pub returns : goal.returns
returns c = first_or_none _ _ _ _ c.get.ensures (c.requires.first c.args.name)
