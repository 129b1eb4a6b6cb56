use Rattle.std.proofs.Common.{refl}
use Rattle.scq_hist.proofs.NamesLemmas.{read}
use Rattle.scq_judge.proofs.telling.event_at.Goals as goal

pub returns : goal.returns
returns c = read _ _ _ _ c.requires c.index-events-i.is refl
