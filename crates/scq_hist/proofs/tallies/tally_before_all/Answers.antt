use Rattle.scq_hist.proofs.TallyLemmas.{tokens_of_queue}
use Rattle.scq_hist.proofs.tallies.tally_before_all.Goals as goal

pub returns-then-queue-eq0-clause-tally : goal.returns-then-queue-eq0-clause-tally
returns-then-queue-eq0-clause-tally c = λ opening events t. tokens_of_queue opening events _ _ _ c.if-queue-eq0.true t
