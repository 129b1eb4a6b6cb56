use Rattle.scq_hist.proofs.TallyLemmas.{finished_more, finished_same}
use Rattle.scq_hist.proofs.tallies.tally_after.Goals as goal

pub returns-in-None-clause-tally : goal.returns-in-None-clause-tally
returns-in-None-clause-tally c = λ opening t. finished_same opening _ _ _ _ _ c.in-None.ensures t

pub returns-in-Some-clause-tally : goal.returns-in-Some-clause-tally
returns-in-Some-clause-tally c = λ opening t. finished_more opening _ _ _ _ _ _ _ c.in-Some.name c.in-Some.ensures (c.with_put.ensures.adds c.args.events.now c.in-Some.name c.get_of.ensures) t
