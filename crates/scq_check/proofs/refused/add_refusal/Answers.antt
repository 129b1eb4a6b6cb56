use Rattle.std.proofs.lemmas.Option.{slice_get_within}
use Rattle.scq_check.proofs.EndedLemmas.{spent_there}
use Rattle.scq_check.proofs.RefusedLemmas.{refusals_same, refusals_more}
use Rattle.scq_check.proofs.refused.add_refusal.Goals as goal

pub number-requires-clause-within : goal.number-requires-clause-within
number-requires-clause-within c = slice_get_within c.args.events.now _ _ c.in-Some.ensures.call.starts

pub returns-in_ok-set : goal.returns-in_ok-set
returns-in_ok-set c =
    refusals_more _ _ _ _ _ _ (spent_there _ _ _ _ c.in-Some.ensures c.number.ensures) c.in_ok-set.ensures c.requires.before

pub returns-in_default : goal.returns-in_default
returns-in_default c = refusals_same _ _ _ c.in_default.ensures c.requires.before
