use Rattle.scq_c.proofs.Somes.{some_and_at, none_and}
use Rattle.scq_c.proofs.exports.scq_lend_index.Goals as goal

pub returns-in-Some-clause-closed : goal.returns-in-Some-clause-closed
returns-in-Some-clause-closed c none = let got = c.replace_with.ensures.0 none in absurd (cc)

pub returns-in-Some-clause-answered : goal.returns-in-Some-clause-answered
returns-in-Some-clause-answered c x was =
    let got = c.replace_with.ensures.1 x was in
    (got.0, got.1, c.tell_lend.ensures x got.0 (some_and_at _ _ _ got.2 c.in-Some.is))

pub returns-in-None-clause-answered : goal.returns-in-None-clause-answered
returns-in-None-clause-answered c x was =
    let got = c.replace_with.ensures.1 x was in
    absurd (none_and _ _ got.2 c.in-None.is)
