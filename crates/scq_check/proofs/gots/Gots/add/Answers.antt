use Rattle.std.proofs.Common.{refl, sym, ◌∙◌}
use Rattle.scq_hist.proofs.NamesLemmas.{read}
use Rattle.scq_check.proofs.GotLemmas.{gots_more_none, gots_more_again, gots_more_first}
use Rattle.scq_check.proofs.gots.Gots.add.Goals as goal

pub returns-in_ok-set : goal.returns-in_ok-set
returns-in_ok-set c =
    gots_more_first _ _ _ _ _ _ (read _ _ _ _ c.requires.within c.index-events-e.is refl) (sym c.in-Some.ensures)
    (sym c.has.ensures ∙ c.if-not-has.true) c.in_ok-set.ensures c.requires.before

pub returns-else-not-has : goal.returns-else-not-has
returns-else-not-has c =
    gots_more_again _ _ _ _ _ (read _ _ _ _ c.requires.within c.index-events-e.is refl) (sym c.in-Some.ensures)
    (sym c.has.ensures ∙ c.if-not-has.false) c.requires.before

pub returns-in_default : goal.returns-in_default
returns-in_default c =
    gots_more_none _ _ _ _ (read _ _ _ _ c.requires.within c.index-events-e.is refl) (sym c.in_default.ensures) c.requires.before
