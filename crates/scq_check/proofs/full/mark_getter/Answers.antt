use Rattle.std.proofs.Common.{refl, sym, ◌∙◌}
use Rattle.scq_hist.proofs.NamesLemmas.{read}
use Rattle.scq_check.proofs.FullLemmas.{getters_by, getters_unless}
use Rattle.scq_check.proofs.full.mark_getter.Goals as goal

pub returns-then-is_some : goal.returns-then-is_some
returns-then-is_some c =
    getters_by _ _ _ _ _ c.got_name.result _ c.requires.event.lawful (read _ _ _ _ c.requires.event.within c.index-events-e.is refl) c.got_name.ensures
    (sym c.is_some.ensures ∙ c.if-is_some.true) c.call_of-start.ensures c.requires.before

pub returns-else-is_some : goal.returns-else-is_some
returns-else-is_some c =
    getters_unless _ _ _ c.got_name.result _ (read _ _ _ _ c.requires.event.within c.index-events-e.is refl) c.got_name.ensures
    (sym c.is_some.ensures ∙ c.if-is_some.false) c.requires.before
