use Rattle.std.proofs.Common.{sym}
use Rattle.std.proofs.lemmas.Bool.{not-true, not-false}
use Rattle.scq_hist.proofs.NamesLemmas.{first_read, no_get_read, get_from_first}
use Rattle.scq_hist.proofs.gets.get_ending_at.Goals as goal

pub returns-then-ne : goal.returns-then-ne
returns-then-ne c =
    no_get_read _ _ _ _ _ c.requires.within c.index-events-e.is c.in_ok-name.ensures c.first_named.ensures (not-true _ (sym c.if-ne.ensures))

pub returns : goal.returns
returns c =
    let first = first_read _ _ _ _ _ c.requires.within c.index-events-e.is c.in_ok-name.ensures c.first_named.ensures (not-false _ (sym c.if-ne.ensures)) in
    get_from_first _ _ _ _ c.requires.lawful first c.in_ok-call_start.ensures
