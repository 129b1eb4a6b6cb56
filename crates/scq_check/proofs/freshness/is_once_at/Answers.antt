use Rattle.std.proofs.Common.{refl, sym}
use Rattle.scq_hist.proofs.NamesLemmas.{first_is_new, named_there, names_there, read}
use Rattle.scq_check.proofs.freshness.is_once_at.Goals as goal

pub returns-in-Some : goal.returns-in-Some
returns-in-Some c =
    let at = names_there c.args.events.now c.args.e c.index-events-e.result c.in-Some.name (read _ _ _ _ c.requires.within c.index-events-e.is refl)
    (sym c.in-Some.ensures) in
    rw c.eq.ensures (first_is_new c.args.events.now c.args.e c.in-Some.name c.first_named.result at c.first_named.ensures)

pub returns-in-None : goal.returns-in-None
returns-in-None c = (
  λ _ name d at lt before.
      let n = named_there c.args.events.now c.args.e c.index-events-e.result name (read _ _ _ _ c.requires.within c.index-events-e.is refl) at in
      let k = c.in-None.ensures in absurd cc,
  λ _. refl,
)
