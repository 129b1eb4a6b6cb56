use Rattle.std.proofs.Common.{refl}
use Rattle.scq_check.proofs.FullLemmas.{empties_none, empties_marked, empties_unmarked}
use Rattle.scq_check.proofs.full.empties.Goals as goal

pub returns-in-None : goal.returns-in-None
returns-in-None c = (λ t. absurd cc, λ e. absurd (empties_none _ _ _ c.in-None.ensures e))

pub returns-then-getters-s : goal.returns-then-getters-s
returns-then-getters-s c =
    rw c.if-getters-s.true (empties_marked _ _ _ _ c.args.getters.now c.in-Some.ensures.starts c.requires.within c.requires.getters c.if-getters-s.true)

pub returns-else-getters-s : goal.returns-else-getters-s
returns-else-getters-s c =
    empties_unmarked _ _ _ _ c.args.getters.now _ c.in-Some.ensures.starts c.requires.within c.requires.getters c.if-getters-s.false c.never_ends.ensures
