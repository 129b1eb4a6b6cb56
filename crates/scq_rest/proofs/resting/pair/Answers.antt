use Rattle.std.proofs.Common.{◌≡◌, ◌∙◌, sym, ap, List, ◌∷◌, ◌++◌, [], reverse}
use Rattle.std.proofs.lemmas.List.{reverse-reverse}
use Rattle.scq_passes.proofs.Parting.{turned}
use Rattle.scq_rest.proofs.resting.pair.Goals as goal

-- the reverse of a list, taken apart at its last element
parted : {X : Type 0} (all turned_ rest : List X) (x : X) (xs : List X) → turned_ ≡ reverse all → turned_ ≡ rest ++ x ∷ [] → xs ≡ reverse rest
    → all ≡ x ∷ xs
parted all turned_ rest x xs is last others =
    sym (ap reverse is ∙ reverse-reverse all) ∙ turned turned_ rest x last ∙ ap (λ l. x ∷ l) (sym others)

pub returns-clause-desks : goal.returns-clause-desks
returns-clause-desks g c =
    parted c.args.desks.now.items c.reverse.new.self.items c.pair_last-first.new.desks.items c.pair_last-first.result.desk _ c.reverse.ensures.items
    c.pair_last-first.ensures.desk c.pair_all.ensures.desks

pub returns-clause-stands : goal.returns-clause-stands
returns-clause-stands g c =
    parted c.args.stands.now.items c.reverse-2.new.self.items c.pair_last-first.new.stands.items c.pair_last-first.result.stand _ c.reverse-2.ensures.items
    c.pair_last-first.ensures.stand c.pair_all.ensures.stands
