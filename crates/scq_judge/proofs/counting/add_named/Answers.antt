use Rattle.std.proofs.Common.{◌∙◌, ap, refl, sym}
use Rattle.scq_hist.proofs.NamesLemmas.{read}
use Rattle.scq_judge.specs.Exports.{named_by}
use Rattle.scq_judge.proofs.CountLemmas.{seen_nothing, seen_again, seen_more}
use Rattle.scq_judge.proofs.counting.add_named.Goals as goal

pub returns-in-None : goal.returns-in-None
returns-in-None c =
    let at = read c.args.events.now c.args.e _ _ c.requires.within c.index-events-e.is refl in
    seen_nothing _ _ _ _ _ (ap (named_by c.args.named) at ∙ sym c.named_by.ensures ∙ c.in-None.is) c.requires.before

pub returns-then-has : goal.returns-then-has
returns-then-has c =
    let at = read c.args.events.now c.args.e _ _ c.requires.within c.index-events-e.is refl in
    seen_again _ _ _ _ _ _ (ap (named_by c.args.named) at ∙ sym c.named_by.ensures ∙ c.in-Some.is) (sym c.has.ensures ∙ c.if-has.true) c.requires.before

pub returns-in_ok-add-in-Some : goal.returns-in_ok-add-in-Some
returns-in_ok-add-in-Some c =
    let at = read c.args.events.now c.args.e _ _ c.requires.within c.index-events-e.is refl in
    seen_more _ _ _ _ _ _ _ (ap (named_by c.args.named) at ∙ sym c.named_by.ensures ∙ c.in-Some.is) (sym c.has.ensures ∙ c.if-has.false)
    c.in_ok-add-in-Some.ensures c.requires.before
