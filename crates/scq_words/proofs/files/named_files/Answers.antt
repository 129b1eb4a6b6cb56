use Rattle.std.proofs.Common.{◌∙◌, ap, sym, eqb, length, rules, tests, ◌+◌}
use Rattle.std.specs.Prelude.{option_map}
use Rattle.std.proofs.lemmas.Iterator.{YieldsList-from_slice}
use Rattle.std.proofs.lemmas.Iterator.Search.{position_from_yields_List}
use Rattle.scq_words.proofs.Named.{position-names}
use Rattle.scq_words.specs.declared.fault.WordsFault.TheVariants.{NoName}
use Rattle.scq_words.proofs.files.named_files.Goals as goal

pub returns-in-Some-clause-refused : goal.returns-in-Some-clause-refused
returns-in-Some-clause-refused c =
    let found = position_from_yields_List (λ name. eqb (length name.now) 0) _ _ c.position.result c.position.ensures.ran
    (YieldsList-from_slice c.args.files.now cc) (λ x b q k. search (rules, tests)) in
    ap (option_map (λ at. NoName (at + 1))) (sym c.in-Some.is ∙ found ∙ position-names c.args.files.now)

pub returns-in-None-clause-refused : goal.returns-in-None-clause-refused
returns-in-None-clause-refused c =
    let found = position_from_yields_List (λ name. eqb (length name.now) 0) _ _ c.position.result c.position.ensures.ran
    (YieldsList-from_slice c.args.files.now cc) (λ x b q k. search (rules, tests)) in
    ap (option_map (λ at. NoName (at + 1))) (sym c.in-None.is ∙ found ∙ position-names c.args.files.now)
