use Rattle.std.proofs.Common.{arith, rules, tests}
use Rattle.std.proofs.lemmas.Bool.Decides.{nat_tests}
use Rattle.std.proofs.lemmas.Iterator.{YieldsList-from_slice}
use Rattle.std.proofs.lemmas.Iterator.Search.{all_from_yields_List}
use Rattle.scq_topics.specs.Exports.{is_name_byte}
use Rattle.scq_topics.proofs.entry.is_name.Goals as goal

pub returns-then-name-le-MOST_NAME : goal.returns-then-name-le-MOST_NAME
returns-then-name-le-MOST_NAME c =
    let each = all_from_yields_List is_name_byte _ _ c.all.result c.all.ensures.ran (YieldsList-from_slice c.args.name.now cc)
    (λ x b q k. search (rules, tests)) in
    grind (arith, nat_tests)
