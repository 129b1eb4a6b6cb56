use Rattle.std.proofs.Common.{arith, rules, tests}
use Rattle.std.proofs.lemmas.Bool.Decides.{nat_tests}
use Rattle.std.proofs.lemmas.Iterator.{YieldsList-from_slice}
use Rattle.std.proofs.lemmas.Iterator.Search.{all_from_yields_List}
use Rattle.scq_lines.specs.Exports.{is_lower_digit}
use Rattle.scq_lines.proofs.contents.is_hex.Goals as goal

pub returns-then-field-most : goal.returns-then-field-most
returns-then-field-most c =
    let each = all_from_yields_List is_lower_digit _ _ c.all.result c.all.ensures.ran (YieldsList-from_slice c.args.field.now cc)
    (λ x b q k. search (rules, tests)) in
    grind (arith, nat_tests)
