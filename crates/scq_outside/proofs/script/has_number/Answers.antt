use Rattle.std.proofs.Common.{rules, tests}
use Rattle.std.specs.Prelude.{◌==◌}
use Rattle.std.proofs.lemmas.Iterator.{YieldsList-from_slice}
use Rattle.std.proofs.lemmas.Iterator.Search.{any_from_yields_List}
use Rattle.scq_outside.proofs.script.has_number.Goals as goal

pub returns : goal.returns
returns c = any_from_yields_List (λ k. k == c.args.number) _ _ c.any.result c.any.ensures.ran (YieldsList-from_slice c.args.numbers.now cc)
    (λ x b q k. search (rules, tests))
