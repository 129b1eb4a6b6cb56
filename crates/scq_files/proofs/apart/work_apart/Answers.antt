-- A slice of the desks is lent, and written back whole.
use Rattle.std.proofs.Common.{◌∙◌, sym, subst, List}
use Rattle.std.specs.Fork.{ChangesEach}
use Rattle.scq_files.proofs.Lists.{written-back}
use Rattle.scq_files.proofs.apart.work_apart.Goals as goal

pub returns-clause-each : goal.returns-clause-each
returns-clause-each g c =
    let old = c.args.desks.items in
    let new = c.for_each_mut.new.s in
    let whole = written-back c.args.desks.len new old (c.for_each_mut.auto.s ∙ c.as_mut_slice.ensures.len) in
    subst (λ (ds : List _). ChangesEach g.F.Fn c.args.work.now old ds) (sym whole)
    (subst (λ (ds : List _). ChangesEach g.F.Fn c.args.work.now ds new) c.as_mut_slice.ensures.value c.for_each_mut.ensures)
