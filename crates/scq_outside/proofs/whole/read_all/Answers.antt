use Rattle.std.proofs.Common.{rules, ◌++◌, take, arith}
use Rattle.std.proofs.lemmas.Grind.{common_steps}
use Rattle.scq_outside.specs.Exports.{TookUntil}
use Rattle.scq_outside.specs.declared.read_all_fault.ReadAllFault.TheVariants.{NoMemory}
use Rattle.scq_outside.proofs.Taking.{took-more}
use Rattle.scq_outside.proofs.whole.read_all.Goals as goal

pub returns-in_err-map_err-clause-until : goal.returns-in_err-map_err-clause-until
returns-in_err-map_err-clause-until g c =
    let until : TookUntil c.args.most (g.S.Source.left c.args.source.now) (g.S.Source.left c.read.new.self) NoMemory = record {
      bytes = c.reads.bytes.items ++ take c.in_ok-count.count c.read.new.into;
      took = took-more _ _ _ _ _ c.reads.invariant.took c.in_ok-count.ensures.moved;
      count = grind (arith, common_steps);
    } in
    search rules
