-- An earlier topic has the name exactly where `find` gives the number of one.
use Rattle.std.proofs.Common.{arith}
use Rattle.std.proofs.lemmas.Bool.Decides.{nat_tests}
use Rattle.scq_topics.specs.Exports.{has_name, entry_name}
use Rattle.scq_topics.proofs.Found.{list_any-position}
use Rattle.scq_topics.proofs.topics.Topics.declare.Goals as goal

pub returns-then-find-len-clause-refused : goal.returns-then-find-len-clause-refused
returns-then-find-len-clause-refused c =
    let any = list_any-position (has_name (entry_name c.args.entry.now)) c.args.self.now in
    grind (arith, nat_tests)

pub returns-clause-refused : goal.returns-clause-refused
returns-clause-refused c =
    let any = list_any-position (has_name (entry_name c.args.entry.now)) c.args.self.now in
    grind (arith, nat_tests)
