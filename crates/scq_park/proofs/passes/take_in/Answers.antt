use Rattle.scq_park.proofs.Keeps.{leaves, joins}
use Rattle.scq_park.proofs.passes.take_in.Goals as goal

pub split_pass-whole-requires-clause-rule : goal.split_pass-whole-requires-clause-rule
split_pass-whole-requires-clause-rule c = leaves c.args.other.id c.args.other.me.0

pub join_pass-requires-clause-rule : goal.join_pass-requires-clause-rule
join_pass-requires-clause-rule c =
    joins c.args.pass.now.id c.args.pass.now.me.0 c.split_pass-whole.result.id c.split_pass-whole.result.me.0 c.requires.parts
