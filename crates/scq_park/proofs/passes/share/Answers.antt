use Rattle.scq_park.proofs.Keeps.{shares}
use Rattle.scq_park.proofs.passes.share.Goals as goal

pub split_pass-requires-clause-rule : goal.split_pass-requires-clause-rule
split_pass-requires-clause-rule c = shares c.args.pass.now.id c.args.pass.now.me.0 c.requires.parts
