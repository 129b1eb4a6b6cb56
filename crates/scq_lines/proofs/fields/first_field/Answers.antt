use Rattle.scq_lines.proofs.Cutting.{fields_of-some, fields_of-none}
use Rattle.scq_lines.proofs.fields.first_field.Goals as goal

pub returns-in-Some : goal.returns-in-Some
returns-in-Some c = fields_of-some c.args.line.now c.in-Some.end c.in-Some.ensures

pub returns-in-None : goal.returns-in-None
returns-in-None c = fields_of-none c.args.line.now c.in-None.ensures
