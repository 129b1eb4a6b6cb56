use Rattle.std.proofs.Common.{◌∙◌}
use Rattle.scq_lines.proofs.Cutting.{fields_after-some, fields_after-none}
use Rattle.scq_lines.proofs.fields.next_field.Goals as goal

pub returns-in-Some : goal.returns-in-Some
returns-in-Some c = fields_after-some c.args.rest.now c.in-Some.space c.in-Some.ensures ∙ c.first_field.ensures

pub returns-in-None : goal.returns-in-None
returns-in-None c = fields_after-none c.args.rest.now c.in-None.ensures
