use Rattle.scq_hist.specs.declared.events.PutName.TheVariants.{Of}
use Rattle.scq_check.proofs.order.put_got_at.Goals as goal

pub returns-in-None : goal.returns-in-None
returns-in-None c = record { none = λ s seat number queue start content get put. c.in-None.ensures.none (Of seat number) s get }
