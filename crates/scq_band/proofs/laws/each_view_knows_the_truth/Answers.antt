use Rattle.scq_band.specs.Exports.{LiesIn, opening_of}
use Rattle.scq_band.proofs.Knowing.{each_knows}
use Rattle.scq_band.proofs.laws.each_view_knows_the_truth.Goals as goal

pub returns : goal.returns
returns g c given setup = each_knows (LiesIn g.B.Buffer.contents g.B.Buffer.IsSameBuffer given) (opening_of g.B.Buffer.contents given) setup
