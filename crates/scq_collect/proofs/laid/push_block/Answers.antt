-- One block more, of these answers.
use Rattle.std.proofs.Common.{◌∙◌}
use Rattle.scq_collect.proofs.LaidLaws.{laid-push}
use Rattle.scq_collect.proofs.laid.push_block.Goals as goal

pub returns : goal.returns
returns c = λ members answers laid fits has.
    laid-push members answers c.args.blocks.now.items c.push.new.self.items _ c.in_ok-push.ensures.items laid
    (record { bytes = c.as_slice.ensures.value ∙ has.bytes; codable = fits; within = has.within })
