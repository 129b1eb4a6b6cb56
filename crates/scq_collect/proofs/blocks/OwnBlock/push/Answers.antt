-- The block has the bytes of one answer more, and its span one place more.
use Rattle.scq_collect.specs.Exports.{viewed_answer}
use Rattle.scq_collect.proofs.BlockLemmas.{has-more}
use Rattle.scq_collect.proofs.SpanLaws.{wider}
use Rattle.scq_collect.proofs.blocks.OwnBlock.push.Goals as goal

pub returns-clause-pushed : goal.returns-clause-pushed
returns-clause-pushed c = λ answers has at. record {
  bytes = has-more c.args.before c.args.self.now c.push_answer.new.block.items answers (viewed_answer c.args.answer) c.push_answer.ensures.bytes has at;
  within = wider c.args.self.now.span c.and-self.result (viewed_answer c.args.answer) answers c.place_at.result c.place_at.ensures c.and-self.ensures.least
      c.and-self.ensures.most has.within;
}
