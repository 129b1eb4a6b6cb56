use Rattle.scq_band.proofs.ring.Ring.head.Goals as goal

pub returns : goal.returns
returns c k is = c.head_word.ensures k c.args.self.now.number is.tail
