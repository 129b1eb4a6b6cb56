use Rattle.scq_band.proofs.ring.Ring.threshold.Goals as goal

pub returns : goal.returns
returns c k is = c.threshold_word.ensures k c.args.self.now.number is.tail
