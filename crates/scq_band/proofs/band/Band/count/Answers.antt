use Rattle.scq_core.specs.Exports.{head_of, tail_of}
use Rattle.scq_band.proofs.RingLemmas.{tail_fits}
use Rattle.scq_band.proofs.Layouts.{at_low}
use Rattle.scq_band.proofs.band.Band.count.Goals as goal

pub head-requires : goal.head-requires
head-requires g c = tail_fits c.args.self.now.setup c.ring-words.result.now c.ring-words.ensures.ring

pub look_at-head-requires-clause-low : goal.look_at-head-requires-clause-low
look_at-head-requires-clause-low g c κs within =
    let k = c.args.self.now.setup in
    let of = c.ring-words.ensures.ring in
    rw (c.head.ensures k of) (at_low k (head_of c.ring-words.result.now.number) (of.low, tt))

pub look_at-tail-requires-clause-low : goal.look_at-tail-requires-clause-low
look_at-tail-requires-clause-low g c κs within =
    let k = c.args.self.now.setup in
    let of = c.ring-words.ensures.ring in
    rw of.tail (at_low k (tail_of c.ring-words.result.now.number) (of.low, tt))
