use Rattle.std.proofs.Common.{arith, map}
use Rattle.scq_rest.specs.Exports.{HasBegun, HasDone, given_to, HasWork}
use Rattle.scq_rest.proofs.PlaceLemmas.{replaced-next}
use Rattle.scq_rest.proofs.places.finish_all.Goals as goal

pub places-preserved : goal.places-preserved
places-preserved g c =
    replaced-next (HasWork HasBegun c.args.queue.now c.args.job.now c.args.crew.now g.S.Source)
    (HasWork HasDone c.args.queue.now c.args.job.now c.args.crew.now g.S.Source) given_to
    (map given_to c.args.places.now) c.places.places c.places.place-index c.finish.new.self c.place-item.result c.places.invariant (omega arith)
    c.finish.ensures.given c.finish.ensures.stands
