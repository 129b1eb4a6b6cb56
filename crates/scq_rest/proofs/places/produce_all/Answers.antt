use Rattle.std.proofs.Common.{◌∙◌, arith, map}
use Rattle.scq_rest.specs.Exports.{HasBegun, given_to, here, HasWork, IsUntouched}
use Rattle.scq_rest.proofs.PlaceLemmas.{replaced-next, sum-from-all, sum-from-next}
use Rattle.scq_rest.proofs.places.produce_all.Goals as goal

-- it is counted among those that are awaited
pub produce-requires-clause-awaited : goal.produce-requires-clause-awaited
produce-requires-clause-awaited g c κs within =
    let next = sum-from-next here c.places.places c.places.place-index c.place-item.result c.place-item.result (omega arith) in
    omega (arith, next, c.places.invariant.1)

pub returns-clause-none : goal.returns-clause-none
returns-clause-none g c = c.places.invariant.1 ∙ sum-from-all here c.places.places c.places.place-index (omega arith)

pub places-preserved : goal.places-preserved
places-preserved g c =
    let gone = sum-from-next here c.places.places c.places.place-index c.produce.new.self c.place-item.result (omega arith) in (
      replaced-next (HasWork IsUntouched c.args.queue.now c.args.job.now c.args.crew.now g.S.Source)
          (HasWork HasBegun c.args.queue.now c.args.job.now c.args.crew.now g.S.Source) given_to
          (map given_to c.args.places.now) c.places.places c.places.place-index c.produce.new.self c.place-item.result c.places.invariant.0 (omega arith)
          c.produce.ensures.given c.produce.ensures.stands,
      omega (arith, gone, c.places.invariant.1, c.produce.ensures.awaited),
    )
