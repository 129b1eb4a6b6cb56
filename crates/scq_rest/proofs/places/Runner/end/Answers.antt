use Rattle.std.proofs.Common.{◌≡◌, ◌∙◌, sym, ap, subst}
use Rattle.scq_rest.specs.Exports.{given_to, task, HasBegun}
use Rattle.scq_rest.proofs.places.Runner.end.Goals as goal

-- a thread that was held back gave back what it was given
pub returns-in-Started-clause-done : goal.returns-in-Started-clause-done
returns-in-Started-clause-done g c =
    let t = task c.args.queue.now c.args.job.now c.args.crew.now g.S.Source in
    let was = c.args.self in
    let same : given_to was ≡ c.in-Unbegun.given = ap given_to c.in-Started.is ∙ sym c.in-Unbegun.ensures in
    c.finish.ensures (given_to was) (subst (λ w. HasBegun t w c.produce.new.self) (sym same) c.produce.ensures.begun)
