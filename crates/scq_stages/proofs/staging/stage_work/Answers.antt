-- The sources are those that were laid out.
use Rattle.std.proofs.Common.{◌≡◌, ℕ, sym, ap, subst, List}
use Rattle.std.specs.Prelude.{IfSome, IsSomeAnd, Vec}
use Rattle.std.specs.Global.{Global}
use Rattle.std.specs.List.{All}
use Rattle.scq_block.specs.Exports.{bytes_of}
use Rattle.scq_block.specs.declared.frame.Frame.{Frame}
use Rattle.scq_queue.specs.Exports.{PassStanding}
use Rattle.scq_passes.specs.Exports.{HasLeftSwept, IsGivenBack, NoneSpent}
use Rattle.scq_stages.specs.Exports.{NothingIsStranded, EndsStages}
use Rattle.scq_stages.proofs.DeskWorks.{passes_at}
use Rattle.scq_desk.proofs.Settled.{all-behind, some-and, some-of}
use Rattle.scq_stages.specs.declared.worker.Worker.{Worker}
use Rattle.scq_files.proofs.DeskLemmas.{still-dealt}
use Rattle.scq_stages.proofs.Starved.{stages-starved}
use Rattle.scq_stages.proofs.staging.stage_work.Goals as goal

pub wind_up-requires-clause-dealt : goal.wind_up-requires-clause-dealt
wind_up-requires-clause-dealt g c κs within =
    still-dealt 1 c.lay_out-laid.result.0.was.value.items c.lay_out-laid.result.1.items c.run_all-desks.result.items
    c.run_all-desks.ensures.count c.run_all-desks.ensures.same c.lay_out-laid.ensures.dealt

-- no source was read where memory was wanted for a queue
pub returns-in_default-clause-end : goal.returns-in_default-clause-end
returns-in_default-clause-end g c =
    let said = c.starved.ensures in
    stages-starved c.args.job.now g.S.Source c.args.sources.items c.starved.result (ap (λ v. v.items) said.sources) said.fault said.left.0

pub returns-in-Err-clause-end : goal.returns-in-Err-clause-end
returns-in-Err-clause-end g c =
    let said = c.starved-in-Err.ensures in
    stages-starved c.args.job.now g.S.Source c.args.sources.items c.starved-in-Err.result (ap (λ v. v.items) said.sources) said.fault said.left.0

-- the sources are those that were laid out
pub returns-in-Ok-make_queue-clause-end : goal.returns-in-Ok-make_queue-clause-end
returns-in-Ok-make_queue-clause-end g c =
    let S = g.row.S.Denot in
    subst (λ (v : Vec S Global). EndsStages c.args.job.now g.S.Source v.items c.wind_up.result) c.lay_out-laid.ensures.laid.0 c.wind_up.ensures.end

-- the passes were there when the queue was closed
pub returns-in-Ok-make_queue-clause-behind : goal.returns-in-Ok-make_queue-clause-behind
returns-in-Ok-make_queue-clause-behind g c =
    let job = c.args.job.now in
    let ran = c.run_all-desks.result.items in
    let end = c.wind_up.result in
    let said = c.wind_up.ensures in
    let P : PassStanding Frame → Type 0 = HasLeftSwept bytes_of IsGivenBack 2 64 in
    let its = some-of end.passes (λ ps. ps.value.items ≡ passes_at ran) said.there said.passes in
    let Closed : List (PassStanding Frame) → List ℕ → Type 0 =
    λ ps l. IsSomeAnd end.frames (λ fs. NothingIsStranded job.order job.workers ps fs.value.items l) in
    let left = some-of end.left (λ l. IsSomeAnd end.passes (λ ps. Closed ps.value.items l.items)) said.closed said.end.left in
    let closed = some-and end.frames _ (subst (λ o. IsSomeAnd o (λ ps. Closed ps.value.items left.it.items)) its.same left.holds) in
    let none : NoneSpent (passes_at ran) = subst (λ (ps : List (PassStanding Frame)). NoneSpent ps) its.holds closed.holds.shared.unspent in
    subst (λ o. IfSome o (λ ps. All P ps.value.items)) (sym its.same)
    (subst (λ (ps : List (PassStanding Frame)). All P ps) (sym its.holds) (all-behind (λ (w : Worker Frame _). w.pass) P ran c.run_all-desks.ensures.behind none))
