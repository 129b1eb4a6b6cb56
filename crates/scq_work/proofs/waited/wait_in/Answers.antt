-- The passes were there when the queue was closed, and the crew is closed with all its stands.
use Rattle.std.proofs.Common.{◌≡◌, ◌∙◌, ◌+◌, ℕ, sym, ap, subst, List, length, map}
use Rattle.std.specs.Prelude.{IfSome, IsSomeAnd, Vec}
use Rattle.std.specs.Global.{Global}
use Rattle.std.proofs.lemmas.List.{length-map}
use Rattle.scq_block.specs.declared.frame.Frame.{Frame}
use Rattle.scq_queue.specs.Exports.{PassStanding, was_told}
use Rattle.scq_work.specs.Exports.{NothingIsStranded, EndsWork}
use Rattle.scq_rest.specs.Exports.{AreSettled, HaveWaited}
use Rattle.scq_files.specs.declared.desk.Desk.{Desk}
use Rattle.scq_worker.specs.Exports.{takes_behind, Seated}
use Rattle.scq_files.proofs.DeskLemmas.{still-dealt}
use Rattle.scq_desk.proofs.Settled.{some-and, some-of}
use Rattle.scq_rest.proofs.Settling.{have-waited}
use Rattle.scq_work.proofs.waited.wait_in.Goals as goal

pub wind_up-end-requires-clause-dealt : goal.wind_up-end-requires-clause-dealt
wind_up-end-requires-clause-dealt g c κs within =
    still-dealt 1 c.lay_out-laid.result.0.was.value.items c.lay_out-laid.result.1.items c.run_resting-desks.result.0.items c.run_resting-desks.ensures.count
    c.run_resting-desks.ensures.same c.lay_out-laid.ensures.dealt

-- the sources are those that were laid out
pub returns-clause-end : goal.returns-clause-end
returns-clause-end g c =
    let S = g.row.S.Denot in
    subst (λ (v : Vec S Global). EndsWork c.args.job.now g.S.Source v.items c.wind_up-end.result.0)
    c.lay_out-laid.ensures.laid.0 c.wind_up-end.ensures.end

pub returns-clause-waited : goal.returns-clause-waited
returns-clause-waited g c =
    let S = g.row.S.Denot in
    let job = c.args.job.now in
    let topics = length job.topics + 1 in
    let behind = takes_behind job.most in
    let ran = c.run_resting-desks.result.0.items in
    let stands = c.run_resting-desks.result.1.items in
    let end = c.wind_up-end.result.0 in
    let its = some-of end.passes (λ ps. ps.value.items ≡ map (λ (d : Desk (Seated Frame _) S). d.worker.worker.pass) ran) c.wind_up-end.ensures.there c.wind_up-end.ensures.passes in
    let passes = its.it.value.items in
    let Closed : List (PassStanding Frame) → List ℕ → Type 0 =
    λ ps l. IsSomeAnd end.frames (λ fs. NothingIsStranded job.order topics job.workers ps fs.value.items l) in
    let left = some-of end.left (λ l. IsSomeAnd end.passes (λ ps. Closed ps.value.items l.items))
    c.wind_up-end.ensures.closed c.wind_up-end.ensures.end.none_stranded in
    let closed = some-and end.frames _ (subst (λ o. IsSomeAnd o (λ ps. Closed ps.value.items left.it.items)) its.same left.holds) in
    let seats : length passes ≡ job.workers =
    ap length its.holds ∙ length-map ran (λ (d : Desk (Seated Frame _) S). d.worker.worker.pass) ∙ c.run_resting-desks.ensures.count ∙ c.lay_out-laid.ensures.count in
    let saw : c.wind_up-end.result.1.items ≡ map (λ (p : PassStanding Frame). was_told p.gate) passes =
    subst (λ o. IfSome o (λ ps. c.wind_up-end.result.1.items ≡ map (λ (p : PassStanding Frame). was_told p.gate) ps.value.items)) its.same c.wind_up-end.ensures.saw in
    let settled : AreSettled c.args.crew topics behind stands passes =
    subst (λ (ps : List (PassStanding Frame)). AreSettled c.args.crew topics behind stands ps) (sym its.holds) c.run_resting-desks.ensures.settled in
    subst (λ o. IsSomeAnd o (λ ps. HaveWaited topics behind job.workers ps.value.items c.wind_up-end.result.1.items c.close-rested.result.items)) (sym its.same)
    (have-waited topics behind job.workers c.args.crew stands passes c.wind_up-end.result.1.items c.close-rested.result.items settled closed.holds.shared.unspent seats saw
    c.close-rested.ensures.counts c.close-rested.ensures.woken)
