use Rattle.std.proofs.Common.{◌≡◌, ◌∙◌, subst, ap, ℕ, ◌+◌, length}
use Rattle.std.specs.Prelude.{IfSome, IsSomeAnd}
use Rattle.scq_self.specs.Exports.{self_topics}
use Rattle.scq_work.specs.Exports.{NothingIsStranded}
use Rattle.scq_service.proofs.commands.self_run.answer_file.Goals as goal

-- what is promised of the queue speaks of the numbers of the job, which are those that the words ask for
pub returns-in-Ok-clause-left : goal.returns-in-Ok-clause-left
returns-in-Ok-clause-left g c =
    let job = c.job_of-job.result in
    let its = c.job_of-job.ensures in
    let end = c.work-result.result in
    let Left : ℕ → ℕ → ℕ → Type 0 = λ order topics workers. IfSome end.left (λ left. IsSomeAnd end.passes (λ passes. IsSomeAnd end.frames (λ frames.
    NothingIsStranded order topics workers passes.value.items frames.value.items left.items))) in
    let topics : length job.topics ≡ length self_topics = ap length (its.topics ∙ c.self_topics.ensures) in
    subst (λ n. Left 6 (length self_topics + 1) n) its.workers
    (subst (λ n. Left 6 (n + 1) job.workers) topics
    (subst (λ n. Left n (length job.topics + 1) job.workers) its.order c.work-result.ensures.end.none_stranded))
