use Rattle.std.proofs.Common.{◌≤◌, ◌∙◌, ap, sym, subst, arith, ◌++◌, List, length, map}
use Rattle.std.specs.List.{All}
use Rattle.scq_collect.specs.declared.answered.Answered.{Answered}
use Rattle.scq_collect.specs.declared.answered.Way.TheVariants.{Direct}
use Rattle.scq_worker.specs.Exports.{parts_of_load, IsLoad, answered, answers_by}
use Rattle.scq_worker.specs.declared.worker.load.Load.TheVariants.{Together}
use Rattle.scq_worker.proofs.MemberLemmas.{answers-direct}
use Rattle.scq_worker.proofs.worker.Worker.answer_directly.Goals as goal

-- each part of a batch is on a known topic, so it is answered
pub returns-in-Together-clause-listed : goal.returns-in-Together-clause-listed
returns-in-Together-clause-listed g c fed =
    let job = c.args.job.now in
    let parts = c.in-Together.batch.now in
    let its : IsLoad job.size job.longest job.most c.args.topic (Together c.in-Together.batch) =
    subst (IsLoad job.size job.longest job.most c.args.topic) c.in-Together.is c.requires.load in
    let known : All (λ p. p.topic ≤ length job.topics) parts = λ k d less.
    let is = its.0.on_topic k d less in let low = c.requires.known in omega (arith, is, low) in
    c.answer_parts.ensures.listed fed
    ∙ ap (λ (l : List Answered). c.args.self.now.members ++ l)
    (ap (answers_by job.topics (Direct c.args.head)) c.bytes.ensures.parts ∙ answers-direct job.topics c.args.head parts known
    ∙ sym (ap (λ load. map (answered job.topics (Direct c.args.head)) (parts_of_load job.size load)) c.in-Together.is))
