use Rattle.scq_queue.specs.Exports.{Placed}
use Rattle.scq_worker.proofs.MemberLemmas.{so-far-answered, directs-kept}
use Rattle.scq_worker.proofs.worker.Worker.answer_taken.Goals as goal

pub returns-clause-takes : goal.returns-clause-takes
returns-clause-takes g c fed topic takes before =
    let take : Placed = record { topic = topic; place = c.args.place; bytes = c.args.bytes.now } in
    so-far-answered c.args.job.now.topics takes c.args.self.now.members c.answer_parts.new.self.members take (c.answer_parts.ensures.listed fed) before

pub returns-clause-directs : goal.returns-clause-directs
returns-clause-directs g c fed =
    let take : Placed = record { topic = 0; place = c.args.place; bytes = c.args.bytes.now } in
    directs-kept c.args.job.now.topics c.args.self.now.members c.answer_parts.new.self.members take (c.answer_parts.ensures.listed fed)
