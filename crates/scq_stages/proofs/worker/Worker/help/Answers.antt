use Rattle.std.proofs.Common.{rules, ◌≡◌, ◌∙◌, refl, sym, ◌++◌, ◌∷◌, []}
use Rattle.scq_passes.specs.Exports.{since}
use Rattle.scq_passes.proofs.PassLemmas.{taken-along}
use Rattle.scq_passes.proofs.Since.{since-takes}
use Rattle.scq_passes.proofs.LeftLemmas.{left-so-taken}
use Rattle.scq_stages.specs.Exports.{first, second, HasFewStageCalls}
use Rattle.scq_files.proofs.Results.{err-of}
use Rattle.scq_stages.proofs.Moving.{moved-of}
use Rattle.scq_stages.proofs.FewCalls.{few_calls-moved}
use Rattle.scq_stages.proofs.Finishing.{helped-along, moved-along, topics-along}
use Rattle.scq_stages.proofs.worker.Worker.help.Goals as goal
use Rattle.scq_stages.proofs.worker.Worker.help.Goals.{In_ok-move_one}

-- the calls of both takes
both-calls : (g : _) (c : In_ok-move_one g) → since c.args.self.now.pass c.move_one.new.self.pass
    ≡ since c.args.self.now.pass c.finish_one.new.self.pass ++ since c.finish_one.new.self.pass c.move_one.new.self.pass
both-calls g c =
    since-takes c.args.self.now.pass c.finish_one.new.self.pass c.move_one.new.self.pass c.in_ok-finish_one.ensures.taken.taken c.in_ok-move_one.ensures.taken

pub returns-in_err-move_one-clause-left : goal.returns-in_err-move_one-clause-left
returns-in_err-move_one-clause-left g c =
    let p = c.args.self.now.pass in
    let q = c.finish_one.new.self.pass in
    let r = c.move_one.new.self.pass in
    let taken = moved-of p q c.in_ok-finish_one.ensures.taken.taken in
    err-of _ c.from_residual-in_err-move_one.result c.in_err-move_one.field-0.0 (search rules)
    (λ messages. left-so-taken HasFewStageCalls messages messages messages p q r _ taken (few_calls-moved messages p q taken)
    (c.in_err-move_one.ensures.left messages))

pub returns-clause-taken : goal.returns-clause-taken
returns-clause-taken g c =
    let p = c.args.self.now.pass in
    let q = c.finish_one.new.self.pass in
    taken-along p q c.move_one.new.self.pass (moved-of p q c.in_ok-finish_one.ensures.taken.taken) c.in_ok-move_one.ensures.taken

pub returns-clause-each : goal.returns-clause-each
returns-clause-each g c =
    topics-along c.args.self.now.pass c.finish_one.new.self.pass c.move_one.new.self.pass (second ∷ []) (first ∷ []) (both-calls g c)
    c.in_ok-finish_one.ensures.taken.one c.in_ok-move_one.ensures.one

pub returns-clause-moves : goal.returns-clause-moves
returns-clause-moves g c =
    moved-along c.args.self.now.pass c.finish_one.new.self.pass c.move_one.new.self.pass (both-calls g c) (c.in_ok-finish_one.ensures.taken.moves refl)
    c.in_ok-move_one.ensures.moves

pub returns-clause-helped : goal.returns-clause-helped
returns-clause-helped g c fed =
    let mid = c.finish_one.new.self in
    let its = c.in_ok-finish_one.ensures.finished (sym c.move_one.ensures.same.1 ∙ fed) in
    helped-along c.args.self.now.pass mid.pass c.move_one.new.self.pass c.args.self.now.members.items mid.members.items c.move_one.new.self.members.items
    (both-calls g c) (record { seconds = its.finished.seconds; firsts = its.firsts refl; directs = its.finished.directs }) c.in_ok-move_one.ensures.helped

pub returns-clause-gates : goal.returns-clause-gates
returns-clause-gates g c = c.in_ok-move_one.ensures.gates ∙ c.in_ok-finish_one.ensures.only.gates
