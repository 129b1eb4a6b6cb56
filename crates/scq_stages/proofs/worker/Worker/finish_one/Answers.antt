use Rattle.std.proofs.Common.{rules, ap, arith, refl, inl, suc, length, ◌<◌}
use Rattle.scq_queue.specs.Exports.{takes_of, PassStanding}
use Rattle.scq_passes.proofs.InRun.{only-along, only-back, only-got, only-nothing}
use Rattle.scq_passes.proofs.Taking.{found-nothing}
use Rattle.scq_passes.proofs.Vain.{vain-got}
use Rattle.scq_files.proofs.Results.{err-of}
use Rattle.scq_stages.proofs.Finishing.{since-took, since-found, finished-one, finished-nothing, took-one, found-one, left-take, left-back}
use Rattle.scq_stages.proofs.worker.Worker.finish_one.Goals as goal

pub returns-in_err-end_taken-in-Ok-clause-left : goal.returns-in_err-end_taken-in-Ok-clause-left
returns-in_err-end_taken-in-Ok-clause-left g c =
    let p = c.args.self.now.pass in
    let r = c.end_taken.new.self.pass in
    err-of _ c.from_residual.result c.in_err-end_taken-in-Ok.field-0.0 (search rules)
    (λ messages. left-back g.B.Buffer.contents messages c.args.topic c.in-Ok.place 0 p c.take.new.pass r c.in-Ok.held _ c.in-Ok.ensures.took.got
    (inl refl) c.in_err-end_taken-in-Ok.ensures.back)

pub returns-in_ok-end_taken-in-Ok-clause-taken : goal.returns-in_ok-end_taken-in-Ok-clause-taken
returns-in_ok-end_taken-in-Ok-clause-taken g c =
    let given = c.in_ok-end_taken-in-Ok.ensures.given in
    let low : suc c.args.topic < length c.args.self.now.pass.numbers = let n = c.requires.suits.numbers in omega (arith, n, c.requires.topic) in
    took-one g.B.Buffer.contents c.args.topic c.in-Ok.place given.0 c.args.self.now.pass c.take.new.pass c.end_taken.new.self.pass c.in-Ok.held low
    c.requires.topic c.in-Ok.ensures.took.got given.1 c.in-Ok.ensures.took.known

pub returns-in_ok-end_taken-in-Ok-clause-finished : goal.returns-in_ok-end_taken-in-Ok-clause-finished
returns-in_ok-end_taken-in-Ok-clause-finished g c fed =
    let given = c.in_ok-end_taken-in-Ok.ensures.given in
    let bytes = g.B.Buffer.contents c.in-Ok.held.buffer in
    let was = c.args.self.now in
    let now = c.end_taken.new.self in
    let calls = since-took g.B.Buffer.contents (suc c.args.topic) c.in-Ok.place 0 given.1.place given.0 was.pass c.take.new.pass now.pass c.in-Ok.held
    c.in-Ok.ensures.took.got given.1.pass in
    finished-one c.args.topic c.in-Ok.place given.1.place bytes given.0 was.pass now.pass was.members.items now.members.items c.requires.topic calls
    (c.end_taken.ensures.finished fed, c.end_taken.ensures.passed_over)

pub returns-in_ok-end_taken-in-Ok-clause-only : goal.returns-in_ok-end_taken-in-Ok-clause-only
returns-in_ok-end_taken-in-Ok-clause-only g c =
    let took = c.in-Ok.ensures.took.got in
    let given = c.in_ok-end_taken-in-Ok.ensures.given in
    only-along c.args.self.now.pass c.take.new.pass c.end_taken.new.self.pass (ap (λ (x : PassStanding _). x.number) took.pass)
    (only-got (suc c.args.topic) c.in-Ok.place c.args.self.now.pass c.take.new.pass c.in-Ok.held took (c.take.ensures.run c.requires.suits.spent))
    (only-back given.0 c.in-Ok.held.index c.take.new.pass c.end_taken.new.self.pass given.1 c.end_taken.ensures.run)

pub returns-in_ok-end_taken-in-Ok-clause-some : goal.returns-in_ok-end_taken-in-Ok-clause-some
returns-in_ok-end_taken-in-Ok-clause-some g c is =
    let given = c.in_ok-end_taken-in-Ok.ensures.given in
    let got = vain-got g.B.Buffer.contents c.args.topic c.in-Ok.place given.0 c.args.self.now.pass c.take.new.pass c.end_taken.new.self.pass c.in-Ok.held
    c.in-Ok.ensures.took.got given.1 in
    (record { rises = search rules; below = search rules; more = got.1 }, got.0)

pub returns-in-Err-Empty-clause-taken : goal.returns-in-Err-Empty-clause-taken
returns-in-Err-Empty-clause-taken g c =
    let low : suc c.args.topic < length c.args.self.now.pass.numbers = let n = c.requires.suits.numbers in omega (arith, n, c.requires.topic) in
    found-one c.args.topic c.in-Err-Empty.field-0-0 c.args.self.now.pass c.take.new.pass low (c.in-Err-Empty.ensures.empty c.in-Err-Empty.field-0-0 (cc)).found

pub returns-in-Err-Empty-clause-finished : goal.returns-in-Err-Empty-clause-finished
returns-in-Err-Empty-clause-finished g c fed =
    let calls = since-found c.args.topic c.in-Err-Empty.field-0-0 c.args.self.now.pass c.take.new.pass (c.in-Err-Empty.ensures.empty c.in-Err-Empty.field-0-0 (cc)).found in
    record { finished = finished-nothing c.args.self.now.pass c.take.new.pass c.args.self.now.members.items (ap takes_of calls); firsts = λ own. refl }

pub returns-in-Err-Empty-clause-none : goal.returns-in-Err-Empty-clause-none
returns-in-Err-Empty-clause-none g c is =
    let low : suc c.args.topic < length c.args.self.now.pass.numbers = let n = c.requires.suits.numbers in omega (arith, n, c.requires.topic) in
    found-nothing c.args.topic c.in-Err-Empty.field-0-0 c.args.self.now.pass c.take.new.pass low (c.in-Err-Empty.ensures.empty c.in-Err-Empty.field-0-0 (cc)).found

pub returns-in-Err-Empty-clause-only : goal.returns-in-Err-Empty-clause-only
returns-in-Err-Empty-clause-only g c =
    only-nothing (suc c.args.topic) c.in-Err-Empty.field-0-0 c.args.self.now.pass c.take.new.pass
    (c.in-Err-Empty.ensures.empty c.in-Err-Empty.field-0-0 (cc)).found (c.take.ensures.run c.requires.suits.spent)

pub returns-in-Err-Spent-clause-left : goal.returns-in-Err-Spent-clause-left
returns-in-Err-Spent-clause-left g c messages =
    left-take messages c.args.topic c.in-Err-Spent.field-0-0 c.args.self.now.pass c.take.new.pass
    ((c.in-Err-Spent.ensures.spent c.in-Err-Spent.field-0-0 (cc)).drawn c.requires.suits.spent).0
