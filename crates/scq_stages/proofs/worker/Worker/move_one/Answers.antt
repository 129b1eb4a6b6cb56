use Rattle.std.proofs.Common.{rules, ◌≡◌, ◌∙◌, ap, arith, refl, suc, length, ◌<◌, ◌∷◌, []}
use Rattle.std.specs.List.{filter_map}
use Rattle.scq_core.specs.declared.ended.Ended.TheVariants.{Nothing}
use Rattle.scq_queue.specs.Exports.{sends_of, takes_of, PassStanding}
use Rattle.scq_passes.specs.Exports.{since, on}
use Rattle.scq_passes.proofs.PassLemmas.{found-none, found-past}
use Rattle.scq_stages.specs.Exports.{first, second, take_topic}
use Rattle.scq_files.proofs.Results.{err-of}
use Rattle.scq_stages.proofs.Finishing.{since-found, moved-nothing, helped-nothing, left-take, left-back}
use Rattle.scq_stages.proofs.Moved.{HasMovedOne, moved-took}
use Rattle.scq_stages.proofs.worker.Worker.move_one.Goals as goal
use Rattle.scq_stages.proofs.worker.Worker.move_one.Goals.{In_ok-move_on-in-Ok, In-Err-Empty}

-- it moved what it got
moved : (g : _) (c : In_ok-move_on-in-Ok g)
    → HasMovedOne c.args.self.now.pass c.move_on.new.self.pass c.args.self.now.members.items c.move_on.new.self.members.items
moved g c =
    let low : suc second < length c.args.self.now.pass.numbers = let n = c.requires.suits.numbers in omega arith in
    moved-took g.B.Buffer.contents c.in-Ok.field-0-0 c.args.self.now.pass c.take.new.pass c.move_on.new.self.pass c.in-Ok.held
    c.args.self.now.members.items c.move_on.new.self.members.items low c.in-Ok.ensures.took.got c.move_on.ensures.same.0
    (c.in_ok-move_on-in-Ok.ensures.moved, c.in_ok-move_on-in-Ok.ensures.passed_over)

found : (g : _) (c : In-Err-Empty g) → since c.args.self.now.pass c.take.new.pass ≡ Nothing (suc first) ∷ []
found g c = since-found first c.in-Err-Empty.field-0-0 c.args.self.now.pass c.take.new.pass (c.in-Err-Empty.ensures.empty c.in-Err-Empty.field-0-0 (cc)).found

pub returns-in_err-move_on-in-Ok-clause-left : goal.returns-in_err-move_on-in-Ok-clause-left
returns-in_err-move_on-in-Ok-clause-left g c =
    let p = c.args.self.now.pass in
    let r = c.move_on.new.self.pass in
    err-of _ c.from_residual.result c.in_err-move_on-in-Ok.field-0.0 (search rules)
    (λ messages.
    let back = c.in_err-move_on-in-Ok.ensures.back in
    left-back g.B.Buffer.contents messages first c.in-Ok.field-0-0 back.0 p c.take.new.pass r c.in-Ok.held _ c.in-Ok.ensures.took.got back.1 back.2)

pub returns-in_ok-move_on-in-Ok-clause-taken : goal.returns-in_ok-move_on-in-Ok-clause-taken
returns-in_ok-move_on-in-Ok-clause-taken g c = (moved g c).taken

pub returns-in_ok-move_on-in-Ok-clause-one : goal.returns-in_ok-move_on-in-Ok-clause-one
returns-in_ok-move_on-in-Ok-clause-one g c = (moved g c).one

pub returns-in_ok-move_on-in-Ok-clause-moves : goal.returns-in_ok-move_on-in-Ok-clause-moves
returns-in_ok-move_on-in-Ok-clause-moves g c = (moved g c).moves

pub returns-in_ok-move_on-in-Ok-clause-helped : goal.returns-in_ok-move_on-in-Ok-clause-helped
returns-in_ok-move_on-in-Ok-clause-helped g c = (moved g c).helped

pub returns-in-Err-Empty-clause-taken : goal.returns-in-Err-Empty-clause-taken
returns-in-Err-Empty-clause-taken g c =
    let low : suc first < length c.args.self.now.pass.numbers = let n = c.requires.suits.numbers in omega arith in
    found-none first c.in-Err-Empty.field-0-0 c.args.self.now.pass c.take.new.pass low (c.in-Err-Empty.ensures.empty c.in-Err-Empty.field-0-0 (cc)).found

pub returns-in-Err-Empty-clause-one : goal.returns-in-Err-Empty-clause-one
returns-in-Err-Empty-clause-one g c = ap (filter_map take_topic) (found g c)

pub returns-in-Err-Empty-clause-moves : goal.returns-in-Err-Empty-clause-moves
returns-in-Err-Empty-clause-moves g c =
    moved-nothing c.args.self.now.pass c.take.new.pass (ap (λ l. on first (takes_of l)) (found g c)) (ap (λ l. on second (sends_of l)) (found g c))

pub returns-in-Err-Empty-clause-helped : goal.returns-in-Err-Empty-clause-helped
returns-in-Err-Empty-clause-helped g c =
    helped-nothing c.args.self.now.pass c.take.new.pass c.args.self.now.members.items c.args.self.now.members.items
    (ap (λ l. on second (takes_of l)) (found g c)) refl

pub returns-in-Err-Empty-clause-last : goal.returns-in-Err-Empty-clause-last
returns-in-Err-Empty-clause-last g c is =
    let low : suc first < length c.args.self.now.pass.numbers = let n = c.requires.suits.numbers in omega arith in
    let empty = (c.in-Err-Empty.ensures.empty c.in-Err-Empty.field-0-0 (cc)).found in
    (ap (λ (x : PassStanding _). x.calls) empty.pass, found-past first c.in-Err-Empty.field-0-0 c.args.self.now.pass c.take.new.pass low empty)

pub returns-in-Err-Spent-clause-left : goal.returns-in-Err-Spent-clause-left
returns-in-Err-Spent-clause-left g c messages =
    left-take messages first c.in-Err-Spent.field-0-0 c.args.self.now.pass c.take.new.pass
    ((c.in-Err-Spent.ensures.spent c.in-Err-Spent.field-0-0 (cc)).drawn c.requires.suits.spent).0

pub returns-in_ok-move_on-in-Ok-clause-gates : goal.returns-in_ok-move_on-in-Ok-clause-gates
returns-in_ok-move_on-in-Ok-clause-gates g c =
    c.in_ok-move_on-in-Ok.ensures.gates ∙ ap (λ (x : PassStanding _). x.gates) c.in-Ok.ensures.took.got.pass

pub returns-in-Err-Empty-clause-gates : goal.returns-in-Err-Empty-clause-gates
returns-in-Err-Empty-clause-gates g c =
    let empty = (c.in-Err-Empty.ensures.empty c.in-Err-Empty.field-0-0 (cc)).found in
    ap (λ (x : PassStanding _). x.gates) empty.pass
