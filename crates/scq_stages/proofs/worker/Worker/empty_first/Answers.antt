use Rattle.std.proofs.Common.{rules, ◌≡◌, ◌∙◌, ap, sym, refl, [], length}
use Rattle.std.proofs.lemmas.List.{append-nil}
use Rattle.scq_queue.specs.Exports.{sends_of, takes_of, PassStanding}
use Rattle.scq_passes.specs.Exports.{on, since}
use Rattle.scq_passes.proofs.PassLemmas.{taken-nothing, taken-along}
use Rattle.scq_passes.proofs.Since.{since-of, since-takes}
use Rattle.scq_passes.proofs.LeftLemmas.{left-so-taken}
use Rattle.scq_stages.specs.Exports.{first, second, HasFewStageCalls}
use Rattle.scq_files.proofs.Results.{err-of}
use Rattle.scq_stages.proofs.AtWork.{work-done, work-left}
use Rattle.scq_stages.proofs.FewCalls.{few_calls-moved}
use Rattle.scq_stages.proofs.Finishing.{helped-nothing, helped-along, moved-nothing, moved-along}
use Rattle.scq_stages.proofs.worker.Worker.empty_first.Goals as goal

pub moves-init : goal.moves-init
moves-init g c =
    let p = c.args.self.now.pass in
    let none_ : since p p ≡ [] = since-of p p [] (sym (append-nil p.calls)) in
    record {
      taken = taken-nothing p;
      moves = moved-nothing p p (ap (λ l. on first (takes_of l)) none_) (ap (λ l. on second (sends_of l)) none_);
      helped = helped-nothing p p c.args.self.now.members.items c.args.self.now.members.items (ap (λ l. on second (takes_of l)) none_) refl;
      members = refl;
      starved = refl;
      gates = refl;
    }

pub moves-preserved : goal.moves-preserved
moves-preserved g c =
    let p = c.args.self.now.pass in
    let q = c.moves.self.pass in
    let r = c.move_one.new.self.pass in
    let inv = c.moves.invariant in
    let said = c.in_ok-move_one.ensures in
    let split = since-takes p q r inv.taken said.taken in
    record {
      taken = taken-along p q r inv.taken said.taken;
      moves = moved-along p q r split inv.moves said.moves;
      helped = helped-along p q r c.args.self.now.members.items c.moves.self.members.items c.move_one.new.self.members.items split inv.helped said.helped;
      members = c.move_one.ensures.same.0 ∙ inv.members;
      starved = c.move_one.ensures.same.1 ∙ inv.starved;
      gates = said.gates ∙ inv.gates;
    }

-- the last take found nothing
pub returns-clause-done : goal.returns-clause-done
returns-clause-done g c messages work =
    let was = c.args.self.now in
    let mid = c.moves.self in
    let now = c.move_one.new.self in
    let inv = c.moves.invariant in
    let said = c.in_ok-move_one.ensures in
    let split = since-takes was.pass mid.pass now.pass inv.taken said.taken in
    let last = c.move_one.ensures.last (cc) in
    work-done messages was.pass now.pass mid.pass.calls was.members.items now.members.items was.starved now.starved work
    (taken-along was.pass mid.pass now.pass inv.taken said.taken) (said.gates ∙ inv.gates) (moved-along was.pass mid.pass now.pass split inv.moves said.moves)
    (helped-along was.pass mid.pass now.pass was.members.items mid.members.items now.members.items split inv.helped said.helped)
    (λ fed. sym (c.move_one.ensures.same.1 ∙ inv.starved) ∙ fed) last.0 last.1

pub returns-in_err-move_one-clause-left : goal.returns-in_err-move_one-clause-left
returns-in_err-move_one-clause-left g c =
    let was = c.args.self.now in
    let mid = c.moves.self in
    let now = c.move_one.new.self in
    let taken = c.moves.invariant.taken in
    err-of _ c.from_residual.result c.in_err-move_one.field-0.0 (search rules)
    (λ messages work.
    let n = length messages in
    let kept = c.in_err-move_one.field-0.0.held in
    work-left c.args.queue.now messages n was.pass now.pass was.members.items was.starved kept work c.requires.suits.queue c.requires.stays
    (left-so-taken HasFewStageCalls n n n was.pass mid.pass now.pass kept taken (few_calls-moved n was.pass mid.pass taken)
    (c.in_err-move_one.ensures.left n)))

pub returns-in_err-move_one-clause-number : goal.returns-in_err-move_one-clause-number
returns-in_err-move_one-clause-number g c =
    let left = c.in_err-move_one.ensures.left 0 in
    left.own.1 ∙ ap (λ (x : PassStanding _). x.number) c.moves.invariant.taken.pass
