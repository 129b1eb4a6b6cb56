use Rattle.std.proofs.Common.{rules, ◌≡◌, ◌≤◌, ◌<◌, ◌+◌, ◌++◌, ◌∷◌, ◌∙◌, ap, sym, subst, arith, ℕ, suc, List, [], length, None}
use Rattle.std.specs.Prelude.{Bool}
use Rattle.std.specs.List.{filter_map}
use Rattle.scq_block.specs.Exports.{bytes_of}
use Rattle.scq_block.specs.declared.frame.Frame.{Frame}
use Rattle.scq_queue.specs.Exports.{PassStanding}
use Rattle.scq_passes.specs.Exports.{Suits, HasFoundFull, HasSentSo, HasLeftSo, since}
use Rattle.scq_passes.proofs.PassLemmas.{found-full, suits-taken, lent-and-sent}
use Rattle.scq_passes.proofs.LeftLemmas.{left-so-at-get, left-so-full}
use Rattle.scq_passes.proofs.ManyLists.{one-of-all}
use Rattle.scq_stages.specs.declared.finished.Finished.{Finished}
use Rattle.scq_stages.specs.Exports.{first, second, take_topic, SendsToFirst, HasTakenOrMoved, HasMovedIts, HasFinishedOnlySeconds}
use Rattle.scq_stages.specs.Exports.{HasFewStageCalls, IsAtWork}
use Rattle.scq_desk.proofs.Passes.{suits-full}
use Rattle.scq_files.proofs.Results.{err-of}
use Rattle.scq_stages.proofs.AtWork.{work-sent, work-helped, left-sent, work-stopped}
use Rattle.scq_stages.proofs.FewCalls.{few_calls-full, few_calls-more, few_calls-at_get}
use Rattle.scq_stages.proofs.reading.WorkerFrameHandlerCallsUnit.handle.Goals as goal
use Rattle.scq_stages.proofs.reading.WorkerFrameHandlerCallsUnit.handle.Goals.{After-finish_directly}

-- each buffer that the queue was given has room for a message, and so has the same buffer once it is lent
pub send_in-requires-clause-room : goal.send_in-requires-clause-room
send_in-requires-clause-room c =
    let given = c.in-Ok.ensures.lent.given in
    let room = one-of-all (λ (b : Frame). c.args.with.now.job.now.size + 24 ≤ length b.bytes.items) c.args.with.now.queue.now.given c.in-Ok.held.index
    given.first c.requires.ready.2 given.was in
    omega (arith, room, given.same.size)

-- the send met Spent
pub returns-in_err-send_in-in-Ok-clause-stopped : goal.returns-in_err-send_in-in-Ok-clause-stopped
returns-in_err-send_in-in-Ok-clause-stopped c =
    let m = c.args.message.now in
    let queue = c.args.with.now.queue.now in
    let was = c.args.self.now in
    let now = c.send_in.new.self in
    let said = c.in_err-send_in-in-Ok.ensures in
    let kept = c.in_err-send_in-in-Ok.field-0.0.held in
    let left : (n : ℕ) → HasLeftSo HasFewStageCalls n (n + 1) was.pass now.pass kept = λ n.
    left-sent bytes_of n was.pass c.lend.new.pass now.pass c.in-Ok.held kept c.in-Ok.ensures.lent.lent said.back in
    err-of _ c.from_residual.result c.in_err-send_in-in-Ok.field-0.0 (search rules)
    (record {
      left = λ before at. work-stopped queue before m was.pass now.pass was.members.items was.starved kept at c.requires.ready.0.queue
          c.requires.ready.1 (left (length before));
      still = record { fed = λ fed. sym said.same.1 ∙ fed; number = (left 0).own.1 };
    })

-- it sent the message
pub returns-in_ok-send_in-in-Ok-clause-handled : goal.returns-in_ok-send_in-in-Ok-clause-handled
returns-in_ok-send_in-in-Ok-clause-handled c =
    let m = c.args.message.now in
    let was = c.args.self.now in
    let now = c.send_in.new.self in
    let said = c.in_ok-send_in-in-Ok.ensures.sent in
    let within : suc first < length was.pass.numbers = let n = c.requires.ready.0.numbers in omega arith in
    let sent : HasSentSo first (SendsToFirst m) was.pass now.pass =
    lent-and-sent bytes_of first (SendsToFirst m) said.0 said.1 was.pass c.lend.new.pass now.pass c.in-Ok.held within c.in-Ok.ensures.lent.lent
    said.2 said.3 in
    let same = c.in_ok-send_in-in-Ok.ensures.same in
    record {
      suits = search rules;
      stays = search rules;
      work = λ before at.
          subst (λ (starved : Bool). IsAtWork (before ++ m ∷ []) now.pass now.members.items starved) (sym same.1)
          (subst (λ (members : List Finished). IsAtWork (before ++ m ∷ []) now.pass members was.starved) (sym same.0)
          (work-sent before m was.pass now.pass was.members.items was.starved at within sent));
      still = record { fed = λ fed. sym same.1 ∙ fed; number = ap (λ (x : PassStanding _). x.number) sent.pass };
    }

-- the lend met Spent
pub returns-in-Err-Spent-clause-stopped : goal.returns-in-Err-Spent-clause-stopped
returns-in-Err-Spent-clause-stopped c =
    let was = c.args.self.now in
    let q = c.lend.new.pass in
    let spent = ((c.in-Err-Spent.ensures.spent c.in-Err-Spent.field-0-0 (cc)).drawn c.requires.ready.0.spent).0 in
    let left : (n : ℕ) → HasLeftSo HasFewStageCalls n (n + 1) was.pass q None = λ n.
    left-so-at-get HasFewStageCalls n (n + 1) 0 c.in-Err-Spent.field-0-0 was.pass q spent
    (λ few. few_calls-more 1 1 n (n + 1) q (omega arith) (omega arith) (few_calls-at_get n 0 c.in-Err-Spent.field-0-0 was.pass q spent few)) in
    record {
      left = λ before at. work-stopped c.args.with.now.queue.now before c.args.message.now was.pass q was.members.items was.starved None at
          c.requires.ready.0.queue c.requires.ready.1 (left (length before));
      still = record { fed = λ fed. fed; number = (left 0).own.1 };
    }

-- no buffer was free: the pass suits still
full-at : (c : After-finish_directly) → HasFoundFull c.in-Err-Full.head c.args.self.now.pass c.lend.new.pass
full-at c =
    let some_ : 0 < length c.args.self.now.pass.numbers = let n = c.requires.ready.0.numbers in omega arith in
    found-full c.in-Err-Full.head c.args.self.now.pass c.lend.new.pass some_ (c.in-Err-Full.ensures.full c.in-Err-Full.head (cc)).found

pub help-requires-clause-suits : goal.help-requires-clause-suits
help-requires-clause-suits c κs =
    let full = full-at (goal.at.help-requires-clause-suits c).After-finish_directly in
    subst (λ (q : PassStanding _). Suits c.args.with.now.queue.now 1 q) (sym c.finish_directly.ensures.same)
    (suits-full c.args.with.now.queue.now 1 c.in-Err-Full.head c.args.self.now.pass c.lend.new.pass c.requires.ready.0 full)

pub help-requires-clause-stays : goal.help-requires-clause-stays
help-requires-clause-stays c κs =
    let full = full-at (goal.at.help-requires-clause-stays c).After-finish_directly in
    ap (λ (x : PassStanding _). x.retired) c.finish_directly.ensures.same ∙ ap (λ (x : PassStanding _). x.retired) full.pass ∙ c.requires.ready.1

-- the help met Spent
pub returns-in_err-help-in-Err-Full-clause-stopped : goal.returns-in_err-help-in-Err-Full-clause-stopped
returns-in_err-help-in-Err-Full-clause-stopped c =
    let m = c.args.message.now in
    let queue = c.args.with.now.queue.now in
    let was = c.args.self.now in
    let q = c.lend.new.pass in
    let now = c.help.new.self in
    let full = full-at (goal.at.returns-in_err-help-in-Err-Full-clause-stopped c).After-finish_directly in
    let kept = c.in_err-help-in-Err-Full.field-0.0.held in
    let left : (n : ℕ) → HasLeftSo HasFewStageCalls n (n + 1) was.pass now.pass kept = λ n.
    left-so-full HasFewStageCalls n (n + 1) (n + 1) c.in-Err-Full.head was.pass q now.pass kept full
    (few_calls-full n c.in-Err-Full.head was.pass q full)
    (subst (λ (x : PassStanding _). HasLeftSo HasFewStageCalls (n + 1) (n + 1) x now.pass kept) c.finish_directly.ensures.same
    (c.in_err-help-in-Err-Full.ensures.left (n + 1))) in
    err-of _ c.from_residual-in_err-help-in-Err-Full.result c.in_err-help-in-Err-Full.field-0.0 (search rules)
    (record {
      left = λ before at. work-stopped queue before m was.pass now.pass was.members.items was.starved kept at c.requires.ready.0.queue
          c.requires.ready.1 (left (length before));
      still = record { fed = λ fed. c.finish_directly.ensures.starved (c.help.ensures.starved fed); number = (left 0).own.1 };
    })

-- it made a member of the message itself, and helped
pub returns-in_ok-help-in-Err-Full-clause-handled : goal.returns-in_ok-help-in-Err-Full-clause-handled
returns-in_ok-help-in-Err-Full-clause-handled c =
    let queue = c.args.with.now.queue.now in
    let was = c.args.self.now in
    let mid = c.finish_directly.new.self in
    let now = c.help.new.self in
    let full = full-at (goal.at.returns-in_ok-help-in-Err-Full-clause-handled c).After-finish_directly in
    let said = c.in_ok-help-in-Err-Full.ensures in
    let same = c.finish_directly.ensures.same in
    let helped : HasTakenOrMoved c.lend.new.pass now.pass = subst (λ (q : PassStanding _). HasTakenOrMoved q now.pass) same said.taken in
    record {
      suits = suits-taken queue 1 c.lend.new.pass now.pass
          (suits-full queue 1 c.in-Err-Full.head was.pass c.lend.new.pass c.requires.ready.0 full) helped;
      stays = ap (λ (x : PassStanding _). x.retired) helped.pass ∙ ap (λ (x : PassStanding _). x.retired) full.pass ∙ c.requires.ready.1;
      work = λ before at.
          work-helped before c.args.message.now c.in-Err-Full.head was.pass c.lend.new.pass now.pass was.members.items mid.members.items now.members.items
          was.starved now.starved at full helped
          (subst (λ (q : PassStanding _). filter_map take_topic (since q now.pass) ≡ second ∷ first ∷ []) same said.each)
          (subst (λ (q : PassStanding _). HasMovedIts q now.pass) same said.moves)
          (said.gates ∙ ap (λ (x : PassStanding _). x.gates) same)
          (λ fed. c.finish_directly.ensures.starved (c.help.ensures.starved fed))
          (λ fed. c.finish_directly.ensures.listed (c.help.ensures.starved fed))
          (λ fed. subst (λ (q : PassStanding _). HasFinishedOnlySeconds q now.pass mid.members.items now.members.items) same (said.helped fed));
      still = record {
        fed = λ fed. c.finish_directly.ensures.starved (c.help.ensures.starved fed);
        number = ap (λ (x : PassStanding _). x.number) helped.pass ∙ ap (λ (x : PassStanding _). x.number) full.pass;
      };
    }
