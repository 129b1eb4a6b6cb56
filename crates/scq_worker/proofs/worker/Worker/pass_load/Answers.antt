use Rattle.std.proofs.Common.{rules, ◌≡◌, ◌≤◌, ◌<◌, ◌+◌, ◌∙◌, refl, ap, sym, subst, arith, suc, List, length, None}
use Rattle.std.specs.Prelude.{count_by}
use Rattle.scq_collect.specs.declared.answered.Answered.{Answered}
use Rattle.scq_passes.specs.Exports.{is_take, TookInVain, Suits, HasTaken, HasFoundFull, HasLeft}
use Rattle.scq_queue.specs.Exports.{PassStanding}
use Rattle.scq_worker.specs.Exports.{parts_of_load, IsLoad, takes_behind, Sends, IsSameWorker, HasSent, HasAnswered}
use Rattle.scq_worker.specs.declared.worker.load.Load.{Load}
use Rattle.scq_worker.specs.declared.worker.load.Load.TheVariants.{Alone, Together}
use Rattle.scq_passes.proofs.PassLemmas.{found-full, lent-and-sent, suits-taken}
use Rattle.scq_passes.proofs.Kept.{taken-sends}
use Rattle.scq_passes.proofs.LeftLemmas.{left-at-get, left-full, left-more}
use Rattle.scq_passes.proofs.ManyLists.{one-of-all}
use Rattle.scq_desk.proofs.Passes.{suits-full}
use Rattle.scq_files.proofs.Results.{err-of}
use Rattle.scq_worker.proofs.PassedOn.{left-sent, left-behind, suits-sent, passed-sent, passed-helped, passed-stopped}
use Rattle.scq_passes.proofs.Vain.{vain-helped, vain-behind}
use Rattle.scq_worker.proofs.Rung.{rung-sent, rung-helped}
use Rattle.scq_worker.proofs.worker.Worker.pass_load.Goals as goal
use Rattle.scq_worker.proofs.worker.Worker.pass_load.Goals.{After-answer_directly, After-help, After-take_behind}

-- a load has parts
some-in : (size longest most topic : _) (load : Load) → IsLoad size longest most topic load → 0 < length (parts_of_load size load)
some-in size longest most topic (Alone message part) its = omega arith
some-in size longest most topic (Together batch) its = its.1

-- each buffer that the queue was given has room for a load, and so has the same buffer once it is lent
pub send_in-requires-clause-room : goal.send_in-requires-clause-room
send_in-requires-clause-room g c κs within =
    let laws = g.met.B.Buffer g.world.𝓛 g.world.𝓜 g.world.𝓡 ((λ s x. x), (λ x. x), (λ x. x), (λ x. x)) in
    let given = c.in-Ok.ensures.lent.given in
    let room = one-of-all (λ b. c.args.job.now.size + 24 ≤ length (g.B.Buffer.contents b)) c.args.queue.now.given c.in-Ok.held.index given.first
    c.requires.room given.was in
    let same = laws.same_length given.first c.in-Ok.held.buffer given.same in
    omega (arith, room, same)

-- the send met Spent
pub returns-in_err-send_in-in-Ok-clause-left : goal.returns-in_err-send_in-in-Ok-clause-left
returns-in_err-send_in-in-Ok-clause-left g c =
    let p = c.args.self.now.pass in
    let said = c.in_err-send_in-in-Ok.ensures in
    err-of _ c.from_residual.result c.in_err-send_in-in-Ok.field-0.0 (search rules)
    (λ batches was.
    let kept = c.in_err-send_in-in-Ok.field-0.0.held in
    let left : HasLeft (length batches) (length batches + 1) p c.send_in.new.self.pass kept =
    left-sent g.B.Buffer.contents (length batches) c.args.topic p c.lend.new.pass c.send_in.new.self.pass c.in-Ok.held kept c.in-Ok.ensures.lent.lent
    said.back in
    passed-stopped c.args.queue.now c.args.job.now.topics batches p c.send_in.new.self.pass c.args.self.now.members c.args.self.now.starved kept was
    c.requires.suits.queue c.requires.stays left)

-- it was sent
sent-at : (g : _) (c : After-take_behind g)
    → HasSent c.args.topic (parts_of_load c.args.job.now.size c.args.load) c.args.self.now.pass c.send_in.new.self.pass
sent-at g c =
    let p = c.args.self.now.pass in
    let said = c.in_ok-send_in-in-Ok.ensures.sent in
    let within : suc c.args.topic < length p.numbers = let n = c.requires.suits.numbers in let low = c.requires.topic in omega arith in
    lent-and-sent g.B.Buffer.contents c.args.topic (Sends (parts_of_load c.args.job.now.size c.args.load)) said.0 said.1 p c.lend.new.pass
    c.send_in.new.self.pass c.in-Ok.held within c.in-Ok.ensures.lent.lent said.2 said.3

-- so its last call is a send
pub after_send-requires-clause-sent : goal.after_send-requires-clause-sent
after_send-requires-clause-sent g c =
    let said = c.in_ok-send_in-in-Ok.ensures.sent in
    record {
      before = c.lend.new.pass.calls;
      topic = c.args.topic;
      place = said.0;
      bytes = said.1;
      last = ap (λ (x : PassStanding _). x.calls) said.2;
    }

-- the take behind the send met Spent
pub returns-in_err-take_behind-in-Ok-clause-left : goal.returns-in_err-take_behind-in-Ok-clause-left
returns-in_err-take_behind-in-Ok-clause-left g c =
    let p = c.args.self.now.pass in
    let r = c.take_behind.new.self.pass in
    let b = parts_of_load c.args.job.now.size c.args.load in
    let kept = c.in_err-take_behind-in-Ok.field-0.0.held in
    let sent = sent-at g (goal.at.returns-in_err-take_behind-in-Ok-clause-left g c).After-take_behind in
    err-of _ c.from_residual-in_err-take_behind-in-Ok.result c.in_err-take_behind-in-Ok.field-0.0 (search rules)
    (λ batches was.
    passed-stopped c.args.queue.now c.args.job.now.topics batches p r c.args.self.now.members c.args.self.now.starved kept was
    c.requires.suits.queue c.requires.stays
    (left-behind (length batches) c.args.topic b p c.send_in.new.self.pass r kept sent (c.in_err-take_behind-in-Ok.ensures.left (length batches + 1))))

-- it is the same worker still
still-behind : (g : _) (c : After-take_behind g) → c.take_behind.new.self.pass.number ≡ c.send_in.new.self.pass.number
    → IsSameWorker c.args.self.now c.take_behind.new.self (g.W.Bell.seen c.args.stand.now) (g.W.Bell.seen c.after_send.new.stand)
still-behind g c number =
    let same = c.in_ok-send_in-in-Ok.ensures.same in
    let own = c.take_behind.ensures.kept in
    record {
      starved = λ fed. sym same.1 ∙ own.starved fed;
      number = own.number ∙ same.2;
      pass = number ∙ ap (λ (x : PassStanding _). x.number) (sent-at g c).pass;
      bell = c.after_send.ensures.kept;
    }

pub returns-in_err-take_behind-in-Ok-clause-still : goal.returns-in_err-take_behind-in-Ok-clause-still
returns-in_err-take_behind-in-Ok-clause-still g c =
    still-behind g (goal.at.returns-in_err-take_behind-in-Ok-clause-still g c).After-take_behind (c.in_err-take_behind-in-Ok.ensures.left 0).own.1

-- the send met Spent
pub returns-in_err-send_in-in-Ok-clause-still : goal.returns-in_err-send_in-in-Ok-clause-still
returns-in_err-send_in-in-Ok-clause-still g c =
    let same = c.send_in.ensures.same in
    record {
      starved = λ fed. sym same.1 ∙ fed;
      number = same.2;
      pass = (left-sent g.B.Buffer.contents 0 c.args.topic c.args.self.now.pass c.lend.new.pass c.send_in.new.self.pass c.in-Ok.held _
          c.in-Ok.ensures.lent.lent c.in_err-send_in-in-Ok.ensures.back).own.1;
      bell = refl;
    }

-- it was sent, and taken behind it
pub returns-in_ok-take_behind-in-Ok-clause-passed : goal.returns-in_ok-take_behind-in-Ok-clause-passed
returns-in_ok-take_behind-in-Ok-clause-passed g c batches was =
    let topics = c.args.job.now.topics in
    let p = c.args.self.now.pass in
    let q = c.send_in.new.self in
    let now = c.take_behind.new.self in
    let within : suc c.args.topic < length p.numbers = let n = c.requires.suits.numbers in let low = c.requires.topic in omega arith in
    let same = c.in_ok-send_in-in-Ok.ensures.same in
    let its = c.in_ok-take_behind-in-Ok.ensures.took in
    passed-sent topics batches c.args.topic (parts_of_load c.args.job.now.size c.args.load) p q.pass now.pass c.args.self.now.members now.members
    c.args.self.now.starved now.starved was within (sent-at g (goal.at.returns-in_ok-take_behind-in-Ok-clause-passed g c).After-take_behind)
    its.taken its.gates
    (λ fed. sym same.1 ∙ c.take_behind.ensures.kept.starved fed)
    (λ fed. subst (λ (l : List Answered). HasAnswered topics q.pass now.pass l now.members) same.0 (its.answered fed))

-- the next worker was woken where it was sent
pub returns-in_ok-take_behind-in-Ok-clause-goes : goal.returns-in_ok-take_behind-in-Ok-clause-goes
returns-in_ok-take_behind-in-Ok-clause-goes g c =
    let job = c.args.job.now in
    let topics = length job.topics in
    let b = parts_of_load job.size c.args.load in
    let p = c.args.self.now.pass in
    let q = c.send_in.new.self in
    let r = c.take_behind.new.self.pass in
    let was = g.W.Bell.seen c.args.stand.now in
    let is = g.W.Bell.seen c.after_send.new.stand in
    let sent = sent-at g (goal.at.returns-in_ok-take_behind-in-Ok-clause-goes g c).After-take_behind in
    let its = c.in_ok-take_behind-in-Ok.ensures.took in
    record {
      suits = suits-taken c.args.queue.now topics q.pass r (suits-sent c.args.queue.now topics c.args.topic b p q.pass c.requires.suits sent) its.taken;
      stays = ap (λ (x : PassStanding _). x.retired) its.taken.pass ∙ ap (λ (x : PassStanding _). x.retired) sent.pass ∙ c.requires.stays;
      vain = vain-behind (topics + 1) (takes_behind job.most) c.args.topic (Sends b) p q.pass r sent its.vain
          (ap (λ (x : PassStanding _). x.fulls) its.taken.pass) (taken-sends q.pass r its.taken);
      rung = rung-sent was.worker job.workers c.args.topic b p q.pass r was.wakes is.wakes sent its.taken c.after_send.ensures.rung;
    }

pub returns-in_ok-take_behind-in-Ok-clause-still : goal.returns-in_ok-take_behind-in-Ok-clause-still
returns-in_ok-take_behind-in-Ok-clause-still g c =
    still-behind g (goal.at.returns-in_ok-take_behind-in-Ok-clause-still g c).After-take_behind
    (ap (λ (x : PassStanding _). x.number) c.in_ok-take_behind-in-Ok.ensures.took.taken.pass)

-- the lend met Spent
pub returns-in-Err-Spent-clause-left : goal.returns-in-Err-Spent-clause-left
returns-in-Err-Spent-clause-left g c batches was =
    let p = c.args.self.now.pass in
    let spent = ((c.in-Err-Spent.ensures.spent c.in-Err-Spent.field-0-0 (cc)).drawn c.requires.suits.spent).0 in
    passed-stopped c.args.queue.now c.args.job.now.topics batches p c.lend.new.pass c.args.self.now.members
    c.args.self.now.starved None was
    c.requires.suits.queue c.requires.stays
    (left-more (length batches) p c.lend.new.pass None (left-at-get (length batches) 0 c.in-Err-Spent.field-0-0 p c.lend.new.pass spent))

pub returns-in-Err-Spent-clause-still : goal.returns-in-Err-Spent-clause-still
returns-in-Err-Spent-clause-still g c = record { starved = λ fed. fed; number = refl; pass = c.lend.ensures.own.1; bell = refl }

-- no buffer was free: the pass suits still
full-at : (g : _) (c : After-answer_directly g) → HasFoundFull c.in-Err-Full.head c.args.self.now.pass c.lend.new.pass
full-at g c =
    let some_ : 0 < length c.args.self.now.pass.numbers = let n = c.requires.suits.numbers in omega arith in
    found-full c.in-Err-Full.head c.args.self.now.pass c.lend.new.pass some_ (c.in-Err-Full.ensures.full c.in-Err-Full.head (cc)).found

pub help-requires-after_bounds : goal.help-requires-after_bounds
help-requires-after_bounds g c κs within =
    let full = full-at g (goal.at.help-requires-after_bounds g c).After-answer_directly in
    subst (λ (q : PassStanding _). Suits c.args.queue.now (length c.args.job.now.topics) q) (sym c.answer_directly.ensures.same.0)
    (suits-full c.args.queue.now (length c.args.job.now.topics) c.in-Err-Full.head c.args.self.now.pass c.lend.new.pass c.requires.suits full)

-- the help met Spent
pub returns-in_err-help-in-Err-Full-clause-left : goal.returns-in_err-help-in-Err-Full-clause-left
returns-in_err-help-in-Err-Full-clause-left g c =
    let p = c.args.self.now.pass in
    let r = c.help.new.self.pass in
    let full = full-at g (goal.at.returns-in_err-help-in-Err-Full-clause-left g c).After-answer_directly in
    let kept = c.in_err-help-in-Err-Full.field-0.0.held in
    err-of _ c.from_residual-in_err-help-in-Err-Full.result c.in_err-help-in-Err-Full.field-0.0 (search rules)
    (λ batches was.
    let left : HasLeft (length batches + 1) (length batches + 1) c.lend.new.pass r kept =
    subst (λ (q : PassStanding _). HasLeft (length batches + 1) (length batches + 1) q r kept) c.answer_directly.ensures.same.0
    (c.in_err-help-in-Err-Full.ensures.left (length batches + 1)) in
    passed-stopped c.args.queue.now c.args.job.now.topics batches p r c.args.self.now.members c.args.self.now.starved kept was c.requires.suits.queue
    c.requires.stays
    (left-full (length batches) c.in-Err-Full.head p c.lend.new.pass r kept full left))

-- it helped
helped : (g : _) (c : goal.In_ok-help-in-Err-Full g) → HasTaken c.lend.new.pass c.help.new.self.pass
helped g c = subst (λ (q : PassStanding _). HasTaken q c.help.new.self.pass) c.answer_directly.ensures.same.0 c.in_ok-help-in-Err-Full.ensures.took.taken

still-helped : (g : _) (c : After-help g) → c.help.new.self.pass.number ≡ c.lend.new.pass.number
    → IsSameWorker c.args.self.now c.help.new.self (g.W.Bell.seen c.args.stand.now) (g.W.Bell.seen c.args.stand.now)
still-helped g c number =
    let its = c.answer_directly.ensures in
    let own = c.help.ensures.kept in
    record { starved = λ fed. its.starved (own.starved fed); number = own.number ∙ its.same.1; pass = number ∙ c.lend.ensures.own.1; bell = refl }

pub returns-in_err-help-in-Err-Full-clause-still : goal.returns-in_err-help-in-Err-Full-clause-still
returns-in_err-help-in-Err-Full-clause-still g c =
    still-helped g (goal.at.returns-in_err-help-in-Err-Full-clause-still g c).After-help
    ((c.in_err-help-in-Err-Full.ensures.left 0).own.1 ∙ ap (λ (x : PassStanding _). x.number) c.answer_directly.ensures.same.0)

pub returns-in_err-help-in-Err-Full-clause-opens : goal.returns-in_err-help-in-Err-Full-clause-opens
returns-in_err-help-in-Err-Full-clause-opens g c = c.help.ensures.kept.opens ∙ c.answer_directly.ensures.same.2

pub returns-in_ok-help-in-Err-Full-clause-passed : goal.returns-in_ok-help-in-Err-Full-clause-passed
returns-in_ok-help-in-Err-Full-clause-passed g c batches was =
    let job = c.args.job.now in
    let topics = job.topics in
    let full = full-at g (goal.at.returns-in_ok-help-in-Err-Full-clause-passed g c).After-answer_directly in
    let said = c.in_ok-help-in-Err-Full.ensures in
    let now = c.help.new.self in
    let mid = c.answer_directly.new.self in
    let same = c.answer_directly.ensures.same.0 in
    passed-helped topics batches (parts_of_load job.size c.args.load) c.in-Err-Full.head
    c.args.self.now.pass c.lend.new.pass now.pass c.args.self.now.members
    mid.members now.members
    c.args.self.now.starved now.starved was (some-in job.size job.longest job.most c.args.topic c.args.load c.requires.load) full (helped g c)
    (λ t low. said.each t low ∙ ap (λ (x : PassStanding _). count_by (is_take t) x.calls + 1) same)
    (said.took.gates ∙ ap (λ (x : PassStanding _). x.gates) same)
    (λ fed. c.answer_directly.ensures.starved (c.help.ensures.kept.starved fed))
    (λ fed. c.answer_directly.ensures.listed (c.help.ensures.kept.starved fed))
    (λ fed. subst (λ (x : PassStanding _). HasAnswered topics x now.pass mid.members now.members) same (said.took.answered fed))

-- what it took in vain is paid for by its Fulls
pub returns-in_ok-help-in-Err-Full-clause-goes : goal.returns-in_ok-help-in-Err-Full-clause-goes
returns-in_ok-help-in-Err-Full-clause-goes g c =
    let job = c.args.job.now in
    let topics = length job.topics in
    let head = c.in-Err-Full.head in
    let p = c.args.self.now.pass in
    let q = c.lend.new.pass in
    let r = c.help.new.self.pass in
    let was = g.W.Bell.seen c.args.stand.now in
    let full = full-at g (goal.at.returns-in_ok-help-in-Err-Full-clause-goes g c).After-answer_directly in
    let taken = helped g c in
    let took : TookInVain (topics + 1) q r =
    subst (λ (x : PassStanding _). TookInVain (topics + 1) x r) c.answer_directly.ensures.same.0 c.in_ok-help-in-Err-Full.ensures.took.vain in
    record {
      suits = suits-taken c.args.queue.now topics q r (suits-full c.args.queue.now topics head p q c.requires.suits full) taken;
      stays = ap (λ (x : PassStanding _). x.retired) taken.pass ∙ ap (λ (x : PassStanding _). x.retired) full.pass ∙ c.requires.stays;
      vain = vain-helped (topics + 1) (takes_behind job.most) head p q r full took (ap (λ (x : PassStanding _). x.fulls) taken.pass)
          (taken-sends q r taken);
      rung = rung-helped was.worker job.workers head p q r was.wakes was.wakes full taken refl;
    }

pub returns-in_ok-help-in-Err-Full-clause-still : goal.returns-in_ok-help-in-Err-Full-clause-still
returns-in_ok-help-in-Err-Full-clause-still g c =
    still-helped g (goal.at.returns-in_ok-help-in-Err-Full-clause-still g c).After-help (ap (λ (x : PassStanding _). x.number) (helped g c).pass)

pub returns-in_ok-help-in-Err-Full-clause-opens : goal.returns-in_ok-help-in-Err-Full-clause-opens
returns-in_ok-help-in-Err-Full-clause-opens g c = c.help.ensures.kept.opens ∙ c.answer_directly.ensures.same.2
