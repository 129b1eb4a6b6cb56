use Rattle.std.proofs.Common.{rules, ◌≡◌, ◌<◌, ◌++◌, ◌∷◌, ◌∙◌, ap, sym, refl, subst, arith, suc, ◌+◌, ℕ, List, [], length, filter, None}
use Rattle.std.specs.Prelude.{count_by}
use Rattle.std.proofs.lemmas.List.{append-nil}
use Rattle.std.proofs.lemmas.List.Sums.{sum_by-append}
use Rattle.scq_queue.proofs.Records.{takes-append}
use Rattle.scq_core.specs.declared.ended.Ended.{Ended}
use Rattle.scq_core.specs.declared.ended.Ended.TheVariants.{Done, Got, Nothing}
use Rattle.scq_band.specs.Exports.{opening_of, IsCallInRun}
use Rattle.scq_queue.specs.Exports.{Placed, takes_of, PassStanding, WasGivenBack, having_seen, after_spent_put, caller_of}
use Rattle.scq_passes.specs.Exports.{is_take, TookInVain, TookMore}
use Rattle.scq_passes.proofs.InRun.{only-along, only-back, only-got, only-nothing}
use Rattle.scq_passes.proofs.PassLemmas.{took-one, found-none}
use Rattle.scq_passes.proofs.Taking.{found-nothing}
use Rattle.scq_passes.proofs.Vain.{vain-none, vain-got}
use Rattle.scq_passes.proofs.LeftLemmas.{left-at-get, left-at-return}
use Rattle.scq_worker.specs.Exports.{is_taken, AnswersSoFar}
use Rattle.scq_worker.proofs.worker.Worker.take_one.Goals as goal

pub returns-in-Ok-give_back-clause-taken : goal.returns-in-Ok-give_back-clause-taken
returns-in-Ok-give_back-clause-taken g c =
    let low : suc c.args.topic < length c.args.self.now.pass.numbers = let n = c.requires.suits.numbers in omega arith in
    took-one g.B.Buffer.contents c.args.topic c.in-Ok.place c.args.self.now.pass c.take.new.pass c.give_back.new.pass c.in-Ok.held low c.in-Ok.ensures.took.got
    (subst (λ (p : PassStanding _). WasGivenBack (g.B.Buffer.contents c.in-Ok.held.buffer) c.in-Ok.held.index p c.give_back.new.pass)
    c.answer_taken.ensures.same.0 c.in-Ok-give_back.ensures.given)

pub returns-in-Err-clause-left : goal.returns-in-Err-clause-left
returns-in-Err-clause-left g c messages =
    let fresh : c.answer_taken.new.self.pass.spent ≡ None =
    ap (λ (x : PassStanding _). x.spent) (c.answer_taken.ensures.same.0 ∙ c.in-Ok.ensures.took.got.pass) ∙ c.requires.suits.spent in
    let said = c.in-Err.ensures.spent.drawn fresh in
    left-at-return g.B.Buffer.contents messages c.args.topic c.in-Ok.place c.in-Err.field-0-1.ticket c.args.self.now.pass c.take.new.pass
    c.give_back.new.pass c.in-Ok.held c.in-Err.held
    c.in-Ok.ensures.took.got (said.0
    ∙ ap (λ (p : PassStanding _). having_seen c.give_back.new.pass.seen
    (after_spent_put 0 c.in-Err.field-0-1.ticket p)) c.answer_taken.ensures.same.0) c.in-Err.ensures.back

pub returns-in-Err-Empty-clause-taken : goal.returns-in-Err-Empty-clause-taken
returns-in-Err-Empty-clause-taken g c =
    let low : suc c.args.topic < length c.args.self.now.pass.numbers = let n = c.requires.suits.numbers in omega arith in
    found-none c.args.topic c.in-Err-Empty.field-0-0 c.args.self.now.pass c.take.new.pass low (c.in-Err-Empty.ensures.empty c.in-Err-Empty.field-0-0 (cc)).found

pub returns-in-Err-Empty-clause-one : goal.returns-in-Err-Empty-clause-one
returns-in-Err-Empty-clause-one g c t =
    let found = (c.in-Err-Empty.ensures.empty c.in-Err-Empty.field-0-0 (cc)).found in
    let calls : c.take.new.pass.calls ≡ c.args.self.now.pass.calls ++ Nothing (suc c.args.topic) ∷ [] = ap (λ (x : PassStanding _). x.calls) found.pass in
    ap (count_by (is_take t)) calls ∙ sum_by-append _ c.args.self.now.pass.calls (Nothing (suc c.args.topic) ∷ []) ∙ omega arith

pub returns-in-Err-Empty-clause-none : goal.returns-in-Err-Empty-clause-none
returns-in-Err-Empty-clause-none g c is =
    let low : suc c.args.topic < length c.args.self.now.pass.numbers = let n = c.requires.suits.numbers in omega arith in
    found-nothing c.args.topic c.in-Err-Empty.field-0-0 c.args.self.now.pass c.take.new.pass low (c.in-Err-Empty.ensures.empty c.in-Err-Empty.field-0-0 (cc)).found

pub returns-in-Err-Empty-clause-answered : goal.returns-in-Err-Empty-clause-answered
returns-in-Err-Empty-clause-answered g c fed =
    let low : suc c.args.topic < length c.args.self.now.pass.numbers = let n = c.requires.suits.numbers in omega arith in
    let same = (found-nothing c.args.topic c.in-Err-Empty.field-0-0 c.args.self.now.pass c.take.new.pass low
    (c.in-Err-Empty.ensures.empty c.in-Err-Empty.field-0-0 (cc)).found).1 in
    record {
      takes = subst (λ (ts : List Placed). AnswersSoFar c.args.job.now.topics ts (filter is_taken c.args.self.now.members)) (sym same);
      directs = refl;
    }

pub returns-in-Err-Spent-clause-left : goal.returns-in-Err-Spent-clause-left
returns-in-Err-Spent-clause-left g c messages =
    left-at-get messages (suc c.args.topic) c.in-Err-Spent.field-0-0 c.args.self.now.pass c.take.new.pass
    ((c.in-Err-Spent.ensures.spent c.in-Err-Spent.field-0-0 (cc)).drawn c.requires.suits.spent).0

-- what it got it gave back
once : (g : _) (c : goal.In-Ok-give_back g) → TookInVain 0 c.args.self.now.pass c.give_back.new.pass × TookMore c.args.self.now.pass c.give_back.new.pass
once g c =
    vain-got g.B.Buffer.contents c.args.topic c.in-Ok.place _ c.args.self.now.pass c.take.new.pass c.give_back.new.pass c.in-Ok.held c.in-Ok.ensures.took.got
    (subst (λ (p : PassStanding _). WasGivenBack (g.B.Buffer.contents c.in-Ok.held.buffer) c.in-Ok.held.index p c.give_back.new.pass)
    c.answer_taken.ensures.same.0 c.in-Ok-give_back.ensures.given)

pub returns-in-Ok-give_back-clause-vain : goal.returns-in-Ok-give_back-clause-vain
returns-in-Ok-give_back-clause-vain g c = let few = (once g c).0 in omega (arith, few)

pub returns-in-Ok-give_back-clause-some : goal.returns-in-Ok-give_back-clause-some
returns-in-Ok-give_back-clause-some g c is =
    let got = once g c in
    (record { rises = search rules; below = search rules; more = got.1 }, got.0)

pub returns-in-Err-Empty-clause-vain : goal.returns-in-Err-Empty-clause-vain
returns-in-Err-Empty-clause-vain g c =
    let found = (c.in-Err-Empty.ensures.empty c.in-Err-Empty.field-0-0 (cc)).found in
    vain-none c.args.topic c.args.self.now.pass c.take.new.pass (ap (λ (x : PassStanding _). x.calls) found.pass)

-- the take, and what gave back what it got
abbrev got-at : (g : _) (c : goal.In-Ok-give_back g) → List Ended
got-at g c = c.args.self.now.pass.calls ++ Got (suc c.args.topic) c.in-Ok.place (g.B.Buffer.contents c.in-Ok.held.buffer) ∷ []

abbrev back-at : (g : _) (c : goal.In-Ok-give_back g) → List Ended
back-at g c = Done 0 c.in-Ok-give_back.ensures.given.place (g.B.Buffer.contents c.in-Ok.held.buffer) ∷ []

calls-at : (g : _) (c : goal.In-Ok-give_back g) → c.give_back.new.pass.calls ≡ got-at g c ++ back-at g c
calls-at g c =
    let calls = λ (x : PassStanding _). x.calls in
    ap calls c.in-Ok-give_back.ensures.given.pass
    ∙ ap (λ (l : List Ended). l ++ back-at g c) (ap calls c.answer_taken.ensures.same.0 ∙ ap calls c.in-Ok.ensures.took.got.pass)

pub returns-in-Ok-give_back-clause-one : goal.returns-in-Ok-give_back-clause-one
returns-in-Ok-give_back-clause-one g c t =
    let first = Got (suc c.args.topic) c.in-Ok.place (g.B.Buffer.contents c.in-Ok.held.buffer) in
    ap (count_by (is_take t)) (calls-at g c) ∙ sum_by-append _ (got-at g c) (back-at g c)
    ∙ ap (λ n. n + 0) (sum_by-append _ c.args.self.now.pass.calls (first ∷ [])) ∙ omega arith

pub returns-in-Ok-give_back-clause-answered : goal.returns-in-Ok-give_back-clause-answered
returns-in-Ok-give_back-clause-answered g c fed =
    let topics = c.args.job.now.topics in
    let was = takes_of c.args.self.now.pass.calls in
    let first = Got (suc c.args.topic) c.in-Ok.place (g.B.Buffer.contents c.in-Ok.held.buffer) in
    let more = λ (bytes : List ℕ). was ++ record { topic = c.args.topic; place = c.in-Ok.place; bytes = bytes } ∷ [] in
    let same : takes_of c.give_back.new.pass.calls ≡ more c.bytes.result.now =
    ap takes_of (calls-at g c) ∙ takes-append (got-at g c) (back-at g c) ∙ append-nil (takes_of (got-at g c))
    ∙ takes-append c.args.self.now.pass.calls (first ∷ []) ∙ ap more (sym c.bytes.ensures) in
    record {
      takes = λ so. subst (λ (ts : List Placed). AnswersSoFar topics ts (filter is_taken c.answer_taken.new.self.members)) (sym same)
          (c.answer_taken.ensures.takes fed c.args.topic was so);
      directs = c.answer_taken.ensures.directs fed;
    }

-- these calls alone were made
pub returns-in-Ok-give_back-clause-only : goal.returns-in-Ok-give_back-clause-only
returns-in-Ok-give_back-clause-only g c =
    let p = c.args.self.now.pass in
    let q = c.take.new.pass in
    let r = c.give_back.new.pass in
    let contents = g.B.Buffer.contents in
    let queue = c.args.queue.now in
    let took = c.in-Ok.ensures.took.got in
    let same = c.answer_taken.ensures.same.0 in
    let Back = λ (x : PassStanding _). WasGivenBack (contents c.in-Ok.held.buffer) c.in-Ok.held.index x r in
    let InRun = λ (x : PassStanding _). IsCallInRun queue.setup (opening_of contents queue.given) (caller_of x) (caller_of r) in
    let fresh : c.answer_taken.new.self.pass.spent ≡ None =
    ap (λ (x : PassStanding _). x.spent) (same ∙ took.pass) ∙ c.requires.suits.spent in
    only-along p q r (ap (λ (x : PassStanding _). x.number) took.pass)
    (only-got (suc c.args.topic) c.in-Ok.place p q c.in-Ok.held took (c.take.ensures.run c.requires.suits.spent))
    (only-back _ c.in-Ok.held.index q r (subst Back same c.in-Ok-give_back.ensures.given) (subst InRun same (c.give_back.ensures.run fresh)))

pub returns-in-Err-Empty-clause-only : goal.returns-in-Err-Empty-clause-only
returns-in-Err-Empty-clause-only g c =
    only-nothing (suc c.args.topic) c.in-Err-Empty.field-0-0 c.args.self.now.pass c.take.new.pass
    (c.in-Err-Empty.ensures.empty c.in-Err-Empty.field-0-0 (cc)).found (c.take.ensures.run c.requires.suits.spent)
