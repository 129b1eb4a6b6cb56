use Rattle.std.proofs.Common.{rules, ◌≡◌, ◌+◌, ◌<◌, ◌∙◌, ap, sym, subst, arith, List, [], ◌++◌, ◌∷◌, length}
use Rattle.std.specs.Prelude.{slice_set}
use Rattle.std.proofs.lemmas.List.{append-nil, get_or_read, length-append}
use Rattle.scq_frames.specs.Exports.{Part}
use Rattle.scq_worker.specs.Exports.{AreOpen, PartsAreGathered, open_on, gathered-nothing, still-same, HasPassed, HasPassedOn}
use Rattle.scq_files.proofs.Results.{err-of}
use Rattle.scq_worker.proofs.Gathered.{gathered-passed, open-closed, few-with, set-closed, set-few}
use Rattle.scq_worker.proofs.PassedOn.{stopped-more}
use Rattle.scq_worker.proofs.worker.Worker.pass_open.Goals as goal
use Rattle.scq_worker.proofs.worker.Worker.pass_open.Goals.{After-replace-batch}

-- nothing is open
pub returns-then-not-has_open-clause-gathered : goal.returns-then-not-has_open-clause-gathered
returns-then-not-has_open-clause-gathered g c =
    gathered-nothing c.args.queue.now c.args.job.now c.args.self.now (g.W.Bell.seen c.args.stand.now) c.requires.suits c.requires.stays
    c.requires.opens

pub returns-then-not-has_open-clause-still : goal.returns-then-not-has_open-clause-still
returns-then-not-has_open-clause-still g c = still-same c.args.self.now (g.W.Bell.seen c.args.stand.now)

-- something is open
some-at : (g : _) (c : After-replace-batch g)
    → (c.args.topic < length c.args.self.now.opens.items) × (0 < length (open_on c.args.topic c.args.self.now.opens.items))
some-at g c = c.has_open.ensures.some c.if-not-has_open.false

-- it is what was taken out
out-at : (g : _) (c : After-replace-batch g) → c.replace-batch.result ≡ open_on c.args.topic c.args.self.now.opens.items
out-at g c =
    c.replace-batch.ensures.value
    ∙ get_or_read c.args.self.now.opens.items c.args.topic c.index_mut.result.now (some-at g c).0 c.index_mut.ensures.value []

pub returns-in_err-pass_load-clause-left : goal.returns-in_err-pass_load-clause-left
returns-in_err-pass_load-clause-left g c =
    let at = (goal.at.returns-in_err-pass_load-clause-left g c).After-replace-batch in
    let some_ = some-at g at in
    let opens = c.args.self.now.opens.items in
    let kept = c.in_err-pass_load.field-0.0.held in
    err-of _ c.from_residual.result c.in_err-pass_load.field-0.0 (search rules)
    (λ parts was.
    let few = few-with c.args.job.now.most c.args.topic parts was.batches opens was.gathered (c.requires.opens.each c.args.topic) some_.1 in
    stopped-more c.args.queue.now (length was.batches + 1) (length (parts ++ [])) c.pass_load.new.self.pass kept
    (omega (arith, few, length-append parts [])) (c.in_err-pass_load.ensures.left was.batches was.passed))

pub returns-in_err-pass_load-clause-still : goal.returns-in_err-pass_load-clause-still
returns-in_err-pass_load-clause-still g c =
    let its = c.pass_load.ensures.still in
    record { starved = its.starved; number = its.number; pass = its.pass; bell = its.bell }

pub returns-clause-still : goal.returns-clause-still
returns-clause-still g c =
    let its = c.pass_load.ensures.still in
    record { starved = its.starved; number = its.number; pass = its.pass; bell = its.bell }

-- what is open then: the batch was taken out, and put back with nothing in it
pub returns-clause-gathered : goal.returns-clause-gathered
returns-clause-gathered g c =
    let at = (goal.at.returns-clause-gathered g c).After-replace-batch in
    let job = c.args.job.now in
    let most = job.most in
    let topic = c.args.topic in
    let n = length job.topics + 1 in
    let opens = c.args.self.now.opens.items in
    let mid = c.replace-batch.new.dest in
    let now = c.pass_load.new.self in
    let some_ = some-at g at in
    let goes = c.in_ok-pass_load.ensures.goes in
    let are : now.opens.items ≡ slice_set opens topic mid = ap (λ v. v.items) c.pass_load.ensures.opens in
    let news = slice_set (slice_set opens topic mid) topic c.clear.new.self in
    let shut = set-closed opens topic mid c.clear.new.self some_.0 c.clear.ensures in
    record {
      goes = record { suits = goes.suits; stays = goes.stays; vain = goes.vain; rung = goes.rung };
      opens = subst (λ (l : List (List Part)). AreOpen most n (slice_set l topic c.clear.new.self)) (sym are)
          (open-closed most n topic opens news c.requires.opens (set-few opens topic n mid c.clear.new.self c.requires.opens.few) shut);
      work = λ parts was. record {
        batches = was.batches ++ open_on topic opens ∷ [];
        gathered = subst (λ (l : List Part). PartsAreGathered most l (was.batches ++ open_on topic opens ∷ []) (slice_set now.opens.items topic c.clear.new.self))
            (sym (append-nil parts))
            (subst (λ (l : List (List Part)). PartsAreGathered most parts (was.batches ++ open_on topic opens ∷ []) (slice_set l topic c.clear.new.self)) (sym are)
            (gathered-passed most parts was.batches opens was.gathered topic news (c.requires.opens.each topic) some_.1 shut));
        passed = subst (λ (b : List Part). HasPassed job.topics (was.batches ++ b ∷ []) now.pass now.members now.starved) (out-at g at)
            (c.in_ok-pass_load.ensures.passed was.batches was.passed);
      };
    }

pub returns-clause-whole : goal.returns-clause-whole
returns-clause-whole g c some_ =
    let at = (goal.at.returns-clause-whole g c).After-replace-batch in
    subst (λ (b : List Part). HasPassedOn c.args.job.now b c.args.self.now c.pass_load.new.self) (out-at g at) c.in_ok-pass_load.ensures.passed
