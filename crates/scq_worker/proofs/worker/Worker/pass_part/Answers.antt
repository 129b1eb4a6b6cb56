use Rattle.std.proofs.Common.{rules, ◌≡◌, ◌∙◌, ◌++◌, ap, sym, subst, false, refl, arith, ℕ, List, [], ◌∷◌}
use Rattle.scq_frames.specs.Exports.{Part, part_of}
use Rattle.scq_worker.specs.Exports.{same-worker, open_on, FitsBehind, HasGathered, IsSameWorker, gathered-along, still-along, stopped-along}
use Rattle.scq_files.proofs.Results.{err-of}
use Rattle.scq_worker.proofs.Gathered.{added-other, added-own, closed-at, closed-other, fits-some, open-alone, open-behind, open-first}
use Rattle.scq_worker.proofs.Going.{gathered-one, gathered-still, gone-alone, still-as, stopped-alone, stopped-within}
use Rattle.scq_worker.proofs.worker.Worker.pass_part.Goals as goal
use Rattle.scq_worker.proofs.worker.Worker.pass_part.Goals.{After-pass_open, After-gather-2}

-- it fits behind those that are open
pub returns-then-gather-clause-gathered : goal.returns-then-gather-clause-gathered
returns-then-gather-clause-gathered g c =
    let job = c.args.job.now in
    let its = c.gather.ensures in
    gathered-one c.args.queue.now job (part_of job.size c.args.message.now c.args.part) c.args.self.now c.gather.new.self
    (g.W.Bell.seen c.args.stand.now) c.requires.suits c.requires.stays its.opens (fits-some job.most (open_on c.args.message.now.topic c.args.self.now.opens.items) (part_of job.size c.args.message.now c.args.part) (its.fits c.if-gather.true)) (its.added c.if-gather.true)
    its.same.0 its.same.1 its.same.2

pub returns-then-gather-clause-still : goal.returns-then-gather-clause-still
returns-then-gather-clause-still g c =
    let same = c.gather.ensures.same in
    still-as c.args.self.now c.gather.new.self (g.W.Bell.seen c.args.stand.now) same.2 same.3 same.0

-- what was open is passed on
still-open : (g : _) (c : After-pass_open g)
    → IsSameWorker c.args.self.now c.pass_open.new.self (g.W.Bell.seen c.args.stand.now) (g.W.Bell.seen c.pass_open.new.stand)
still-open g c =
    let same = c.gather.ensures.same in
    let was = g.W.Bell.seen c.args.stand.now in
    still-along c.args.self.now c.gather.new.self c.pass_open.new.self was was (g.W.Bell.seen c.pass_open.new.stand)
    (still-as c.args.self.now c.gather.new.self was same.2 same.3 same.0) c.pass_open.ensures.still

still-later : (g : _) (c : After-gather-2 g)
    → IsSameWorker c.args.self.now c.gather-2.new.self (g.W.Bell.seen c.args.stand.now) (g.W.Bell.seen c.pass_open.new.stand)
still-later g c =
    let same = c.gather.ensures.same in
    let then_ = c.gather-2.ensures.same in
    let was = g.W.Bell.seen c.args.stand.now in
    let is = g.W.Bell.seen c.pass_open.new.stand in
    let first = c.gather.new.self in
    let old = c.pass_open.new.self in
    still-along c.args.self.now old c.gather-2.new.self was is is
    (still-along c.args.self.now first old was was is (still-as c.args.self.now first was same.2 same.3 same.0) c.pass_open.ensures.still)
    (still-as old c.gather-2.new.self is then_.2 then_.3 then_.0)

gathered-first : (g : _) (c : After-pass_open g)
    → HasGathered c.args.queue.now c.args.job.now [] c.args.self.now c.gather.new.self (g.W.Bell.seen c.args.stand.now)
    (g.W.Bell.seen c.args.stand.now)
gathered-first g c =
    let its = c.gather.ensures in
    gathered-still c.args.queue.now c.args.job.now c.args.self.now c.gather.new.self (g.W.Bell.seen c.args.stand.now) c.requires.suits
    c.requires.stays its.opens (its.none c.if-gather.false) its.same.0 its.same.1 its.same.2

gathered-open : (g : _) (c : After-gather-2 g)
    → HasGathered c.args.queue.now c.args.job.now [] c.args.self.now c.pass_open.new.self (g.W.Bell.seen c.args.stand.now)
    (g.W.Bell.seen c.pass_open.new.stand)
gathered-open g c =
    let its = c.gather.ensures in
    let first = c.gather.new.self in
    let was = g.W.Bell.seen c.args.stand.now in
    gathered-along c.args.queue.now c.args.job.now [] [] c.args.self.now first c.pass_open.new.self was was (g.W.Bell.seen c.pass_open.new.stand)
    refl
    (gathered-still c.args.queue.now c.args.job.now c.args.self.now first was c.requires.suits c.requires.stays its.opens (its.none c.if-gather.false)
    its.same.0 its.same.1 its.same.2) c.in_ok-pass_open.ensures.gathered

-- and met Spent
pub returns-in_err-pass_open-clause-left : goal.returns-in_err-pass_open-clause-left
returns-in_err-pass_open-clause-left g c =
    let at = (goal.at.returns-in_err-pass_open-clause-left g c).After-pass_open in
    let q = c.args.queue.now in
    let job = c.args.job.now in
    let one : List Part = part_of job.size c.args.message.now c.args.part ∷ [] in
    let start = c.args.self.now in
    let now = c.pass_open.new.self in
    let held = c.in_err-pass_open.field-0.0.held in
    let was = g.W.Bell.seen c.args.stand.now in
    err-of _ c.from_residual.result c.in_err-pass_open.field-0.0 (search rules)
    (stopped-within q job [] one start now held (omega arith)
    (stopped-along q job [] [] start c.gather.new.self now was was held (gathered-first g at) c.in_err-pass_open.ensures.left))

pub returns-in_err-pass_open-clause-still : goal.returns-in_err-pass_open-clause-still
returns-in_err-pass_open-clause-still g c = still-open g (goal.at.returns-in_err-pass_open-clause-still g c).After-pass_open

-- the part is added then
pub returns-then-gather-2-clause-gathered : goal.returns-then-gather-2-clause-gathered
returns-then-gather-2-clause-gathered g c =
    let at = (goal.at.returns-then-gather-2-clause-gathered g c).After-gather-2 in
    let q = c.args.queue.now in
    let job = c.args.job.now in
    let p = part_of job.size c.args.message.now c.args.part in
    let old = c.pass_open.new.self in
    let now = c.gather-2.new.self in
    let then_ = c.gather-2.ensures in
    let first = gathered-open g at in
    let is = g.W.Bell.seen c.pass_open.new.stand in
    gathered-along q job [] (p ∷ []) c.args.self.now old now (g.W.Bell.seen c.args.stand.now) is is (same-worker (g.W.Bell.seen c.args.stand.now) is c.pass_open.ensures.still.bell) first
    (gathered-one q job p old now is first.goes.suits first.goes.stays then_.opens (fits-some job.most (open_on c.args.message.now.topic old.opens.items) p (then_.fits c.if-gather-2.true)) (then_.added c.if-gather-2.true)
    then_.same.0 then_.same.1 then_.same.2)

pub returns-then-gather-2-clause-still : goal.returns-then-gather-2-clause-still
returns-then-gather-2-clause-still g c = still-later g (goal.at.returns-then-gather-2-clause-still g c).After-gather-2

-- it goes alone, with nothing more than that passed on before
gathered-later : (g : _) (c : After-gather-2 g) → c.gather-2.result ≡ false
    → HasGathered c.args.queue.now c.args.job.now [] c.args.self.now c.gather-2.new.self (g.W.Bell.seen c.args.stand.now)
    (g.W.Bell.seen c.pass_open.new.stand)
gathered-later g c not_added =
    let q = c.args.queue.now in
    let job = c.args.job.now in
    let old = c.pass_open.new.self in
    let now = c.gather-2.new.self in
    let then_ = c.gather-2.ensures in
    let first = gathered-open g c in
    let is = g.W.Bell.seen c.pass_open.new.stand in
    gathered-along q job [] [] c.args.self.now old now (g.W.Bell.seen c.args.stand.now) is is (same-worker (g.W.Bell.seen c.args.stand.now) is c.pass_open.ensures.still.bell) first
    (gathered-still q job old now is first.goes.suits first.goes.stays then_.opens (then_.none not_added) then_.same.0 then_.same.1 then_.same.2)

-- it met Spent
pub returns-in_err-pass_load-clause-left : goal.returns-in_err-pass_load-clause-left
returns-in_err-pass_load-clause-left g c =
    let at = (goal.at.returns-in_err-pass_load-clause-left g c).After-gather-2 in
    let q = c.args.queue.now in
    let job = c.args.job.now in
    let p = part_of job.size c.args.message.now c.args.part in
    let start = c.args.self.now in
    let now = c.pass_load.new.self in
    let held = c.in_err-pass_load.field-0.0.held in
    err-of _ c.from_residual-in_err-pass_load.result c.in_err-pass_load.field-0.0 (search rules)
    (stopped-alone q job p start c.gather-2.new.self now (g.W.Bell.seen c.args.stand.now) (g.W.Bell.seen c.pass_open.new.stand) held
    (gathered-later g at c.if-gather-2.false) c.in_err-pass_load.ensures.left)

pub returns-in_err-pass_load-clause-still : goal.returns-in_err-pass_load-clause-still
returns-in_err-pass_load-clause-still g c =
    let at = (goal.at.returns-in_err-pass_load-clause-still g c).After-gather-2 in
    let kept = g.W.Bell.seen in
    still-along c.args.self.now c.gather-2.new.self c.pass_load.new.self (kept c.args.stand.now) (kept c.pass_open.new.stand)
    (kept c.pass_load.new.stand) (still-later g at) c.pass_load.ensures.still

-- it went alone
pub returns-clause-gathered : goal.returns-clause-gathered
returns-clause-gathered g c =
    let at = (goal.at.returns-clause-gathered g c).After-gather-2 in
    let m = c.args.message.now in
    let p = part_of c.args.job.now.size m c.args.part in
    let first = c.gather.new.self in
    let old = c.pass_open.new.self in
    let now = c.gather-2.new.self in
    let none : open_on m.topic now.opens.items ≡ [] =
    c.gather-2.ensures.none c.if-gather-2.false m.topic
    ∙ closed-at m.topic m.topic (open_on m.topic first.opens.items) (open_on m.topic old.opens.items) (c.in_ok-pass_open.ensures.closed m.topic) refl in
    gone-alone c.args.queue.now c.args.job.now p c.args.self.now now c.pass_load.new.self (g.W.Bell.seen c.args.stand.now)
    (g.W.Bell.seen c.pass_open.new.stand) (g.W.Bell.seen c.pass_load.new.stand) (same-worker (g.W.Bell.seen c.args.stand.now) (g.W.Bell.seen c.pass_open.new.stand) (still-later g at).bell)
    (gathered-later g at c.if-gather-2.false) none c.in_ok-pass_load.ensures.goes c.in_ok-pass_load.ensures.passed c.pass_load.ensures.opens

pub returns-clause-still : goal.returns-clause-still
returns-clause-still g c =
    let at = (goal.at.returns-clause-still g c).After-gather-2 in
    let kept = g.W.Bell.seen in
    still-along c.args.self.now c.gather-2.new.self c.pass_load.new.self (kept c.args.stand.now) (kept c.pass_open.new.stand)
    (kept c.pass_load.new.stand) (still-later g at) c.pass_load.ensures.still

-- what is open then: the part behind what was
pub returns-then-gather-clause-closes : goal.returns-then-gather-clause-closes
returns-then-gather-clause-closes g c =
    let job = c.args.job.now in
    let topic = c.args.message.now.topic in
    let p : Part = part_of job.size c.args.message.now c.args.part in
    let old = c.args.self.now.opens.items in
    let new = c.gather.new.self.opens.items in
    let its = c.gather.ensures in
    let added = its.added c.if-gather.true in
    let one : List Part = p ∷ [] in
    record {
      own = λ fed. (
        open_on topic new,
        open-behind job.most (open_on topic old) p (open_on topic new) (its.fits c.if-gather.true)
            (added-own topic (open_on topic old) (open_on topic new) one (added topic)),
        refl,
      );
      others = λ t apart. added-other topic t (open_on t old) (open_on t new) one (added t) apart;
    }

-- or alone, once what was is passed on
pub returns-then-gather-2-clause-closes : goal.returns-then-gather-2-clause-closes
returns-then-gather-2-clause-closes g c =
    let job = c.args.job.now in
    let topic = c.args.message.now.topic in
    let p : Part = part_of job.size c.args.message.now c.args.part in
    let old = c.args.self.now.opens.items in
    let first = c.gather.new.self.opens.items in
    let mid = c.pass_open.new.self.opens.items in
    let now = c.gather-2.new.self.opens.items in
    let one : List Part = p ∷ [] in
    let shut = c.in_ok-pass_open.ensures.closed in
    let none : open_on topic mid ≡ [] = closed-at topic topic (open_on topic first) (open_on topic mid) (shut topic) refl in
    let then_ = c.gather-2.ensures in
    let added = then_.added c.if-gather-2.true in
    record {
      own = λ fed.
          let full = c.gather.ensures.full c.if-gather.false (c.pass_open.ensures.still.starved (then_.same.2 fed)) in
          let fits = subst (λ (l : List Part). FitsBehind job.most l p) none (then_.fits c.if-gather-2.true) in
          let alone = added-own topic (open_on topic mid) (open_on topic now) one (added topic) ∙ ap (λ (l : List Part). l ++ one) none in
          (open_on topic now, open-first job.most (open_on topic old) p (open_on topic now) full fits alone, refl);
      others = λ t apart.
          added-other topic t (open_on t mid) (open_on t now) one (added t) apart ∙ closed-other topic t (open_on t first) (open_on t mid) (shut t) apart
          ∙ c.gather.ensures.none c.if-gather.false t;
    }

pub returns-clause-closes : goal.returns-clause-closes
returns-clause-closes g c =
    let job = c.args.job.now in
    let topic = c.args.message.now.topic in
    let p : Part = part_of job.size c.args.message.now c.args.part in
    let old = c.args.self.now.opens.items in
    let first = c.gather.new.self.opens.items in
    let mid = c.pass_open.new.self.opens.items in
    let later = c.gather-2.new.self.opens.items in
    let now = c.pass_load.new.self.opens.items in
    let shut = c.in_ok-pass_open.ensures.closed in
    let none : open_on topic mid ≡ [] = closed-at topic topic (open_on topic first) (open_on topic mid) (shut topic) refl in
    let then_ = c.gather-2.ensures in
    let same : (t : ℕ) → open_on t now ≡ open_on t mid =
    λ t. ap (λ o. open_on t o.items) c.pass_load.ensures.opens ∙ then_.none c.if-gather-2.false t in
    record {
      own = λ fed.
          let fed_later = c.pass_load.ensures.still.starved fed in
          let full = c.gather.ensures.full c.if-gather.false (c.pass_open.ensures.still.starved (then_.same.2 fed_later)) in
          let large = then_.full c.if-gather-2.false fed_later in (
            open_on topic now,
            open-alone job.most (open_on topic old) p (open_on topic now) full
                (λ fits. large (subst (λ (l : List Part). FitsBehind job.most l p) (sym none) fits)) (same topic ∙ none),
            refl,
          );
      others = λ t apart.
          same t ∙ closed-other topic t (open_on t first) (open_on t mid) (shut t) apart ∙ c.gather.ensures.none c.if-gather.false t;
    }
