use Rattle.std.proofs.Common.{rules, ◌≡◌, ◌+◌, ◌<◌, sym, subst, arith, ℕ, [], ⊎_elim}
use Rattle.std.proofs.lemmas.Bool.{cases_eq}
use Rattle.scq_worker.specs.Exports.{same-worker, open_on, gathered-along, gathered-nothing, still-along, still-same, stopped-along}
use Rattle.scq_files.proofs.Results.{err-of}
use Rattle.scq_worker.proofs.Gathered.{closed-at, closed-still}
use Rattle.scq_worker.proofs.worker.Worker.pass_all_open.Goals as goal

-- below a bound, or at it
below-of : (a b : ℕ) → a < b + 1 → (a ≡ b → ⊥) → a < b
below-of a b low apart = omega (arith, low, apart)

pub topics-init : goal.topics-init
topics-init g c = record {
  gathered = gathered-nothing c.args.queue.now c.args.job.now c.args.self.now (g.W.Bell.seen c.args.stand.now) c.requires.suits c.requires.stays
      c.requires.opens;
  closed = λ t low. absurd (omega arith);
  still = still-same c.args.self.now (g.W.Bell.seen c.args.stand.now);
}

pub topics-preserved : goal.topics-preserved
topics-preserved g c =
    let inv = c.topics.invariant in
    let its = c.in_ok-pass_open.ensures in
    let start = c.args.self.now in
    let old = c.topics.self in
    let now = c.pass_open.new.self in
    let topic = c.topics.topic in
    let wakes = g.W.Bell.seen in
    let kept = g.W.Bell.seen in
    record {
      gathered = gathered-along c.args.queue.now c.args.job.now [] [] start old now (wakes c.args.stand.now) (wakes c.topics.stand)
          (wakes c.pass_open.new.stand) (same-worker (wakes c.args.stand.now) (wakes c.topics.stand) inv.still.bell) inv.gathered its.gathered;
      closed = λ t low.
          ⊎_elim (λ (own : t ≡ topic). closed-at topic t (open_on t old.opens.items) (open_on t now.opens.items) (its.closed t) own)
          (λ (apart : t ≡ topic → ⊥).
          closed-still topic t (open_on t old.opens.items) (open_on t now.opens.items) (its.closed t) (inv.closed t (below-of t topic low apart)))
          (cases_eq t topic);
      still = still-along start old now (kept c.args.stand.now) (kept c.topics.stand) (kept c.pass_open.new.stand) inv.still c.pass_open.ensures.still;
    }

pub pass_open-requires-clause-bell : goal.pass_open-requires-clause-bell
pass_open-requires-clause-bell g c κs within =
    subst (λ k. g.W.Bell.fits c.args.bell.now k c.args.job.now.workers) (sym c.topics.invariant.still.bell) c.requires.bell

-- one met Spent
pub returns-in_err-pass_open-clause-left : goal.returns-in_err-pass_open-clause-left
returns-in_err-pass_open-clause-left g c =
    let start = c.args.self.now in
    let now = c.pass_open.new.self in
    err-of _ c.from_residual.result c.in_err-pass_open.field-0.0 (search rules)
    (stopped-along c.args.queue.now c.args.job.now [] [] start c.topics.self now (g.W.Bell.seen c.args.stand.now) (g.W.Bell.seen c.topics.stand)
    c.in_err-pass_open.field-0.0.held c.topics.invariant.gathered c.in_err-pass_open.ensures.left)

pub returns-in_err-pass_open-clause-still : goal.returns-in_err-pass_open-clause-still
returns-in_err-pass_open-clause-still g c =
    let kept = g.W.Bell.seen in
    still-along c.args.self.now c.topics.self c.pass_open.new.self (kept c.args.stand.now) (kept c.topics.stand) (kept c.pass_open.new.stand)
    c.topics.invariant.still c.pass_open.ensures.still
