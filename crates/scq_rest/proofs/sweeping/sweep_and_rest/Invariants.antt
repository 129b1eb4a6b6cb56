use Rattle.std.proofs.Common.{◌≡◌, ◌⊎◌, ◌+◌, ◌<◌, ℕ, true, false}
use Rattle.scq_passes.specs.Exports.{AreSweeps, SweepsInVain, HasTakenFollowed}
use Rattle.scq_rest.specs.Exports.{idle_sweeps}
use Rattle.scq_rest.proofs.sweeping.sweep_and_rest.Given as goal

-- each sweep so far got something or was followed by one rest
abbrev pub invariant-sweeps : goal.invariant-sweeps
invariant-sweeps g l =
    let p = g.T.Taker.pass l.fn.taker in
    let q = g.T.Taker.pass l.taker in
    record {
      next : (goal.iterator-sweeps g).can_next l.iterator';
      finite : (goal.iterator-sweeps g).is_finite l.iterator';
      taken : HasTakenFollowed g.T.Taker.follows p q;
      made : g.T.Taker.made l.with l.fn.taker l.taker;
      vain : (behind : ℕ) → SweepsInVain l.topics behind 0 l.fn.stand.rests p → SweepsInVain l.topics behind 0 l.stand.rests q;
      sweeps : (idle : ℕ)
          × (all : AreSweeps g.B.Buffer.contents (g.T.Taker.queue l.with) g.T.Taker.follows l.topics (λ n. Unit {0}) idle p q)
          × (l.stand.rests ≡ l.fn.stand.rests + idle_sweeps all);
      crew : l.stand.crew ≡ l.fn.stand.crew;
      worker : l.stand.worker ≡ l.fn.stand.worker;
      wakes : l.stand.wakes ≡ l.fn.stand.wakes;
      first : ((q.gates ≡ p.gates) × (l.first ≡ true)) ⊎ ((p.gates < q.gates) × (l.first ≡ false));
    }
