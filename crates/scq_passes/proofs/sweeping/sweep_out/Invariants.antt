use Rattle.std.proofs.Common.{◌<◌, ◌+◌, ◌-◌, ◌*◌}
use Rattle.scq_passes.specs.Exports.{HasTakenFollowed, takes_left, AreSweeps}
use Rattle.scq_passes.proofs.sweeping.sweep_out.Given as goal

abbrev pub invariant-sweeps : goal.invariant-sweeps
invariant-sweeps g l =
    let p = g.T.Taker.pass l.fn.taker in
    let q = g.T.Taker.pass l.taker in
    record {
      taken : HasTakenFollowed g.T.Taker.follows p q;
      made : g.T.Taker.made l.with l.fn.taker l.taker;
      idle : l.idle < 64;
      sweeps : AreSweeps g.B.Buffer.contents (g.T.Taker.queue l.with) g.T.Taker.follows l.topics (λ n. n < 64) l.idle p q;
    }

-- a sweep that takes something leaves less to take, and one that doesn't is one of at most 64 in a row
abbrev pub decreases-sweeps : goal.decreases-sweeps
decreases-sweeps g l = takes_left (g.T.Taker.queue l.with).setup.limit l.topics (g.T.Taker.pass l.taker) * 65 + (64 - l.idle)
