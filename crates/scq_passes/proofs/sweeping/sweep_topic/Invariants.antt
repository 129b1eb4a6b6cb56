use Rattle.std.proofs.Common.{◌≡◌, ◌⊎◌, ◌≤◌, ◌-◌, true, false, length}
use Rattle.scq_queue.specs.Exports.{takes_of, known_on}
use Rattle.scq_passes.specs.Exports.{HasTakenFollowed, HasOnlyCalled, TookNothing, HasTakenFrom, TookInVain}
use Rattle.scq_passes.proofs.sweeping.sweep_topic.Given as goal

-- once anything was taken, it is known that more was passed
abbrev pub invariant-takes : goal.invariant-takes
invariant-takes g l =
    let pass = g.T.Taker.pass in
    let queue = g.T.Taker.queue l.with in
    let p = pass l.fn.taker in
    let q = pass l.taker in
    record {
      taken : HasTakenFollowed g.T.Taker.follows p q;
      made : g.T.Taker.made l.with l.fn.taker l.taker;
      some : l.some ≡ true → HasTakenFrom queue.setup.limit l.topic p q;
      nothing : l.some ≡ false → TookNothing p q;
      vain : TookInVain 0 p q;
      long : length (takes_of p.calls) ≤ length (takes_of q.calls);
      only : (q ≡ p) ⊎ HasOnlyCalled g.B.Buffer.contents queue p q;
    }

-- each take that gets something has a place that is not below the head known, and below the limit
abbrev pub decreases-takes : goal.decreases-takes
decreases-takes g l = (g.T.Taker.queue l.with).setup.limit - (known_on l.topic (g.T.Taker.pass l.taker)).head
