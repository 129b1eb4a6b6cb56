use Rattle.std.proofs.Common.{◌≡◌, ◌⊎◌, ◌<◌, ◌≤◌, true, false, length}
use Rattle.scq_queue.specs.Exports.{takes_of}
use Rattle.scq_passes.specs.Exports.{HasTakenFollowed, takes_left, HasOnlyCalled, TookNothing, HasEmptiedAll, TookMore}
use Rattle.scq_passes.proofs.sweeping.sweep.Given as goal

-- each topic so far was found empty, and once anything was taken there is less left to take
abbrev pub invariant-swept : goal.invariant-swept
invariant-swept g l =
    let pass = g.T.Taker.pass in
    let queue = g.T.Taker.queue l.with in
    let p = pass l.fn.taker in
    let q = pass l.taker in
    record {
      taken : HasTakenFollowed g.T.Taker.follows p q;
      made : g.T.Taker.made l.with l.fn.taker l.taker;
      emptied : HasEmptiedAll l.topic p q;
      fewer : l.some ≡ true → takes_left queue.setup.limit l.topics q < takes_left queue.setup.limit l.topics p;
      nothing : l.some ≡ false → TookNothing p q;
      more : l.some ≡ true → TookMore p q;
      long : length (takes_of p.calls) ≤ length (takes_of q.calls);
      only : (q ≡ p) ⊎ HasOnlyCalled g.B.Buffer.contents queue p q;
    }
