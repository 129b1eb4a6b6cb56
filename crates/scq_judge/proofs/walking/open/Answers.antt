use Rattle.std.proofs.Common.{◌≡◌, ◌<◌, length, arith, rules}
use Rattle.scq_judge.proofs.WalkLemmas.{held_next}
use Rattle.scq_judge.proofs.walking.open.Goals as goal

pub loop-j-preserved : goal.loop-j-preserved
loop-j-preserved c =
    let lt : c.loop-j.j < length c.args.opening.now = omega arith in
    let same : c.in-Ok.number ≡ c.loop-j.j = search rules in
    held_next c.args.opening.now c.loop-j.j c.in-Ok.number c.index-opening-j.result _ _ lt same c.index-opening-j.is c.loop-j.invariant c.in_ok-put.ensures
