use Rattle.std.proofs.Common.{◌≡◌, ◌<◌, ◌≤◌, false, slice_index_or, refl, rules, arith}
use Rattle.scq_judge.specs.Walking.{IsToOrder}
use Rattle.scq_judge.proofs.WalkLemmas.{from_more}
use Rattle.scq_judge.proofs.walking.Walk.take.Goals as goal

pub returns : goal.returns
returns c = λ fits ends old are.
    let fit : IsToOrder c.args.queue c.in-Some.ended = search rules in
    let unmarked : slice_index_or c.args.placed.now c.in-Some.ended.own.start false ≡ false = search rules in
    let below : c.args.self.now.latest < c.args.e = omega arith in
    let le : c.args.self.now.latest ≤ c.max-self.result = (let m = c.max-self.ensures in omega arith) in
    let start_le : c.in-Some.ended.own.start ≤ c.max-self.result = (let m = c.max-self.ensures in omega arith) in
    from_more _ _ _ _ _ _ _ _ _ _ _ _ _ c.in-Some.ensures fit (c.in_ok-plain.ensures fits) below unmarked refl le start_le are
