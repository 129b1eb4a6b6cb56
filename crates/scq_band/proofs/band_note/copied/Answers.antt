use Rattle.std.proofs.Common.{◌≡◌, ◌<◌, length, length-set, take, ◌∙◌, subst, ℕ, arith}
use Rattle.std.specs.Prelude.{slice_set, vec_len}
use Rattle.scq_band.proofs.Joining.{copied_next, one_more}
use Rattle.scq_band.proofs.band_note.copied.Goals as goal

pub loop-ring-preserved : goal.loop-ring-preserved
loop-ring-preserved c =
    let i = c.loop-ring.ring in
    let ns = c.args.numbers.now in
    let below : i < vec_len ns = let test = c.loop-ring-test.true in let len = c.len.ensures in omega arith in
    let in_it : i < length ns.items = let whole = ns.ok in omega (arith, below) in
    let room : i < length c.loop-ring.copy =
    let all = c.loop-ring.invariant.2 in let few = c.requires in omega (arith, below) in
    let next = copied_next i c.loop-ring.copy ns.items c.index.result.now room in_it c.loop-ring.invariant.0 c.index.ensures in (
      subst (λ (k : ℕ). take k (slice_set c.loop-ring.copy i c.index.result.now) ≡ take k ns.items) (one_more i) next,
      omega (arith, below),
      length-set c.loop-ring.copy i c.index.result.now ∙ c.loop-ring.invariant.2,
    )
