use Rattle.std.proofs.Common.{◌<◌, List, length, refl, ◌∙◌, ap, ℕ, arith}
use Rattle.std.specs.Prelude.{slice_set, slice_index_or, vec_len}
use Rattle.scq_band.specs.declared.numbers.Numbers.{Numbers}
use Rattle.scq_band.specs.Exports.{known_of}
use Rattle.scq_band.proofs.Joining.{joined_below, joined_next, joined_all, one_more}
use Rattle.scq_band.proofs.band_note.join_all.Goals as goal

pub loop-ring-preserved : goal.loop-ring-preserved
loop-ring-preserved c =
    let i = c.loop-ring.ring in
    let xs = c.args.numbers.now in
    let ys = c.args.other.now in
    let below : i < vec_len c.loop-ring.numbers = let test = c.loop-ring-test.true in let len = c.len.ensures in omega arith in
    let low : i < length xs.items = let whole = xs.ok in let same = c.loop-ring.invariant.1 in omega (arith, below) in
    let there : i < length ys = let test = c.if-ring-other.true in omega arith in
    let mine = c.index-known.ensures ∙ ap (λ (ns : List Numbers). slice_index_or ns i c.index-known.result.now) c.loop-ring.invariant.0 in
    let set = c.larger.ensures in
    let next = joined_next i xs.items ys c.index-known.result.now (known_of ys i) low there mine refl in (
      ap (λ (ns : List Numbers). slice_set ns i c.larger.result) c.loop-ring.invariant.0 ∙ ap (λ (x : Numbers). slice_set (joined_below i xs.items ys) i x) set
          ∙ next ∙ ap (λ (k : ℕ). joined_below k xs.items ys) (one_more i),
      c.loop-ring.invariant.1,
      omega (arith, below),
    )

pub returns-else-ring-other-clause-joined : goal.returns-else-ring-other-clause-joined
returns-else-ring-other-clause-joined c =
    c.loop-ring.invariant.0
    ∙ joined_all c.loop-ring.ring c.args.numbers.now.items c.args.other.now (λ a b. let test = c.if-ring-other.false in absurd (omega (arith, b)))

pub returns-after-loop-ring-clause-joined : goal.returns-after-loop-ring-clause-joined
returns-after-loop-ring-clause-joined c =
    c.loop-ring.invariant.0
    ∙ joined_all c.loop-ring.ring c.args.numbers.now.items c.args.other.now
    (λ a b.
    let test = c.loop-ring-test.false in
    let len = c.len.ensures in
    let whole = c.args.numbers.now.ok in
    let same = c.loop-ring.invariant.1 in
    absurd (omega (arith, a)))
