use Rattle.std.proofs.Common.{inl, inr, arith}
use Rattle.scq_c.proofs.Written.{written_none, written_next, written_all}
use Rattle.scq_c.proofs.tally.write_out.Goals as goal

pub loop-k-init : goal.loop-k-init
loop-k-init c = (written_none c.args.counts.now c.args.out.now, omega arith)

pub loop-k-preserved : goal.loop-k-preserved
loop-k-preserved c =
    let low = c.loop-k-test.true in
    let full = c.if-k-out.false in (
      written_next c.loop-k.k c.args.counts.now c.args.out.now c.loop-k.out _ c.write_one.new.out c.loop-k.invariant.0 low (omega (arith, full))
          c.write_one.ensures,
      omega (arith, low),
    )

pub returns : goal.returns
returns c =
    let done = c.loop-k-test.false in
    written_all c.loop-k.k c.args.counts.now c.args.out.now c.loop-k.out c.loop-k.invariant.0 c.loop-k.invariant.1 (inl (omega (arith, done)))

pub returns-then-k-out : goal.returns-then-k-out
returns-then-k-out c =
    let full = c.if-k-out.true in
    written_all c.loop-k.k c.args.counts.now c.args.out.now c.loop-k.out c.loop-k.invariant.0 c.loop-k.invariant.1 (inr (omega (arith, full)))
