use Rattle.std.proofs.Common.{List, subst, arith}
use Rattle.std.specs.Prelude.{All}
use Rattle.std.proofs.lemmas.List.{take_all}
use Rattle.std.proofs.lemmas.List.Elements.{All-more}
use Rattle.scq_queue.specs.Exports.{HeldStanding, HasGivenBuffer}
use Rattle.scq_queue.proofs.closing.all_given.Goals as goal

pub loop-value-preserved : goal.loop-value-preserved
loop-value-preserved g c =
    let Given = HasGivenBuffer g.B.Buffer.IsSameBuffer in
    All-more Given c.args.held.now c.loop-value.value-index c.value-item.result (omega (arith, c.loop-value-test.true)) c.loop-value.invariant
    (subst (λ (h : HeldStanding g.row.B.Denot). Given h) c.value-item.is c.is_given.ensures)

pub returns : goal.returns
returns g c =
    subst (λ (hs : List (HeldStanding g.row.B.Denot)). All (HasGivenBuffer g.B.Buffer.IsSameBuffer) hs)
    (take_all c.loop-value.value-index c.args.held.now c.loop-value-test.false) c.loop-value.invariant
