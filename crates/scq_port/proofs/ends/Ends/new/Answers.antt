use Rattle.std.proofs.Common.{◌∙◌, arith}
use Rattle.scq_port.proofs.EndSteps.{opens}
use Rattle.scq_port.proofs.ends.Ends.new.Goals as goal

pub new-requires : goal.new-requires
new-requires c =
    let zeros = c.in_ok-words.ensures.items_if_clones_equal (λ y is. is) in
    opens c.of-key.result.value c.args.seats _ _ (c.as_slice.ensures.value ∙ zeros)
    (omega (arith, c.as_slice.ensures.len, c.in_ok-words.ensures.len, c.loop-slots.invariant.0, c.loop-slots-test.false, c.len.ensures, c.loop-slots.slots.ok.0))
