use Rattle.std.proofs.Common.{◌*◌, ◌++◌, List, length, ap, sym, ◌∙◌, subst, arith, All}
use denote.RawPtr.{◌+ₚ◌}
use Rattle.scq_block.specs.declared.frame.Frame.{Frame}
use Rattle.scq_block.specs.Exports.{AreInOrder, IsPlaced}
use Rattle.scq_block.proofs.FrameLists.{IsGathering, IsGathering-first, IsGathering-next, All-end, next_to}
use Rattle.scq_block.proofs.block.Block.gather.Goals as goal

pub loop-frame-init : goal.loop-frame-init
loop-frame-init c =
    let b = c.args.self.now in
    let is = c.in-Some.ensures.items in
    IsGathering-first b.shell.ptr b.shell.len b.cap c.pop.new.self.items c.in-Some.last c.span-span.result (subst AreInOrder is c.requires.places.0)
    (subst (All (IsPlaced b.shell.ptr b.cap)) is c.requires.places.1)
    (ap (λ (fs : List Frame). length fs * b.cap) (sym is) ∙ ap (λ n. n * b.cap) c.requires.all ∙ sym b.whole) c.span-span.ensures

pub span-requires : goal.span-requires
span-requires c =
    let b = c.args.self.now in
    let f = c.in-Some-pop.frame in
    let was = subst (All (IsPlaced b.shell.ptr b.cap)) c.in-Some-pop.ensures.items c.loop-frame.invariant.placed in
    let at = All-end b.shell.ptr b.cap c.pop-in-loop-frame.new.self.items f was in
    omega (arith, at.size, b.some.1, f.bytes.ok.0)

pub join-span-requires : goal.join-span-requires
join-span-requires c =
    let b = c.args.self.now in
    let was = subst (λ fs. IsGathering b.shell.ptr b.shell.len b.cap fs c.loop-frame.span) c.in-Some-pop.ensures.items c.loop-frame.invariant in
    next_to b.shell.ptr b.shell.len b.cap c.pop-in-loop-frame.new.self.items c.in-Some-pop.frame c.loop-frame.span was
    ∙ (λ i. sym c.span.ensures.0 i +ₚ length (sym c.span.ensures.1 i))

pub loop-frame-preserved : goal.loop-frame-preserved
loop-frame-preserved c =
    let b = c.args.self.now in
    let was = subst (λ fs. IsGathering b.shell.ptr b.shell.len b.cap fs c.loop-frame.span) c.in-Some-pop.ensures.items c.loop-frame.invariant in
    IsGathering-next b.shell.ptr b.shell.len b.cap c.pop-in-loop-frame.new.self.items c.in-Some-pop.frame c.loop-frame.span c.join-span.result was
    (c.join-span.ensures.0 ∙ c.span.ensures.0, c.join-span.ensures.1 ∙ ap (λ xs. xs ++ c.loop-frame.span.bytes) c.span.ensures.1)
