use Rattle.std.proofs.Common.{◌≡◌, ◌<◌, ◌∙◌, ap, sym, subst, length, List, arith}
use Rattle.std.specs.Prelude.{Some, slice_get}
use Rattle.std.specs.Mem.Slots.{slots_items, slots_filled, slots_len}
use Rattle.scq_band.specs.Slots.{SlotStanding}
use Rattle.scq_band.specs.Exports.{full_slot}
use Rattle.scq_band.proofs.Unloading.{read_some, length_next, empty_next, full_next, taken_full, buffers_next}
use Rattle.scq_band.proofs.leftovers.unload.Goals as goal

pub lift-requires-after_bounds : goal.lift-requires-after_bounds
lift-requires-after_bounds g c κs within =
    let inv = c.loop-i.invariant in
    let items = slots_items c.loop-i.closed.slots in
    let i = c.loop-i.i in
    let low : i < slots_len c.args.closed.now.slots = omega (arith, c.loop-i-test.true, c.slot_count.ensures, inv.1) in
    let laid = subst (λ (l : List (SlotStanding g.row.B.Denot)). (b : g.row.B.Denot) × (slice_get l i ≡ Some (full_slot b))) (sym inv.0) (c.requires.laid i low) in
    taken_full items i c.take.result (read_some items i c.take.result c.take.ensures.value) laid

pub loop-i-preserved : goal.loop-i-preserved
loop-i-preserved g c =
    let inv = c.loop-i.invariant in
    let items = slots_items c.loop-i.closed.slots in
    let filled = slots_filled c.loop-i.closed.slots in
    let i = c.loop-i.i in
    let o = c.take.ensures.others in
    let b = c.lift.result in
    let here = read_some items i c.take.result c.take.ensures.value in
    let low : i < slots_len c.loop-i.closed.slots = omega (arith, c.loop-i-test.true, c.slot_count.ensures) in (
      o.0 ∙ inv.0,
      o.2 ∙ inv.1,
      c.push_reserved.ensures.capacity ∙ inv.2,
      ap length c.push_reserved.ensures.items ∙ length_next c.loop-i.buffers.items b ∙ omega (arith, inv.3),
      omega (arith, low, o.2),
      rw (c.push_reserved.ensures.items, o.0) (buffers_next items c.loop-i.buffers.items i c.take.result b here (ap (λ (s : SlotStanding g.row.B.Denot). s.buffer) c.lift.ensures) inv.5),
      λ k less. rw o.1 (empty_next filled i inv.6 k less),
      λ k past less. rw o.1 (full_next filled i (slots_len c.loop-i.closed.slots) inv.7 k past (omega (arith, less, o.2))),
    )
