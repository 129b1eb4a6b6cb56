use Rattle.std.proofs.Common.{◌≡◌, suc, ◌+◌, ◌<◌, [], refl, ◌∙◌, ap, subst, arith}
use Rattle.std.specs.Prelude.{slice_set}
use Rattle.scq_word.specs.declared.setup.Setup.{Setup}
use Rattle.scq_word.specs.Exports.{slots_of}
use Rattle.scq_core.specs.Exports.{tail_of, head_of, threshold_of, entry_of, read, start_cells, ring_slots}
use Rattle.scq_core.specs.Machine.{Machine}
use Rattle.scq_band.specs.Exports.{at, WordsAreOpened}
use Rattle.scq_band.proofs.StartWords.{opens_next, stands_low}
use Rattle.scq_band.proofs.making.open_ring.Goals as goal
use Rattle.scq_band.proofs.making.open_ring.Goals.{After-tail_word-tail}

-- where Tail of the ring stands
tail-at : (c : After-tail_word-tail) → c.tail_word-tail.result ≡ at c.args.state.now.setup (tail_of c.args.ring)
tail-at c = c.tail_word-tail.ensures.word ∙ ap (λ (s : Setup). at s (tail_of c.args.ring)) c.setup-setup.ensures

pub index_mut-requires : goal.index_mut-requires
index_mut-requires c =
    let at_tail = tail-at (goal.at.index_mut-requires c).After-tail_word-tail in
    let low = stands_low _ _ _ _ _ (tail_of c.args.ring) c.requires.before (c.requires.ring, tt) at_tail in
    omega (arith, low, c.args.words.now.ok)

pub index_mut-requires-2 : goal.index_mut-requires-2
index_mut-requires-2 c =
    let at_head = c.head_word.ensures _ c.args.ring (tail-at (goal.at.index_mut-requires-2 c).After-tail_word-tail) in
    let low = stands_low _ _ _ _ _ (head_of c.args.ring) c.requires.before (c.requires.ring, tt) at_head in
    omega (arith, low, c.args.words.now.ok)

pub index_mut-requires-3 : goal.index_mut-requires-3
index_mut-requires-3 c =
    let at_threshold = c.threshold_word.ensures _ c.args.ring (tail-at (goal.at.index_mut-requires-3 c).After-tail_word-tail) in
    let low = stands_low _ _ _ _ _ (threshold_of c.args.ring) c.requires.before (c.requires.ring, tt) at_threshold in
    omega (arith, low, c.args.words.now.ok)

pub loop-slot-init : goal.loop-slot-init
loop-slot-init c =
    let k = c.args.state.now.setup in
    let r = c.args.ring in
    let start = c.requires.start.start in
    let at_tail = tail-at (goal.at.loop-slot-init c).After-tail_word-tail in
    let threshold = c.first_threshold.ensures ∙ ap (λ (s : Setup). read (start_cells s []) (threshold_of r)) c.setup-setup.ensures in
    let one = opens_next k c.args.words.now.items r 0 c.tail_word-tail.result c.tail.result (tail_of r) c.requires.before (c.requires.ring, tt) refl refl at_tail
    (c.tail.ensures ∙ ap (λ (m : Machine). m.cells.tail r) start) in
    let two = opens_next k (slice_set c.args.words.now.items c.tail_word-tail.result c.tail.result) r 1 c.head_word.result c.head.result (head_of r) one
    (c.requires.ring, tt) refl refl (c.head_word.ensures k r at_tail) (c.head.ensures ∙ ap (λ (m : Machine). m.cells.head r) start) in
    opens_next k (slice_set (slice_set c.args.words.now.items c.tail_word-tail.result c.tail.result) c.head_word.result c.head.result) r 2
    c.threshold_word.result c.first_threshold.result (threshold_of r) two (c.requires.ring, tt) refl refl (c.threshold_word.ensures k r at_tail) threshold

pub index_mut-requires-in-loop-slot : goal.index_mut-requires-in-loop-slot
index_mut-requires-in-loop-slot c =
    let k = c.args.state.now.setup in
    let s = c.loop-slot.slot in
    let at_tail = tail-at (goal.at.index_mut-requires-in-loop-slot c).After-tail_word-tail in
    let slots = c.slots-slot-end.ensures ∙ ap slots_of (c.shape.ensures ∙ ap (λ (s : Setup). s.order) c.setup-setup.ensures) in
    let small : s < ring_slots k = omega (arith, c.loop-slot-test.true, slots) in
    let low = stands_low _ _ _ _ _ (entry_of c.args.ring s) c.loop-slot.invariant (c.requires.ring, small) (c.slot_word.ensures k c.args.ring c.setup-setup.ensures at_tail) in
    omega (arith, low, c.loop-slot.words.ok)

pub loop-slot-preserved : goal.loop-slot-preserved
loop-slot-preserved c =
    let k = c.args.state.now.setup in
    let r = c.args.ring in
    let s = c.loop-slot.slot in
    let at_tail = tail-at (goal.at.loop-slot-preserved c).After-tail_word-tail in
    let slots = c.slots-slot-end.ensures ∙ ap slots_of (c.shape.ensures ∙ ap (λ (s : Setup). s.order) c.setup-setup.ensures) in
    let small : s < ring_slots k = omega (arith, c.loop-slot-test.true, slots) in
    let next : suc (3 + s) ≡ 3 + (s + 1) = omega arith in
    subst (WordsAreOpened k (slice_set c.loop-slot.words.items c.slot_word.result c.entry.result) r) next
    (opens_next k c.loop-slot.words.items r (3 + s) c.slot_word.result c.entry.result (entry_of r s) c.loop-slot.invariant (c.requires.ring, small) refl refl
    (c.slot_word.ensures k r c.setup-setup.ensures at_tail) (c.entry.ensures.word ∙ ap (λ (m : Machine). m.cells.entries.word r s) c.requires.start.start))
