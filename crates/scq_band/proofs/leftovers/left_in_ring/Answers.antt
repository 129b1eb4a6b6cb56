use Rattle.std.proofs.Common.{◌≡◌, ◌∙◌, refl, sym, ap, subst, arith, ℕ, true, false}
use Rattle.std.specs.Prelude.{is_some}
use Rattle.std.specs.Mem.Slots.{slots_items, slots_len}
use Rattle.scq_word.specs.Exports.{index_unless_mark, IsIndexOrMark, slots_of}
use Rattle.scq_word.specs.declared.entry.Entry.{Entry}
use Rattle.scq_core.specs.Exports.{ring_slots}
use Rattle.scq_law.specs.Exports.{sum_to}
use Rattle.scq_band.proofs.LeftWords.{index_count, word_has, counts_next, counts_all, slot_word_low}
use Rattle.scq_band.proofs.leftovers.left_in_ring.Goals as goal
use Rattle.scq_band.proofs.leftovers.left_in_ring.Goals.{then-is_some, else-is_some}

pub unpack-requires : goal.unpack-requires
unpack-requires g c =
    let k = c.args.setup.now in
    let slots : c.slots-slot-end.result ≡ ring_slots k = c.slots-slot-end.ensures ∙ ap slots_of c.shape-shape.ensures in
    let place = c.slot_word.ensures k c.args.ring refl c.tail_word-tail.ensures.word in
    subst (λ (o : ℕ). IsIndexOrMark o c.word.result) (sym c.shape-shape.ensures)
    (word_has k (slots_items c.args.closed.now.words) c.args.ring c.loop-slot.slot _ c.word.result place c.word.ensures c.requires.ring (omega arith)
    c.requires.shows)

pub returns : goal.returns
returns g c m shows =
    let k = c.args.setup.now in
    let slots : c.slots-slot-end.result ≡ ring_slots k = c.slots-slot-end.ensures ∙ ap slots_of c.shape-shape.ensures in
    let last : c.loop-slot.slot ≡ ring_slots k = omega arith in
    counts_all k (slots_items c.args.closed.now.words) m c.args.ring c.loop-slot.left shows c.requires.ring
    (c.loop-slot.invariant.1 ∙ ap (sum_to (index_count k (slots_items c.args.closed.now.words) c.args.ring)) last)

pub word-requires : goal.word-requires
word-requires g c =
    let k = c.args.setup.now in
    let slots : c.slots-slot-end.result ≡ ring_slots k = c.slots-slot-end.ensures ∙ ap slots_of c.shape-shape.ensures in
    let words = c.args.closed.now.words in (
      slot_word_low k (slots_items words) c.args.ring c.loop-slot.slot _ (slots_len words)
          (c.slot_word.ensures k c.args.ring refl c.tail_word-tail.ensures.word)
          c.requires.ring (omega arith) words.ok.0 c.requires.shows,
      c.requires.full,
    )

pub loop-slot-preserved : goal.loop-slot-preserved
loop-slot-preserved g c =
    let k = c.args.setup.now in
    let words = slots_items c.args.closed.now.words in
    let slots : c.slots-slot-end.result ≡ ring_slots k = c.slots-slot-end.ensures ∙ ap slots_of c.shape-shape.ensures in
    let index : c.unpack.result.index ≡ index_unless_mark k.order c.word.result =
    ap (λ (e : Entry). e.index) c.unpack.ensures.entry ∙ ap (λ o. index_unless_mark o c.word.result) c.shape-shape.ensures in
    let next = λ (later : ℕ). counts_next k words c.args.ring c.loop-slot.slot _ c.word.result c.loop-slot.left later c.unpack.result.index
    (c.slot_word.ensures k c.args.ring refl c.tail_word-tail.ensures.word) c.word.ensures index c.loop-slot.invariant.1 in
    elim c.if-is_some.branch [
      | then-is_some w ↦
          let some : is_some c.unpack.result.index ≡ true = sym c.is_some.ensures ∙ w.if-is_some.true in
          (omega (arith, w.left-is, c.loop-slot.invariant.0), next c.if-is_some.left (rw some w.left-is))
      | else-is_some w ↦
          let none : is_some c.unpack.result.index ≡ false = sym c.is_some.ensures ∙ w.if-is_some.false in
          (omega (arith, w.left-is, c.loop-slot.invariant.0), next c.if-is_some.left (rw none (omega (arith, w.left-is))))
    ]
