use Rattle.std.proofs.Common.{◌≡◌, ℕ, ◌+◌, ◌<◌, ◌≤◌, List, [], ◌∷◌, ◌++◌, length, sym, ◌∙◌, ap, subst, arith}
use Rattle.std.specs.Prelude.{Some, slice_index, vec_capacity}
use Rattle.std.specs.Mem.Slots.{slots_items, slots_filled, slots_len}
use mathlib.Core.Option.{some}
use lib.ListN.{get_elem?}
use Rattle.scq_queue.specs.Exports.{PassStanding}
use Rattle.scq_band.proofs.Unloading.{read_word, length_next, empty_next, full_next}
use Rattle.scq_port.specs.declared.port_buffer.PortBuffer.{PortBuffer}
use Rattle.scq_port.specs.Exports.{PortQueue, Laid, IsPassOf, AreAdded}
use Rattle.scq_port.proofs.EndSteps.{left_there, own_there}
use Rattle.scq_port.proofs.Gathering.{PassesAreGathered, gathered_less, gathered_more, gathered_all}
use Rattle.scq_port.proofs.ends.Ends.gather.Goals as goal
use Rattle.scq_port.proofs.ends.Ends.gather.Goals.{then-word-eq-LAID+in-Some, in-Some-unpack, in_default-unpack, else-word-eq-LAID}

pub unreachable-requires : goal.unreachable-requires
unreachable-requires c =
    let inv = c.loop-slot.invariant in
    let closed = c.close_with-closed.result in
    let o = c.take-laid.ensures.others in
    let words = ap slots_items (o.3 ∙ inv.2) in
    let word : slice_index (slots_items closed.words) c.loop-slot.slot ≡ 2 =
    read_word (slots_items closed.words) c.loop-slot.slot c.word.result
    (subst (λ (l : List ℕ). get_elem? l c.loop-slot.slot ≡ some c.word.result) words c.word.ensures) ∙ c.if-word-eq-LAID.true in
    let at : get_elem? (slots_items closed.slots) c.loop-slot.slot ≡ some c.take-laid.result =
    subst (λ (l : List Laid). get_elem? l c.loop-slot.slot ≡ some c.take-laid.result) inv.0 c.take-laid.ensures.value in
    let low : c.loop-slot.slot < length (slots_items closed.slots) =
    omega (arith, c.loop-slot-test.true, c.slot_count.ensures, inv.1, closed.slots.ok.0) in
    let t = left_there c.args.self.table.shared.key.value c.args.token.id c.args.token.me.0 (slots_items closed.words) (slots_items closed.slots)
    c.close_with-closed.ensures.values.2 c.loop-slot.slot c.take-laid.result low word at in
    c.in_default.not-Some t.0 t.1

pub loop-slot-preserved : goal.loop-slot-preserved
loop-slot-preserved c =
    let inv = c.loop-slot.invariant in
    let closed = c.close_with-closed.result in
    let o = c.take-laid.ensures.others in
    let i = c.loop-slot.slot in
    let filled = slots_filled c.loop-slot.closed.slots in
    let queue = c.args.self.table.shared.key.value in
    let words = ap slots_items (o.3 ∙ inv.2) in
    let passes = c.loop-slot.passes.items in
    let values = c.loop-slot.values.items in
    let at : get_elem? (slots_items closed.slots) i ≡ some c.take-laid.result =
    subst (λ (l : List Laid). get_elem? l i ≡ some c.take-laid.result) inv.0 c.take-laid.ensures.value in
    let low : i < length (slots_items closed.slots) =
    omega (arith, c.loop-slot-test.true, c.slot_count.ensures, inv.1, closed.slots.ok.0) in
    let less : i < slots_len c.loop-slot.closed.slots = omega (arith, c.loop-slot-test.true, c.slot_count.ensures) in
    let passed = c.if-word-eq-LAID.passes in
    let Went : Type 0 = (vec_capacity passed ≡ vec_capacity c.args.passes) × (length passed.items ≤ i + 1)
    × PassesAreGathered queue (slots_items closed.slots) (i + 1) passed.items c.if-word-eq-LAID.values.items in
    let stayed : passed ≡ c.loop-slot.passes → Went = λ kept. (
      subst (λ v. vec_capacity v ≡ vec_capacity c.args.passes) (sym kept) inv.3,
      subst (λ v. length v.items ≤ i + 1) (sym kept) (let few = inv.4 in omega (arith, few)),
      gathered_less queue (slots_items closed.slots) i passes passed.items values c.if-word-eq-LAID.values.items inv.8 (ap (λ v. v.items) kept),
    ) in
    let went : Went =
    elim c.if-word-eq-LAID.branch [
      | then-word-eq-LAID+in-Some w ↦
          let word : slice_index (slots_items closed.words) i ≡ 2 =
          read_word (slots_items closed.words) i c.word.result
          (subst (λ (l : List ℕ). get_elem? l i ≡ some c.word.result) words c.word.ensures) ∙ w.if-word-eq-LAID.true in
          let t = left_there queue c.args.token.id c.args.token.me.0 (slots_items closed.words) (slots_items closed.slots)
          c.close_with-closed.ensures.values.2 i c.take-laid.result low word at in
          let q = w.in-Some.leaving in
          let same : t.0 ≡ q = (let a = t.1 in let b = w.in-Some.is in cc) in
          let mine : IsPassOf queue i q = subst (λ (p : PassStanding PortBuffer). IsPassOf queue i p) same t.2 in
          let here : get_elem? (slots_items closed.slots) i ≡ some (Some q) = at ∙ ap some w.in-Some.is in
          elim w.match-unpack.branch [
            | in-Some-unpack w' ↦
                let list : passed.items ≡ passes ++ w'.in-Some-unpack.pass ∷ [] =
                subst (λ v. v.items ≡ passes ++ w'.in-Some-unpack.pass ∷ []) (sym (w.passes-is ∙ w'.passes-is)) w'.push_reserved.ensures.items in
                let more : passed.items ≡ passes ++ q ∷ [] =
                list ∙ ap (λ (p : PassStanding PortBuffer). passes ++ p ∷ []) w'.in-Some-unpack.ensures.pass in
                let many : length passed.items ≡ length passes + 1 = ap length more ∙ length_next passes q in
                let added : AreAdded queue q values c.if-word-eq-LAID.values.items =
                subst (λ v. AreAdded queue q values v.items) (sym w.values-is)
                (subst (λ (z : PortQueue). AreAdded z q values w.unpack.new.values.items) mine.own w'.in-Some-unpack.ensures.added) in (
                  subst (λ v. vec_capacity v ≡ vec_capacity c.args.passes) (sym (w.passes-is ∙ w'.passes-is))
                      (w'.push_reserved.ensures.capacity ∙ inv.3),
                  omega (arith, many, inv.4),
                  gathered_more queue (slots_items closed.slots) i passes passed.items values c.if-word-eq-LAID.values.items q inv.8 here mine more added,
                )
            | in_default-unpack w' ↦ stayed (w.passes-is ∙ w'.passes-is)
          ]
      | else-word-eq-LAID w ↦ stayed w.passes-is
    ] in (
      o.0 ∙ inv.0,
      o.2 ∙ inv.1,
      o.3 ∙ inv.2,
      went.0,
      went.1,
      omega (arith, less, o.2),
      λ k under. rw o.1 (empty_next filled i inv.6 k under),
      λ k past under. rw o.1 (full_next filled i (slots_len c.loop-slot.closed.slots) inv.7 k past (omega (arith, under, o.2))),
      went.2,
    )

pub returns : goal.returns
returns c =
    let inv = c.loop-slot.invariant in
    let closed = c.close_with-closed.result in
    let counts = c.close_with-closed.ensures.counts in
    let queue = c.args.self.table.shared.key.value in
    let its = c.args.last.value in
    let end : c.loop-slot.slot ≡ c.args.self.table.shared.table_id.slots =
    omega (arith, c.loop-slot-test.false, c.slot_count.ensures, inv.1, inv.5, counts.1) in
    gathered_all queue (slots_items closed.slots) c.loop-slot.slot c.loop-slot.passes.items c.loop-slot.values.items its inv.8 (end ∙ c.args.self.slots)
    (λ less. omega (arith, less, c.if-len-slot.false, c.len.ensures, c.loop-slot.passes.ok.0)) (omega (arith, c.requires.low, end))
    (own_there queue c.args.token.id c.args.token.me.0 (slots_items closed.words) (slots_items closed.slots) c.close_with-closed.ensures.values.2
    its.number its c.requires.laid)
