use Rattle.std.proofs.Common.{ℕ, ◌<◌, ◌≤◌, List, [], ◌∷◌, ◌++◌, length, sym, ◌∙◌, ap, arith, add-one}
use Rattle.std.specs.Prelude.{slice_set}
use Rattle.scq_park.specs.Exports.{ParkerDeeds, cut_below}
use Rattle.scq_park.proofs.Rows.{one_of_all, uncut_at, cut_next, cut_all, links_below, links_next, links_all}
use Rattle.scq_park.proofs.making.row.Goals as goal

pub cut-requires : goal.cut-requires
cut-requires c =
    let ws = c.args.wakers.now.items in
    let k = c.loop-worker.worker in
    let at = uncut_at k ws c.loop-worker.wakers.items c.index_mut.result.now c.loop-worker.invariant.0
    (omega (arith, c.loop-worker-test.true, c.len-worker-end.ensures, c.args.wakers.now.ok)) c.index_mut.ensures.value in
    record { parts = one_of_all (λ (w : ParkerDeeds). 1 < w.deeds.parts) ws k c.index_mut.result.now c.requires.parts at }

pub loop-worker-preserved : goal.loop-worker-preserved
loop-worker-preserved c =
    let ws = c.args.wakers.now.items in
    let k = c.loop-worker.worker in
    let at = uncut_at k ws c.loop-worker.wakers.items c.index_mut.result.now c.loop-worker.invariant.0
    (omega (arith, c.loop-worker-test.true, c.len-worker-end.ensures, c.args.wakers.now.ok)) c.index_mut.ensures.value in (
      ap (λ (xs : List ParkerDeeds). slice_set xs k c.cut.new.self) c.loop-worker.invariant.0
          ∙ ap (λ (y : ParkerDeeds). slice_set (cut_below k ws) k y) c.cut.ensures.left
          ∙ cut_next k ws c.index_mut.result.now at
          ∙ ap (λ (n : ℕ). cut_below n ws) (sym (add-one k)),
      c.push_reserved.ensures.items
          ∙ ap (λ (xs : List ParkerDeeds). xs ++ c.cut.result ∷ []) c.loop-worker.invariant.1
          ∙ ap (λ (y : ParkerDeeds). links_below k ws ++ y ∷ []) c.cut.ensures.cut
          ∙ links_next k ws c.index_mut.result.now at
          ∙ ap (λ (n : ℕ). links_below n ws) (sym (add-one k)),
      (let many = c.loop-worker.invariant.2 in let more = c.push_reserved.ensures.len in omega arith),
      (let room = c.loop-worker.invariant.3 in let same = c.push_reserved.ensures.capacity in omega arith),
    )

pub returns-clause-wakers : goal.returns-clause-wakers
returns-clause-wakers c =
    let ws = c.args.wakers.now.items in
    let all : length ws ≤ c.loop-worker.worker = omega (arith, c.loop-worker-test.false, c.len-worker-end.ensures, c.args.wakers.now.ok) in
    c.loop-worker.invariant.0 ∙ cut_all c.loop-worker.worker ws all

pub returns-clause-row : goal.returns-clause-row
returns-clause-row c =
    let ws = c.args.wakers.now.items in
    let all : length ws ≤ c.loop-worker.worker = omega (arith, c.loop-worker-test.false, c.len-worker-end.ensures, c.args.wakers.now.ok) in
    c.loop-worker.invariant.1 ∙ links_all c.loop-worker.worker ws all
