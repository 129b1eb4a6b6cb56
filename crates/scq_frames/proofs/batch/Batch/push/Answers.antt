-- The parts are those that were there, and the new one.
use Rattle.std.proofs.Common.{◌≡◌, ◌∙◌, refl, sym, ap, subst, List, ℕ, ◌++◌, ◌∷◌, [], arith}
use Rattle.std.specs.List.{All}
use Rattle.scq_frames.specs.Exports.{Part, part_of_view, AreParts, parts_at}
use Rattle.scq_frames.proofs.BatchLemmas.{are-more, encodable-view, parts-more}
use Rattle.scq_frames.proofs.batch.Batch.push.Goals as goal

pub invariant_of-self-2 : goal.invariant_of-self-2
invariant_of-self-2 c =
    let v = c.view_of-view.result in
    let bytes : List ℕ = c.self.inside.bytes.items in
    let same = c.view_of-view.ensures in
    let fits = encodable-view c.args.size c.args.message.now c.args.part v same (omega arith) (omega arith) (omega arith) (omega arith)
    c.requires.short c.requires.numbered in
    let of_message : All (λ (q : Part). q.file ≡ c.args.message.now.file) (parts_at bytes) =
    subst (λ (l : List Part). All (λ (q : Part). q.file ≡ c.args.message.now.file) l) (sym c.self.view_is) c.requires.file in
    let alike : All (λ (q : Part). q.file ≡ v.file) (parts_at bytes) =
    subst (λ (f : ℕ). All (λ (q : Part). q.file ≡ f) (parts_at bytes)) (sym (ap (λ (q : Part). q.file) same)) of_message in
    subst (λ (l : List ℕ). AreParts v.file l) (sym c.in_ok-push_part.ensures.pushed)
    (are-more c.self.inside.file v.file bytes (part_of_view v) c.self.invariant fits alike refl)

pub returns-clause-pushed : goal.returns-clause-pushed
returns-clause-pushed c =
    let v = c.view_of-view.result in
    let same = c.view_of-view.ensures in
    let fits = encodable-view c.args.size c.args.message.now c.args.part v same (omega arith) (omega arith) (omega arith) (omega arith)
    c.requires.short c.requires.numbered in
    ap parts_at c.in_ok-push_part.ensures.pushed
    ∙ parts-more c.self.inside.file c.self.inside.bytes.items (part_of_view v) c.self.invariant fits
    ∙ ap (λ (l : List Part). l ++ part_of_view v ∷ []) c.self.view_is
    ∙ ap (λ (q : Part). c.args.self.now ++ q ∷ []) same
