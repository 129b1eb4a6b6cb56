-- The part that comes first is the first of the parts, and its bytes are there.
use Rattle.std.proofs.Common.{rules, ◌≡◌, ◌∙◌, sym, ap, List, ℕ, ◌+◌, ◌-◌, ◌∷◌, None, length, drop, arith, length-drop}
use Rattle.std.proofs.lemmas.List.{take_all, length-take}
use Rattle.scq_frames.specs.Exports.{part_of_view, parts_at}
use Rattle.scq_frames.proofs.BatchLemmas.{part_at-room, parts-at-none, parts-at-some, in-none}
use Rattle.scq_frames.proofs.encoded.next_part.Goals as goal

pub returns-in_err-view-clause-parts : goal.returns-in_err-view-clause-parts
returns-in_err-view-clause-parts c =
    let is : c.from_residual.result ≡ None = search rules in
    in-none c.from_residual.result _ _ is (parts-at-none c.args.bytes.now (sym c.in_err-view.ensures.part))

pub slice_bounds-result-count : goal.slice_bounds-result-count
slice_bounds-result-count c = part_at-room c.args.bytes.now (part_of_view c.in_ok-view.view) (sym c.in_ok-view.ensures.part)

pub slice_bounds-result-start : goal.slice_bounds-result-start
slice_bounds-result-start c = part_at-room c.args.bytes.now (part_of_view c.in_ok-view.view) (sym c.in_ok-view.ensures.part)

pub returns-clause-parts : goal.returns-clause-parts
returns-clause-parts c =
    let bytes : List ℕ = c.args.bytes.now in
    let p = part_of_view c.in_ok-view.view in
    let start : ℕ = 24 + length p.payload in
    parts-at-some bytes p (sym c.in_ok-view.ensures.part)
    ∙ ap (λ (l : List ℕ). p ∷ parts_at l) (sym (take_all (length bytes - start) (drop start bytes) (omega (arith, length-drop start bytes))))

pub returns-clause-shorter : goal.returns-clause-shorter
returns-clause-shorter c =
    let bytes : List ℕ = c.args.bytes.now in
    let p = part_of_view c.in_ok-view.view in
    let start : ℕ = 24 + length p.payload in
    let room = part_at-room bytes p (sym c.in_ok-view.ensures.part) in
    omega (arith, room, length-take (length bytes - start) (drop start bytes), length-drop start bytes)
