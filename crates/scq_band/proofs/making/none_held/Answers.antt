use Rattle.std.proofs.Common.{◌≡◌, ◌-◌, ◌++◌, ◌∙◌, ℕ, List, Bool, false, [], replicate, take, ap, arith}
use Rattle.std.proofs.Math.Seq.{take-nil}
use Rattle.scq_word.specs.Exports.{n_of}
use Rattle.scq_band.proofs.Starting.{holds_none}
use Rattle.scq_band.proofs.making.none_held.Goals as goal

-- what an empty list is filled up to
filled_up : (n k : ℕ) (old : List Bool) → k ≡ 0 → old ≡ [] → take n old ++ replicate (n - k) false ≡ replicate n false
filled_up n k old none is =
    let all : n - k ≡ n = omega (arith, none) in
    ap (λ (l : List Bool). take n l ++ replicate (n - k) false) is ∙ ap (λ (l : List Bool). l ++ replicate (n - k) false) (take-nil n)
    ∙ ap (λ (m : ℕ). replicate m false) all

pub returns : goal.returns
returns c =
    let n = c.n-n.result in
    let size : n ≡ n_of c.args.setup.now.order = c.n-n.ensures ∙ ap n_of c.shape.ensures in
    holds_none c.args.setup.now n c.resize.new.self.items size
    (c.in_ok-resize.ensures.items ∙ filled_up n _ _ c.in_ok-held.ensures.len c.in_ok-held.ensures.items)
