use Rattle.std.proofs.Common.{◌≡◌, ◌∙◌, sym, List, ℕ, ap, ◌≤◌, ◌-◌, ◌++◌, length, take, drop, arith}
use Rattle.std.proofs.lemmas.List.{drop-drop, take_at, length-take-le, take-append-drop}
use Rattle.std.proofs.lemmas.Grind.{common_steps}
use Rattle.scq_outside.specs.Exports.{Plain}
use Rattle.scq_outside.proofs.plain_source.PlainSourceSource.read.Goals as goal

-- the first n bytes of a list, copied over the front of a buffer, and then the rest are the list
front_then_rest : (whole copied over : List ℕ) (n : ℕ) → copied ≡ take n whole → n ≤ length whole → whole ≡ take n (copied ++ over) ++ drop n whole
front_then_rest whole copied over n same fits =
    let long : length copied ≡ n = ap length same ∙ length-take-le n whole fits in
    sym (ap (λ front. front ++ drop n whole) (take_at copied over n long ∙ same) ∙ take-append-drop n whole)

-- a slice from an index to its end is what drop gives
to_the_end : (bytes : List ℕ) (at : ℕ) → take (length bytes - at) (drop at bytes) ≡ drop at bytes
to_the_end bytes at = grind (arith, common_steps)

abbrev left_of : Plain → List ℕ
left_of s = s.left

pub returns-else-count-eq0-clause-moved : goal.returns-else-count-eq0-clause-moved
returns-else-count-eq0-clause-moved c =
    let n = c.min-count.result in
    let items = c.self.inside.bytes.items in
    let at = c.self.inside.at in
    let rest : take (length c.deref.result.now - at) (drop at c.deref.result.now) ≡ c.args.self.now.left =
    to_the_end c.deref.result.now at ∙ ap (drop at) c.deref.ensures.value ∙ ap left_of c.self.view_is in
    let copied : c.copy_from_slice.new.self ≡ take n c.args.self.now.left = c.copy_from_slice.ensures.after ∙ ap (take n) rest in
    let fits : n ≤ length c.args.self.now.left = omega (arith, c.min-count.ensures, ap length rest) in
    front_then_rest c.args.self.now.left c.copy_from_slice.new.self (drop n c.args.into.now) n copied fits
    ∙ ap (λ left. take n (c.copy_from_slice.new.self ++ drop n c.args.into.now) ++ left) (ap (drop n) (sym (ap left_of c.self.view_is)) ∙ drop-drop n at items)
