-- The blocks have one answer more, and the count of direct ones follows.
use Rattle.std.proofs.Common.{rules, ◌≡◌, ◌∙◌, ◌+◌, ◌∷◌, ◌++◌, [], refl, ap, arith, map, sym, Bool, true, false, List, length}
use Rattle.std.specs.Prelude.{filter, if◌then◌else◌}
use Rattle.std.proofs.lemmas.List.Elements.{filter-append}
use Rattle.scq_collect.specs.Exports.{is_direct, given_answer, without_way}
use Rattle.scq_collect.specs.declared.answered.Answered.{Answered}
use Rattle.std.proofs.lemmas.List.{length-append, map-append}
use Rattle.scq_collect.proofs.BlockLemmas.{one-more}
use Rattle.scq_collect.proofs.answers.Answers.push.Goals as goal

-- one more answer
one-direct : (items : List Answered) (a : Answered) → length (filter is_direct (items ++ a ∷ [])) ≡ length (filter is_direct items) + (if is_direct a then 1 else 0)
one-direct items a = ap length (filter-append is_direct items (a ∷ [])) ∙ length-append (filter is_direct items) (filter is_direct (a ∷ [])) ∙ ap (λ n. length (filter is_direct items) + n) (at (is_direct a) refl) where
  at : (b : Bool) → is_direct a ≡ b → length (filter is_direct (a ∷ [])) ≡ (if is_direct a then 1 else 0)
  at true e = rw e refl
  at false e = rw e refl

pub invariant_of-self-2 : goal.invariant_of-self-2
invariant_of-self-2 c =
    let items = c.self.inside.log.items in
    let given = given_answer c.args.given in
    let held = c.in_ok-before.ensures.held (map without_way items) c.self.invariant.0 in
    let long = length-append items (given ∷ []) in
    let many = c.self.invariant.1 in
    let directs = one-direct items given in
    let more_direct : c.in_ok-direct.direct ≡ c.self.inside.direct + c.directs-more.result = search rules in
    let more : c.in_ok-count.count ≡ c.self.inside.count + 1 = search rules in
    rw (c.and-self-inside.ensures, map-append without_way items (given ∷ [])) (
      one-more c.make_room.new.full.items c.make_room.new.block c.push.new.self c.in_ok-before.before (map without_way items) (without_way given) held
          c.push.ensures.codable c.push.ensures.pushed,
      omega (arith, long, many, more),
      more_direct ∙ ap (λ n. n + c.directs-more.result) c.self.invariant.2 ∙ ap (λ n. length (filter is_direct items) + n) c.directs-more.ensures ∙ sym directs,
    )
