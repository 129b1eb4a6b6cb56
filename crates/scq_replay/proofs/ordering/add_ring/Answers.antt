use Rattle.std.proofs.Common.{◌≡◌, ℕ, ◌+◌, ◌<◌, rules, List, [], ◌∷◌, ◌++◌, append_assoc, get_or, length, take, refl, ◌∙◌, sym, ap}
use Rattle.std.specs.Prelude.{codes, decimal, flat_map}
use Rattle.std.proofs.lemmas.Grind.{flat_map-append}
use Rattle.std.proofs.lemmas.List.{append-nil, take_all, take_more}
use Rattle.scq_core.specs.Exports.{machine_of}
use Rattle.scq_replay.specs.Exports.{member_line}
use Rattle.scq_replay.proofs.ordering.add_ring.Goals as goal

-- the line of a ring before those of its members
joined : (old one two three rest : List ℕ) (ring number : ℕ) → number ≡ ring → one ≡ old ++ codes "ring " ++ decimal number → two ≡ one ++ codes "\n"
    → three ≡ two ++ rest → three ≡ old ++ (codes "ring " ++ decimal ring ++ codes "\n" ++ rest)
joined old one two three rest ring number same a b c = rw (c, b, a, same) (simp append_assoc refl)

pub returns : goal.returns
returns c =
    let lines = flat_map (member_line (machine_of c.args.state.now)) in
    joined c.args.text.now.items _ c.extend_from_slice.new.self.items c.loop-member.text.items (lines c.args.order.now.items) c.args.ring c.from.result
    c.from.ensures c.in_ok-add_number.ensures c.in_ok-extend_from_slice.ensures.items
    (c.loop-member.invariant
    ∙ ap (λ order. c.extend_from_slice.new.self.items ++ lines order)
    (take_all c.loop-member.member-index c.deref-member-items.result.now (search rules) ∙ c.deref-member-items.ensures.value))

-- one member more
next-line : {A : Type 0} (line : A → List ℕ) (members : List A) (at : ℕ) (d : A) (old text new : List ℕ) → at < length members
    → text ≡ old ++ flat_map line (take at members) → new ≡ text ++ line (get_or members at d) → new ≡ old ++ flat_map line (take (at + 1) members)
next-line line members at d old text new within so_far more =
    let member = get_or members at d in
    let before = flat_map line (take at members) in
    more
    ∙ ap (λ (lines : List ℕ). lines ++ line member) so_far
    ∙ append_assoc old before (line member)
    ∙ ap (λ (lines : List ℕ). old ++ (before ++ lines)) (sym (append-nil (line member)))
    ∙ ap (λ (lines : List ℕ). old ++ lines) (sym (flat_map-append line (take at members) (member ∷ [])))
    ∙ ap (λ (front : List _). old ++ flat_map line front) (sym (take_more members at d within))

pub loop-member-preserved : goal.loop-member-preserved
loop-member-preserved c =
    next-line (member_line (machine_of c.args.state.now)) c.deref-member-items.result.now c.loop-member.member-index _ c.extend_from_slice.new.self.items
    c.loop-member.text.items c.add_member.new.text.items c.loop-member-test.true c.loop-member.invariant c.in_ok-add_member.ensures
