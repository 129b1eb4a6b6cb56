-- Two prefixes of one list are comparable: by their first steps, which are those of the list.
use Rattle.std.proofs.Common.{◌≡◌, ℕ, List, [], ◌∷◌, ◌++◌, refl, sym, ◌∙◌, ap, inl, inr}
use Rattle.std.specs.Prelude.{drop}
use Rattle.scq_core.specs.declared.step.Step.{Step}
use Rattle.scq_law.specs.Exports.{AllPrefixes}
use Rattle.scq_band.specs.Exports.{Seen, AreComparable, EachTwoPrefixesAreComparable, HaveSeenOneRun}
use Rattle.scq_band.proofs.SeenCalls.{among}

-- of a longer prefix by the same step the others are comparable
behind : (x y : ℕ × Step) (xs ys : List (ℕ × Step)) → x ≡ y → AreComparable xs ys → AreComparable (x ∷ xs) (y ∷ ys)
behind x y xs ys same either =
    elim either [
      | inl p ↦ inl (record { more = p.more; is = λ i. sym same i ∷ p.is i })
      | inr p ↦ inr (record { more = p.more; is = λ i. same i ∷ p.is i })
    ]

pub two_prefixes : EachTwoPrefixesAreComparable
two_prefixes [] other steps a b = inl (record { more = other; is = refl })
two_prefixes (x ∷ xs) [] steps a b = inr (record { more = x ∷ xs; is = refl })
two_prefixes (x ∷ xs) (y ∷ ys) steps a b =
    let e : x ∷ (xs ++ a.more) ≡ y ∷ (ys ++ b.more) = sym a.is ∙ b.is in
    behind x y xs ys (cc)
    (two_prefixes xs ys (xs ++ a.more) (record { more = a.more; is = refl }) (record { more = b.more; is = ap (drop 1) e }))

-- two who have seen prefixes of one run have seen one run
pub seen_of_one : (one other : Seen) (steps : List (ℕ × Step)) → AllPrefixes one.runs steps → AllPrefixes other.runs steps → HaveSeenOneRun one other
seen_of_one one other steps all others p q in_one in_other =
    two_prefixes p q steps (among one.runs p steps all in_one) (among other.runs q steps others in_other)
