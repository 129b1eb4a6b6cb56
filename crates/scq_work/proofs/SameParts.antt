-- The parts of batches are those that went on in them, in some order: on each topic they are the same.
use Rattle.std.proofs.Common.{◌≡◌, refl, sym, ◌∙◌, ap, subst, true, false, Bool, ℕ, List, [], ◌∷◌, ◌++◌}
use Rattle.std.specs.Prelude.{◌==◌}
use Rattle.std.specs.List.Sorted.{IsPermutation}
use Rattle.std.proofs.lemmas.Bool.{eq-eqb, eqb-true}
use Rattle.std.proofs.lemmas.List.Elements.{filter-append}
use Rattle.std.proofs.lemmas.List.Sorted.{IsPermutation-refl, IsPermutation-sym, IsPermutation-trans, IsPermutation-cons, IsPermutation-middle}
use Rattle.scq_frames.specs.Exports.{Part}
use Rattle.scq_worker.specs.Exports.{AreBatchesOf, parts_among, parts_on}

-- a part on a topic, and one on another
kept : (topic : ℕ) (p : Part) (ps : List Part) → (p.topic == topic) ≡ true → parts_on topic (p ∷ ps) ≡ p ∷ parts_on topic ps
kept topic p ps is = rw is refl

skipped : (topic : ℕ) (p : Part) (ps : List Part) → (p.topic == topic) ≡ false → parts_on topic (p ∷ ps) ≡ parts_on topic ps
skipped topic p ps is = rw is refl

-- the first part on a topic, with what stands before it and behind it
first-on : (topic : ℕ) (x : Part) (rest ys : List Part) → x ∷ rest ≡ parts_on topic ys
    → (us : List Part) × (vs : List Part) × (ys ≡ us ++ x ∷ vs) × (parts_on topic us ≡ [])
first-on topic x rest [] is = absurd (cc)
first-on topic x rest (y ∷ ys) is = at (λ whole. first-on topic x rest ys whole) (y.topic == topic) refl where
  at : (x ∷ rest ≡ parts_on topic ys → (us : List Part) × (vs : List Part) × (ys ≡ us ++ x ∷ vs) × (parts_on topic us ≡ [])) → (b : Bool)
      → (y.topic == topic) ≡ b → (us : List Part) × (vs : List Part) × (y ∷ ys ≡ us ++ x ∷ vs) × (parts_on topic us ≡ [])
  at more true e =
      let whole : x ∷ rest ≡ y ∷ parts_on topic ys = is ∙ kept topic y ys e in
      let same : y ≡ x = cc in
      ([], ys, ap (λ (z : Part). z ∷ ys) same, refl)
  at more false e =
      let its = more (is ∙ skipped topic y ys e) in
      (y ∷ its.0, its.1, ap (λ (l : List Part). y ∷ l) its.2, skipped topic y its.0 e ∙ its.3)

-- what is left without the first of each
without-first : (x : Part) (xs us vs ys : List Part) → ((topic : ℕ) → parts_on topic (x ∷ xs) ≡ parts_on topic ys) → ys ≡ us ++ x ∷ vs
    → parts_on x.topic us ≡ [] → (topic : ℕ) → parts_on topic xs ≡ parts_on topic (us ++ vs)
without-first x xs us vs ys same is none topic = at (x.topic == topic) refl where
  on : Part → Bool
  on p = p.topic == topic

  whole : parts_on topic (x ∷ xs) ≡ parts_on topic us ++ parts_on topic (x ∷ vs)
  whole = same topic ∙ ap (parts_on topic) is ∙ filter-append on us (x ∷ vs)

  at : (b : Bool) → (x.topic == topic) ≡ b → parts_on topic xs ≡ parts_on topic (us ++ vs)
  at false e =
      sym (skipped topic x xs e) ∙ whole ∙ ap (λ (l : List Part). parts_on topic us ++ l) (skipped topic x vs e) ∙ sym (filter-append on us vs)
  at true e =
      let before : parts_on topic us ≡ [] = subst (λ t. parts_on t us ≡ []) (eqb-true x.topic topic e) none in
      let both : x ∷ parts_on topic xs ≡ x ∷ parts_on topic vs =
      sym (kept topic x xs e) ∙ whole ∙ ap (λ (l : List Part). l ++ parts_on topic (x ∷ vs)) before ∙ kept topic x vs e in
      let behind : parts_on topic xs ≡ parts_on topic vs = cc in
      behind ∙ sym (filter-append on us vs ∙ ap (λ (l : List Part). l ++ parts_on topic vs) before)

-- parts that are the same on each topic are the same, in some order
same-on-each : (xs ys : List Part) → ((topic : ℕ) → parts_on topic xs ≡ parts_on topic ys) → IsPermutation xs ys
same-on-each [] [] same = IsPermutation-refl []
same-on-each [] (y ∷ ys) same =
    let none : [] ≡ y ∷ parts_on y.topic ys = same y.topic ∙ kept y.topic y ys (eq-eqb y.topic y.topic refl) in
    absurd (cc)
same-on-each (x ∷ xs) ys same =
    let its = first-on x.topic x (parts_on x.topic xs) ys (sym (kept x.topic x xs (eq-eqb x.topic x.topic refl)) ∙ same x.topic) in
    let us = its.0 in
    let vs = its.1 in
    let rest = same-on-each xs (us ++ vs) (without-first x xs us vs ys same its.2 its.3) in
    subst (IsPermutation (x ∷ xs)) (sym its.2)
    (IsPermutation-trans (x ∷ xs) (x ∷ (us ++ vs)) (us ++ x ∷ vs) (IsPermutation-cons x xs (us ++ vs) rest)
    (IsPermutation-sym (us ++ x ∷ vs) (x ∷ (us ++ vs)) (IsPermutation-middle us x vs)))

pub batches-hold : (most : ℕ) (parts : List Part) (batches : List (List Part)) → AreBatchesOf most parts batches → IsPermutation parts (parts_among batches)
batches-hold most parts batches are = same-on-each parts (parts_among batches) are.same
