-- Tables and contents of files, with one file more.
use Rattle.std.proofs.Common.{◌≡◌, ◌⊎◌, ◌∙◌, refl, sym, ap, subst, inl, inr, true, false, ℕ, Bool, ◌||◌, List, [], ◌∷◌, ◌++◌, Option, Some, None, IsSome, IfSome, cond}
use Rattle.std.specs.Prelude.{IsSomeAnd, option_and_then}
use Rattle.std.specs.List.{list_any}
use Rattle.std.specs.Option.{option_map}
use Rattle.std.specs.Str.{bytes_eq}
use Rattle.std.proofs.lemmas.Slice.Eq.{bytes_eq-Decides}
use Rattle.scq_outside.specs.Exports.{without_name}
use Rattle.scq_outside.specs.Table.{Table}
use Rattle.scq_service.specs.Exports.{contents_of, IfVisible, without_names}

-- one name more leaves the table
pub without-more : (names : List (List ℕ)) (name : List ℕ) (table : Table)
    → without_names (names ++ name ∷ []) table ≡ without_name name (without_names names table)
without-more [] name table = refl
without-more (x ∷ xs) name table = without-more xs name (without_name x table)

-- a name that isn't in the table now never was in it, or is one of those that were taken out
pub gone : (names : List (List ℕ)) (table : Table) (name : List ℕ) → without_names names table name ≡ None
    → (table name ≡ None) ⊎ (list_any (bytes_eq name) names ≡ true)
gone [] table name e = inl e
gone (x ∷ xs) table name e = elim (gone xs (without_name x table) name e) [
  | inl none ↦ at (bytes_eq x name) refl none
  | inr later ↦ inr (ap (λ b. bytes_eq name x || b) later ∙ or-true (bytes_eq name x))
] where
  or-true : (b : Bool) → (b || true) ≡ true
  or-true true = refl
  or-true false = refl

  at : (b : Bool) → bytes_eq x name ≡ b → cond b None (table name) ≡ None → (table name ≡ None) ⊎ ((bytes_eq name x || list_any (bytes_eq name) xs) ≡ true)
  at true same e =
      let is : x ≡ name = (bytes_eq-Decides x name).0 same in
      let back : bytes_eq name x ≡ true = ap (λ n. bytes_eq n x) (sym is) ∙ ap (λ n. bytes_eq x n) is ∙ same in
      inr (ap (λ b. b || list_any (bytes_eq name) xs) back)
  at false other e = inl e

-- there are no contents of no files
pub no-contents : {contents : List (List ℕ)} → Some [] ≡ Some contents → [] ≡ contents
no-contents e = cc

-- contents of several files are that of the first, and those of the others
pub parts : (o : Option (List ℕ)) (more : Option (List (List ℕ))) (contents : List (List ℕ))
    → option_and_then (λ c. option_map (λ cs. c ∷ cs) more) o ≡ Some contents
    → (c : List ℕ) × (cs : List (List ℕ)) × (o ≡ Some c) × (more ≡ Some cs) × (contents ≡ c ∷ cs)
parts None more contents e = cc
parts (Some c) None contents e = cc
parts (Some c) (Some cs) contents e = (c, cs, refl, refl, cc)

-- the contents with one more
pub contents-more : (table : Table) (names : List (List ℕ)) (name content : List ℕ) (contents : List (List ℕ)) → contents_of table names ≡ Some contents
    → without_names names table name ≡ Some content
    → contents_of table (names ++ name ∷ []) ≡ Some (contents ++ content ∷ [])
contents-more table [] name content contents all this =
    ap (option_and_then (λ content. option_map (λ more. content ∷ more) (Some []))) this
    ∙ ap (λ (before : List (List ℕ)). Some (before ++ content ∷ [])) (no-contents all)
contents-more table (x ∷ xs) name content contents all this =
    let p = parts (table x) (contents_of (without_name x table) xs) contents all in
    ap (option_and_then (λ c. option_map (λ more. c ∷ more) (contents_of (without_name x table) (xs ++ name ∷ [])))) p.2
    ∙ ap (option_map (λ more. p.0 ∷ more)) (contents-more (without_name x table) xs name content p.1 p.3 this)
    ∙ ap (λ (before : List (List ℕ)). Some (before ++ content ∷ [])) (sym p.4)

-- what is visible of the files so far, and of the next one
pub visible-more : (old now : Option Table) (names : List (List ℕ)) (name : List ℕ) (before : Option (List ℕ)) (P Q : List (List ℕ) → Type 0)
    → now ≡ option_map (without_names names) old → IfSome now (λ files. IsSome (files name) × (before ≡ files name)) → IfVisible old names P
    → ((contents : List (List ℕ)) (content : List ℕ) → before ≡ Some content → P contents → Q (contents ++ content ∷ [])) → IfVisible old (names ++ name ∷ []) Q
visible-more None now names name before P Q is there seen more = tt
visible-more (Some table) now names name before P Q is there seen more =
    let T : Option Table → Type 0 = λ o. IfSome o (λ files. IsSome (files name) × (before ≡ files name)) in
    let here : IsSome (without_names names table name) × (before ≡ without_names names table name) = subst T is there in
    next (without_names names table name) refl here.0 here.1 (contents_of table names) refl seen
  where
    next : (o : Option (List ℕ)) → without_names names table name ≡ o → IsSome o → before ≡ o → (all : Option (List (List ℕ)))
        → contents_of table names ≡ all → IsSomeAnd all P
        → IsSomeAnd (contents_of table (names ++ name ∷ [])) Q
    next None e some is all f seen = absurd (cc some)
    next (Some content) e some is None f seen = absurd seen
    next (Some content) e some is (Some contents) f seen =
        let R : Option (List (List ℕ)) → Type 0 = λ o. IsSomeAnd o Q in
        subst R (sym (contents-more table names name content contents f e)) (more contents content is seen)
