-- Where each seat stands in some view it still does when a view takes another's place, and when views are cut and joined.
use Rattle.std.proofs.Common.{◌≡◌, ◌≢◌, ℕ, zero, suc, ◌<◌, List, [], ◌∷◌, ◌++◌, map, length, refl, sym, ◌∙◌, ap, subst, inl, inr, arith}
use Rattle.std.specs.Prelude.{slice_set}
use Rattle.std.proofs.lemmas.Bool.{cases_eq}
use mathlib.Core.Option.{some, some-injective, some-ne-none}
use lib.ListN.{get_elem?}
use Rattle.atomic_table.proofs.Lists.{at_last, at_longer, set_else, set_here}
use Rattle.scq_word.specs.declared.setup.Setup.{Setup}
use Rattle.scq_core.specs.declared.phase.Phase.{Phase}
use Rattle.scq_band.specs.Exports.{Member, nobody, behind_first, first_alone, others_of, first_of, both_of, StandsAmong, StandsInAView, first_members}
use Rattle.scq_band.specs.Exports.{first_view, turned_member}
use Rattle.scq_band.specs.Known.{Known}

at_low : (views : List Known) (id : ℕ) (v : Known) → get_elem? views id ≡ some v → id < length views
at_low [] id v e = absurd (some-ne-none v (sym e))
at_low (x ∷ xs) zero v e = omega arith
at_low (x ∷ xs) (suc id) v e = let low = at_low xs id v e in omega (arith, low)

-- seats of different views are different
pub seat_apart : (owner : ℕ → ℕ × ℕ) (a b j id : ℕ) {m n : ℕ} → owner a ≡ (j, m) → owner b ≡ (id, n) → j ≢ id → a ≢ b
seat_apart owner a b j id one other apart same = apart (ap (λ (q : ℕ × ℕ). q.0) (sym one ∙ ap owner same ∙ other))

-- a turn leaves each seat its number
pub turned_stands : (c : Setup) (t : Phase) (x : ℕ) (y : List ℕ) (k : ℕ) (ms : List Member) → StandsAmong k ms → StandsAmong k (map (turned_member c t x y) ms)
turned_stands c t x y k [] is = absurd is
turned_stands c t x y k (m ∷ ms) (inl own) = inl own
turned_stands c t x y k (m ∷ ms) (inr behind) = inr (turned_stands c t x y k ms behind)

front_stands : (k : ℕ) (xs ys : List Member) → StandsAmong k xs → StandsAmong k (xs ++ ys)
front_stands k [] ys is = absurd is
front_stands k (x ∷ xs) ys (inl own) = inl own
front_stands k (x ∷ xs) ys (inr behind) = inr (front_stands k xs ys behind)

back_stands : (k : ℕ) (xs ys : List Member) → StandsAmong k ys → StandsAmong k (xs ++ ys)
back_stands k [] ys is = is
back_stands k (x ∷ xs) ys is = inr (back_stands k xs ys is)

-- a view takes the place of one whose seats stand in it
pub set_stands : (views : List Known) (id k : ℕ) (v w : Known) → get_elem? views id ≡ some v → (StandsAmong k v.seats → StandsAmong k w.seats)
    → StandsInAView k views → StandsInAView k (slice_set views id w)
set_stands views id k v w here goes is =
    elim (cases_eq is.id id) [
      | inl same ↦
          let its : is.view ≡ v = some-injective is.view v (sym is.there ∙ ap (get_elem? views) same ∙ here) in
          record {
            id = id;
            view = w;
            there = set_here views id w (at_low views id v here);
            stands = goes (subst (λ (u : Known). StandsAmong k u.seats) its is.stands);
          }
      | inr other ↦ record { id = is.id; view = is.view; there = set_else views id is.id w other ∙ is.there; stands = is.stands }
    ]

-- one more view
pub longer_stands : (views more : List Known) (k : ℕ) → StandsInAView k views → StandsInAView k (views ++ more)
longer_stands views more k is = record { id = is.id; view = is.view; there = at_longer views more is.id is.view is.there; stands = is.stands }

-- the first seat of a view gets a view of its own
pub peeled_stands : (views : List Known) (id k : ℕ) (v : Known) (x : Member) (xs : List Member) → v.seats ≡ x ∷ xs → get_elem? views id ≡ some v
    → StandsInAView k views → StandsInAView k (slice_set views id (others_of v) ++ first_of v ∷ [])
peeled_stands views id k v x xs seats here is =
    let left = slice_set views id (others_of v) in
    elim (cases_eq is.id id) [
      | inl same ↦
          let its : is.view ≡ v = some-injective is.view v (sym is.there ∙ ap (get_elem? views) same ∙ here) in
          let among : StandsAmong k (x ∷ xs) = subst (StandsAmong k) seats (subst (λ (u : Known). StandsAmong k u.seats) its is.stands) in
          elim among [
            | inl own ↦
                let alone : StandsAmong k (x ∷ []) = inl own in
                record {
                  id = length left;
                  view = first_of v;
                  there = at_last left (first_of v) (length left) refl;
                  stands = subst (λ (ys : List Member). StandsAmong k (first_alone ys)) (sym seats) alone;
                }
            | inr behind ↦
                record {
                  id = id;
                  view = others_of v;
                  there = at_longer left (first_of v ∷ []) id (others_of v) (set_here views id (others_of v) (at_low views id v here));
                  stands = subst (λ (ys : List Member). StandsAmong k (behind_first ys)) (sym seats) behind;
                }
          ]
      | inr other ↦
          record {
            id = is.id;
            view = is.view;
            there = at_longer left (first_of v ∷ []) is.id is.view (set_else views id is.id (others_of v) other ∙ is.there);
            stands = is.stands;
          }
    ]

-- a view takes in another
pub joined_stands : (views : List Known) (id other k : ℕ) (v w : Known) → get_elem? views id ≡ some v → get_elem? views other ≡ some w → other ≢ id
    → StandsInAView k views → StandsInAView k (slice_set (slice_set views id (both_of v w)) other nobody)
joined_stands views id other k v w here there apart is =
    let both = slice_set views id (both_of v w) in
    let in_both : get_elem? (slice_set both other nobody) id ≡ some (both_of v w) =
    set_else both other id nobody (λ e. apart (sym e)) ∙ set_here views id (both_of v w) (at_low views id v here) in
    let among : (u : Known) (n : ℕ) → is.id ≡ n → get_elem? views n ≡ some u → StandsAmong k u.seats =
    λ u n same at.
    let its : is.view ≡ u = some-injective is.view u (sym is.there ∙ ap (get_elem? views) same ∙ at) in
    subst (λ (y : Known). StandsAmong k y.seats) its is.stands in
    elim (cases_eq is.id other) [
      | inl same ↦ record { id = id; view = both_of v w; there = in_both; stands = front_stands k w.seats v.seats (among w other same there) }
      | inr beside ↦
          elim (cases_eq is.id id) [
            | inl same ↦ record { id = id; view = both_of v w; there = in_both; stands = back_stands k w.seats v.seats (among v id same here) }
            | inr elsewhere ↦
                record {
                  id = is.id;
                  view = is.view;
                  there = set_else both other is.id nobody beside ∙ set_else views id is.id (both_of v w) elsewhere ∙ is.there;
                  stands = is.stands;
                }
          ]
    ]

-- all stand in the first view
first_stands : (n k : ℕ) → k < n → StandsAmong k (first_members n)
first_stands zero k low = absurd (omega arith)
first_stands (suc n) k low = elim (cases_eq n k) [ inl own ↦ inl own | inr other ↦ inr (first_stands n k (omega (arith, low, other))) ]

pub opened_stands : (c : Setup) (k : ℕ) → k < c.seats → StandsInAView k (first_view c ∷ [])
opened_stands c k low = record { id = 0; view = first_view c; there = refl; stands = first_stands c.seats k low }
