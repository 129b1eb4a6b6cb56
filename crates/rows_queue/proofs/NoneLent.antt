-- A hand in which each index has its buffer: a get and a put leave it so.
use Rattle.std.proofs.Common.{◌≡◌, ℕ, arith, List, [], ◌∷◌, ◌++◌, refl, ◌∙◌, ap, eq-eqb, ne_eqb, inl, inr}
use Rattle.std.specs.Prelude.{Some, None, Option, All, sum_by}
use Rattle.std.proofs.lemmas.List.Elements.{All-head, All-tail}
use Rattle.std.proofs.lemmas.List.Sums.{sum_by-cons}
use Rattle.scq_law.specs.Exports.{times}
use Rattle.scq_law.proofs.Base.SeatSums.{contains_none}
use Rattle.std.proofs.lemmas.Bool.{cases_eq}
use Rattle.scq_band.specs.Exports.{Identity, without_index, having_seen, seat_after_put, SeatHasTaken, SeatFoundEmpty, lifted_of, AreTheLifted}
use Rattle.scq_band.specs.Standing.{Standing}

module _ {B : Type 0} where
  lifted-come : (xs : List (ℕ × Option B)) (i : ℕ) (b : B) → lifted_of (xs ++ (i, Some b) ∷ []) ≡ lifted_of xs
  lifted-come [] i b = refl
  lifted-come ((j, Some a) ∷ xs) i b = lifted-come xs i b
  lifted-come ((j, None) ∷ xs) i b = ap (λ (l : List ℕ). j ∷ l) (lifted-come xs i b)

  lifted-without : (xs : List (ℕ × Option B)) (i : ℕ) → lifted_of xs ≡ [] → lifted_of (without_index i xs) ≡ []
  lifted-without [] i none = refl
  lifted-without ((j, Some a) ∷ xs) i none =
      elim (cases_eq j i) [
        | inl here ↦ rw (eq-eqb j i here) (lifted-without xs i none)
        | inr away ↦ rw (ne_eqb j i away) (lifted-without xs i none)
      ]
  lifted-without ((j, None) ∷ xs) i none = absurd (cc)

  pub lent_after_get : (contents : B → List ℕ) (IsSame : B → B → Type 0) (r p i : ℕ) (s u : Standing B) → SeatHasTaken contents IsSame r p i s u
      → lifted_of s.hand ≡ [] → lifted_of u.hand ≡ []
  lent_after_get contents IsSame r p i s u got none =
      ap (λ (z : Standing B). lifted_of z.hand) got.seat ∙ lifted-come s.hand i got.buffer ∙ none

  pub lent_after_nothing : (r head : ℕ) (s u : Standing B) → SeatFoundEmpty r head s u → lifted_of s.hand ≡ [] → lifted_of u.hand ≡ []
  lent_after_nothing r head s u found none = ap (λ (z : Standing B). lifted_of z.hand) found.seat ∙ none

  pub lent_after_put : (r i p : ℕ) (w : List ℕ) (s u : Standing B) → u ≡ having_seen u.seen (seat_after_put r i p w s) → lifted_of s.hand ≡ []
      → lifted_of u.hand ≡ []
  lent_after_put r i p w s u put none = ap (λ (z : Standing B). lifted_of z.hand) put ∙ lifted-without s.hand i none

  -- a call that answers a spent ticket leaves the hand, whether the ticket was drawn or kept
  pub lent_after_spent : (o : Option ℕ) (f : Standing B → Standing B) (s u : Standing B) → s.spent ≡ o → ((z : Standing B) → (f z).hand ≡ z.hand)
      → (s.spent ≡ None → u ≡ f s) → ((t : ℕ) → s.spent ≡ Some t → u ≡ s) → lifted_of s.hand ≡ [] → lifted_of u.hand ≡ []
  lent_after_spent None f s u is same drew kept none = ap (λ (z : Standing B). lifted_of z.hand) (drew is) ∙ ap lifted_of (same s) ∙ none
  lent_after_spent (Some t) f s u is same drew kept none = ap (λ (z : Standing B). lifted_of z.hand) (kept t is) ∙ none

module _ {B : Type 0} (IsSame : B → B → Type 0) (band : Identity B) where
  -- where nothing is lifted, nothing is out
  none_lifted : (i : ℕ) (seats : List (Standing B)) → All (λ (s : Standing B). lifted_of s.hand ≡ []) seats
      → 0 ≡ sum_by (λ (s : Standing B). times i (lifted_of s.hand)) seats
  none_lifted i [] all = refl
  none_lifted i (s ∷ ss) all =
      let rest = none_lifted i ss (All-tail (λ (t : Standing B). lifted_of t.hand ≡ []) s ss all) in
      let here : times i (lifted_of s.hand) ≡ 0 = ap (times i) (All-head (λ (t : Standing B). lifted_of t.hand ≡ []) s ss all) in
      let both = sum_by-cons (λ (t : Standing B). times i (lifted_of t.hand)) s ss in
      omega (arith, rest, here, both)

  pub none_out : (seats : List (Standing B)) → All (λ (s : Standing B). lifted_of s.hand ≡ []) seats → AreTheLifted IsSame band seats []
  none_out seats all = record { lifted = λ i. none_lifted i seats all; same = λ o has. absurd (contains_none o has) }
