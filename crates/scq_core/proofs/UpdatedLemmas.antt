-- What a changed function gives at the argument and elsewhere, and that writing what stood there changes nothing.
use Rattle.std.proofs.Common.{◌≡◌, ℕ, ◌≢◌, ◌⊎◌, inl, inr, eq-eqb, ne_eqb, refl}
use Rattle.std.proofs.lemmas.Bool.{cases_eq}
use Rattle.scq_core.specs.Exports.{updated, Cells, Location, tail_of, head_of, threshold_of, entry_of, read, beside, written, updated_entry}

-- at the argument itself
pub updated_here : {A : Type 0} → (f : ℕ → A) (i : ℕ) (x : A) → updated f i x i ≡ x
updated_here f i x = rw (eq-eqb i i refl) refl

-- elsewhere
pub updated_else : {A : Type 0} → (f : ℕ → A) (i : ℕ) (x : A) (j : ℕ) → j ≢ i → updated f i x j ≡ f j
updated_else f i x j apart = rw (ne_eqb j i apart) refl

-- what holds of the new value there and of the old one elsewhere holds of the changed function
pub updated_cases : {A : Type 0} → (P : ℕ → A → Type 0) (f : ℕ → A) (i : ℕ) (x : A) (j : ℕ) → (j ≡ i → P j x) → (j ≢ i → P j (f j)) → P j (updated f i x j)
updated_cases P f i x j here elsewhere =
    elim (cases_eq j i) [
      | inl same ↦ rw (eq-eqb j i same) (here same)
      | inr apart ↦ rw (ne_eqb j i apart) (elsewhere apart)
    ]

-- by whether it is the argument, with the value there
pub updated_or : {A : Type 0} → (f : ℕ → A) (i : ℕ) (x : A) (j : ℕ) → ((j ≡ i) × (updated f i x j ≡ x)) ⊎ ((j ≢ i) × (updated f i x j ≡ f j))
updated_or f i x j =
    elim (cases_eq j i) [
      | inl same ↦ inl (same, rw (eq-eqb j i same) refl)
      | inr apart ↦ inr (apart, rw (ne_eqb j i apart) refl)
    ]

same_at : {A : Type 0} → (f : ℕ → A) (i j : ℕ) → updated f i (f i) j ≡ f j
same_at f i j =
    elim (cases_eq j i) [
      | inl same ↦ rw (eq-eqb j i same) (rw same refl)
      | inr apart ↦ rw (ne_eqb j i apart) refl
    ]

-- a value written as it was
pub updated_same : {A : Type 0} → (f : ℕ → A) (i : ℕ) → updated f i (f i) ≡ f
updated_same f i k j = same_at f i j k

-- the same for entries
pub updated_entry_same : {A : Type 0} → (f : ℕ → ℕ → A) (r s : ℕ) → updated_entry f r s (f r s) ≡ f
updated_entry_same f r s = rw (updated_same (f r) s) (updated_same f r)

-- a word that is written as it was, with what stood beside it, changes nothing
pub written_same : (m : Cells) (location : Location) → written m location (read m location) (beside m location) ≡ m
written_same m (tail_of r) = rw (updated_same m.tail r) refl
written_same m (head_of r) = rw (updated_same m.head r) refl
written_same m (threshold_of r) = rw (updated_same m.threshold r) refl
written_same m (entry_of r s) = rw (updated_entry_same m.entries.word r s, updated_entry_same m.entries.content r s) refl

-- entries: at the slot, in another slot of the ring, in another ring
pub updated_entry_here : {A : Type 0} → (f : ℕ → ℕ → A) (r s : ℕ) (x : A) → updated_entry f r s x r s ≡ x
updated_entry_here f r s x = rw (eq-eqb r r refl, eq-eqb s s refl) refl

-- what holds of the new entry there and of the old ones elsewhere holds of each
pub updated_entry_cases : {A : Type 0} → (P : ℕ → ℕ → A → Type 0) (f : ℕ → ℕ → A) (r s : ℕ) (x : A) (q z : ℕ) → (q ≡ r → z ≡ s → P q z x)
    → ((q ≡ r → z ≡ s → ⊥) → P q z (f q z)) → P q z (updated_entry f r s x q z)
updated_entry_cases P f r s x q z here elsewhere =
    elim (cases_eq q r) [
      | inl ring ↦
          elim (cases_eq z s) [
            | inl slot ↦ rw (eq-eqb q r ring, eq-eqb z s slot) (here ring slot)
            | inr apart ↦
                rw (eq-eqb q r ring, ne_eqb z s apart) (rw (← ring) (elsewhere (λ _ e. apart e)))
          ]
      | inr apart ↦ rw (ne_eqb q r apart) (elsewhere (λ e _. apart e))
    ]

pub updated_entry_or : {A : Type 0} → (f : ℕ → ℕ → A) (r s : ℕ) (x : A) (q z : ℕ)
    → ((q ≡ r) × (z ≡ s) × (updated_entry f r s x q z ≡ x)) ⊎ ((q ≡ r → z ≡ s → ⊥) × (updated_entry f r s x q z ≡ f q z))
updated_entry_or f r s x q z =
    elim (cases_eq q r) [
      | inl ring ↦
          elim (cases_eq z s) [
            | inl slot ↦ inl (ring, slot, rw (eq-eqb q r ring, eq-eqb z s slot) refl)
            | inr apart ↦ inr ((λ _ e. apart e), rw (eq-eqb q r ring, ne_eqb z s apart, ring) refl)
          ]
      | inr apart ↦ inr ((λ e _. apart e), rw (ne_eqb q r apart) refl)
    ]
