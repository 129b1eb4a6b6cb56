-- Where a place is, seen from a ticket whose entry and state change: it is the ticket, or of its slot, or elsewhere.
use Rattle.std.proofs.Common.{◌≡◌, ◌≢◌, ℕ, ◌⊎◌, inl, inr, ap}
use Rattle.scq_word.specs.declared.setup.Setup.{Setup}
use Rattle.scq_word.proofs.TicketLemmas.{same_ticket}
use Rattle.scq_core.specs.Exports.{updated_entry, cycle, slot}
use Rattle.scq_core.proofs.UpdatedLemmas.{updated_entry_or}

-- the ticket itself
pub record Here (A B : Type 0) (c : Setup) (word : ℕ → ℕ → A) (z : A) (state : ℕ → ℕ → B) (x : B) (r t q p : ℕ) : Type 0 where
  pub ring : q ≡ r
  pub ticket : p ≡ t
  pub word_is : updated_entry word r (slot c t) z q (slot c p) ≡ z
  pub state_is : updated_entry state r t x q p ≡ x

-- another ticket of its slot, so of another cycle
pub record Beside (A B : Type 0) (c : Setup) (word : ℕ → ℕ → A) (z : A) (state : ℕ → ℕ → B) (x : B) (r t q p : ℕ) : Type 0 where
  pub ring : q ≡ r
  pub word_is : updated_entry word r (slot c t) z q (slot c p) ≡ z
  pub state_is : updated_entry state r t x q p ≡ state q p
  pub slot : slot c p ≡ slot c t
  pub turn : cycle c p ≢ cycle c t

-- a ticket of another slot or ring
pub record IsOtherSlot (A B : Type 0) (c : Setup) (word : ℕ → ℕ → A) (z : A) (state : ℕ → ℕ → B) (x : B) (r t q p : ℕ) : Type 0 where
  pub apart : q ≡ r → slot c p ≡ slot c t → ⊥
  pub word_is : updated_entry word r (slot c t) z q (slot c p) ≡ word q (slot c p)
  pub state_is : updated_entry state r t x q p ≡ state q p

pub places : {A B : Type 0} → (c : Setup) (word : ℕ → ℕ → A) (z : A) (state : ℕ → ℕ → B) (x : B) (r t q p : ℕ)
    → Here A B c word z state x r t q p ⊎ (Beside A B c word z state x r t q p ⊎ IsOtherSlot A B c word z state x r t q p)
places c word z state x r t q p =
    elim (updated_entry_or word r (slot c t) z q (slot c p)) [
      | inl a ↦
          elim (updated_entry_or state r t x q p) [
            | inl b ↦ inl (record { ring = a.0; ticket = b.1; word_is = a.2; state_is = b.2 })
            | inr b ↦
                inr
                (inl
                (record {
                  ring = a.0;
                  slot = a.1;
                  turn = λ same. b.0 a.0 (same_ticket c.order p t a.1 same);
                  word_is = a.2;
                  state_is = b.1;
                }))
          ]
      | inr a ↦
          elim (updated_entry_or state r t x q p) [
            | inl b ↦ absurd (a.0 b.0 (ap (slot c) b.1))
            | inr b ↦ inr (inr (record { apart = a.0; word_is = a.1; state_is = b.1 }))
          ]
    ]
