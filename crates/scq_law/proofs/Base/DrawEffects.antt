-- A dequeue draws a ticket, and no entry changes: the books stay, and what the other seats have.
use Rattle.std.proofs.Common.{◌≡◌, ℕ, inl, inr, sym, ◌∙◌, refl}
use Rattle.scq_word.specs.declared.setup.Setup.{Setup}
use Rattle.scq_core.specs.Exports.{Entries}
use Rattle.scq_core.proofs.UpdatedLemmas.{updated_entry_or, updated_entry_cases}
use Rattle.scq_law.proofs.Base.Ghosts.{Ghost, unopened, opened, dead, took, waiting, with_get}
use Rattle.scq_law.proofs.Base.BaseGroup.{IsBooked, Moves, Effect}

module _ (c : Setup) (e : Entries) (g : Ghost) (k r h : ℕ) (fresh : g.gets r h ≡ unopened) (booked : IsBooked c e g) where
  -- what may still be taken is the same as before
  same_waiting : (q p : ℕ) → waiting ((with_get g r h (opened k)).gets q p) ≡ waiting (g.gets q p)
  same_waiting q p =
      updated_entry_cases (λ a b v. waiting v ≡ waiting (g.gets a b)) g.gets r h (opened k) q p
      (λ ring ticket. let was : g.gets q p ≡ unopened = rw (ring, ticket) fresh in rw was refl) (λ _. refl)

  began_booked : IsBooked c e (with_get g r h (opened k))
  began_booked =
      record {
        live = λ q p has. let old = booked.live q p has in (old.0, same_waiting q p ∙ old.1);
        stands = λ q p i w b is waits. booked.stands q p i w b is (sym (same_waiting q p) ∙ waits);
        over = λ q p first at none. same_waiting q p ∙ booked.over q p first at none;
        taken =
            λ q p j x got.
            elim (updated_entry_or g.gets r h (opened k) q p) [
              | inl a ↦ absurd (cc)
              | inr a ↦ booked.taken q p j x (sym a.1 ∙ got)
            ];
        never =
            λ q p gone.
            elim (updated_entry_or g.gets r h (opened k) q p) [
              | inl a ↦ absurd (cc)
              | inr a ↦ booked.never q p (sym a.1 ∙ gone)
            ];
        shut =
            λ q p gone.
            elim (updated_entry_or g.gets r h (opened k) q p) [
              | inl a ↦ absurd (cc)
              | inr a ↦ booked.shut q p (sym a.1 ∙ gone)
            ];
      }

  began_moves : Moves c e g k e (with_get g r h (opened k))
  began_moves =
      record {
        pends = λ j q p i apart is. is;
        lies = λ q p i w b is. is;
        opens =
            λ j q p apart is.
            updated_entry_cases (λ _ _ v. v ≡ opened j) g.gets r h (opened k) q p (λ ring ticket. absurd (cc)) (λ _. is);
        ends =
            λ q p is.
            updated_entry_cases (λ _ _ v. v ≡ dead) g.gets r h (opened k) q p (λ ring ticket. absurd (cc)) (λ _. is);
        takes =
            λ q p j x is.
            updated_entry_cases (λ _ _ v. v ≡ took j x) g.gets r h (opened k) q p (λ ring ticket. absurd (cc)) (λ _. is);
        holds = λ j q p apart is has. has;
        passes =
            λ q t v loaded old.
            record {
              passed =
                  λ there unsafe p slot gone.
                  elim (updated_entry_or g.gets r h (opened k) q p) [
                    | inl a ↦ absurd (cc)
                    | inr a ↦ old.passed there unsafe p slot (sym a.1 ∙ gone)
                  ];
            };
      }

  pub began_effect : Effect c e g k e (with_get g r h (opened k))
  began_effect = record { booked = began_booked; moves = began_moves }
