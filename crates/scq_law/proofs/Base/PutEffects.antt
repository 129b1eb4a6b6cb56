-- A ticket of a put changes, and no entry does: its drawer draws it or fails with it. The books stay, and what the other
-- seats have.
use Rattle.std.proofs.Common.{◌≡◌, ℕ, Bool, true, false, inl, inr, eqb-true, ap, sym, ◌∙◌, refl}
use Rattle.std.specs.Prelude.{◌==◌}
use Rattle.scq_word.specs.declared.setup.Setup.{Setup}
use Rattle.scq_core.specs.Exports.{Entries}
use Rattle.scq_core.proofs.UpdatedLemmas.{updated_entry_or, updated_entry_cases}
use Rattle.scq_law.proofs.Base.Ghosts.{Ghost, PutState, fresh, pending, failed, placed, is_placed, with_put}
use Rattle.scq_law.proofs.Base.BaseGroup.{updated_entry_else, IsBooked, Moves, Effect}

-- the state of a ticket that no other seat has drawn, and where nothing was placed
abbrev pub is_ours : ℕ → PutState → Bool
is_ours k fresh = true
is_ours k (pending j i) = j == k
is_ours k (failed x d b) = false
is_ours k (placed i w b) = false

pub ours_unplaced : (k : ℕ) (x : PutState) → is_ours k x ≡ true → is_placed x ≡ false
ours_unplaced k fresh ours = refl
ours_unplaced k (pending j i) ours = refl
ours_unplaced k (failed x d b) ours = refl
ours_unplaced k (placed i w b) ours = absurd (cc)

pub ours_pending : (k j i : ℕ) (x : PutState) → is_ours k x ≡ true → x ≡ pending j i → j ≡ k
ours_pending k j i x ours is =
    let same : (j == k) ≡ true = sym (ap (is_ours k) is) ∙ ours in
    eqb-true j k same

-- the states of the other tickets, and those that are not ours, stay
pub put_moves : (c : Setup) (e : Entries) (g : Ghost) (k r t : ℕ) (y : PutState) → is_ours k (g.puts r t) ≡ true → Moves c e g k e (with_put g r t y)
put_moves c e g k r t y ours =
    record {
      pends = λ j q p i apart is. updated_entry_else g.puts r t y q p
          (λ ring ticket. let here : g.puts r t ≡ pending j i = cc in apart (ours_pending k j i (g.puts r t) ours here)) ∙ is;
      lies = λ q p i w b is. updated_entry_else g.puts r t y q p
          (λ ring ticket. let here : g.puts r t ≡ placed i w b = cc in let not : is_ours k (g.puts r t) ≡ false = ap (is_ours k) here in cc) ∙ is;
      opens = λ j q p apart is. is;
      ends = λ q p is. is;
      takes = λ q p j x is. is;
      holds = λ j q p apart is has. has;
      passes = λ q p v loaded passed. passed;
    }

pub put_booked : (c : Setup) (e : Entries) (g : Ghost) (r t : ℕ) (y : PutState) → is_placed (g.puts r t) ≡ false → is_placed y ≡ false → IsBooked c e g
    → IsBooked c e (with_put g r t y)
put_booked c e g r t y was is booked =
    record {
      live =
          λ q p has.
          let old = booked.live q p has in
          (updated_entry_cases (λ _ _ v. is_placed v ≡ true) g.puts r t y q p (λ ring ticket. let both = old.0 in absurd (cc)) (λ _. old.0), old.1);
      stands =
          λ q p i w b placed_there waits.
          elim (updated_entry_or g.puts r t y q p) [
            | inl a ↦
                let new : y ≡ placed i w b = sym a.2 ∙ placed_there in
                let yes_placed : is_placed y ≡ true = ap is_placed new in
                absurd (cc)
            | inr a ↦ booked.stands q p i w b (sym a.1 ∙ placed_there) waits
          ];
      over = booked.over;
      taken =
          λ q p k j got.
          let old = booked.taken q p k j got in
          updated_entry_cases (λ _ _ v. is_placed v ≡ true) g.puts r t y q p (λ ring ticket. absurd (cc)) (λ _. old);
      never =
          λ q p gone.
          updated_entry_cases (λ _ _ v. is_placed v ≡ false) g.puts r t y q p (λ ring ticket. is) (λ _. booked.never q p gone);
      shut = booked.shut;
    }

pub put_effect : (c : Setup) (e : Entries) (g : Ghost) (k r t : ℕ) (y : PutState) → is_ours k (g.puts r t) ≡ true → is_placed y ≡ false → IsBooked c e g
    → Effect c e g k e (with_put g r t y)
put_effect c e g k r t y ours is booked =
    record {
      booked = put_booked c e g r t y (ours_unplaced k (g.puts r t) ours) is booked;
      moves = put_moves c e g k r t y ours;
    }

-- nothing changes
pub no_effect : (c : Setup) (e : Entries) (g : Ghost) (k : ℕ) → IsBooked c e g → Effect c e g k e g
no_effect c e g k booked =
    record {
      booked = booked;
      moves =
          record {
            pends = λ j q p i apart is. is;
            lies = λ q p i w b is. is;
            opens = λ j q p apart is. is;
            ends = λ q p is. is;
            takes = λ q p j x is. is;
            holds = λ j q p apart is has. has;
            passes = λ q p v loaded passed. passed;
          };
    }
