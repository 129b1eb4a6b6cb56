-- Whom a worker has woken, after a send and after a Full.
use Rattle.std.proofs.Common.{◌≡◌, ◌∙◌, sym, ap, subst, arith, ℕ, ◌+◌, suc, zero, refl, List, [], ◌∷◌, length, if◌then◌else◌, Bool, true, false, ◌==◌}
use Rattle.std.proofs.lemmas.List.{length-append}
use Rattle.scq_frames.specs.Exports.{Part}
use Rattle.scq_passes.proofs.Kept.{taken-sends, sent-sends, placed, full-sends}
use Rattle.scq_passes.specs.Exports.{HasTaken, HasFoundFull, after_retire}
use Rattle.scq_queue.specs.Exports.{sends_of, PassStanding, first_pass}
use Rattle.scq_band.specs.Exports.{Identity}
use Rattle.scq_worker.specs.Exports.{next_of, woken_once_more, more_often, others_more, RingsEachSend, RingsOn, Sends, HasSent}

module _ {B : Type 0} (number workers : ℕ) where
  -- a batch was sent, and the next worker woken; then topics were taken from
  pub rung-sent : (topic : ℕ) (b : List Part) (p q r : PassStanding B) (was is : List ℕ) → HasSent topic b p q → HasTaken q r
      → is ≡ woken_once_more (next_of number workers) was → RingsOn number workers p r was is
  rung-sent topic b p q r was is h taken more first rings =
      let sends : length (sends_of r.calls) ≡ length (sends_of p.calls) + 1 =
      ap length (taken-sends q r taken) ∙ ap length (sent-sends topic (Sends b) p q h)
      ∙ length-append (sends_of p.calls) (placed topic (Sends b) p q h ∷ []) in
      let one : suc (length (sends_of p.calls)) ≡ length (sends_of r.calls) = omega (arith, sends) in
      more ∙ ap (woken_once_more (next_of number workers)) rings ∙ ap (λ k. more_often (next_of number workers) k first) one

  -- no buffer was free, and nothing was sent
  pub rung-helped : (head : ℕ) (p q r : PassStanding B) (was is : List ℕ) → HasFoundFull head p q → HasTaken q r → is ≡ was
      → RingsOn number workers p r was is
  rung-helped head p q r was is full taken same first rings =
      same ∙ rings ∙ ap (λ k. more_often (next_of number workers) k first) (sym (ap length (taken-sends q r taken) ∙ ap length (full-sends head p q full)))

  -- its files are read, and it has retired
  pub rung-retired : (shared : Identity B) (seat : ℕ) (p q r : PassStanding B) (was mid : List ℕ) → p ≡ first_pass shared seat
      → RingsOn number workers p q was mid → r ≡ after_retire q → RingsEachSend number workers r was mid
  rung-retired shared seat p q r was mid fresh on retired =
      let next = next_of number workers in
      let start : RingsEachSend number workers p was was = subst (λ (x : PassStanding B). RingsEachSend number workers x was was) (sym fresh) refl in
      on was start ∙ ap (λ (x : PassStanding B). more_often next (length (sends_of x.calls)) was) (sym retired)

-- where nobody rests, nobody is woken
either-way : (b : Bool) (ns : List ℕ) → (if b then ns else ns) ≡ ns
either-way true ns = refl
either-way false ns = refl

pub nobody-more : (number workers : ℕ) → others_more number workers [] ≡ []
nobody-more number zero = refl
nobody-more number (suc k) = rw (nobody-more number k) (either-way (k == number) [])
