-- The passes of a new queue, over the seats of its band.
use Rattle.std.proofs.Common.{◌≡◌, ℕ, zero, suc, ◌<◌, ◌≤◌, Bool, false, List, [], ◌∷◌, ◌++◌, map, length, refl, sym, ◌∙◌, ap, subst, arith, ne_eqb}
use Rattle.std.specs.Prelude.{All}
use Rattle.std.proofs.lemmas.List.{map-append, length_push}
use Rattle.std.proofs.lemmas.List.Elements.{All-nil, All-push}
use Rattle.scq_word.specs.declared.setup.Setup.{Setup}
use Rattle.scq_band.specs.Exports.{Identity, first_standing, first_standings}
use Rattle.scq_band.specs.Standing.{Standing}
use Rattle.scq_queue.specs.Exports.{PassStanding, first_pass, first_passes, was_told, pass_over, IsQueue}
use Rattle.scq_queue.specs.declared.counts.Counts.{Counts}

module _ {B : Type 0} where
  pub as_many_seats : (band : Identity B) (k : ℕ) → length (first_standings band k) ≡ k
  as_many_seats band zero = refl
  as_many_seats band (suc k) = length_push (first_standings band k) (first_standing band k) ∙ (let rest = as_many_seats band k in omega arith)

  -- they are new, and none of them was told that all have retired, since a queue has passes
  pub all_new : (band : Identity B) (k : ℕ) → 0 < band.setup.seats
      → All (λ (s : Standing B). (s.hand ≡ []) × (s.calls ≡ []) × (was_told s.gate ≡ false)) (first_standings band k)
  all_new band zero some = All-nil (λ (s : Standing B). (s.hand ≡ []) × (s.calls ≡ []) × (was_told s.gate ≡ false))
  all_new band (suc k) some =
      All-push (λ (s : Standing B). (s.hand ≡ []) × (s.calls ≡ []) × (was_told s.gate ≡ false)) (first_standings band k) (first_standing band k)
      (all_new band k some) (refl, refl, ne_eqb band.setup.seats 0 (λ is. absurd (omega (arith, is, some))))

  pub passes_over : (band : Identity B) (k : ℕ) → map (λ (s : Standing B). pass_over s []) (first_standings band k) ≡ first_passes band k
  passes_over band zero = refl
  passes_over band (suc k) =
      map-append (λ (s : Standing B). pass_over s []) (first_standings band k) (first_standing band k ∷ [])
      ∙ ap (λ (l : List (PassStanding B)). l ++ first_pass band k ∷ []) (passes_over band k)

  pub as_many_passes : (queue : Identity B) (k : ℕ) → length (first_passes queue k) ≡ k
  as_many_passes queue zero = refl
  as_many_passes queue (suc k) = length_push (first_passes queue k) (first_pass queue k) ∙ (let rest = as_many_passes queue k in omega arith)

  pub all_own : (queue : Identity B) (k : ℕ) → All (λ (p : PassStanding B). p.queue ≡ queue) (first_passes queue k)
  all_own queue zero = All-nil (λ (p : PassStanding B). p.queue ≡ queue)
  all_own queue (suc k) = All-push (λ (p : PassStanding B). p.queue ≡ queue) (first_passes queue k) (first_pass queue k) (all_own queue k) refl

  -- what a queue is made with is what it keeps
  pub keeps_room : (queue : Identity B) (c : Setup) (seats : List (Standing B)) (counts : List Counts) (seat_room count_room : ℕ)
      (saw : List Bool) (saw_room : ℕ) → queue.setup ≡ c → seats ≡ [] → c.seats ≤ seat_room → counts ≡ [] → c.seats ≤ count_room → saw ≡ []
      → c.seats ≤ saw_room → IsQueue queue seats seat_room counts count_room saw saw_room
  keeps_room queue c seats counts seat_room count_room saw saw_room same no_seat all_seats no_count all_counts no_saw all_saw =
      record {
        no_seat = no_seat;
        all_seats = subst (λ (k : Setup). k.seats ≤ seat_room) (sym same) all_seats;
        no_count = no_count;
        all_counts = subst (λ (k : Setup). k.seats ≤ count_room) (sym same) all_counts;
        no_saw = no_saw;
        all_saw = subst (λ (k : Setup). k.seats ≤ saw_room) (sym same) all_saw;
      }
