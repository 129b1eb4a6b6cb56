-- Two facts of words and tickets that the effects of turns share.
use Rattle.std.proofs.Common.{◌≡◌, ℕ, ◌<◌, ◌≤◌, inl, inr, ap, arith}
use Rattle.std.proofs.lemmas.Bool.{cases_lt}
use Rattle.scq_word.specs.declared.setup.Setup.{Setup}
use Rattle.scq_word.specs.Exports.{rank_in}
use Rattle.scq_word.proofs.TicketLemmas.{cycle_of_mono}
use Rattle.scq_core.specs.Exports.{ring_slots, cycle, IsAbove}
use Rattle.scq_core.proofs.Entries.{some_slots}

-- a loaded word that stands in the entry after a change stood there before it
pub came_back : (s v e z : ℕ) → z ≡ v → IsAbove s v e → IsAbove s e z → e ≡ v
came_back s v e z is loaded written =
    let rank : rank_in s z ≡ rank_in s v = ap (rank_in s) is in
    elim loaded.above [
      | inl same ↦ same
      | inr rose ↦
          elim written.above [
            | inl kept ↦ let ranks : rank_in s z ≡ rank_in s e = ap (rank_in s) kept in absurd (omega arith)
            | inr again ↦ absurd (omega arith)
          ]
    ]

-- a ticket of a lower cycle is lower
pub below_cycle : (c : Setup) (h t : ℕ) → cycle c h < cycle c t → h < t
below_cycle c h t lower =
    elim (cases_lt h t) [
      | inl less ↦ less
      | inr high ↦
          let mono : cycle c t ≤ cycle c h = cycle_of_mono (ring_slots c) t h (some_slots c) high in absurd (omega arith)
    ]
