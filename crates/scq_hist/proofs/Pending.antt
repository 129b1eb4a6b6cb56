-- Gets that are under way at the end of the list, counted by their Starts
use Rattle.std.proofs.Common.{ℕ, suc, ◌+◌, ◌<◌, inl, inr, List, sym, subst, arith}
use Rattle.std.proofs.lemmas.Bool.{cases_eq}
use Rattle.scq_hist.specs.Exports.{IsPending, IsCount}
use Rattle.scq_hist.proofs.Counting.{count_more, count_same}
use Rattle.scq_hist.specs.declared.events.Event.{Event}

later : (events : List Event) (queue m n s : ℕ) → s < n → IsPending events queue m s → IsPending events queue n s
later events queue m n s lt p = record { seat = p.seat; starts = p.starts; before = lt; under_way_still = p.under_way_still }

pub pending_more : (events : List Event) (queue s n : ℕ) → IsCount (IsPending events queue s) n → IsPending events queue (suc s) s
    → IsCount (IsPending events queue (s + 1)) (n + 1)
pending_more events queue s n count here =
    count_more (IsPending events queue s) (IsPending events queue (s + 1)) s n count
    (λ p. let lt = p.before in absurd (omega arith)) (later events queue (suc s) (s + 1) s (omega arith) here)
    (λ g p. let lt = p.before in later events queue s (s + 1) g (omega arith) p)
    (λ g p. elim (cases_eq s g) [ inl e ↦ inl e | inr ne ↦ (let lt = p.before in inr (later events queue (s + 1) s g (omega arith) p)) ])

pub pending_same : (events : List Event) (queue s n : ℕ) → IsCount (IsPending events queue s) n → (IsPending events queue (suc s) s → ⊥)
    → IsCount (IsPending events queue (s + 1)) n
pending_same events queue s n count not_here =
    count_same (IsPending events queue s) (IsPending events queue (s + 1)) n count
    (λ g p. let lt = p.before in later events queue s (s + 1) g (omega arith) p)
    (λ g p. elim (cases_eq s g) [
      | inl e ↦ absurd (not_here (later events queue (s + 1) (suc s) s (omega arith) (subst (λ z. IsPending events queue (s + 1) z) (sym e) p)))
      | inr ne ↦ (let lt = p.before in later events queue (s + 1) s g (omega arith) p)
    ])
