-- The window follows from one state. Plan: were twice as many tickets as there are indices drawn from Head on, each
-- would have a label of its own: its index where it is pending or placed, the found index past all indices where it
-- failed. So each label is met; and the drawer's index of a failed ticket, as a label, is met by one that failed earlier.
use Rattle.std.proofs.Common.{◌≡◌, ◌≢◌, ℕ, zero, suc, ◌+◌, ◌<◌, ◌≤◌, ◌⊎◌, inl, inr, refl, ap, sym, ◌∙◌, true, arith}
use Rattle.std.proofs.lemmas.Bool.{cases_eq, cases_lt}
use Rattle.scq_word.specs.declared.setup.Setup.{Setup}
use Rattle.scq_word.specs.Exports.{n_of}
use Rattle.scq_core.specs.Exports.{Entries, ring_slots}
use Rattle.scq_core.proofs.Entries.{some_indices}
use Rattle.scq_law.proofs.Base.Ghosts.{Ghost, PutState, fresh, pending, failed, placed, waiting}
use Rattle.scq_law.proofs.Base.EventFacts.{Live}
use Rattle.scq_law.proofs.Base.BaseGroup.{IsBooked, IsDrawn}
use Rattle.scq_law.proofs.Window.FailedTickets.{StandsAtMostOnce, TicketsAreDrawn, FailedTickets, IsWindow}
use Rattle.scq_law.proofs.Window.OneToOne.{IsOneToOne, onto}

abbrev label : ℕ → PutState → ℕ
label n fresh = 0
label n (pending k i) = i
label n (failed y d b) = n + b
label n (placed i w b) = i

module _ (c : Setup) (e : Entries) (g : Ghost) (tail head : ℕ → ℕ) (time r : ℕ) (booked : IsBooked c e g) (drawn : IsDrawn c tail head g) (alone : StandsAtMostOnce c g)
    (covered : TicketsAreDrawn c g tail head) (book : FailedTickets c g head time) where
  abbrev n : ℕ
  n = n_of c.order

  -- the label of the x-th ticket from Head on
  abbrev labelled : ℕ → ℕ
  labelled x = label n (g.puts r (head r + x))

  -- an index stands there, or belongs to it while it is pending
  record Holder (t : ℕ) : Type 0 where
    index : ℕ
    low : index < n
    has : ((k : ℕ) × (g.puts r t ≡ pending k index)) ⊎ Live g r t index
    is : label n (g.puts r t) ≡ index

  record Failure (t : ℕ) : Type 0 where
    time_of : ℕ
    index : ℕ
    found : ℕ
    failed_so : g.puts r t ≡ failed time_of index found
    low : index < n
    found_low : found < n
    is : label n (g.puts r t) ≡ n + found

  kind : (t : ℕ) → head r ≤ t → g.puts r t ≢ fresh → Holder t ⊎ Failure t
  kind t high not_fresh = go (g.puts r t) refl
    where
      go : (x : PutState) → g.puts r t ≡ x → Holder t ⊎ Failure t
      go fresh is = absurd (not_fresh is)
      go (pending k i) is = inl (record { index = i; low = alone.low r t k i is; has = inl (k, is); is = ap (label n) is })
      go (failed y d b) is =
          let small = book.small r t y d b is high in
          inr (record { time_of = y; index = d; found = b; failed_so = is; low = small.0; found_low = small.1; is = ap (label n) is })
      go (placed i w b) is =
          let waits : waiting (g.gets r t) ≡ true = ap waiting (drawn.heads r t high) in
          let stands = booked.stands r t i w b is waits in
          inl
          (record {
            index = i;
            low = stands.small;
            has = inr (record { content = w; maker = b; is = is; waits = waits });
            is = ap (label n) is;
          })

  -- tickets that hold one index are one
  holders : (t u : ℕ) (a : Holder t) (b : Holder u) → a.index ≡ b.index → t ≡ u
  holders t u a b same =
      elim a.has [
        | inl p ↦
            elim b.has [
              | inl q ↦ alone.pends r t u p.0 q.0 a.index p.1 (rw same q.1)
              | inr q ↦ absurd (alone.apart r t u p.0 a.index p.1 (rw same q))
            ]
        | inr p ↦
            elim b.has [
              | inl q ↦ absurd (alone.apart r u t q.0 a.index (rw same q.1) p)
              | inr q ↦ alone.lives r t u a.index p (rw same q)
            ]
      ]

  module _ (full : (x : ℕ) → x < n + n → g.puts r (head r + x) ≢ fresh) where
    kind_of : (x : ℕ) → x < n + n → Holder (head r + x) ⊎ Failure (head r + x)
    kind_of x low = kind (head r + x) (omega arith) (full x low)

    one_to_one : IsOneToOne labelled (n + n)
    one_to_one =
        record {
          into =
              λ x low.
              elim (kind_of x low) [
                | inl a ↦ let is = a.is in let less = a.low in omega arith
                | inr a ↦ let is = a.is in let less = a.found_low in omega arith
              ];
          apart =
              λ x z low less same.
              elim (kind_of x low) [
                | inl a ↦
                    elim (kind_of z less) [
                      | inl b ↦ let one = holders (head r + x) (head r + z) a b (sym a.is ∙ same ∙ b.is) in omega arith
                      | inr b ↦ let ia = a.is in let ib = b.is in let la = a.low in absurd (omega arith)
                    ]
                | inr a ↦
                    elim (kind_of z less) [
                      | inl b ↦ let ia = a.is in let ib = b.is in let lb = b.low in absurd (omega arith)
                      | inr b ↦
                          elim (cases_eq x z) [
                            | inl one ↦ one
                            | inr two ↦
                                let ia = a.is in
                                let ib = b.is in
                                let found_same : a.found ≡ b.found = omega arith in
                                absurd
                                (book.apart r (head r + x) a.time_of a.index a.found (head r + z) b.time_of b.index b.found a.failed_so b.failed_so
                                (omega arith) (omega arith) (λ one. two (omega arith)) found_same)
                          ]
                    ]
              ];
        }

    -- a failed ticket that found this index
    finder : (b : ℕ) → b < n → (x : ℕ) × (a : Failure (head r + x)) × (a.found ≡ b)
    finder b low =
        let met = onto labelled (n + n) one_to_one (n + b) (omega arith) in
        let is = met.is in
        elim (kind_of met.at met.low) [
          | inl a ↦ let ia = a.is in let la = a.low in absurd (omega arith)
          | inr a ↦ let ia = a.is in (met.at, a, omega arith)
        ]

    -- the index of its drawer was found by one that failed earlier
    descent : (bound x : ℕ) (a : Failure (head r + x)) → a.time_of < bound → ⊥
    descent zero x a below = omega arith
    descent (suc bound) x a below =
        let met = finder a.index a.low in
        let b = met.1 in
        elim (cases_lt b.time_of a.time_of) [
          | inl earlier ↦ descent bound met.0 b (omega arith)
          | inr later ↦
              book.other r (head r + x) a.time_of a.index a.found (head r + met.0) b.time_of b.index b.found a.failed_so b.failed_so (omega arith)
              (omega arith) later (sym met.2)
        ]

    never_full : ⊥
    never_full =
        let some = some_indices c in
        let met = finder 0 (omega arith) in
        let a = met.1 in
        descent (a.time_of + 1) met.0 a (omega arith)

  pub within_ring : (t : ℕ) → t < tail r → t < c.limit → t + 2 ≤ head r + ring_slots c
  within_ring t below below_limit =
      elim (cases_lt (t + 1) (head r + ring_slots c)) [
        | inl less ↦ omega arith
        | inr far ↦
            absurd
            (never_full (λ x low. covered.covered r (head r + x) (omega arith) (omega arith) (omega arith)))
      ]

pub window : (c : Setup) (e : Entries) (g : Ghost) (tail head : ℕ → ℕ) (time : ℕ) → IsBooked c e g → IsDrawn c tail head g → StandsAtMostOnce c g
    → TicketsAreDrawn c g tail head → FailedTickets c g head time → IsWindow c tail head
window c e g tail head time booked drawn alone covered book =
    record { within = λ r t below below_limit. within_ring c e g tail head time r booked drawn alone covered book t below below_limit }
