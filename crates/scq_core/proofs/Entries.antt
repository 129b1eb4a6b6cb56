-- The sizes of a setup, and what the three writes of an entry do to its word and rank.
use Rattle.std.proofs.Common.{◌≡◌, ◌≢◌, ℕ, ◌+◌, ◌*◌, ◌^◌, ◌<◌, ◌≤◌, true, false, refl, inl, inr, arith, eq-eqb, ne_eqb, eqb-true, pow_mono}
use Rattle.std.proofs.lemmas.Bool.{cases_Bool, cases_eq, eqb-false}
use Rattle.scq_word.specs.declared.setup.Setup.{Setup}
use Rattle.scq_word.specs.Exports.{n_of, packed, mark_of, index_in, safe_in, cycle_in, is_none_in, rank_in, reset_value, most_order}
use Rattle.scq_word.proofs.WordLemmas.{index_in-packed, safe_in-packed, cycle_in-packed, safe_in_bit, index_in_small, rank_in-empty, rank_in-safe, rank_in-unsafe, rank_in_range, packed-parts}
use Rattle.scq_word.proofs.TicketLemmas.{ticket_parts}
use Rattle.scq_word.proofs.BoundLemmas as bounds
use Rattle.std.proofs.Math.Nat.{mul-le-mul_right}
use Rattle.scq_core.specs.Exports.{ring_slots, cycle, passed, zero_level, IsAbove}

-- there are at least two indices
pub some_indices : (c : Setup) → 2 ≤ n_of c.order
some_indices c = let o = c.order_in_range in let low : 2 ^ 1 ≤ 2 ^ c.order = pow_mono o.0 in omega arith

-- and at most 65,536
pub few_indices : (c : Setup) → n_of c.order ≤ 2 ^ most_order
few_indices c = let o = c.order_in_range in pow_mono o.1

pub some_slots : (c : Setup) → 0 < ring_slots c
some_slots c = omega (arith, some_indices c)

-- an index is below the mark
pub below_mark : (c : Setup) (i : ℕ) → i < n_of c.order → i < mark_of (ring_slots c)
below_mark c i small = omega (arith, some_indices c)

-- a word with the mark has no index
pub none_in-marked : (m c s : ℕ) → 0 < m → is_none_in m (packed m c s (mark_of m)) ≡ true
none_in-marked m c s some = eq-eqb _ _ (index_in-packed m c s (mark_of m) (omega arith))

-- a word with an index has one
pub none_in-filled : (m c s i : ℕ) → i < mark_of m → is_none_in m (packed m c s i) ≡ false
none_in-filled m c s i low =
    let small : i < m = omega arith in
    ne_eqb _ _ (rw (index_in-packed m c s i small) (λ e. omega arith))

-- the index of a word that has one is below the mark
pub index_below : (m w : ℕ) → 0 < m → is_none_in m w ≡ false → index_in m w < mark_of m
index_below m w some has =
    let apart = eqb-false (index_in m w) (mark_of m) has in
    let small = index_in_small m w some in
    elim (cases_eq (index_in m w) (mark_of m)) [ inl same ↦ absurd (apart same) | inr other ↦ omega arith ]

-- the index of a word that has none is the mark
pub index_none : (m w : ℕ) → is_none_in m w ≡ true → index_in m w ≡ mark_of m
index_none m w none = eqb-true (index_in m w) (mark_of m) none

pub rank_marked : (m c s : ℕ) → 0 < m → s < 2 → rank_in m (packed m c s (mark_of m)) ≡ 3 * c + 2
rank_marked m c s some bit =
    let e = rank_in-empty m (packed m c s (mark_of m)) (none_in-marked m c s some) in
    let z = cycle_in-packed m c s (mark_of m) (omega arith) bit in
    omega arith

pub rank_filled : (m c i : ℕ) → i < mark_of m → rank_in m (packed m c 1 i) ≡ 3 * c
rank_filled m c i low =
    let small : i < m = omega arith in
    let e = rank_in-safe m (packed m c 1 i) (none_in-filled m c 1 i low) (safe_in-packed m c 1 i small (omega arith)) in
    let z = cycle_in-packed m c 1 i small (omega arith) in
    omega arith

pub rank_unsafe : (m c i : ℕ) → i < mark_of m → rank_in m (packed m c 0 i) ≡ 3 * c + 1
rank_unsafe m c i low =
    let small : i < m = omega arith in
    let e = rank_in-unsafe m (packed m c 0 i) (none_in-filled m c 0 i low) (safe_in-packed m c 0 i small (omega arith)) in
    let z = cycle_in-packed m c 0 i small (omega arith) in
    omega arith

pub above_same : (m e : ℕ) → IsAbove m e e
above_same m e = record { above = inl refl }

pub above_trans : (m a b d : ℕ) → IsAbove m a b → IsAbove m b d → IsAbove m a d
above_trans m a b d low high =
    elim low.above [
      | inl same ↦ rw same at high
      | inr rose ↦
          elim high.above [ inl same ↦ record { above = inr (rw same rose) } | inr again ↦ record { above = inr (omega arith) } ]
    ]

-- the rank of a word above is no lower
pub above_rank : (m e now : ℕ) → IsAbove m e now → rank_in m e ≤ rank_in m now
above_rank m e now a = elim a.above [ inl same ↦ rw same (omega arith) | inr rose ↦ omega arith ]

-- an index placed at a later cycle raises the rank
pub placing_rises : (m e t i : ℕ) → cycle_in m e < t → i < mark_of m → IsAbove m e (packed m t 1 i)
placing_rises m e t i later low =
    let range = rank_in_range m e in
    let new = rank_filled m t i low in
    record { above = inr (omega arith) }

-- the mark on an entry raises its rank, or stands there
pub taking_rises : (m e : ℕ) → 0 < m → IsAbove m e (packed m (cycle_in m e) (safe_in m e) (mark_of m))
taking_rises m e some =
    elim (cases_Bool (is_none_in m e)) [
      | inl none ↦
          record { above = inl (rw (← index_none m e none) (packed-parts m e)) }
      | inr has ↦
          let bit = safe_in_bit m e in
          let new = rank_marked m (cycle_in m e) (safe_in m e) some bit in
          elim (cases_eq (safe_in m e) 1) [
            | inl safe ↦ let old = rank_in-safe m e has safe in record { above = inr (omega arith) }
            | inr other ↦
                let unsafe : safe_in m e ≡ 0 = omega arith in
                let old = rank_in-unsafe m e has unsafe in
                record { above = inr (omega arith) }
          ]
    ]

-- what a later dequeue does to an entry raises its rank, or the entry is marked unsafe already
pub passing_rises : (c : Setup) (h e : ℕ) → cycle_in (ring_slots c) e < cycle c h → IsAbove (ring_slots c) e (passed c h e)
passing_rises c h e later =
    let m = ring_slots c in
    let some = some_slots c in
    let bit = safe_in_bit m e in
    elim (cases_Bool (is_none_in m e)) [
      | inl none ↦
          let old = rank_in-empty m e none in
          let new = rank_marked m (cycle c h) (safe_in m e) some bit in
          rw none (record { above = inr (omega arith) })
      | inr has ↦
          let low = index_below m e some has in
          let new = rank_unsafe m (cycle_in m e) (index_in m e) low in
          rw has
          (elim (cases_eq (safe_in m e) 1) [
            | inl safe ↦ let old = rank_in-safe m e has safe in record { above = inr (omega arith) }
            | inr other ↦
                let unsafe : safe_in m e ≡ 0 = omega arith in
                record { above = inl (rw (← unsafe) (packed-parts m e)) }
          ])
    ]

-- the limit of tickets leaves room for a few rounds of a ring, and is at most 2^60
pub limit_high : (c : Setup) → 4 * ring_slots c ≤ c.limit
limit_high c = let l = c.limit_in_range in omega arith

pub limit_low : (c : Setup) → c.limit ≤ 2 ^ 60
limit_low c = let l = c.limit_in_range in l.1

-- seats are at most 4096
pub few_seats : (c : Setup) → c.seats ≤ 4096
few_seats c = let s = c.seats_in_range in s.1

pub some_seats : (c : Setup) → 1 ≤ c.seats
some_seats c = let s = c.seats_in_range in s.0

-- what the laws use of the word of a Threshold of 0
pub zero_level_is : zero_level ≡ 2 ^ 32
unfolding zero_level
zero_level_is = refl

-- what they use of the number that a reset sets: it reaches over the window and every other seat, and is small
pub reset_covers : (c : Setup) → n_of c.order + 1 ≤ reset_value c.order c.seats
reset_covers c = bounds.reset_covers c.order c.seats c.order_in_range.0

pub reset_reaches : (c : Setup) → ring_slots c + c.seats ≤ reset_value c.order c.seats + 1
reset_reaches c = bounds.reset_reaches c.order c.seats

pub reset_small : (c : Setup) → reset_value c.order c.seats < 2 ^ 18
reset_small c = bounds.reset_small c.order c.seats c.order_in_range.1 (few_seats c)

-- the cycle of a ticket below the limit, times the slots, is below the limit
pub cycle_below_limit : (c : Setup) (t : ℕ) → t < c.limit → cycle c t * ring_slots c < c.limit
cycle_below_limit c t low = let parts = ticket_parts (ring_slots c) t in omega arith

-- a word of such a cycle is one of 64 bits
pub packed_fits : (c : Setup) (z s i : ℕ) → z * ring_slots c < c.limit → s < 2 → i < ring_slots c → packed (ring_slots c) z s i < 2 ^ 64
unfolding packed
packed_fits c z s i low bit small =
    let few = few_indices c in
    let high = limit_low c in
    let one : s * ring_slots c ≤ 1 * ring_slots c = mul-le-mul_right (ring_slots c) (omega arith) in
    omega arith

pub word_fits : (c : Setup) (w : ℕ) → cycle_in (ring_slots c) w * ring_slots c < c.limit → w < 2 ^ 64
word_fits c w low =
    let some = some_slots c in
    let fits = packed_fits c (cycle_in (ring_slots c) w) (safe_in (ring_slots c) w) (index_in (ring_slots c) w) low (safe_in_bit (ring_slots c) w)
    (index_in_small (ring_slots c) w some) in
    rw (packed-parts (ring_slots c) w) at fits

-- a word that has changed never comes back
pub above_apart : (m e x y : ℕ) → IsAbove m e x → x ≢ e → IsAbove m x y → y ≢ e
above_apart m e x y low apart high back =
    let down : IsAbove m x e = rw back at high in
    let le = above_rank m x e down in
    elim low.above [ inl same ↦ absurd (apart same) | inr rose ↦ absurd (omega arith) ]
