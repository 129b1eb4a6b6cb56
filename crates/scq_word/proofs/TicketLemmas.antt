-- The two facts of slots that everything above uses, what follows from them, and cycles of tickets of one slot.
use Rattle.std.proofs.Common.{◌≡◌, ℕ, ◌+◌, ◌*◌, ◌/◌, ◌%◌, ◌^◌, ◌<◌, ◌≤◌, refl, sym, ◌∙◌, arith, inl, inr, ltb-true, ltb-false}
use Rattle.std.proofs.Math.Nat.{mul-le-mul_right, mod-eq_of_lt}
use Rattle.std.specs.Prelude.{◌-◌, nat_lt}
use Rattle.std.proofs.lemmas.Bool.{cases_Bool, cases_lt}
use Rattle.std.proofs.lemmas.Nat.{pow_pos, div-mul-add, mod-mul-add, div-add-mod', mod_below, le-div}
use Rattle.scq_word.specs.Exports.{slots_of, cycle_of, slot_of, in_columns}
use Rattle.scq_word.proofs.ColumnLemmas.{in_columns_small, in_columns_apart, columns_of, in_one_column}
use Rattle.scq_word.proofs.Counting.{IsApart, meets_all}

-- there is a slot
pub some_slots_of : (order : ℕ) → 0 < slots_of order
some_slots_of order = let some : 0 < 2 ^ order = pow_pos order in omega arith

-- a slot is one of the ring's
pub slot_of_small : (order t : ℕ) → slot_of order t < slots_of order
unfolding slot_of
slot_of_small order t =
    let rest : t % slots_of order < slots_of order = mod_below t (slots_of order) (some_slots_of order) in
    elim (cases_Bool (nat_lt 3 (order + 1))) [
      | inl high ↦
          let columns = columns_of order (ltb-true 3 (order + 1) high) in
          let small = in_columns_small (2 ^ (order + 1 - 3)) (t % slots_of order) (pow_pos (order + 1 - 3)) (omega arith) in
          rw high (omega arith)
      | inr low ↦ rw low rest
    ]

-- tickets of one slot agree modulo the number of slots
pub same_rest : (order t u : ℕ) → slot_of order t ≡ slot_of order u → t % slots_of order ≡ u % slots_of order
unfolding slot_of
same_rest order t u same =
    let rest : t % slots_of order < slots_of order = mod_below t (slots_of order) (some_slots_of order) in
    let rest_too : u % slots_of order < slots_of order = mod_below u (slots_of order) (some_slots_of order) in
    elim (cases_Bool (nat_lt 3 (order + 1))) [
      | inl high ↦
          let columns = columns_of order (ltb-true 3 (order + 1) high) in
          in_columns_apart (2 ^ (order + 1 - 3)) (t % slots_of order) (u % slots_of order) (pow_pos (order + 1 - 3)) (omega arith) (omega arith)
          (rw high at same)
      | inr low ↦ rw low at same
    ]

-- and tickets that agree have one slot
pub same_slot : (order t u : ℕ) → t % slots_of order ≡ u % slots_of order → slot_of order t ≡ slot_of order u
unfolding slot_of
same_slot order t u same = rw same refl

-- so the tickets of the first round keep their slots apart
apart_slots : (order : ℕ) → IsApart (slots_of order) (slot_of order)
apart_slots order =
    record {
      small = λ t low. slot_of_small order t;
      apart = λ t u low lower same. sym (mod-eq_of_lt low) ∙ same_rest order t u same ∙ mod-eq_of_lt lower;
    }

-- and, as there are as many, each slot is that of a ticket
pub slot_of-onto : (order s : ℕ) → s < slots_of order → (t : ℕ) × (slot_of order t ≡ s)
slot_of-onto order s low = let at = meets_all (slots_of order) (slot_of order) (apart_slots order) s low in (at.from, at.met)

-- the ticket of this ticket's slot in a given cycle
abbrev pub ticket_in : ℕ → ℕ → ℕ → ℕ
ticket_in m t c = c * m + t % m

pub slot_of-ticket_in : (order t c : ℕ) → slot_of order (ticket_in (slots_of order) t c) ≡ slot_of order t
slot_of-ticket_in order t c =
    let m = slots_of order in
    same_slot order (ticket_in m t c) t (mod-mul-add c m (t % m) (mod_below t m (some_slots_of order)))

pub cycle_of-ticket_in : (m t c : ℕ) → 0 < m → cycle_of m (ticket_in m t c) ≡ c
unfolding cycle_of
cycle_of-ticket_in m t c some = div-mul-add c m (t % m) (mod_below t m some)

-- a ticket is its cycle and its rest
pub ticket_parts : (m t : ℕ) → cycle_of m t * m + t % m ≡ t
unfolding cycle_of
ticket_parts m t = div-add-mod' t m

-- tickets of one slot and one cycle are one
pub same_ticket : (order t u : ℕ) → slot_of order t ≡ slot_of order u → cycle_of (slots_of order) t ≡ cycle_of (slots_of order) u → t ≡ u
same_ticket order t u slot cycle =
    let m = slots_of order in
    let rest = same_rest order t u slot in
    sym (ticket_parts m t) ∙ rw (cycle, rest) (ticket_parts m u)

-- a lower cycle of the slot is a ticket that is lower by at least a whole round
pub earlier_cycle : (order t u : ℕ) → slot_of order t ≡ slot_of order u → cycle_of (slots_of order) t < cycle_of (slots_of order) u → t + slots_of order ≤ u
earlier_cycle order t u slot less =
    let m = slots_of order in
    let rest = same_rest order t u slot in
    let round : (cycle_of m t + 1) * m ≤ cycle_of m u * m = mul-le-mul_right m (omega arith) in
    omega (arith, ticket_parts m t, ticket_parts m u)

-- a lower ticket has no higher cycle
pub cycle_of_mono : (m t u : ℕ) → 0 < m → t ≤ u → cycle_of m t ≤ cycle_of m u
unfolding cycle_of
cycle_of_mono m t u some le =
    le-div (t / m) u m some (let low : t / m * m + t % m ≡ t = div-add-mod' t m in omega arith)

-- a lower ticket of the slot has a lower cycle
pub lower_ticket : (order t u : ℕ) → slot_of order t ≡ slot_of order u → t < u → cycle_of (slots_of order) t < cycle_of (slots_of order) u
lower_ticket order t u slot less =
    let m = slots_of order in
    elim (cases_lt (cycle_of m t) (cycle_of m u)) [
      | inl lower ↦ lower
      | inr high ↦
          let low : cycle_of m t ≤ cycle_of m u = cycle_of_mono m t u (some_slots_of order) (omega arith) in
          let same : cycle_of m t ≡ cycle_of m u = omega arith in
          let one : t ≡ u = same_ticket order t u slot same in
          absurd (omega arith)
    ]

-- the tickets of one round of the ring
pub cycle_of-row : (m c i : ℕ) → i < m → cycle_of m (c * m + i) ≡ c
unfolding cycle_of
cycle_of-row m c i small = div-mul-add c m i small

-- the slot of a ticket, with columns or without
pub slot_of-masked : (order t : ℕ) → in_columns (2 ^ (order + 1 - 3)) (t % slots_of order) ≡ slot_of order t
unfolding slot_of
slot_of-masked order t =
    elim (cases_Bool (nat_lt 3 (order + 1))) [
      | inl high ↦ rw high refl
      | inr low ↦
          let few : order + 1 - 3 ≡ 0 = omega (arith, ltb-false 3 (order + 1) low) in
          rw (low, few) (in_one_column (t % slots_of order))
    ]
