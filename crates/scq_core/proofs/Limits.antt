-- Tail and Head pass the limit by at most the seats that keep a spent ticket, each entry's cycle is that of a ticket
-- below the limit, and so every word fits.
use Rattle.std.proofs.Common.{◌≡◌, ℕ, zero, suc, ◌+◌, ◌*◌, ◌<◌, ◌≤◌, List, refl, inl, inr, arith, eq-eqb, ne_eqb}
use Rattle.std.specs.Prelude.{◌==◌, nat_le, Option, Some, None}
use Rattle.std.proofs.lemmas.Bool.{cases_Bool, cases_eq, leb-false}
use Rattle.scq_word.specs.declared.setup.Setup.{Setup}
use Rattle.scq_word.specs.Exports.{n_of, packed, mark_of, index_in, safe_in, cycle_in, is_none_in}
use Rattle.scq_word.proofs.WordLemmas.{cycle_in-packed, safe_in_bit, index_in_small}
use Rattle.scq_core.specs.declared.phase.Phase.{Phase}
use Rattle.scq_core.specs.declared.phase.Phase.TheVariants.{Idle, AtE1, AtE2, AtE3, AtE4, AtD2, AtD3, AtD4, AtD5, AtD6, AtD7, AtD8, AtD9}
use Rattle.scq_core.specs.declared.step.Step.{Step}
use Rattle.scq_core.specs.Exports.{Cells, SeatPart, read, beside, written, entry_of, updated, ring_slots, cycle, slot, passed, turn_of, location_of}
use Rattle.scq_core.specs.Exports.{after, cells_after, moved, start_of, filled, unused, IsReachable, at_start, by_step, word_at, Busy, IsSteady}
use Rattle.scq_core.specs.Exports.{spent_of, spent_seats, CountersBounded, CyclesBounded}
use Rattle.scq_core.specs.Machine.{Machine}
use Rattle.scq_core.proofs.UpdatedLemmas.{updated_cases, updated_entry_cases}
use Rattle.scq_core.proofs.Turns.{turned}
use Rattle.scq_core.proofs.Entries.{some_slots, some_indices, below_mark, limit_high, cycle_below_limit}
use Rattle.scq_core.proofs.Steady.{has, keeps_none, steady, either_way}
use Rattle.scq_core.proofs.Counts.{total_updated, total_few}

spent_bit : (o : Option ℕ) → spent_of o ≤ 1
spent_bit None = omega arith
spent_bit (Some t) = omega arith

-- the number of a seat that keeps a ticket, after its turn
abbrev spent_then : Setup → Cells → SeatPart → Phase → ℕ
spent_then c m p turn = spent_of (after c turn (read m (location_of c turn)) (beside m (location_of c turn)) p).spent

updated_within : (f : ℕ → ℕ) (q x r bound : ℕ) → x ≤ bound → f r ≤ bound → updated f q x r ≤ bound
updated_within f q x r bound new old = updated_cases (λ (a v : ℕ). v ≤ bound) f q x r (λ _. new) (λ _. old)

-- Tail after a turn, where Tail and Head stood within a bound: one further where the seat now keeps a ticket
tail_after : (c : Setup) (m : Cells) (p : SeatPart) (turn : Phase) (b : ℕ) → Busy c m p.hand turn → ((r : ℕ) → m.tail r ≤ c.limit + b)
    → ((r : ℕ) → m.head r ≤ c.limit + b) → (r : ℕ) → (cells_after c turn m).tail r ≤ c.limit + (b + spent_then c m p turn)
tail_after c m p Idle b busy tails heads r =
    let here = tails 0 in let there = tails r in updated_within m.tail 0 _ r _ (omega arith) (omega arith)
tail_after c m p (AtE1 q i w l) b busy tails heads r =
    let here = tails q in
    let there = tails r in
    elim (cases_Bool (nat_le c.limit (m.tail q))) [
      | inl past ↦ rw past (updated_within m.tail q _ r _ (omega arith) (omega arith))
      | inr under ↦
          let low = leb-false c.limit (m.tail q) under in
          rw under (updated_within m.tail q _ r _ (omega arith) (omega arith))
    ]
tail_after c m p (AtD6 q h) b busy tails heads r =
    let here = tails q in let there = tails r in updated_within m.tail q _ r _ (omega arith) (omega arith)
tail_after c m p (AtD7 q h from to) b busy tails heads r =
    let here = tails q in
    let there = tails r in
    let head = heads q in
    let catch = busy.2.behind_head in
    updated_within
    m.tail
    q
    _
    r
    _
    (either_way (λ (v : ℕ). v ≤ c.limit + (b + spent_then c m p (AtD7 q h from to))) (m.tail q == from) to (m.tail q) (omega arith) (omega arith))
    (omega arith)
tail_after c m p (AtD9 q h from to) b busy tails heads r =
    let here = tails q in let there = tails r in updated_within m.tail q _ r _ (omega arith) (omega arith)
tail_after c m p turn b busy tails heads r = let there = tails r in omega arith

-- and Head
head_after : (c : Setup) (m : Cells) (p : SeatPart) (turn : Phase) (b : ℕ) → ((r : ℕ) → m.head r ≤ c.limit + b) → (r : ℕ)
    → (cells_after c turn m).head r ≤ c.limit + (b + spent_then c m p turn)
head_after c m p (AtD2 q l) b heads r =
    let here = heads q in let there = heads r in
    elim (cases_Bool (nat_le c.limit (m.head q))) [
      | inl past ↦ rw past (updated_within m.head q _ r _ (omega arith) (omega arith))
      | inr under ↦
          let low = leb-false c.limit (m.head q) under in
          rw under (updated_within m.head q _ r _ (omega arith) (omega arith))
    ]
head_after c m p (AtE3 q i w t e) b heads r =
    let here = heads q in let there = heads r in updated_within m.head q _ r _ (omega arith) (omega arith)
head_after c m p (AtD8 q h from) b heads r =
    let here = heads q in let there = heads r in updated_within m.head q _ r _ (omega arith) (omega arith)
head_after c m p turn b heads r = let there = heads r in omega arith

-- the seats that keep a ticket after a turn are those before, and the turn's own where it drew at or past the limit
spent_moves : (c : Setup) (m : Machine) (k : ℕ) (turn : Phase) → k < c.seats → (m.part k).spent ≡ None
    → spent_seats c m + spent_then c m.cells (m.part k) turn ≡ spent_seats c (moved c m k turn)
spent_moves c m k turn low none =
    let x = read m.cells (location_of c turn) in
    let y = beside m.cells (location_of c turn) in
    let sum = total_updated (λ (p : SeatPart). spent_of p.spent) m.part k (after c turn x y (m.part k)) c.seats low in
    let zero_before : spent_of (m.part k).spent ≡ 0 = rw none refl in
    omega arith

-- a turn keeps Tail and Head within their bound
bounded_turn : (c : Setup) (m : Machine) (k : ℕ) (s : Step) (turn : Phase) → k < c.seats → IsSteady c m → CountersBounded c m
    → turn_of c (m.part k) s ≡ Some turn → CountersBounded c (moved c m k turn)
bounded_turn c m k s turn low steady bounded e =
    let p = m.part k in
    let none = keeps_none c m k s turn steady e in
    let was = has c m.cells p s turn (steady.busy k) e in
    let more = spent_moves c m k turn low none in
    record {
      tail = λ r. let le = tail_after c m.cells p turn (spent_seats c m) was bounded.tail bounded.head r in omega arith;
      head = λ r. let le = head_after c m.cells p turn (spent_seats c m) bounded.head r in omega arith;
      spent = total_few (λ (q : SeatPart). spent_of q.spent) (moved c m k turn).part (λ q. spent_bit q.spent) c.seats;
    }

bounded_start : (c : Setup) (opening : List (List ℕ)) → CountersBounded c (start_of c opening)
bounded_start c opening =
    let high = limit_high c in
    let some = some_indices c in
    record {
      tail =
          λ r.
          either_way
          (λ (v : ℕ). v ≤ c.limit + spent_seats c (start_of c opening))
          (r == 0)
          (ring_slots c + n_of c.order)
          (ring_slots c)
          (omega arith)
          (omega arith);
      head = λ r. omega arith;
      spent = total_few (λ (q : SeatPart). spent_of q.spent) (start_of c opening).part (λ q. spent_bit q.spent) c.seats;
    }

-- on each reachable state Tail and Head pass the limit by at most the seats that keep a spent ticket
pub counters_bounded : (c : Setup) (m : Machine) → IsReachable c m → CountersBounded c m
counters_bounded c m (at_start opening full) = bounded_start c opening
counters_bounded c m (by_step {m = b} seat step reach low e) =
    let t = turned c b seat step m e in
    rw t.next
    (bounded_turn c b seat step t.turn low (steady c b reach) (counters_bounded c b reach) t.enabled)

-- the word of an entry that is written: of a lawful cycle where it and the old one are
entry_below_limit : (c : Setup) (m : Cells) (r s x : ℕ) (y : List ℕ) → CyclesBounded c m → cycle_in (ring_slots c) x * ring_slots c < c.limit
    → CyclesBounded c (written m (entry_of r s) x y)
entry_below_limit c m r s x y was new =
    record {
      cycles =
          λ q z.
          updated_entry_cases
          (λ (a b v : ℕ). cycle_in (ring_slots c) v * ring_slots c < c.limit)
          m.entries.word
          r
          s
          x
          q
          z
          (λ _ _. new)
          (λ _. was.cycles q z);
    }

-- the cycle of a word that a dequeue with a later ticket leaves
passed_below_limit : (c : Setup) (h e : ℕ) → h < c.limit → cycle_in (ring_slots c) e * ring_slots c < c.limit
    → cycle_in (ring_slots c) (passed c h e) * ring_slots c < c.limit
passed_below_limit c h e low was =
    let some = some_slots c in
    let bit = safe_in_bit (ring_slots c) e in
    either_way
    (λ (v : ℕ). cycle_in (ring_slots c) v * ring_slots c < c.limit)
    (is_none_in (ring_slots c) e)
    _
    _
    (rw (cycle_in-packed (ring_slots c) (cycle c h) (safe_in (ring_slots c) e) (mark_of (ring_slots c)) (omega arith) bit) (cycle_below_limit c h low))
    (rw (cycle_in-packed (ring_slots c) (cycle_in (ring_slots c) e) 0 (index_in (ring_slots c) e) (index_in_small (ring_slots c) e some) (omega arith)) was)

-- each turn keeps the cycles of entries lawful
cycles_turn : (c : Setup) (m : Cells) (hand : List ℕ) (turn : Phase) → Busy c m hand turn → CyclesBounded c m → CyclesBounded c (cells_after c turn m)
cycles_turn c m hand (AtE2 r i w t l) busy was = entry_below_limit c m r (slot c t) _ _ was (was.cycles r _)
cycles_turn c m hand (AtE4 r i w t e) busy was =
    let low = below_mark c i busy.0.index in
    let drawn = busy.1 in
    entry_below_limit
    c
    m
    r
    (slot c t)
    _
    _
    was
    (either_way
    (λ (v : ℕ). cycle_in (ring_slots c) v * ring_slots c < c.limit)
    (word_at c m r t == e)
    _
    _
    (rw (cycle_in-packed (ring_slots c) (cycle c t) 1 i (omega arith) (omega arith)) (cycle_below_limit c t drawn.below_limit))
    (was.cycles r _))
cycles_turn c m hand (AtD3 r h l) busy was = entry_below_limit c m r (slot c h) _ _ was (was.cycles r _)
cycles_turn c m hand (AtD4 r h) busy was =
    let some = some_slots c in
    let x = word_at c m r h in
    entry_below_limit
    c
    m
    r
    (slot c h)
    _
    _
    was
    (rw (cycle_in-packed (ring_slots c) (cycle_in (ring_slots c) x) (safe_in (ring_slots c) x) (mark_of (ring_slots c)) (omega arith)
    (safe_in_bit (ring_slots c) x)) (was.cycles r _))
cycles_turn c m hand (AtD5 r h e) busy was =
    entry_below_limit
    c
    m
    r
    (slot c h)
    _
    _
    was
    (elim (cases_eq (word_at c m r h) e) [
      | inl same ↦
          rw (eq-eqb (word_at c m r h) e same)
          (passed_below_limit c h e busy.1.below_limit (rw same at (was.cycles r (slot c h))))
      | inr apart ↦ rw (ne_eqb (word_at c m r h) e apart) (was.cycles r _)
    ])
cycles_turn c m hand turn busy was = record { cycles = was.cycles }

-- the words of a full ring: unused, or index j at the first cycle
pub filled_cases : (P : ℕ → Type 0) (c : Setup) (n : ℕ) (s : ℕ) → P (unused (ring_slots c)) → ((j : ℕ) → j < n → P (packed (ring_slots c) 1 1 j))
    → P (filled c n s)
filled_cases P c zero s none some = none
filled_cases P c (suc n) s none some =
    either_way
    P
    (s == slot c (ring_slots c + n))
    _
    _
    (some n (omega arith))
    (filled_cases P c n s none (λ j low. some j (omega arith)))

cycles_start : (c : Setup) (opening : List (List ℕ)) → CyclesBounded c (start_of c opening).cells
cycles_start c opening =
    let high = limit_high c in
    let indices = some_indices c in
    let some = some_slots c in
    let empty : cycle_in (ring_slots c) (unused (ring_slots c)) * ring_slots c < c.limit =
    rw (cycle_in-packed (ring_slots c) 0 1 (mark_of (ring_slots c)) (omega arith) (omega arith)) (omega arith) in
    record {
      cycles =
          λ r s.
          either_way
          (λ (v : ℕ). cycle_in (ring_slots c) v * ring_slots c < c.limit)
          (r == 0)
          _
          _
          (filled_cases
          (λ (v : ℕ). cycle_in (ring_slots c) v * ring_slots c < c.limit)
          c
          (n_of c.order)
          s
          empty
          (λ j low. rw (cycle_in-packed (ring_slots c) 1 1 j (omega arith) (omega arith)) (omega arith)))
          empty;
    }

-- on each reachable state each entry's cycle is that of a ticket below the limit
pub cycles_bounded : (c : Setup) (m : Machine) → IsReachable c m → CyclesBounded c m.cells
cycles_bounded c m (at_start opening full) = cycles_start c opening
cycles_bounded c m (by_step {m = b} seat step reach low e) =
    let t = turned c b seat step m e in
    let was = has c b.cells (b.part seat) step t.turn ((steady c b reach).busy seat) t.enabled in
    rw t.next (cycles_turn c b.cells (b.part seat).hand t.turn was (cycles_bounded c b reach))
