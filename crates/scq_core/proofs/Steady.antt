-- What each seat has, on every reachable state. Plan: an enabled turn has what its phase has (`has`); what a seat has
-- lasts while ranks and counters only rise (`lasts`); after its own turn a seat has what its new phase says (`own`).
use Rattle.std.proofs.Common.{◌≡◌, ℕ, ◌+◌, ◌<◌, ◌≤◌, Bool, true, false, ◌&&◌, List, refl, ◌∙◌, ◌⊎◌, inl, inr, arith, eq-eqb, ne_eqb, ltb-true, leb-true}
use Rattle.std.specs.Prelude.{◌==◌, if◌then◌else◌, nat_lt, nat_le, Option, Some, None}
use Rattle.std.proofs.lemmas.Bool.{cases_Bool, cases_eq, and_parts, leb-false}
use Rattle.scq_word.specs.declared.setup.Setup.{Setup}
use Rattle.scq_word.specs.Exports.{n_of, safe_in, cycle_in, is_none_in, rank_in}
use Rattle.scq_word.proofs.WordLemmas.{safe_in_bit}
use Rattle.scq_core.specs.declared.phase.Phase.{Phase}
use Rattle.scq_core.specs.declared.phase.Phase.TheVariants.{Idle, AtE1, AtE2, AtE3, AtE4, AtE5, AtE6, AtD1, AtD2, AtD3, AtD4, AtD5, AtD6, AtD7, AtD8, AtD9, AtD10}
use Rattle.scq_core.specs.declared.step.Step.{Step}
use Rattle.scq_core.specs.Exports.{Cells, SeatPart, read, beside, ring_slots, cycle, slot, zero_level, reset_level, turn_of, location_of, after}
use Rattle.scq_core.specs.Exports.{cells_after, moved, start_of, IsReachable, at_start, by_step, IsAbove, RankRises, CountersRise, word_at, Drawn}
use Rattle.scq_core.specs.Exports.{Lags, Busy, IsSteady}
use Rattle.scq_core.specs.Machine.{Machine}
use Rattle.scq_core.proofs.UpdatedLemmas.{updated_here, updated_cases}
use Rattle.scq_core.proofs.Turns.{turned, Begins, begins_put, begins_get, begins, awake}
use Rattle.scq_core.proofs.Entries.{above_rank, above_trans}
use Rattle.scq_core.proofs.Ranks.{rank_rises, counters_rise}

-- a call that begins has what its first step needs
begun : (c : Setup) (m : Cells) (hand : List ℕ) (turn : Phase) → Begins c hand turn → Busy c m hand turn
begun c m hand turn (begins_put r i w low small held) = (record { ring = low; index = small; held = held }, omega arith)
begun c m hand turn (begins_get r low) = low

-- an enabled turn has what its seat's phase has
pub has : (c : Setup) (m : Cells) (p : SeatPart) (s : Step) (turn : Phase) → Busy c m p.hand p.phase → turn_of c p s ≡ Some turn → Busy c m p.hand turn
has c m p s turn busy e =
    elim (begins c p.hand p.spent p.phase s turn e) [
      | inl same ↦ rw same busy
      | inr new ↦ begun c m p.hand turn new.2
    ]

drawn_lasts : (c : Setup) (counter later t : ℕ) → counter ≤ later → Drawn c counter t → Drawn c later t
drawn_lasts c counter later t up drawn = record { first = drawn.first; below = omega arith; below_limit = drawn.below_limit }

lags_lasts : (c : Setup) (t e now later : ℕ) → IsAbove (ring_slots c) now later → Lags c t e now → Lags c t e later
lags_lasts c t e now later up lags =
    record { earlier = lags.earlier; above = above_trans (ring_slots c) e now later lags.above up }

least_lasts : (c : Setup) (l now later : ℕ) → IsAbove (ring_slots c) now later → l ≤ rank_in (ring_slots c) now → l ≤ rank_in (ring_slots c) later
least_lasts c l now later up low = let le = above_rank (ring_slots c) now later up in omega arith

-- what a seat has lasts while ranks and counters only rise
pub lasts : (c : Setup) (m n : Cells) (hand : List ℕ) (phase : Phase) → RankRises c m n → CountersRise m n → Busy c m hand phase → Busy c n hand phase
lasts c m n hand Idle ranks up busy = tt
lasts c m n hand (AtE1 r i w l) ranks up busy = let le = up.tail r in (busy.0, omega arith)
lasts c m n hand (AtE2 r i w t l) ranks up busy =
    (busy.0, drawn_lasts c _ _ t (up.tail r) busy.1, least_lasts c l _ _ (ranks.rises r (slot c t)) busy.2)
lasts c m n hand (AtE3 r i w t e) ranks up busy =
    (busy.0, drawn_lasts c _ _ t (up.tail r) busy.1, lags_lasts c t e _ _ (ranks.rises r (slot c t)) busy.2, busy.3, busy.4)
lasts c m n hand (AtE4 r i w t e) ranks up busy =
    (busy.0, drawn_lasts c _ _ t (up.tail r) busy.1, lags_lasts c t e _ _ (ranks.rises r (slot c t)) busy.2, busy.3)
lasts c m n hand (AtE5 r i w t) ranks up busy = (busy.0, drawn_lasts c _ _ t (up.tail r) busy.1, busy.2)
lasts c m n hand (AtE6 r i w t) ranks up busy = (busy.0, drawn_lasts c _ _ t (up.tail r) busy.1, busy.2)
lasts c m n hand (AtD1 r) ranks up busy = busy
lasts c m n hand (AtD2 r l) ranks up busy = let le = up.head r in (busy.0, omega arith)
lasts c m n hand (AtD3 r h l) ranks up busy =
    (busy.0, drawn_lasts c _ _ h (up.head r) busy.1, least_lasts c l _ _ (ranks.rises r (slot c h)) busy.2)
lasts c m n hand (AtD4 r h) ranks up busy = (busy.0, drawn_lasts c _ _ h (up.head r) busy.1)
lasts c m n hand (AtD5 r h e) ranks up busy =
    (busy.0, drawn_lasts c _ _ h (up.head r) busy.1, lags_lasts c h e _ _ (ranks.rises r (slot c h)) busy.2)
lasts c m n hand (AtD6 r h) ranks up busy = (busy.0, drawn_lasts c _ _ h (up.head r) busy.1)
lasts c m n hand (AtD7 r h from to) ranks up busy =
    let tail = up.tail r in
    let head = up.head r in
    (busy.0, drawn_lasts c _ _ h head busy.1, record { rises = busy.2.rises; behind_head = omega arith; was_tail = omega arith })
lasts c m n hand (AtD8 r h from) ranks up busy =
    let tail = up.tail r in (busy.0, drawn_lasts c _ _ h (up.head r) busy.1, omega arith)
lasts c m n hand (AtD9 r h from to) ranks up busy =
    let tail = up.tail r in
    let head = up.head r in
    (busy.0, drawn_lasts c _ _ h head busy.1, omega arith, omega arith)
lasts c m n hand (AtD10 r h leaving) ranks up busy = (busy.0, drawn_lasts c _ _ h (up.head r) busy.1)

-- a seat's part after its turn on these cells
abbrev turned_part : Setup → Phase → Cells → SeatPart → SeatPart
turned_part c turn m p = after c turn (read m (location_of c turn)) (beside m (location_of c turn)) p

-- a turn that draws a ticket lifts its counter
abbrev Draws : Cells → Cells → Phase → Type 0
Draws m n (AtE1 r i w l) = m.tail r < n.tail r
Draws m n (AtD2 r l) = m.head r < n.head r
Draws m n turn = Unit {0}

draws : (c : Setup) (m : Cells) (turn : Phase) → Draws m (cells_after c turn m) turn
draws c m (AtE1 r i w l) = let here = updated_here m.tail r (m.tail r + 1) in omega arith
draws c m (AtD2 r l) = let here = updated_here m.head r (m.head r + 1) in omega arith
draws c m turn = tt

-- what a seat has after its own turn, of any cells n in which ranks and counters rose
own : (c : Setup) (m n : Cells) (p : SeatPart) (turn : Phase) → (turn ≡ Idle → ⊥) → ((r : ℕ) → ring_slots c ≤ m.tail r) → ((r : ℕ) → ring_slots c ≤ m.head r)
    → RankRises c m n → CountersRise m n → Draws m n turn → Busy c m p.hand turn → Busy c n p.hand turn
    → Busy c n (turned_part c turn m p).hand (turned_part c turn m p).phase
own c m n p Idle awake tails heads ranks up drew was now = absurd (awake refl)
own c m n p (AtE1 r i w l) awake tails heads ranks up drew was now =
    elim (cases_Bool (nat_le c.limit (m.tail r))) [
      | inl past ↦ rw past tt
      | inr under ↦
          let low = leb-false c.limit (m.tail r) under in
          rw under (now.0, record { first = tails r; below = drew; below_limit = low }, omega arith)
    ]
own c m n p (AtE2 r i w t l) awake tails heads ranks up drew was now =
    let x = word_at c m r t in
    elim (cases_Bool (nat_lt (cycle_in (ring_slots c) x) (cycle c t) && is_none_in (ring_slots c) x)) [
      | inl fits ↦
          let both = and_parts (nat_lt (cycle_in (ring_slots c) x) (cycle c t)) (is_none_in (ring_slots c) x) fits in
          let lags : Lags c t x (word_at c n r t) =
          record { earlier = ltb-true _ _ both.0; above = ranks.rises r (slot c t) } in
          elim (cases_eq (safe_in (ring_slots c) x) 1) [
            | inl safe ↦ rw (fits, eq-eqb (safe_in (ring_slots c) x) 1 safe) (now.0, now.1, lags, both.1)
            | inr unsafe ↦
                let bit = safe_in_bit (ring_slots c) x in
                let zero_bit : safe_in (ring_slots c) x ≡ 0 = omega arith in
                rw (fits, ne_eqb (safe_in (ring_slots c) x) 1 unsafe) (now.0, now.1, lags, both.1, zero_bit)
          ]
      | inr fails ↦ let drawn = now.1 in rw fails (now.0, omega arith)
    ]
own c m n p (AtE3 r i w t e) awake tails heads ranks up drew was now =
    elim (cases_Bool (nat_le (m.head r) t)) [
      | inl low ↦ rw low (now.0, now.1, now.2, now.3)
      | inr fails ↦ let drawn = now.1 in rw fails (now.0, omega arith)
    ]
own c m n p (AtE4 r i w t e) awake tails heads ranks up drew was now =
    elim (cases_Bool (word_at c m r t == e)) [
      | inl hit ↦ rw hit (now.0.ring, now.1, now.0.index)
      | inr miss ↦ rw miss (now.0, now.1, above_rank _ _ _ (ranks.rises r (slot c t)))
    ]
own c m n p (AtE5 r i w t) awake tails heads ranks up drew was now =
    elim (cases_Bool (m.threshold r == reset_level c)) [ inl high ↦ rw high tt | inr low ↦ rw low now ]
own c m n p (AtE6 r i w t) awake tails heads ranks up drew was now = tt
own c m n p (AtD1 r) awake tails heads ranks up drew was now =
    elim (cases_Bool (nat_lt (m.threshold r) zero_level)) [ inl low ↦ rw low tt | inr high ↦ rw high (now, omega arith) ]
own c m n p (AtD2 r l) awake tails heads ranks up drew was now =
    elim (cases_Bool (nat_le c.limit (m.head r))) [
      | inl past ↦ rw past tt
      | inr under ↦
          let low = leb-false c.limit (m.head r) under in
          rw under (now.0, record { first = heads r; below = drew; below_limit = low }, omega arith)
    ]
own c m n p (AtD3 r h l) awake tails heads ranks up drew was now =
    let x = word_at c m r h in
    elim (cases_Bool (cycle_in (ring_slots c) x == cycle c h)) [
      | inl same ↦ rw same (now.0, now.1)
      | inr other ↦
          elim (cases_Bool (nat_lt (cycle_in (ring_slots c) x) (cycle c h))) [
            | inl lower ↦
                rw (other, lower)
                (now.0, now.1, record { earlier = ltb-true _ _ lower; above = ranks.rises r (slot c h) })
            | inr higher ↦ rw (other, higher) (now.0, now.1)
          ]
    ]
own c m n p (AtD4 r h) awake tails heads ranks up drew was now = tt
own c m n p (AtD5 r h e) awake tails heads ranks up drew was now =
    elim (cases_Bool (word_at c m r h == e)) [
      | inl hit ↦ rw hit (now.0, now.1)
      | inr miss ↦ rw miss (now.0, now.1, above_rank _ _ _ (ranks.rises r (slot c h)))
    ]
own c m n p (AtD6 r h) awake tails heads ranks up drew was now =
    let tail = up.tail r in
    let drawn = now.1 in
    elim (cases_Bool (nat_le (m.tail r) (h + 1))) [
      | inl low ↦
          let le = leb-true _ _ low in
          rw low
          (now.0, now.1, record { rises = le; behind_head = omega arith; was_tail = tail })
      | inr high ↦ rw high now
    ]
own c m n p (AtD7 r h from to) awake tails heads ranks up drew was now =
    let tail = up.tail r in
    let catch = was.2 in
    elim (cases_eq (m.tail r) from) [
      | inl hit ↦ rw (eq-eqb (m.tail r) from hit) (now.0, now.1)
      | inr miss ↦ rw (ne_eqb (m.tail r) from miss) (now.0, now.1, omega arith)
    ]
own c m n p (AtD8 r h from) awake tails heads ranks up drew was now = (now.0, now.1, now.2, up.head r)
own c m n p (AtD9 r h from to) awake tails heads ranks up drew was now =
    let tail = up.tail r in
    elim (cases_Bool (nat_le to (m.tail r))) [
      | inl caught ↦ rw caught (now.0, now.1)
      | inr under ↦
          let low = leb-false to (m.tail r) under in
          let drawn = now.3 in
          rw under
          (now.0, now.1, record { rises = omega arith; behind_head = now.3; was_tail = tail })
    ]
own c m n p (AtD10 r h true) awake tails heads ranks up drew was now = tt
own c m n p (AtD10 r h false) awake tails heads ranks up drew was now =
    elim (cases_Bool (nat_le (m.threshold r) zero_level)) [
      | inl low ↦ rw low tt
      | inr high ↦ let drawn = now.1 in rw high (now.0, omega arith)
    ]

-- what holds of both branches holds of the choice
pub either_way : {A : Type 0} → (P : A → Type 0) (b : Bool) (x y : A) → P x → P y → P (if b then x else y)
either_way P true x y left right = left
either_way P false x y left right = right

-- a turn that draws at or past the limit keeps its ticket and is the call's last; every other leaves what the seat keeps
pub kept_after : (c : Setup) (turn : Phase) (x : ℕ) (y : List ℕ) (p : SeatPart)
    → ((after c turn x y p).spent ≡ p.spent) ⊎ (((after c turn x y p).spent ≡ Some x) × ((after c turn x y p).phase ≡ Idle) × (c.limit ≤ x))
kept_after c (AtE1 r i w l) x y p =
    elim (cases_Bool (nat_le c.limit x)) [
      | inl past ↦ rw past (inr (refl, refl, leb-true _ _ past))
      | inr under ↦ rw under (inl refl)
    ]
kept_after c (AtD2 r l) x y p =
    elim (cases_Bool (nat_le c.limit x)) [
      | inl past ↦ rw past (inr (refl, refl, leb-true _ _ past))
      | inr under ↦ rw under (inl refl)
    ]
kept_after c Idle x y p = inl refl
kept_after c (AtE2 r i w t l) x y p =
    inl
    (either_way (λ (q : SeatPart). q.spent ≡ p.spent) (nat_lt (cycle_in (ring_slots c) x) (cycle c t) && is_none_in (ring_slots c) x) _ _
    (either_way (λ (q : SeatPart). q.spent ≡ p.spent) (safe_in (ring_slots c) x == 1) _ _ refl refl) refl)
kept_after c (AtE3 r i w t e) x y p = inl (either_way (λ (q : SeatPart). q.spent ≡ p.spent) (nat_le x t) _ _ refl refl)
kept_after c (AtE4 r i w t e) x y p = inl (either_way (λ (q : SeatPart). q.spent ≡ p.spent) (x == e) _ _ refl refl)
kept_after c (AtE5 r i w t) x y p = inl (either_way (λ (q : SeatPart). q.spent ≡ p.spent) (x == reset_level c) _ _ refl refl)
kept_after c (AtE6 r i w t) x y p = inl refl
kept_after c (AtD1 r) x y p = inl (either_way (λ (q : SeatPart). q.spent ≡ p.spent) (nat_lt x zero_level) _ _ refl refl)
kept_after c (AtD3 r h l) x y p =
    inl
    (either_way (λ (q : SeatPart). q.spent ≡ p.spent) (cycle_in (ring_slots c) x == cycle c h) _ _ refl
    (either_way (λ (q : SeatPart). q.spent ≡ p.spent) (nat_lt (cycle_in (ring_slots c) x) (cycle c h)) _ _ refl refl))
kept_after c (AtD4 r h) x y p = inl refl
kept_after c (AtD5 r h e) x y p = inl (either_way (λ (q : SeatPart). q.spent ≡ p.spent) (x == e) _ _ refl refl)
kept_after c (AtD6 r h) x y p = inl (either_way (λ (q : SeatPart). q.spent ≡ p.spent) (nat_le x (h + 1)) _ _ refl refl)
kept_after c (AtD7 r h from to) x y p = inl (either_way (λ (q : SeatPart). q.spent ≡ p.spent) (x == from) _ _ refl refl)
kept_after c (AtD8 r h from) x y p = inl refl
kept_after c (AtD9 r h from to) x y p = inl (either_way (λ (q : SeatPart). q.spent ≡ p.spent) (nat_le to x) _ _ refl refl)
kept_after c (AtD10 r h true) x y p = inl refl
kept_after c (AtD10 r h false) x y p = inl (either_way (λ (q : SeatPart). q.spent ≡ p.spent) (nat_le x zero_level) _ _ refl refl)

own_kept : (c : Setup) (m : Cells) (p : SeatPart) (turn : Phase) → p.spent ≡ None → (t : ℕ) → (turned_part c turn m p).spent ≡ Some t
    → ((turned_part c turn m p).phase ≡ Idle) × (c.limit ≤ t)
own_kept c m p turn none t e =
    elim (kept_after c turn (read m (location_of c turn)) (beside m (location_of c turn)) p) [
      | inl same ↦ let clash : ◌≡◌ {A = Option ℕ} None (Some t) = cc in absurd (cc)
      | inr keeps ↦
          let is : read m (location_of c turn) ≡ t = cc in
          (keeps.1, rw (← is) keeps.2)
    ]

none_unless : (o : Option ℕ) → ((t : ℕ) → o ≡ Some t → ⊥) → o ≡ None
none_unless None not_some = refl
none_unless (Some t) not_some = absurd (not_some t refl)

-- a seat whose turn is enabled keeps no spent ticket
pub keeps_none : (c : Setup) (m : Machine) (k : ℕ) (s : Step) (turn : Phase) → IsSteady c m → turn_of c (m.part k) s ≡ Some turn → (m.part k).spent ≡ None
keeps_none c m k s turn steady e =
    let p = m.part k in
    elim (begins c p.hand p.spent p.phase s turn e) [
      | inl same ↦ none_unless p.spent (λ t keeps. awake c p.hand p.spent p.phase s turn e (same ∙ (steady.kept k t keeps).0))
      | inr new ↦ new.1
    ]

-- a turn keeps all of this
pub steady_turn : (c : Setup) (m : Machine) (k : ℕ) (s : Step) (turn : Phase) → IsSteady c m → turn_of c (m.part k) s ≡ Some turn
    → IsSteady c (moved c m k turn)
steady_turn c m k s turn steady e =
    let p = m.part k in
    let n = cells_after c turn m.cells in
    let was = has c m.cells p s turn (steady.busy k) e in
    let ranks = rank_rises c m.cells p.hand turn was in
    let up = counters_rise c m.cells p.hand turn was in
    let now = lasts c m.cells n p.hand turn ranks up was in
    let q = turned_part c turn m.cells p in
    record {
      busy =
          λ j.
          updated_cases
          (λ (_ : ℕ) (v : SeatPart). Busy c n v.hand v.phase)
          m.part
          k
          q
          j
          (λ _. own c m.cells n p turn (awake c p.hand p.spent p.phase s turn e) steady.tails steady.heads ranks up (draws c m.cells turn) was now)
          (λ _. lasts c m.cells n (m.part j).hand (m.part j).phase ranks up (steady.busy j));
      kept =
          λ j.
          updated_cases
          (λ (_ : ℕ) (v : SeatPart). (t : ℕ) → v.spent ≡ Some t → (v.phase ≡ Idle) × (c.limit ≤ t))
          m.part
          k
          q
          j
          (λ _. own_kept c m.cells p turn (keeps_none c m k s turn steady e))
          (λ _. steady.kept j);
      tails = λ r. let low = steady.tails r in let rises = up.tail r in omega arith;
      heads = λ r. let low = steady.heads r in let rises = up.head r in omega arith;
    }

-- the start has it
pub steady_start : (c : Setup) (opening : List (List ℕ)) → IsSteady c (start_of c opening)
steady_start c opening =
    record {
      busy = λ k. tt;
      kept = λ k t keeps. absurd (let clash : ◌≡◌ {A = Option ℕ} None (Some t) = keeps in cc);
      tails =
          λ r.
          either_way (λ (v : ℕ). ring_slots c ≤ v) (r == 0) (ring_slots c + n_of c.order) (ring_slots c) (omega arith) (omega arith);
      heads = λ r. omega arith;
    }

-- each reachable state has it
pub steady : (c : Setup) (m : Machine) → IsReachable c m → IsSteady c m
steady c m (at_start opening full) = steady_start c opening
steady c m (by_step {m = b} seat step reach low e) =
    let t = turned c b seat step m e in
    rw t.next (steady_turn c b seat step t.turn (steady c b reach) t.enabled)
