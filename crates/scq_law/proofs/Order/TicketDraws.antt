-- Which step drew a ticket: an enqueue's ticket that is pending or placed was drawn by an E1 of its call, a dequeue's that is
-- open or taken by a D2 of its call. Plan: the ticket's state came about by one event, and until then its seat's record stays.
use Rattle.std.proofs.Common.{◌≡◌, ℕ, ◌+◌, ◌<◌, inl, inr, true, false, List, [], ◌++◌, length, append-nil, refl, ap, sym, ◌∙◌}
use Rattle.std.specs.Prelude.{Bool, nat_le, nat_lt, ◌&&◌, ◌==◌}
use Rattle.std.proofs.lemmas.Bool.{cases_Bool, cases_eq, leb-false}
use Rattle.scq_word.specs.declared.setup.Setup.{Setup}
use Rattle.scq_word.specs.Exports.{cycle_in, is_none_in}
use Rattle.scq_core.specs.declared.phase.Phase.{Phase}
use Rattle.scq_core.specs.declared.phase.Phase.TheVariants.{Idle, AtE1, AtE2, AtE3, AtE4, AtE5, AtE6, AtD1, AtD2, AtD3, AtD4, AtD5, AtD6, AtD7, AtD8, AtD9, AtD10}
use Rattle.scq_core.specs.Exports.{SeatPart, zero_level, reset_level, ring_slots, cycle, resting, drawing, putting, landed, seeking, trying, gave_up}
use Rattle.scq_core.specs.Machine.{Machine}
use Rattle.scq_core.specs.declared.ended.Ended.{Ended}
use Rattle.scq_law.proofs.Base.Ghosts.{Ghost}
use Rattle.scq_law.proofs.Base.TicketEvents.{TicketEvent, calm, drew, fell, laid, finished, entered, refused, began, died, saw_end, lifted, taken, lowered, emptied, overran, event, ended_by}
use Rattle.scq_law.proofs.Base.EventFacts.{stance, EventFacts}

-- whether an event draws a ticket below the limit
abbrev pub draws_any : TicketEvent → Bool
draws_any (drew r i w t) = true
draws_any (began r h) = true
draws_any _ = false

-- how an event comes to draw a ticket, if it does
pub data DrawsBy (c : Setup) (turn : Phase) (x : ℕ) : TicketEvent → Type 0 where
  draws_put : (r i : ℕ) (w : List ℕ) (least : ℕ) → turn ≡ AtE1 r i w least → x < c.limit → DrawsBy c turn x (drew r i w x)
  draws_get : (r least : ℕ) → turn ≡ AtD2 r least → x < c.limit → DrawsBy c turn x (began r x)
  draws_none : {e : TicketEvent} → draws_any e ≡ false → DrawsBy c turn x e

pub draws_by : (c : Setup) (turn : Phase) (x : ℕ) (y : List ℕ) → DrawsBy c turn x (event c turn x y)
draws_by c Idle x y = draws_none refl
draws_by c (AtE1 r i w l) x y =
    elim (cases_Bool (nat_le c.limit x)) [
      | inl past ↦ rw past (draws_none refl)
      | inr under ↦ rw under (draws_put r i w l refl (leb-false c.limit x under))
    ]
draws_by c (AtE2 r i w t l) x y =
    elim (cases_Bool (nat_lt (cycle_in (ring_slots c) x) (cycle c t) && is_none_in (ring_slots c) x)) [
      | inl a ↦ rw a (draws_none refl)
      | inr a ↦ rw a (draws_none refl)
    ]
draws_by c (AtE3 r i w t e) x y =
    elim (cases_Bool (nat_le x t)) [
      | inl a ↦ rw a (draws_none refl)
      | inr a ↦ rw a (draws_none refl)
    ]
draws_by c (AtE4 r i w t e) x y =
    elim (cases_Bool (x == e)) [
      | inl a ↦ rw a (draws_none refl)
      | inr a ↦ rw a (draws_none refl)
    ]
draws_by c (AtE5 r i w t) x y =
    elim (cases_Bool (x == reset_level c)) [
      | inl a ↦ rw a (draws_none refl)
      | inr a ↦ rw a (draws_none refl)
    ]
draws_by c (AtE6 r i w t) x y = draws_none refl
draws_by c (AtD1 r) x y =
    elim (cases_Bool (nat_lt x zero_level)) [
      | inl a ↦ rw a (draws_none refl)
      | inr a ↦ rw a (draws_none refl)
    ]
draws_by c (AtD2 r l) x y =
    elim (cases_Bool (nat_le c.limit x)) [
      | inl past ↦ rw past (draws_none refl)
      | inr under ↦ rw under (draws_get r l refl (leb-false c.limit x under))
    ]
draws_by c (AtD3 r h l) x y =
    elim (cases_Bool (cycle_in (ring_slots c) x == cycle c h)) [
      | inl a ↦ rw a (draws_none refl)
      | inr a ↦
          elim (cases_Bool (nat_lt (cycle_in (ring_slots c) x) (cycle c h))) [ inl b ↦ rw (a, b) (draws_none refl) | inr b ↦ rw (a, b) (draws_none refl) ]
    ]
draws_by c (AtD4 r h) x y = draws_none refl
draws_by c (AtD5 r h e) x y =
    elim (cases_Bool (x == e)) [
      | inl a ↦ rw a (draws_none refl)
      | inr a ↦ rw a (draws_none refl)
    ]
draws_by c (AtD6 r h) x y =
    elim (cases_Bool (nat_le x (h + 1))) [
      | inl a ↦ rw a (draws_none refl)
      | inr a ↦ rw a (draws_none refl)
    ]
draws_by c (AtD7 r h from to) x y =
    elim (cases_Bool (x == from)) [
      | inl a ↦ rw a (draws_none refl)
      | inr a ↦ rw a (draws_none refl)
    ]
draws_by c (AtD8 r h from) x y = draws_none refl
draws_by c (AtD9 r h from to) x y = draws_none refl
draws_by c (AtD10 r h true) x y = draws_none refl
draws_by c (AtD10 r h false) x y =
    elim (cases_Bool (nat_le x zero_level)) [
      | inl a ↦ rw a (draws_none refl)
      | inr a ↦ rw a (draws_none refl)
    ]

-- the calls of a seat whose ticket is pending or open stay as they are, but where the event is its own and ends its call
pub still : (c : Setup) (m : Machine) (g : Ghost) (s : ℕ) (e : TicketEvent) (n : Machine) (k : ℕ) → EventFacts c m g s e n
    → (s ≡ k → ended_by e ≡ []) → length (n.part k).calls ≡ length (m.part k).calls
still c m g s e n k facts none =
    elim (cases_eq k s) [
      | inl same ↦ rw same (ap length (facts.calls ∙ ap (λ (xs : List Ended). (m.part s).calls ++ xs) (none (sym same)) ∙ append-nil (m.part s).calls))
      | inr apart ↦ ap (λ (p : SeatPart). length p.calls) (facts.others k apart)
    ]

-- an event that ends a call is of a seat without a pending or an open ticket
pub busy_put : (c : Setup) (m : Machine) (g : Ghost) (s : ℕ) (e : TicketEvent) (n : Machine) (k r t : ℕ) → EventFacts c m g s e n
    → (i : ℕ) (w : List ℕ) → stance m k ≡ putting r i w t → s ≡ k → ended_by e ≡ []
busy_put c m g s calm n k r t facts i w at same = refl
busy_put c m g s (drew q j v u) n k r t facts i w at same = refl
busy_put c m g s (fell q j v u z) n k r t facts i w at same = refl
busy_put c m g s (laid q j v u) n k r t facts i w at same = refl
busy_put c m g s (finished q j v u) n k r t facts i w at same =
    let was : stance m k ≡ landed q j v u = rw (← same) facts.proper.was in absurd (cc)
busy_put c m g s (entered q) n k r t facts i w at same = refl
busy_put c m g s (refused q) n k r t facts i w at same =
    let was : stance m k ≡ resting = rw (← same) facts.proper.was.rests in absurd (cc)
busy_put c m g s (began q h) n k r t facts i w at same = refl
busy_put c m g s (died q h) n k r t facts i w at same = refl
busy_put c m g s (saw_end q h) n k r t facts i w at same = refl
busy_put c m g s (lifted q h to) n k r t facts i w at same = refl
busy_put c m g s (taken q h j v) n k r t facts i w at same =
    let was : stance m k ≡ trying q h = rw (← same) facts.proper.was in absurd (cc)
busy_put c m g s (lowered q h) n k r t facts i w at same = refl
busy_put c m g s (emptied q h) n k r t facts i w at same =
    elim facts.proper.was [
      | inl a ↦ let was : stance m k ≡ gave_up q h true = rw (← same) a in absurd (cc)
      | inr a ↦ let was : stance m k ≡ gave_up q h false = rw (← same) a.0 in absurd (cc)
    ]
busy_put c m g s (overran q u true) n k r t facts i w at same =
    elim facts.proper.was [
      | inl a ↦ let was : stance m k ≡ resting = rw (← same) a.rests in absurd (cc)
      | inr a ↦ let was : stance m k ≡ drawing q a.0 a.1 = rw (← same) a.2 in absurd (cc)
    ]
busy_put c m g s (overran q u false) n k r t facts i w at same =
    let was : stance m k ≡ seeking q = rw (← same) facts.proper.was in absurd (cc)

pub busy_get : (c : Setup) (m : Machine) (g : Ghost) (s : ℕ) (e : TicketEvent) (n : Machine) (k r h : ℕ) → EventFacts c m g s e n → stance m k ≡ trying r h
    → ((i : ℕ) (w : List ℕ) → e ≡ taken r h i w → ⊥) → s ≡ k → ended_by e ≡ []
busy_get c m g s calm n k r t facts at never same = refl
busy_get c m g s (drew q j v u) n k r t facts at never same = refl
busy_get c m g s (fell q j v u z) n k r t facts at never same = refl
busy_get c m g s (laid q j v u) n k r t facts at never same = refl
busy_get c m g s (finished q j v u) n k r t facts at never same =
    let was : stance m k ≡ landed q j v u = rw (← same) facts.proper.was in absurd (cc)
busy_get c m g s (entered q) n k r t facts at never same = refl
busy_get c m g s (refused q) n k r t facts at never same =
    let was : stance m k ≡ resting = rw (← same) facts.proper.was.rests in absurd (cc)
busy_get c m g s (began q h) n k r t facts at never same = refl
busy_get c m g s (died q h) n k r t facts at never same = refl
busy_get c m g s (saw_end q h) n k r t facts at never same = refl
busy_get c m g s (lifted q h to) n k r t facts at never same = refl
busy_get c m g s (taken q h j v) n k r t facts at never same =
    let was : stance m k ≡ trying q h = rw (← same) facts.proper.was in
    let both : trying q h ≡ trying r t = sym was ∙ at in
    let ring : q ≡ r = cc in
    let ticket : h ≡ t = cc in
    absurd (never j v (ap (λ (a : ℕ). taken a h j v) ring ∙ ap (λ (a : ℕ). taken r a j v) ticket))
busy_get c m g s (lowered q h) n k r t facts at never same = refl
busy_get c m g s (emptied q h) n k r t facts at never same =
    elim facts.proper.was [
      | inl a ↦ let was : stance m k ≡ gave_up q h true = rw (← same) a in absurd (cc)
      | inr a ↦ let was : stance m k ≡ gave_up q h false = rw (← same) a.0 in absurd (cc)
    ]
busy_get c m g s (overran q u true) n k r t facts at never same =
    elim facts.proper.was [
      | inl a ↦ let was : stance m k ≡ resting = rw (← same) a.rests in absurd (cc)
      | inr a ↦ let was : stance m k ≡ drawing q a.0 a.1 = rw (← same) a.2 in absurd (cc)
    ]
busy_get c m g s (overran q u false) n k r t facts at never same =
    let was : stance m k ≡ seeking q = rw (← same) facts.proper.was in absurd (cc)
