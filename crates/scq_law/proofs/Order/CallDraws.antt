-- Which step of its call drew a ticket: an enqueue's ticket that is pending or placed was drawn by an E1 of its call, a dequeue's
-- that is open or taken by a D2 of its call. And by which step a call ended.
use Rattle.std.proofs.Common.{◌≡◌, ℕ, ◌⊎◌, inl, inr, List, length, refl, sym, ◌∙◌}
use Rattle.scq_word.specs.declared.setup.Setup.{Setup}
use Rattle.scq_core.specs.Machine.{Machine}
use Rattle.scq_core.proofs.UpdatedLemmas.{updated_entry_or}
use Rattle.scq_law.specs.Exports.{call_of}
use Rattle.scq_law.proofs.Base.Ghosts.{Ghost, pending, failed, placed, opened, dead, took}
use Rattle.scq_law.proofs.Base.TicketEvents.{TicketEvent, calm, drew, fell, laid, finished, entered, refused, began, died, saw_end, lifted, taken, lowered, emptied, overran}
use Rattle.scq_law.proofs.Base.EventFacts.{EventFacts}
use Rattle.scq_law.proofs.Base.EventSteps.{ghost_next}
use Rattle.scq_law.proofs.Places.SeatTickets.{IsRooted}
use Rattle.scq_law.proofs.Order.TicketDraws.{still, busy_put, busy_get}

-- the ticket of a put that is the seat's call of this number, and of a get
pub data OwnsPut (g : Ghost) (m : Machine) (r p k x : ℕ) : Type 0 where
  by_pending : (i : ℕ) → g.puts r p ≡ pending k i → length (m.part k).calls ≡ x → OwnsPut g m r p k x
  by_placed : (i : ℕ) (w : List ℕ) → g.puts r p ≡ placed i w (call_of k x) → OwnsPut g m r p k x

pub data OwnsGet (g : Ghost) (m : Machine) (r h k x : ℕ) : Type 0 where
  by_opened : g.gets r h ≡ opened k → length (m.part k).calls ≡ x → OwnsGet g m r h k x
  by_took : g.gets r h ≡ took k x → OwnsGet g m r h k x

module _ (c : Setup) (m : Machine) (g : Ghost) (s : ℕ) where
  put_kept : (e : TicketEvent) (n : Machine) → EventFacts c m g s e n → IsRooted g m → (h : Ghost) (r p k x : ℕ) → h.puts r p ≡ g.puts r p → OwnsPut h n r p k x
      → OwnsPut g m r p k x
  put_kept e n facts root h r p k x same (by_pending i is calls) =
      let at = root.pends k r p i (sym same ∙ is) in
      by_pending i (sym same ∙ is) (sym (still c m g s e n k facts (busy_put c m g s e n k r p facts i at.content at.is)) ∙ calls)
  put_kept e n facts root h r p k x same (by_placed i w is) = by_placed i w (sym same ∙ is)

  get_kept : (e : TicketEvent) (n : Machine) → EventFacts c m g s e n → IsRooted g m → (h : Ghost) (r p k x : ℕ) → h.gets r p ≡ g.gets r p
      → ((i : ℕ) (w : List ℕ) → e ≡ taken r p i w → ⊥) → OwnsGet h n r p k x → OwnsGet g m r p k x
  get_kept e n facts root h r p k x same never (by_opened is calls) =
      let at = root.opens k r p (sym same ∙ is) in
      by_opened (sym same ∙ is) (sym (still c m g s e n k facts (busy_get c m g s e n k r p facts at never)) ∙ calls)
  get_kept e n facts root h r p k x same never (by_took is) = by_took (sym same ∙ is)

  -- the event draws it, for this call
  pub record NewPut (e : TicketEvent) (r p k x : ℕ) : Type 0 where
    pub index : ℕ
    pub content : List ℕ
    pub is : e ≡ drew r index content p
    pub seat : s ≡ k
    pub calls : length (m.part k).calls ≡ x

  pub record NewGet (e : TicketEvent) (r p k x : ℕ) : Type 0 where
    pub is : e ≡ began r p
    pub seat : s ≡ k
    pub calls : length (m.part k).calls ≡ x

  pub put_was : (time : ℕ) (e : TicketEvent) (n : Machine) → EventFacts c m g s e n → IsRooted g m → (r p k x : ℕ) → OwnsPut (ghost_next time g m s e) n r p k x
      → OwnsPut g m r p k x ⊎ NewPut e r p k x
  put_was time (drew q j v t) n facts root r p k x owns =
      elim (updated_entry_or g.puts q t (pending s j) r p) [
        | inl a ↦ inr (put_new owns a.0 a.1 a.2)
        | inr a ↦ inl (put_kept (drew q j v t) n facts root (ghost_next time g m s (drew q j v t)) r p k x a.1 owns)
      ]
    where
      put_new : OwnsPut (ghost_next time g m s (drew q j v t)) n r p k x → r ≡ q → p ≡ t → (ghost_next time g m s (drew q j v t)).puts r p ≡ pending s j
          → NewPut (drew q j v t) r p k x
      put_new (by_pending i is calls) ring place new =
          let both : pending s j ≡ pending k i = sym new ∙ is in
          record {
            index = j;
            content = v;
            is = rw (ring, place) refl;
            seat = cc;
            calls = sym (still c m g s (drew q j v t) n k facts (λ z. refl)) ∙ calls;
          }
      put_new (by_placed i w is) ring place new = let both : pending s j ≡ placed i w (call_of k x) = sym new ∙ is in absurd (cc)
  put_was time (fell q j v t z) n facts root r p k x owns =
      elim (updated_entry_or g.puts q t (failed time j z) r p) [
        | inl a ↦ absurd (failed_none owns a.2)
        | inr a ↦ inl (put_kept (fell q j v t z) n facts root (ghost_next time g m s (fell q j v t z)) r p k x a.1 owns)
      ]
    where
      failed_none : OwnsPut (ghost_next time g m s (fell q j v t z)) n r p k x → (ghost_next time g m s (fell q j v t z)).puts r p ≡ failed time j z → ⊥
      failed_none (by_pending i is calls) new = let both : failed time j z ≡ pending k i = sym new ∙ is in cc
      failed_none (by_placed i w is) new = let both : failed time j z ≡ placed i w (call_of k x) = sym new ∙ is in cc
  put_was time (laid q j v t) n facts root r p k x owns =
      elim (updated_entry_or g.puts q t (placed j v (call_of s (length (m.part s).calls))) r p) [
        | inl a ↦ inl (put_placed owns a.0 a.1 a.2)
        | inr a ↦ inl (put_kept (laid q j v t) n facts root (ghost_next time g m s (laid q j v t)) r p k x a.1 owns)
      ]
    where
      put_placed : OwnsPut (ghost_next time g m s (laid q j v t)) n r p k x → r ≡ q → p ≡ t
          → (ghost_next time g m s (laid q j v t)).puts r p ≡ placed j v (call_of s (length (m.part s).calls)) → OwnsPut g m r p k x
      put_placed (by_pending i is calls) ring place new =
          let both : placed j v (call_of s (length (m.part s).calls)) ≡ pending k i = sym new ∙ is in absurd (cc)
      put_placed (by_placed i w is) ring place new =
          let both : placed j v (call_of s (length (m.part s).calls)) ≡ placed i w (call_of k x) = sym new ∙ is in
          let seat : s ≡ k = cc in
          let number : length (m.part s).calls ≡ x = cc in
          rw (ring, place, ← seat) (by_pending j facts.proper.pending number)
  put_was time calm n facts root r p k x owns = inl (put_kept calm n facts root g r p k x refl owns)
  put_was time (finished q j v t) n facts root r p k x owns = inl (put_kept (finished q j v t) n facts root g r p k x refl owns)
  put_was time (entered q) n facts root r p k x owns = inl (put_kept (entered q) n facts root g r p k x refl owns)
  put_was time (refused q) n facts root r p k x owns = inl (put_kept (refused q) n facts root g r p k x refl owns)
  put_was time (began q h) n facts root r p k x owns = inl (put_kept (began q h) n facts root (ghost_next time g m s (began q h)) r p k x refl owns)
  put_was time (died q h) n facts root r p k x owns = inl (put_kept (died q h) n facts root (ghost_next time g m s (died q h)) r p k x refl owns)
  put_was time (saw_end q h) n facts root r p k x owns = inl (put_kept (saw_end q h) n facts root g r p k x refl owns)
  put_was time (lifted q h to) n facts root r p k x owns = inl (put_kept (lifted q h to) n facts root g r p k x refl owns)
  put_was time (taken q h j v) n facts root r p k x owns = inl (put_kept (taken q h j v) n facts root (ghost_next time g m s (taken q h j v)) r p k x refl owns)
  put_was time (lowered q h) n facts root r p k x owns = inl (put_kept (lowered q h) n facts root g r p k x refl owns)
  put_was time (emptied q h) n facts root r p k x owns = inl (put_kept (emptied q h) n facts root g r p k x refl owns)
  put_was time (overran q t z) n facts root r p k x owns = inl (put_kept (overran q t z) n facts root g r p k x refl owns)

  pub get_was : (time : ℕ) (e : TicketEvent) (n : Machine) → EventFacts c m g s e n → IsRooted g m → (r p k x : ℕ) → OwnsGet (ghost_next time g m s e) n r p k x
      → OwnsGet g m r p k x ⊎ NewGet e r p k x
  get_was time (began q h) n facts root r p k x owns =
      elim (updated_entry_or g.gets q h (opened s) r p) [
        | inl a ↦ inr (get_new owns a.0 a.1 a.2)
        | inr a ↦ inl (get_kept (began q h) n facts root (ghost_next time g m s (began q h)) r p k x a.1 (λ i w z. cc) owns)
      ]
    where
      get_new : OwnsGet (ghost_next time g m s (began q h)) n r p k x → r ≡ q → p ≡ h → (ghost_next time g m s (began q h)).gets r p ≡ opened s
          → NewGet (began q h) r p k x
      get_new (by_opened is calls) ring place new =
          let both : opened s ≡ opened k = sym new ∙ is in
          record { is = rw (ring, place) refl; seat = cc; calls = sym (still c m g s (began q h) n k facts (λ z. refl)) ∙ calls }
      get_new (by_took is) ring place new = let both : opened s ≡ took k x = sym new ∙ is in absurd (cc)
  get_was time (died q h) n facts root r p k x owns =
      elim (updated_entry_or g.gets q h dead r p) [
        | inl a ↦ absurd (dead_none owns a.2)
        | inr a ↦ inl (get_kept (died q h) n facts root (ghost_next time g m s (died q h)) r p k x a.1 (λ i w z. cc) owns)
      ]
    where
      dead_none : OwnsGet (ghost_next time g m s (died q h)) n r p k x → (ghost_next time g m s (died q h)).gets r p ≡ dead → ⊥
      dead_none (by_opened is calls) new = let both : dead ≡ opened k = sym new ∙ is in cc
      dead_none (by_took is) new = let both : dead ≡ took k x = sym new ∙ is in cc
  get_was time (taken q h j v) n facts root r p k x owns =
      elim (updated_entry_or g.gets q h (took s (length (m.part s).calls)) r p) [
        | inl a ↦ inl (get_took owns a.0 a.1 a.2)
        | inr a ↦
            inl (get_kept (taken q h j v) n facts root (ghost_next time g m s (taken q h j v)) r p k x a.1
            (λ i w z. let ring : q ≡ r = cc in let place : h ≡ p = cc in a.0 (sym ring) (sym place)) owns)
      ]
    where
      get_took : OwnsGet (ghost_next time g m s (taken q h j v)) n r p k x → r ≡ q → p ≡ h
          → (ghost_next time g m s (taken q h j v)).gets r p ≡ took s (length (m.part s).calls) → OwnsGet g m r p k x
      get_took (by_opened is calls) ring place new = let both : took s (length (m.part s).calls) ≡ opened k = sym new ∙ is in absurd (cc)
      get_took (by_took is) ring place new =
          let both : took s (length (m.part s).calls) ≡ took k x = sym new ∙ is in
          let seat : s ≡ k = cc in
          let number : length (m.part s).calls ≡ x = cc in
          rw (ring, place, ← seat) (by_opened facts.proper.opened number)
  get_was time calm n facts root r p k x owns = inl (get_kept calm n facts root g r p k x refl (λ i w z. cc) owns)
  get_was time (drew q j v t) n facts root r p k x owns =
      inl (get_kept (drew q j v t) n facts root (ghost_next time g m s (drew q j v t)) r p k x refl (λ i w z. cc) owns)
  get_was time (fell q j v t y) n facts root r p k x owns =
      inl (get_kept (fell q j v t y) n facts root (ghost_next time g m s (fell q j v t y)) r p k x refl (λ i w z. cc) owns)
  get_was time (laid q j v t) n facts root r p k x owns =
      inl (get_kept (laid q j v t) n facts root (ghost_next time g m s (laid q j v t)) r p k x refl (λ i w z. cc) owns)
  get_was time (finished q j v t) n facts root r p k x owns = inl (get_kept (finished q j v t) n facts root g r p k x refl (λ i w z. cc) owns)
  get_was time (entered q) n facts root r p k x owns = inl (get_kept (entered q) n facts root g r p k x refl (λ i w z. cc) owns)
  get_was time (refused q) n facts root r p k x owns = inl (get_kept (refused q) n facts root g r p k x refl (λ i w z. cc) owns)
  get_was time (saw_end q h) n facts root r p k x owns = inl (get_kept (saw_end q h) n facts root g r p k x refl (λ i w z. cc) owns)
  get_was time (lifted q h to) n facts root r p k x owns = inl (get_kept (lifted q h to) n facts root g r p k x refl (λ i w z. cc) owns)
  get_was time (lowered q h) n facts root r p k x owns = inl (get_kept (lowered q h) n facts root g r p k x refl (λ i w z. cc) owns)
  get_was time (emptied q h) n facts root r p k x owns = inl (get_kept (emptied q h) n facts root g r p k x refl (λ i w z. cc) owns)
  get_was time (overran q t y) n facts root r p k x owns = inl (get_kept (overran q t y) n facts root g r p k x refl (λ i w z. cc) owns)
