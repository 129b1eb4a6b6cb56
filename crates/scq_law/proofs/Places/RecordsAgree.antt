-- The seats' records agree with the tickets' states. Plan: a record only grows, by the call that the event ends, and
-- what is placed or taken stays; so each direction needs a look at the new call or the new state alone.
use Rattle.std.proofs.Common.{◌≡◌, ℕ, zero, suc, ◌+◌, ◌-◌, ◌<◌, ◌≤◌, true, false, List, [], ◌∷◌, ◌++◌, length, append-nil, refl, ap, sym, ◌∙◌, ◌⊎◌, inl, inr, arith}
use Rattle.std.specs.Prelude.{Some, slice_get, slice_index_or}
use Rattle.std.proofs.lemmas.Bool.{cases_eq}
use Rattle.scq_word.specs.declared.setup.Setup.{Setup}
use Rattle.scq_word.specs.Exports.{n_of}
use Rattle.scq_core.specs.declared.ended.Ended.{Ended}
use Rattle.scq_core.specs.declared.ended.Ended.TheVariants.{Done, Got}
use Rattle.scq_core.specs.Exports.{SeatPart, ring_slots, start_of, landed}
use Rattle.scq_core.specs.Machine.{Machine}
use Rattle.scq_core.proofs.UpdatedLemmas.{updated_entry_or, updated_entry_here}
use Rattle.scq_law.specs.Exports.{Maker, call_of, opening_put}
use Rattle.scq_law.proofs.Base.Ghosts.{Ghost, pending, failed, placed, opened, dead, took, start_ghost}
use Rattle.scq_law.proofs.Base.TicketEvents.{TicketEvent, calm, drew, fell, laid, finished, entered, refused, began, died, saw_end, lifted, taken, lowered, emptied, overran, ended_by}
use Rattle.scq_law.proofs.Base.EventFacts.{stance, EventFacts}
use Rattle.scq_law.proofs.Base.StartTickets.{stands_at}
use Rattle.scq_law.proofs.Base.EventSteps.{EventStep, ghost_next}
use Rattle.scq_law.proofs.Base.SeatStances.{other_stance}
use Rattle.scq_law.proofs.Places.SeatTickets.{stance_at}

-- a call of a record stays where it is while the record grows
pub call_stays : (xs ys : List Ended) (j : ℕ) (x : Ended) → slice_get xs j ≡ Some x → slice_get (xs ++ ys) j ≡ Some x
call_stays [] ys j x is = absurd (cc)
call_stays (y ∷ xs) ys zero x is = is
call_stays (y ∷ xs) ys (suc j) x is = call_stays xs ys j x is

pub call_last : (xs : List Ended) (x : Ended) → slice_get (xs ++ x ∷ []) (length xs) ≡ Some x
call_last [] x = refl
call_last (y ∷ xs) x = call_last xs x

-- a call of a record that grew by at most one was there, or is the new one
pub call_was : (xs ys : List Ended) (j : ℕ) (x : Ended) → length ys ≤ 1 → slice_get (xs ++ ys) j ≡ Some x
    → (slice_get xs j ≡ Some x) ⊎ ((j ≡ length xs) × (ys ≡ x ∷ []))
call_was [] [] j x few is = absurd (cc)
call_was [] (y ∷ []) zero x few is = let same : y ≡ x = cc in inr (refl, ap (λ v. v ∷ []) same)
call_was [] (y ∷ []) (suc j) x few is = absurd (cc)
call_was [] (y ∷ z ∷ ys) j x few is = absurd (omega arith)
call_was (y ∷ xs) ys zero x few is = inl is
call_was (y ∷ xs) ys (suc j) x few is =
    elim (call_was xs ys j x few is) [ inl old ↦ inl old | inr new ↦ inr (ap suc new.0, new.1) ]

pub ended_few : (e : TicketEvent) → length (ended_by e) ≤ 1
ended_few (finished r i w t) = omega arith
ended_few (refused r) = omega arith
ended_few (taken r h i w) = omega arith
ended_few (emptied r h) = omega arith
ended_few (overran r t is_put) = omega arith
ended_few e = omega arith

-- a place of the opening puts, with what stands there
pub record Opens (c : Setup) (m : Machine) (r p i : ℕ) (w : List ℕ) : Type 0 where
  pub ring : r ≡ 0
  pub first : ring_slots c ≤ p
  pub last : p < ring_slots c + n_of c.order
  pub index : i ≡ p - ring_slots c
  pub content : w ≡ slice_index_or m.opening (p - ring_slots c) []

-- a call that ended with Done placed there
pub record PlacedThere (g : Ghost) (r p : ℕ) (w : List ℕ) (k j : ℕ) : Type 0 where
  pub index : ℕ
  pub is : g.puts r p ≡ placed index w (call_of k j)

-- a call that ended with Got took there what was placed
pub record TookThere (g : Ghost) (r p : ℕ) (w : List ℕ) (k j : ℕ) : Type 0 where
  pub took : g.gets r p ≡ took k j
  pub index : ℕ
  pub maker : Maker
  pub is : g.puts r p ≡ placed index w maker

abbrev pub Lands : Machine → ℕ → ℕ → ℕ → List ℕ → ℕ → ℕ → Type 0
Lands m r p i w k j = (j ≡ length (m.part k).calls) × (stance m k ≡ landed r i w p)

pub record RecordsAgree (c : Setup) (g : Ghost) (m : Machine) : Type 0 where
  pub done : (k j r p : ℕ) (w : List ℕ) → slice_get (m.part k).calls j ≡ Some (Done r p w) → PlacedThere g r p w k j
  pub got : (k j r p : ℕ) (w : List ℕ) → slice_get (m.part k).calls j ≡ Some (Got r p w) → TookThere g r p w k j
  pub made : (r p i : ℕ) (w : List ℕ) (k j : ℕ) → g.puts r p ≡ placed i w (call_of k j)
      → (slice_get (m.part k).calls j ≡ Some (Done r p w)) ⊎ Lands m r p i w k j
  pub stood : (r p i : ℕ) (w : List ℕ) → g.puts r p ≡ placed i w opening_put → Opens c m r p i w
  pub opens : (p : ℕ) → ring_slots c ≤ p → p < ring_slots c + n_of c.order
      → g.puts 0 p ≡ placed (p - ring_slots c) (slice_index_or m.opening (p - ring_slots c) []) opening_put
  pub taken : (r p k j : ℕ) → g.gets r p ≡ took k j → (w : List ℕ) × (slice_get (m.part k).calls j ≡ Some (Got r p w))

pub records_agree_start : (c : Setup) (opening : List (List ℕ)) → RecordsAgree c (start_ghost c opening) (start_of c opening)
records_agree_start c opening =
    record {
      done = λ k j r p w is. absurd (cc);
      got = λ k j r p w is. absurd (cc);
      made = λ r p i w k j is. elim (stands_at c opening r p) [ inl s ↦ let at = s.is in absurd (cc) | inr s ↦ let at = s.is in absurd (cc) ];
      stood =
          λ r p i w is.
          elim (stands_at c opening r p) [
            | inl s ↦
                let at = s.is in
                record {
                  ring = s.ring;
                  first = s.first;
                  last = s.last;
                  index = let h : i ≡ p - ring_slots c = cc in h;
                  content = let h : w ≡ slice_index_or opening (p - ring_slots c) [] = cc in h;
                }
            | inr s ↦ let at = s.is in absurd (cc)
          ];
      opens = λ p first last. elim (stands_at c opening 0 p) [ inl s ↦ s.is | inr s ↦ absurd (s.out refl first last) ];
      taken = λ r p k j is. absurd (cc);
    }

-- the parts of the step, each with what the event has to say
module _ (c : Setup) (time : ℕ) (g : Ghost) (m : Machine) (k : ℕ) (e : TicketEvent) (n : Machine) (event_step : EventStep c time g m k e n)
    (old : RecordsAgree c g m) where
  abbrev d : EventFacts c m g k e n
  d = event_step.event_facts

  abbrev h : Ghost
  h = ghost_next time g m k e

  -- a call of seat j's record was there, or is the one that the event ends
  called : (j x : ℕ) (y : Ended) → slice_get (n.part j).calls x ≡ Some y
      → (slice_get (m.part j).calls x ≡ Some y) ⊎ ((j ≡ k) × (x ≡ length (m.part k).calls) × (ended_by e ≡ y ∷ []))
  called j x y is =
      elim (cases_eq j k) [
        | inl own ↦
            let here : slice_get ((m.part k).calls ++ ended_by e) x ≡ Some y = rw (own, d.calls) at is in
            elim (call_was (m.part k).calls (ended_by e) x y (ended_few e) here) [
              | inl was ↦ inl (rw own was)
              | inr new ↦ inr (own, new.0, new.1)
            ]
        | inr other ↦ inl (rw (d.others j other) at is)
      ]

  -- a call stays
  stays : (j x : ℕ) (y : Ended) → slice_get (m.part j).calls x ≡ Some y → slice_get (n.part j).calls x ≡ Some y
  stays j x y is =
      elim (cases_eq j k) [
        | inl own ↦
            let here : slice_get (m.part k).calls x ≡ Some y = rw own at is in
            rw (own, d.calls) (call_stays (m.part k).calls (ended_by e) x y here)
        | inr other ↦ rw (d.others j other) is
      ]

  done_step : ((r p : ℕ) (w : List ℕ) → ended_by e ≡ Done r p w ∷ [] → PlacedThere g r p w k (length (m.part k).calls)) → (j x r p : ℕ) (w : List ℕ)
      → slice_get (n.part j).calls x ≡ Some (Done r p w) → PlacedThere h r p w j x
  done_step new j x r p w is =
      elim (called j x (Done r p w) is) [
        | inl was ↦ let made = old.done j x r p w was in
            record { index = made.index; is = event_step.moves.lies r p made.index w (call_of j x) made.is }
        | inr now ↦
            let made = new r p w now.2 in
            rw (now.0, now.1)
            (record { index = made.index; is = event_step.moves.lies r p made.index w (call_of k (length (m.part k).calls)) made.is })
      ]

  got_step : ((r p : ℕ) (w : List ℕ) → ended_by e ≡ Got r p w ∷ [] → TookThere h r p w k (length (m.part k).calls)) → (j x r p : ℕ) (w : List ℕ)
      → slice_get (n.part j).calls x ≡ Some (Got r p w) → TookThere h r p w j x
  got_step new j x r p w is =
      elim (called j x (Got r p w) is) [
        | inl was ↦
            let t = old.got j x r p w was in
            record {
              took = event_step.moves.takes r p j x t.took;
              index = t.index;
              maker = t.maker;
              is = event_step.moves.lies r p t.index w t.maker t.is;
            }
        | inr now ↦ rw (now.0, now.1) (new r p w now.2)
      ]

  made_step : ((r p i : ℕ) (w : List ℕ) (b : Maker) → h.puts r p ≡ placed i w b
      → (g.puts r p ≡ placed i w b) ⊎ ((b ≡ call_of k (length (n.part k).calls)) × (stance n k ≡ landed r i w p)))
      → ((r i : ℕ) (w : List ℕ) (p : ℕ) → stance m k ≡ landed r i w p → (ended_by e ≡ Done r p w ∷ []) ⊎ ((ended_by e ≡ []) × (stance n k ≡ landed r i w p)))
      → (r p i : ℕ) (w : List ℕ) (j x : ℕ) → h.puts r p ≡ placed i w (call_of j x) → (slice_get (n.part j).calls x ≡ Some (Done r p w)) ⊎ Lands n r p i w j x
  made_step back own r p i w j x is =
      elim (back r p i w (call_of j x) is) [
        | inr new ↦
            let maker = new.0 in
            let seat : j ≡ k = cc in
            let number : x ≡ length (n.part k).calls = cc in
            inr (number ∙ ap (λ v. length (n.part v).calls) (sym seat), stance_at n j k seat ∙ new.1)
        | inl was ↦
            elim (old.made r p i w j x was) [
              | inl call ↦ inl (stays j x (Done r p w) call)
              | inr lands ↦
                  elim (cases_eq j k) [
                    | inl seat ↦
                        let here : stance m k ≡ landed r i w p = sym (stance_at m j k seat) ∙ lands.1 in
                        let number : x ≡ length (m.part k).calls = lands.0 ∙ ap (λ v. length (m.part v).calls) seat in
                        elim (own r i w p here) [
                          | inl ends ↦
                              let last : slice_get ((m.part k).calls ++ ended_by e) (length (m.part k).calls) ≡ Some (Done r p w) =
                              rw ends (call_last (m.part k).calls (Done r p w)) in
                              inl (rw (seat, number, d.calls) last)
                          | inr on ↦
                              let calls : (n.part k).calls ≡ (m.part k).calls = d.calls ∙ rw on.0 (append-nil (m.part k).calls) in
                              inr (
                                number ∙ ap (λ (v : List Ended). length v) (sym calls) ∙ ap (λ v. length (n.part v).calls) (sym seat),
                                stance_at n j k seat
                                    ∙ on.1,
                              )
                        ]
                    | inr other ↦
                        inr
                        (lands.0 ∙ ap (λ (v : SeatPart). length v.calls) (sym (d.others j other)), other_stance c m g k e n j d other ∙ lands.1)
                  ]
            ]
      ]

  stood_step : ((r p i : ℕ) (w : List ℕ) → h.puts r p ≡ placed i w opening_put → g.puts r p ≡ placed i w opening_put) → (r p i : ℕ) (w : List ℕ)
      → h.puts r p ≡ placed i w opening_put → Opens c n r p i w
  stood_step back r p i w is =
      let o = old.stood r p i w (back r p i w is) in
      record {
        ring = o.ring;
        first = o.first;
        last = o.last;
        index = o.index;
        content = o.content ∙ ap (λ v. slice_index_or v (p - ring_slots c) []) (sym d.opening);
      }

  opens_step : (p : ℕ) → ring_slots c ≤ p → p < ring_slots c + n_of c.order
      → h.puts 0 p ≡ placed (p - ring_slots c) (slice_index_or n.opening (p - ring_slots c) []) opening_put
  opens_step p first last =
      let o = old.opens p first last in
      rw d.opening (event_step.moves.lies 0 p (p - ring_slots c) _ opening_put o)

  taken_step : ((r p j x : ℕ) → h.gets r p ≡ took j x
      → (g.gets r p ≡ took j x) ⊎ ((j ≡ k) × (x ≡ length (m.part k).calls) × ((w : List ℕ) × (ended_by e ≡ Got r p w ∷ [])))) → (r p j x : ℕ)
      → h.gets r p ≡ took j x → (w : List ℕ) × (slice_get (n.part j).calls x ≡ Some (Got r p w))
  taken_step back r p j x is =
      elim (back r p j x is) [
        | inl was ↦ let t = old.taken r p j x was in (t.0, stays j x (Got r p t.0) t.1)
        | inr new ↦
            let ends = new.2 in
            let last : slice_get ((m.part k).calls ++ ended_by e) (length (m.part k).calls) ≡ Some (Got r p ends.0) =
            rw ends.1 (call_last (m.part k).calls (Got r p ends.0)) in
            (ends.0, rw (new.0, new.1, d.calls) last)
      ]

  -- the parts together, from the call that the event ends and from what it does to the tickets
  agrees_by : ((r p : ℕ) (w : List ℕ) → ended_by e ≡ Done r p w ∷ [] → PlacedThere g r p w k (length (m.part k).calls))
      → ((r p : ℕ) (w : List ℕ) → ended_by e ≡ Got r p w ∷ [] → TookThere h r p w k (length (m.part k).calls))
      → ((r p i : ℕ) (w : List ℕ) (b : Maker) → h.puts r p ≡ placed i w b
      → (g.puts r p ≡ placed i w b) ⊎ ((b ≡ call_of k (length (n.part k).calls)) × (stance n k ≡ landed r i w p)))
      → ((r i : ℕ) (w : List ℕ) (p : ℕ) → stance m k ≡ landed r i w p → (ended_by e ≡ Done r p w ∷ []) ⊎ ((ended_by e ≡ []) × (stance n k ≡ landed r i w p)))
      → ((r p j x : ℕ) → h.gets r p ≡ took j x
      → (g.gets r p ≡ took j x) ⊎ ((j ≡ k) × (x ≡ length (m.part k).calls) × ((w : List ℕ) × (ended_by e ≡ Got r p w ∷ [])))) → RecordsAgree c h n
  agrees_by new_done new_got back own taken_back =
      record {
        done = done_step new_done;
        got = got_step new_got;
        made = λ r p i w j x is. made_step back own r p i w j x is;
        stood = stood_step (λ r p i w is. elim (back r p i w opening_put is) [ inl was ↦ was | inr new ↦ let maker = new.0 in absurd (cc) ]);
        opens = opens_step;
        taken = taken_step taken_back;
      }

pub records_agree_step : (c : Setup) (time : ℕ) (g : Ghost) (m : Machine) (k : ℕ) (e : TicketEvent) (n : Machine) → EventStep c time g m k e n
    → RecordsAgree c g m → RecordsAgree c (ghost_next time g m k e) n
records_agree_step c time g m k calm n s old =
    agrees_by c time g m k calm n s old
    (λ q p v is. absurd (cc)) (λ q p v is. absurd (cc)) (λ q p y v b is. inl is) (λ q x v p is. inr (refl, s.event_facts.stance ∙ is))
    (λ q p j x is. inl is)
records_agree_step c time g m k (drew r i w t) n s old =
    agrees_by c time g m k (drew r i w t) n s old
    (λ q p v is. absurd (cc)) (λ q p v is. absurd (cc))
    (λ q p y v b is. elim (updated_entry_or g.puts r t (pending k i) q p)
    [ inl a ↦ let clash : pending k i ≡ placed y v b = sym a.2 ∙ is in absurd (cc) | inr a ↦ inl (sym a.1 ∙ is) ])
    (λ q x v p is. elim s.event_facts.proper.was [ inl rests ↦ let stand = rests.rests in absurd (cc) | inr stand ↦ absurd (cc) ])
    (λ q p j x is. inl is)
records_agree_step c time g m k (fell r i w t found) n s old =
    agrees_by c time g m k (fell r i w t found) n s old
    (λ q p v is. absurd (cc)) (λ q p v is. absurd (cc))
    (λ q p y v b is. elim (updated_entry_or g.puts r t (failed time i found) q p)
    [ inl a ↦ let clash : failed time i found ≡ placed y v b = sym a.2 ∙ is in absurd (cc) | inr a ↦ inl (sym a.1 ∙ is) ])
    (λ q x v p is. let was = s.event_facts.proper.was in absurd (cc)) (λ q p j x is. inl is)
records_agree_step c time g m k (laid r i w t) n s old =
    let d = s.event_facts in
    let calls : (n.part k).calls ≡ (m.part k).calls = d.calls ∙ append-nil (m.part k).calls in
    agrees_by c time g m k (laid r i w t) n s old
    (λ q p v is. absurd (cc)) (λ q p v is. absurd (cc))
    (λ q p y v b is. elim (updated_entry_or g.puts r t (placed i w (call_of k (length (m.part k).calls))) q p) [
      | inl a ↦
          let same : placed i w (call_of k (length (m.part k).calls)) ≡ placed y v b = sym a.2 ∙ is in
          let index : i ≡ y = cc in
          let content : w ≡ v = cc in
          let maker : call_of k (length (m.part k).calls) ≡ b = cc in
          inr (sym maker ∙ ap (λ (z : List Ended). call_of k (length z)) (sym calls), rw (a.0, a.1, ← index, ← content) d.stance)
      | inr a ↦ inl (sym a.1 ∙ is)
    ])
    (λ q x v p is. let was = s.event_facts.proper.was in absurd (cc)) (λ q p j x is. inl is)
records_agree_step c time g m k (finished r i w t) n s old =
    agrees_by c time g m k (finished r i w t) n s old
    (λ q p v is.
    let same : Done r t w ≡ Done q p v = cc in
    let ring : r ≡ q = cc in
    let place : t ≡ p = cc in
    let content : w ≡ v = cc in
    record { index = i; is = rw (← ring, ← place, ← content) s.event_facts.proper.placed })
    (λ q p v is. absurd (cc)) (λ q p y v b is. inl is)
    (λ q x v p is.
    let was = s.event_facts.proper.was in
    let same : landed r i w t ≡ landed q x v p = sym was ∙ is in
    let ring : r ≡ q = cc in
    let place : t ≡ p = cc in
    let content : w ≡ v = cc in
    inl (rw (ring, place, content) refl))
    (λ q p j x is. inl is)
records_agree_step c time g m k (entered r) n s old =
    agrees_by c time g m k (entered r) n s old
    (λ q p v is. absurd (cc)) (λ q p v is. absurd (cc)) (λ q p y v b is. inl is)
    (λ q x v p is. let stand = s.event_facts.proper.was.rests in absurd (cc)) (λ q p j x is. inl is)
records_agree_step c time g m k (refused r) n s old =
    agrees_by c time g m k (refused r) n s old
    (λ q p v is. absurd (cc)) (λ q p v is. absurd (cc)) (λ q p y v b is. inl is)
    (λ q x v p is. let stand = s.event_facts.proper.was.rests in absurd (cc)) (λ q p j x is. inl is)
records_agree_step c time g m k (began r h) n s old =
    agrees_by c time g m k (began r h) n s old
    (λ q p v is. absurd (cc)) (λ q p v is. absurd (cc)) (λ q p y v b is. inl is)
    (λ q x v p is. let was = s.event_facts.proper.was in absurd (cc))
    (λ q p j y is. elim (updated_entry_or g.gets r h (opened k) q p)
    [ inl a ↦ let clash : opened k ≡ took j y = sym a.2 ∙ is in absurd (cc) | inr a ↦ inl (sym a.1 ∙ is) ])
records_agree_step c time g m k (died r h) n s old =
    agrees_by c time g m k (died r h) n s old
    (λ q p v is. absurd (cc)) (λ q p v is. absurd (cc)) (λ q p y v b is. inl is)
    (λ q x v p is. let was = s.event_facts.proper.was in absurd (cc))
    (λ q p j y is. elim (updated_entry_or g.gets r h dead q p)
    [ inl a ↦ let clash : dead ≡ took j y = sym a.2 ∙ is in absurd (cc) | inr a ↦ inl (sym a.1 ∙ is) ])
records_agree_step c time g m k (saw_end r h) n s old =
    agrees_by c time g m k (saw_end r h) n s old
    (λ q p v is. absurd (cc)) (λ q p v is. absurd (cc)) (λ q p y v b is. inl is)
    (λ q x v p is. let was = s.event_facts.proper.was in absurd (cc)) (λ q p j x is. inl is)
records_agree_step c time g m k (lifted r h to) n s old =
    agrees_by c time g m k (lifted r h to) n s old
    (λ q p v is. absurd (cc)) (λ q p v is. absurd (cc)) (λ q p y v b is. inl is)
    (λ q x v p is. let was = s.event_facts.proper.was in absurd (cc)) (λ q p j x is. inl is)
records_agree_step c time g m k (taken r h i w) n s old =
    let d = s.event_facts in
    agrees_by c time g m k (taken r h i w) n s old
    (λ q p v is. absurd (cc))
    (λ q p v is.
    let same : Got r h w ≡ Got q p v = cc in
    let ring : r ≡ q = cc in
    let place : h ≡ p = cc in
    let content : w ≡ v = cc in
    record {
      took = rw (← ring, ← place) (updated_entry_here g.gets r h (took k (length (m.part k).calls)));
      index = i;
      maker = d.proper.maker;
      is = rw (← ring, ← place, ← content) d.proper.placed;
    })
    (λ q p y v b is. inl is) (λ q x v p is. let was = s.event_facts.proper.was in absurd (cc))
    (λ q p j y is. elim (updated_entry_or g.gets r h (took k (length (m.part k).calls)) q p) [
      | inl a ↦
          let same : took k (length (m.part k).calls) ≡ took j y = sym a.2 ∙ is in
          let seat : j ≡ k = cc in
          let number : y ≡ length (m.part k).calls = cc in
          inr (seat, number, (w, rw (a.0, a.1) refl))
      | inr a ↦ inl (sym a.1 ∙ is)
    ])
records_agree_step c time g m k (lowered r h) n s old =
    agrees_by c time g m k (lowered r h) n s old
    (λ q p v is. absurd (cc)) (λ q p v is. absurd (cc)) (λ q p y v b is. inl is)
    (λ q x v p is. let was = s.event_facts.proper.was in absurd (cc)) (λ q p j x is. inl is)
records_agree_step c time g m k (emptied r h) n s old =
    agrees_by c time g m k (emptied r h) n s old
    (λ q p v is. absurd (cc)) (λ q p v is. absurd (cc)) (λ q p y v b is. inl is)
    (λ q x v p is. elim s.event_facts.proper.was [ inl stand ↦ absurd (cc) | inr both ↦ let stand = both.0 in absurd (cc) ])
    (λ q p j x is. inl is)
records_agree_step c time g m k (overran r t true) n s old =
    agrees_by c time g m k (overran r t true) n s old
    (λ q p v is. absurd (cc)) (λ q p v is. absurd (cc)) (λ q p y v b is. inl is)
    (λ q x v p is. elim s.event_facts.proper.was
    [ inl rests ↦ let stand = rests.rests in absurd (cc) | inr both ↦ let stand = both.2 in absurd (cc) ])
    (λ q p j x is. inl is)
records_agree_step c time g m k (overran r t false) n s old =
    agrees_by c time g m k (overran r t false) n s old
    (λ q p v is. absurd (cc)) (λ q p v is. absurd (cc)) (λ q p y v b is. inl is)
    (λ q x v p is. let was = s.event_facts.proper.was in absurd (cc)) (λ q p j x is. inl is)
