-- Each index is at one spot: in one hand, once, or live at one place. Plan: an event that moves no index keeps the spots;
-- a put that places moves its index from its hand to the place, and a get that takes moves it back.
use Rattle.std.proofs.Common.{◌≡◌, ◌≢◌, ℕ, ◌+◌, ◌-◌, ◌<◌, ◌≤◌, true, false, List, [], ◌∷◌, ◌++◌, length, refl, ap, sym, ◌∙◌, ◌⊎◌, inl, inr, arith, ne_eqb}
use Rattle.std.specs.Prelude.{slice_index_or, ◌==◌}
use Rattle.std.proofs.lemmas.Bool.{cases_Bool, cases_eq}
use Rattle.scq_word.specs.declared.setup.Setup.{Setup}
use Rattle.scq_word.specs.Exports.{n_of}
use Rattle.scq_core.specs.Exports.{SeatPart, ring_slots, hand_without, holds_index, start_of}
use Rattle.scq_core.specs.Machine.{Machine}
use Rattle.scq_core.proofs.UpdatedLemmas.{updated_entry_or, updated_entry_here}
use Rattle.scq_law.specs.Exports.{Maker, call_of, opening_put, times}
use Rattle.scq_law.proofs.Base.Ghosts.{Ghost, pending, failed, placed, opened, dead, took, is_placed, waiting, start_ghost, with_put, with_get}
use Rattle.scq_law.proofs.Base.TicketEvents.{TicketEvent, drew, fell, laid, began, died, taken, hand_by}
use Rattle.scq_law.proofs.Base.EventFacts.{Live, EventFacts}
use Rattle.scq_law.proofs.Base.StartTickets.{stands_at}
use Rattle.scq_law.proofs.Base.EventSteps.{EventStep, ghost_next}
use Rattle.scq_law.proofs.Places.HandLemmas.{holds_without, without_holds, holds_pushed, pushed_holds, pushed_here, unseen_times, times-append, times-without}
use Rattle.scq_law.proofs.Places.LiveTickets.{Lives, lives_same, lives_put, lives_get}

pub data Spot : Type 0 where
  in_hand : (seat : ℕ) → Spot
  at_place : (ring place : ℕ) → Spot

abbrev pub IsAtSpot : Ghost → Machine → ℕ → Spot → Type 0
IsAtSpot g m i (in_hand k) = holds_index (m.part k).hand i ≡ true
IsAtSpot g m i (at_place r t) = Live g r t i

pub record IsAtOneSpot (c : Setup) (g : Ghost) (m : Machine) : Type 0 where
  pub alone : (i : ℕ) (s z : Spot) → IsAtSpot g m i s → IsAtSpot g m i z → s ≡ z
  pub single : (k i : ℕ) → times i (m.part k).hand ≤ 1
  pub somewhere : (i : ℕ) → i < n_of c.order → (s : Spot) × IsAtSpot g m i s

-- spots of an index, where all but index i are where they were, and i is at home
joined : (c : Setup) (g : Ghost) (m : Machine) → IsAtOneSpot c g m → (i : ℕ) (home : Spot) (x : ℕ) (s z : Spot)
    → (IsAtSpot g m x s × (x ≢ i)) ⊎ ((s ≡ home) × (x ≡ i)) → (IsAtSpot g m x z × (x ≢ i)) ⊎ ((z ≡ home) × (x ≡ i)) → s ≡ z
joined c g m once i home x s z (inl a) (inl b) = once.alone x s z a.0 b.0
joined c g m once i home x s z (inl a) (inr b) = absurd (a.1 b.1)
joined c g m once i home x s z (inr a) (inl b) = absurd (b.1 a.1)
joined c g m once i home x s z (inr a) (inr b) = a.0 ∙ sym b.0

-- at the start index i is at the opening place 2n + i of ring 0
pub once_start : (c : Setup) (opening : List (List ℕ)) → IsAtOneSpot c (start_ghost c opening) (start_of c opening)
once_start c opening =
    record {
      alone = λ i s z at_s at_z. start_alone i s z at_s at_z;
      single = λ k i. omega arith;
      somewhere = λ i low. (at_place 0 (ring_slots c + i), start_live i low);
    }
  where
    start_at : (r t i : ℕ) → Live (start_ghost c opening) r t i → at_place r t ≡ at_place 0 (ring_slots c + i)
    start_at r t i live =
        elim (stands_at c opening r t) [
          | inl s ↦
              let is = live.is in let at = s.is in let first = s.first in
              let index : t - ring_slots c ≡ i = cc in
              let place : t ≡ ring_slots c + i = omega arith in
              let ring = s.ring in
              cc
          | inr s ↦ let is = live.is in let at = s.is in absurd (cc)
        ]

    start_alone : (i : ℕ) (s z : Spot) → IsAtSpot (start_ghost c opening) (start_of c opening) i s → IsAtSpot (start_ghost c opening) (start_of c opening) i z → s ≡ z
    start_alone i (in_hand k) z at_s at_z = absurd (cc)
    start_alone i (at_place r t) (in_hand k) at_s at_z = absurd (cc)
    start_alone i (at_place r t) (at_place q p) at_s at_z = start_at r t i at_s ∙ sym (start_at q p i at_z)

    start_live : (i : ℕ) → i < n_of c.order → Live (start_ghost c opening) 0 (ring_slots c + i) i
    start_live i low =
        elim (stands_at c opening 0 (ring_slots c + i)) [
          | inl s ↦
              let index : ring_slots c + i - ring_slots c ≡ i = omega arith in
              record {
                content = slice_index_or opening i [];
                maker = opening_put;
                is = s.is ∙ ap (λ x. placed x (slice_index_or opening x []) opening_put) index;
                waits = refl;
              }
          | inr s ↦ absurd (s.out refl (omega arith) (omega arith))
        ]

-- an event that moves no index
once_still : (c : Setup) (g h : Ghost) (m n : Machine) → Lives g h → ((j : ℕ) → (n.part j).hand ≡ (m.part j).hand) → IsAtOneSpot c g m → IsAtOneSpot c h n
once_still c g h m n lives hands once =
    record {
      alone = λ i s z at_s at_z. once.alone i s z (back i s at_s) (back i z at_z);
      single = λ k i. rw (hands k) (once.single k i);
      somewhere = λ i low. let was = once.somewhere i low in (was.0, forth i was.0 was.1);
    }
  where
    back : (i : ℕ) (s : Spot) → IsAtSpot h n i s → IsAtSpot g m i s
    back i (in_hand k) at = ap (λ x. holds_index x i) (sym (hands k)) ∙ at
    back i (at_place r p) at = lives.back r p i at

    forth : (i : ℕ) (s : Spot) → IsAtSpot g m i s → IsAtSpot h n i s
    forth i (in_hand k) at = ap (λ x. holds_index x i) (hands k) ∙ at
    forth i (at_place r p) at = lives.forth r p i at

-- the hands after an event that changes none
pub hands_still : (c : Setup) (m : Machine) (g : Ghost) (k : ℕ) (e : TicketEvent) (n : Machine) → EventFacts c m g k e n
    → hand_by e (m.part k).hand ≡ (m.part k).hand → (j : ℕ) → (n.part j).hand ≡ (m.part j).hand
hands_still c m g k e n event_facts same j =
    elim (cases_eq j k) [
      | inl own ↦ ap (λ x. (n.part x).hand) own ∙ event_facts.hand ∙ same ∙ ap (λ x. (m.part x).hand) (sym own)
      | inr other ↦ ap (λ (p : SeatPart). p.hand) (event_facts.others j other)
    ]

-- an index goes from a hand to a place
once_laid : (c : Setup) (time : ℕ) (g : Ghost) (m : Machine) (k r i : ℕ) (w : List ℕ) (t : ℕ) (n : Machine) → EventStep c time g m k (laid r i w t) n
    → IsAtOneSpot c g m → IsAtOneSpot c (ghost_next time g m k (laid r i w t)) n
once_laid c time g m k r i w t n event_step once =
    record {
      alone = λ x s z at_s at_z. joined c g m once i (at_place r t) x s z (back x s at_s) (back x z at_z);
      single =
          λ j x.
          elim (cases_eq j k) [
            | inl own ↦
                let old = once.single k x in
                let less = times-without (m.part k).hand i x in
                let new : times x (n.part k).hand ≡ times x (hand_without i (m.part k).hand) = ap (times x) d.hand in
                rw own (omega arith)
            | inr other ↦ rw (d.others j other) (once.single j x)
          ];
      somewhere =
          λ x low.
          let was = once.somewhere x low in
          elim (cases_eq x i) [
            | inl same ↦ (
              at_place r t,
              record {
                content = w;
                maker = maker;
                is = updated_entry_here g.puts r t (placed i w maker) ∙ ap (λ v. placed v w maker) (sym same);
                waits =
                    d.proper.waits;
              },
            )
            | inr other ↦ (was.0, forth x was.0 other was.1)
          ];
    }
  where
    d : EventFacts c m g k (laid r i w t) n
    d = event_step.event_facts

    maker : Maker
    maker = call_of k (length (m.part k).calls)

    h : Ghost
    h = with_put g r t (placed i w maker)

    -- a spot afterwards was one before, of another index, or is the new place
    back : (x : ℕ) (s : Spot) → IsAtSpot h n x s → (IsAtSpot g m x s × (x ≢ i)) ⊎ ((s ≡ at_place r t) × (x ≡ i))
    back x (in_hand j) at =
        elim (cases_eq j k) [
          | inl own ↦
              let here : holds_index (hand_without i (m.part k).hand) x ≡ true = rw (own, d.hand) at at in
              let old = holds_without (m.part k).hand i x here in
              inl (rw own old.0, old.1)
          | inr other ↦
              let old : holds_index (m.part j).hand x ≡ true = rw (d.others j other) at at in
              inl (
                old,
                λ same. let held : holds_index (m.part k).hand x ≡ true = rw same d.proper.held in let spots : in_hand j ≡ in_hand k =
                    once.alone x (in_hand j) (in_hand k) old held in let seats : j ≡ k = cc in other seats,
              )
        ]
    back x (at_place q p) at =
        elim (updated_entry_or g.puts r t (placed i w maker) q p) [
          | inl a ↦
              let same : placed i w maker ≡ placed x at.content at.maker = sym a.2 ∙ at.is in
              let index : x ≡ i = cc in
              let ring = a.0 in
              let place = a.1 in
              inr (cc, index)
          | inr a ↦
              let old : Live g q p x = record { content = at.content; maker = at.maker; is = sym a.1 ∙ at.is; waits = at.waits } in
              inl (
                old,
                λ same. let held : holds_index (m.part k).hand x ≡ true = rw same d.proper.held in let spots : at_place q p ≡ in_hand k =
                    once.alone x (at_place q p) (in_hand k) old held in absurd (cc),
              )
        ]

    forth : (x : ℕ) (s : Spot) → x ≢ i → IsAtSpot g m x s → IsAtSpot h n x s
    forth x (in_hand j) other at =
        elim (cases_eq j k) [
          | inl own ↦
              let here : holds_index (m.part k).hand x ≡ true = rw own at at in
              rw (own, d.hand) (without_holds (m.part k).hand i x other here)
          | inr apart ↦ rw (d.others j apart) at
        ]
    forth x (at_place q p) other at =
        elim (updated_entry_or g.puts r t (placed i w maker) q p) [
          | inl a ↦
              let same : pending k i ≡ placed x at.content at.maker = sym d.proper.pending ∙ rw (a.0, a.1) at at.is in absurd (cc)
          | inr a ↦ record { content = at.content; maker = at.maker; is = a.1 ∙ at.is; waits = at.waits }
        ]

-- one index is there at most once
few : (i x : ℕ) → times x (i ∷ []) ≤ 1
few i x =
    elim (cases_Bool (i == x)) [ inl same ↦ rw same (omega arith) | inr other ↦ rw other (omega arith) ]

-- an index goes from a place to a hand
once_taken : (c : Setup) (time : ℕ) (g : Ghost) (m : Machine) (k r p i : ℕ) (w : List ℕ) (n : Machine) → EventStep c time g m k (taken r p i w) n
    → IsAtOneSpot c g m → IsAtOneSpot c (ghost_next time g m k (taken r p i w)) n
once_taken c time g m k r p i w n event_step once =
    record {
      alone = λ x s z at_s at_z. joined c g m once i (in_hand k) x s z (back x s at_s) (back x z at_z);
      single = single;
      somewhere =
          λ x low.
          let was = once.somewhere x low in
          elim (cases_eq x i) [
            | inl same ↦ (in_hand k, rw (same, d.hand) (pushed_here (m.part k).hand i))
            | inr other ↦ (was.0, forth x was.0 other was.1)
          ];
    }
  where
    d : EventFacts c m g k (taken r p i w) n
    d = event_step.event_facts

    h : Ghost
    h = with_get g r p (took k (length (m.part k).calls))

    here : Live g r p i
    here = record { content = w; maker = d.proper.maker; is = d.proper.placed; waits = ap waiting d.proper.opened }

    live_there : (x : ℕ) → x ≡ i → Live g r p x
    live_there x same = rw same here

    not_in_hand : (x j : ℕ) → holds_index (m.part j).hand x ≡ true → x ≢ i
    not_in_hand x j held same =
        let spots : in_hand j ≡ at_place r p = once.alone x (in_hand j) (at_place r p) held (live_there x same) in absurd (cc)

    -- a spot afterwards was one before, of another index, or is the seat's hand
    back : (x : ℕ) (s : Spot) → IsAtSpot h n x s → (IsAtSpot g m x s × (x ≢ i)) ⊎ ((s ≡ in_hand k) × (x ≡ i))
    back x (in_hand j) at =
        elim (cases_eq j k) [
          | inl own ↦
              let all : holds_index ((m.part k).hand ++ i ∷ []) x ≡ true = rw (own, d.hand) at at in
              elim (holds_pushed (m.part k).hand i x all) [
                | inl old ↦ inl (rw own old, not_in_hand x k old)
                | inr new ↦ inr (ap in_hand own, new)
              ]
          | inr other ↦
              let old : holds_index (m.part j).hand x ≡ true = rw (d.others j other) at at in inl (old, not_in_hand x j old)
        ]
    back x (at_place q u) at =
        elim (updated_entry_or g.gets r p (took k (length (m.part k).calls)) q u) [
          | inl a ↦ let clash : waiting (took k (length (m.part k).calls)) ≡ true = ap waiting (sym a.2) ∙ at.waits in absurd (cc)
          | inr a ↦
              let old : Live g q u x = record { content = at.content; maker = at.maker; is = at.is; waits = ap waiting (sym a.1) ∙ at.waits } in
              inl (
                old,
                λ same. let spots : at_place q u ≡ at_place r p = once.alone x (at_place q u) (at_place r p) old (live_there x same) in let ring : q ≡ r =
                    cc in let place : u ≡ p = cc in a.0 ring place,
              )
        ]

    forth : (x : ℕ) (s : Spot) → x ≢ i → IsAtSpot g m x s → IsAtSpot h n x s
    forth x (in_hand j) other at =
        elim (cases_eq j k) [
          | inl own ↦
              let old : holds_index (m.part k).hand x ≡ true = rw own at at in
              rw (own, d.hand) (pushed_holds (m.part k).hand i x old)
          | inr apart ↦ rw (d.others j apart) at
        ]
    forth x (at_place q u) other at =
        elim (updated_entry_or g.gets r p (took k (length (m.part k).calls)) q u) [
          | inl a ↦
              let there : Live g r p x = rw (a.0, a.1) at at in
              let same : placed i w d.proper.maker ≡ placed x there.content there.maker = sym d.proper.placed ∙ there.is in
              let index : x ≡ i = cc in
              absurd (other index)
          | inr a ↦ record { content = at.content; maker = at.maker; is = at.is; waits = ap waiting a.1 ∙ at.waits }
        ]

    single : (j x : ℕ) → times x (n.part j).hand ≤ 1
    single j x =
        elim (cases_eq j k) [
          | inl own ↦
              let new : times x (n.part k).hand ≡ times x ((m.part k).hand ++ i ∷ []) = ap (times x) d.hand in
              let both = times-append (m.part k).hand (i ∷ []) x in
              let old = once.single k x in
              elim (cases_eq x i) [
                | inl same ↦
                    let none : holds_index (m.part k).hand x ≡ false =
                    elim (cases_Bool (holds_index (m.part k).hand x)) [
                      | inl held ↦ absurd (not_in_hand x k held same)
                      | inr free ↦ free
                    ] in
                    let no_times = unseen_times (m.part k).hand x none in
                    let one : times x (i ∷ []) ≤ 1 = few i x in
                    rw own (omega arith)
                | inr other ↦
                    let no_more : times x (i ∷ []) ≡ 0 = rw (ne_eqb i x (λ same. other (sym same))) refl in rw own (omega arith)
              ]
          | inr apart ↦ rw (d.others j apart) (once.single j x)
        ]

pub once_step : (c : Setup) (time : ℕ) (g : Ghost) (m : Machine) (k : ℕ) (e : TicketEvent) (n : Machine) → EventStep c time g m k e n → IsAtOneSpot c g m
    → IsAtOneSpot c (ghost_next time g m k e) n
once_step c time g m k (drew r i w t) n event_step once =
    let d = event_step.event_facts in
    once_still c g _ m n (lives_put g r t (pending k i) (ap is_placed d.proper.fresh) refl) (hands_still c m g k (drew r i w t) n d refl) once
once_step c time g m k (fell r i w t found) n event_step once =
    let d = event_step.event_facts in
    once_still c g _ m n (lives_put g r t (failed time i found) (ap is_placed d.proper.pending) refl) (hands_still c m g k (fell r i w t found) n d refl) once
once_step c time g m k (laid r i w t) n event_step once = once_laid c time g m k r i w t n event_step once
once_step c time g m k (began r h) n event_step once =
    let d = event_step.event_facts in
    once_still c g _ m n (lives_get g r h (opened k) (inr (sym (ap waiting d.proper.unopened)))) (hands_still c m g k (began r h) n d refl) once
once_step c time g m k (died r h) n event_step once =
    let d = event_step.event_facts in
    once_still c g _ m n (lives_get g r h dead (inl d.proper.empty)) (hands_still c m g k (died r h) n d refl) once
once_step c time g m k (taken r h i w) n event_step once = once_taken c time g m k r h i w n event_step once
once_step c time g m k e n event_step once =
    once_still c g g m n (lives_same g) (hands_still c m g k e n event_step.event_facts refl) once
