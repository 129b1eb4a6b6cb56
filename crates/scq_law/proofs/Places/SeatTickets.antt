-- A pending ticket is that of its seat, and an open one that of its seat.
-- Plan: a ticket's new state is the event's own; of the old ones the seat of the event has none but its own ticket.
use Rattle.std.proofs.Common.{◌≡◌, ℕ, List, inl, inr, ap, sym, ◌∙◌, true, false}
use Rattle.std.proofs.lemmas.Bool.{cases_eq}
use Rattle.scq_word.specs.declared.setup.Setup.{Setup}
use Rattle.std.specs.Prelude.{length}
use Rattle.scq_core.specs.Machine.{Machine}
use Rattle.scq_core.specs.Exports.{start_of, putting, trying}
use Rattle.scq_core.proofs.UpdatedLemmas.{updated_entry_or}
use Rattle.scq_law.specs.Exports.{call_of}
use Rattle.scq_law.proofs.Base.Ghosts.{Ghost, PutState, GetState, pending, failed, placed, opened, dead, took, start_ghost, with_put, with_get}
use Rattle.scq_law.proofs.Base.TicketEvents.{TicketEvent, calm, drew, fell, laid, finished, entered, refused, began, died, saw_end, lifted, taken, lowered, emptied, overran}
use Rattle.scq_law.proofs.Base.EventFacts.{stance, EventFacts}
use Rattle.scq_law.proofs.Base.StartTickets.{stands_at}
use Rattle.scq_law.proofs.Base.EventSteps.{EventStep, ghost_next}
use Rattle.scq_law.proofs.Base.SeatStances.{other_stance}

pub record IsPutting (m : Machine) (j r t i : ℕ) : Type 0 where
  pub content : List ℕ
  pub is : stance m j ≡ putting r i content t

pub record IsRooted (g : Ghost) (m : Machine) : Type 0 where
  pub pends : (j r t i : ℕ) → g.puts r t ≡ pending j i → IsPutting m j r t i
  pub opens : (j r h : ℕ) → g.gets r h ≡ opened j → stance m j ≡ trying r h

pub rooted_start : (c : Setup) (opening : List (List ℕ)) → IsRooted (start_ghost c opening) (start_of c opening)
rooted_start c opening =
    record {
      pends = λ j r t i is. elim (stands_at c opening r t) [ inl s ↦ let at = s.is in absurd (cc) | inr s ↦ let at = s.is in absurd (cc) ];
      opens = λ j r h is. absurd (cc);
    }

-- one seat's stance
pub stance_at : (m : Machine) (j k : ℕ) → j ≡ k → stance m j ≡ stance m k
stance_at m j k same = ap (stance m) same

-- no ticket of a put changes
still_pends : (c : Setup) (m : Machine) (g : Ghost) (k : ℕ) (e : TicketEvent) (n : Machine) → EventFacts c m g k e n
    → ((r i : ℕ) (w : List ℕ) (t : ℕ) → stance m k ≡ putting r i w t → stance n k ≡ putting r i w t) → IsRooted g m → (j r t i : ℕ) → g.puts r t ≡ pending j i
    → IsPutting n j r t i
still_pends c m g k e n event_facts own rooted j r t i is =
    let o = rooted.pends j r t i is in
    record {
      content = o.content;
      is =
          elim (cases_eq j k) [
            | inl same ↦ stance_at n j k same ∙ own r i o.content t (sym (stance_at m j k same) ∙ o.is)
            | inr other ↦ other_stance c m g k e n j event_facts other ∙ o.is
          ];
    }

-- one ticket of a put does
put_pends : (c : Setup) (m : Machine) (g : Ghost) (k : ℕ) (e : TicketEvent) (n : Machine) (r t : ℕ) (x : PutState) → EventFacts c m g k e n
    → ((j i : ℕ) → x ≡ pending j i → IsPutting n j r t i)
    → ((q i : ℕ) (w : List ℕ) (u : ℕ) → (q ≡ r → u ≡ t → ⊥) → stance m k ≡ putting q i w u → stance n k ≡ putting q i w u) → IsRooted g m → (j q u i : ℕ)
    → (with_put g r t x).puts q u ≡ pending j i → IsPutting n j q u i
put_pends c m g k e n r t x event_facts new own rooted j q u i is =
    elim (updated_entry_or g.puts r t x q u) [
      | inl a ↦ rw (a.0, a.1) (new j i (sym a.2 ∙ is))
      | inr a ↦
          let o = rooted.pends j q u i (sym a.1 ∙ is) in
          record {
            content = o.content;
            is =
                elim (cases_eq j k) [
                  | inl same ↦ stance_at n j k same ∙ own q i o.content u a.0 (sym (stance_at m j k same) ∙ o.is)
                  | inr other ↦ other_stance c m g k e n j event_facts other ∙ o.is
                ];
          }
    ]

still_opens : (c : Setup) (m : Machine) (g : Ghost) (k : ℕ) (e : TicketEvent) (n : Machine) → EventFacts c m g k e n
    → ((r h : ℕ) → stance m k ≡ trying r h → stance n k ≡ trying r h) → IsRooted g m → (j r h : ℕ) → g.gets r h ≡ opened j → stance n j ≡ trying r h
still_opens c m g k e n event_facts own rooted j r h is =
    let o = rooted.opens j r h is in
    elim (cases_eq j k) [
      | inl same ↦ rw same (own r h (rw same at o))
      | inr other ↦ other_stance c m g k e n j event_facts other ∙ o
    ]

-- no ticket changes
still_rooted : (c : Setup) (m : Machine) (g : Ghost) (k : ℕ) (e : TicketEvent) (n : Machine) → EventFacts c m g k e n
    → ((r i : ℕ) (w : List ℕ) (t : ℕ) → stance m k ≡ putting r i w t → stance n k ≡ putting r i w t)
    → ((r h : ℕ) → stance m k ≡ trying r h → stance n k ≡ trying r h) → IsRooted g m → IsRooted g n
still_rooted c m g k e n event_facts put get rooted =
    record { pends = still_pends c m g k e n event_facts put rooted; opens = still_opens c m g k e n event_facts get rooted }

get_opens : (c : Setup) (m : Machine) (g : Ghost) (k : ℕ) (e : TicketEvent) (n : Machine) (r h : ℕ) (x : GetState) → EventFacts c m g k e n
    → ((j : ℕ) → x ≡ opened j → stance n j ≡ trying r h) → ((q u : ℕ) → (q ≡ r → u ≡ h → ⊥) → stance m k ≡ trying q u → stance n k ≡ trying q u) → IsRooted g m
    → (j q u : ℕ) → (with_get g r h x).gets q u ≡ opened j → stance n j ≡ trying q u
get_opens c m g k e n r h x event_facts new own rooted j q u is =
    elim (updated_entry_or g.gets r h x q u) [
      | inl a ↦ rw (a.0, a.1) (new j (sym a.2 ∙ is))
      | inr a ↦
          let o = rooted.opens j q u (sym a.1 ∙ is) in
          elim (cases_eq j k) [
            | inl same ↦ rw same (own q u a.0 (rw same at o))
            | inr other ↦ other_stance c m g k e n j event_facts other ∙ o
          ]
    ]

pub rooted_step : (c : Setup) (time : ℕ) (g : Ghost) (m : Machine) (k : ℕ) (e : TicketEvent) (n : Machine) → EventStep c time g m k e n → IsRooted g m
    → IsRooted (ghost_next time g m k e) n
rooted_step c time g m k (calm) n event_step rooted =
    let d = event_step.event_facts in
    still_rooted c m g k (calm) n d (λ q i w u is. d.stance ∙ is) (λ q u is. d.stance ∙ is) rooted
rooted_step c time g m k (drew r i w t) n event_step rooted =
    let d = event_step.event_facts in
    record {
      pends = put_pends c m g k (drew r i w t) n r t (pending k i) d
          (λ j x is. let seat : k ≡ j = cc in let index : i ≡ x = cc in record { content = w; is = rw (← seat, ← index) d.stance })
          (λ q x v u apart is. let was = d.proper.was in elim was [ inl rests ↦ let stand = rests.rests in absurd (cc) | inr stand ↦ absurd (cc) ]) rooted;
      opens = still_opens c m g k (drew r i w t) n d
          (λ q u is. let was = d.proper.was in elim was [ inl rests ↦ let stand = rests.rests in absurd (cc) | inr stand ↦ absurd (cc) ]) rooted;
    }
rooted_step c time g m k (fell r i w t found) n event_step rooted =
    let d = event_step.event_facts in
    record {
      pends = put_pends c m g k (fell r i w t found) n r t (failed time i found) d (λ j x is. absurd (cc))
          (λ q x v u apart is. let was = d.proper.was in let same : putting r i w t ≡ putting q x v u = sym was ∙ is in let ring : q ≡ r = cc in let ticket : u
          ≡ t = cc in absurd (apart ring ticket)) rooted;
      opens = still_opens c m g k (fell r i w t found) n d (λ q u is. let was = d.proper.was in absurd (cc)) rooted;
    }
rooted_step c time g m k (laid r i w t) n event_step rooted =
    let d = event_step.event_facts in
    record {
      pends = put_pends c m g k (laid r i w t) n r t (placed i w (call_of k (length (m.part k).calls))) d (λ j x is. absurd (cc))
          (λ q x v u apart is. let was = d.proper.was in let same : putting r i w t ≡ putting q x v u = sym was ∙ is in let ring : q ≡ r = cc in let ticket : u
          ≡ t = cc in absurd (apart ring ticket)) rooted;
      opens = still_opens c m g k (laid r i w t) n d (λ q u is. let was = d.proper.was in absurd (cc)) rooted;
    }
rooted_step c time g m k (finished r i w t) n event_step rooted =
    let d = event_step.event_facts in
    still_rooted c m g k (finished r i w t) n d (λ q i w u is. let was = d.proper.was in absurd (cc)) (λ q u is. let was = d.proper.was in absurd (cc)) rooted
rooted_step c time g m k (entered r) n event_step rooted =
    let d = event_step.event_facts in
    still_rooted c m g k (entered r) n d (λ q i w u is. let was = d.proper.was in let stand = was.rests in absurd (cc)) (λ q u is. let was = d.proper.was in let stand = was.rests in absurd (cc)) rooted
rooted_step c time g m k (refused r) n event_step rooted =
    let d = event_step.event_facts in
    still_rooted c m g k (refused r) n d (λ q i w u is. let was = d.proper.was in let stand = was.rests in absurd (cc)) (λ q u is. let was = d.proper.was in let stand = was.rests in absurd (cc)) rooted
rooted_step c time g m k (began r h) n event_step rooted =
    let d = event_step.event_facts in
    record {
      pends = still_pends c m g k (began r h) n d (λ q i w u is. let was = d.proper.was in absurd (cc)) rooted;
      opens = get_opens c m g k (began r h) n r h (opened k) d (λ j is. let seat : k ≡ j = cc in rw (← seat) d.stance)
          (λ q u apart is. let was = d.proper.was in absurd (cc)) rooted;
    }
rooted_step c time g m k (died r h) n event_step rooted =
    let d = event_step.event_facts in
    record {
      pends = still_pends c m g k (died r h) n d (λ q i w u is. let was = d.proper.was in absurd (cc)) rooted;
      opens = get_opens c m g k (died r h) n r h dead d (λ j is. absurd (cc))
          (λ q u apart is. let was = d.proper.was in let same : trying r h ≡ trying q u = sym was ∙ is in let ring : q ≡ r = cc in let ticket : u ≡ h = cc in
          absurd (apart ring ticket)) rooted;
    }
rooted_step c time g m k (saw_end r h) n event_step rooted =
    let d = event_step.event_facts in
    still_rooted c m g k (saw_end r h) n d (λ q i w u is. let was = d.proper.was in absurd (cc)) (λ q u is. let was = d.proper.was in absurd (cc)) rooted
rooted_step c time g m k (lifted r h to) n event_step rooted =
    let d = event_step.event_facts in
    still_rooted c m g k (lifted r h to) n d (λ q i w u is. let was = d.proper.was in absurd (cc)) (λ q u is. let was = d.proper.was in absurd (cc)) rooted
rooted_step c time g m k (taken r h i w) n event_step rooted =
    let d = event_step.event_facts in
    record {
      pends = still_pends c m g k (taken r h i w) n d (λ q i w u is. let was = d.proper.was in absurd (cc)) rooted;
      opens = get_opens c m g k (taken r h i w) n r h (took k (length (m.part k).calls)) d (λ j is. absurd (cc))
          (λ q u apart is. let was = d.proper.was in let same : trying r h ≡ trying q u = sym was ∙ is in let ring : q ≡ r = cc in let ticket : u ≡ h = cc in
          absurd (apart ring ticket)) rooted;
    }
rooted_step c time g m k (lowered r h) n event_step rooted =
    let d = event_step.event_facts in
    still_rooted c m g k (lowered r h) n d (λ q i w u is. let was = d.proper.was in absurd (cc)) (λ q u is. let was = d.proper.was in absurd (cc)) rooted
rooted_step c time g m k (emptied r h) n event_step rooted =
    let d = event_step.event_facts in
    record {
      pends = still_pends c m g k (emptied r h) n d
          (λ q i w u is. let was = d.proper.was in elim was [ inl stand ↦ absurd (cc) | inr both ↦ let stand = both.0 in absurd (cc) ]) rooted;
      opens = still_opens c m g k (emptied r h) n d
          (λ q u is. let was = d.proper.was in elim was [ inl stand ↦ absurd (cc) | inr both ↦ let stand = both.0 in absurd (cc) ]) rooted;
    }
rooted_step c time g m k (overran r t true) n event_step rooted =
    let d = event_step.event_facts in
    record {
      pends = still_pends c m g k (overran r t true) n d
          (λ q i w u is. let was = d.proper.was in elim was [ inl rests ↦ let stand = rests.rests in absurd (cc) | inr x ↦ let stand = x.2 in absurd (cc) ])
          rooted;
      opens = still_opens c m g k (overran r t true) n d
          (λ q u is. let was = d.proper.was in elim was [ inl rests ↦ let stand = rests.rests in absurd (cc) | inr x ↦ let stand = x.2 in absurd (cc) ]) rooted;
    }
rooted_step c time g m k (overran r t false) n event_step rooted =
    let d = event_step.event_facts in
    still_rooted c m g k (overran r t false) n d (λ q i w u is. let was = d.proper.was in absurd (cc)) (λ q u is. let was = d.proper.was in absurd (cc)) rooted
