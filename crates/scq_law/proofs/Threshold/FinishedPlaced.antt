-- Each finished place was placed. Plan: only the event that ends a put adds to what is finished, and it says so of its
-- place; what was placed stays placed.
use Rattle.std.proofs.Common.{◌≡◌, ℕ, ◌+◌, ◌⊎◌, Bool, true, false, List, ◌++◌, refl, inl, inr, ap}
use Rattle.std.specs.List.{Contains}
use Rattle.std.proofs.lemmas.Bool.{cases_eq}
use Rattle.std.proofs.lemmas.List.Elements.{Contains-append_cases}
use Rattle.scq_word.specs.declared.setup.Setup.{Setup}
use Rattle.scq_core.specs.declared.ended.Ended.TheVariants.{Done, Got, Nothing, Spent}
use Rattle.scq_core.specs.Machine.{Machine}
use Rattle.scq_core.specs.Exports.{start_of}
use Rattle.scq_law.specs.Exports.{SomePutEndedAt, IsFinished}
use Rattle.scq_law.proofs.Base.Ghosts.{Ghost, is_placed, start_ghost}
use Rattle.scq_law.proofs.Base.TicketEvents.{TicketEvent, finished, refused, taken, emptied, overran, ended_by}
use Rattle.scq_law.proofs.Base.EventFacts.{EventFacts}
use Rattle.scq_law.proofs.Base.StartTickets.{stands_at}
use Rattle.scq_law.proofs.Window.FailCauses.{placement}
use Rattle.scq_law.proofs.Base.EventSteps.{EventStep, ghost_next, along}
use Rattle.scq_law.proofs.Base.Traces.{Trace}
use Rattle.scq_law.proofs.Base.SeatSums.{contains_none, contains_one}

abbrev pub is_finish : TicketEvent → Bool
is_finish (finished r i w t) = true
is_finish e = false

-- no other event ends a put
pub ends_none : (e : TicketEvent) (r p : ℕ) (w : List ℕ) → is_finish e ≡ false → Contains (ended_by e) (Done r p w) → ⊥
ends_none (finished q i v t) r p w not has = absurd (cc)
ends_none (refused q) r p w not has = let same : Nothing q ≡ Done r p w = contains_one (Nothing q) (Done r p w) has in absurd (cc)
ends_none (taken q h i v) r p w not has = let same : Got q h v ≡ Done r p w = contains_one (Got q h v) (Done r p w) has in absurd (cc)
ends_none (emptied q h) r p w not has = let same : Nothing q ≡ Done r p w = contains_one (Nothing q) (Done r p w) has in absurd (cc)
ends_none (overran q t is_put) r p w not has = let same : Spent q t is_put ≡ Done r p w = contains_one (Spent q t is_put) (Done r p w) has in absurd (cc)
ends_none e r p w not has = contains_none (Done r p w) has

-- an ended put afterwards ended before or by the event
pub done_back : (c : Setup) (g : Ghost) (m : Machine) (k : ℕ) (e : TicketEvent) (n : Machine) → EventFacts c m g k e n → (r p : ℕ) → SomePutEndedAt n r p
    → SomePutEndedAt m r p ⊎ ((w : List ℕ) × Contains (ended_by e) (Done r p w))
done_back c g m k e n event_facts r p done =
    elim (cases_eq done.seat k) [
      | inl same ↦
          let mine : Contains (n.part k).calls (Done r p done.content) = rw same at done.ended in
          let both : Contains ((m.part k).calls ++ ended_by e) (Done r p done.content) = rw event_facts.calls at mine in
          elim (Contains-append_cases (m.part k).calls (ended_by e) (Done r p done.content) both) [
            | inl old ↦ inl (record { seat = k; content = done.content; ended = old })
            | inr new ↦ inr (done.content, new)
          ]
      | inr other ↦
          inl
          (record {
            seat = done.seat;
            content = done.content;
            ended = rw (event_facts.others done.seat other) at done.ended;
          })
    ]

-- where the event ends no put, what is finished was finished
pub finished_back : (c : Setup) (g : Ghost) (m : Machine) (k : ℕ) (e : TicketEvent) (n : Machine) → EventFacts c m g k e n → is_finish e ≡ false → (r p : ℕ)
    → IsFinished c n r p → IsFinished c m r p
finished_back c g m k e n event_facts not r p fin =
    elim fin [
      | inl done ↦
          elim (done_back c g m k e n event_facts r p done) [
            | inl old ↦ inl old
            | inr new ↦ absurd (ends_none e r p new.0 not new.1)
          ]
      | inr opening ↦ inr opening
    ]

-- where it ends the put at a place of a ring, what is finished was finished, or is that place
pub finished_or : (c : Setup) (g : Ghost) (m : Machine) (k q i : ℕ) (v : List ℕ) (t : ℕ) (n : Machine) → EventFacts c m g k (finished q i v t) n → (r p : ℕ)
    → IsFinished c n r p → IsFinished c m r p ⊎ ((r ≡ q) × (p ≡ t))
finished_or c g m k q i v t n event_facts r p fin =
    elim fin [
      | inl done ↦
          elim (done_back c g m k (finished q i v t) n event_facts r p done) [
            | inl old ↦ inl (inl old)
            | inr new ↦
                let same : Done q t v ≡ Done r p new.0 = contains_one (Done q t v) (Done r p new.0) new.1 in
                inr (cc, cc)
          ]
      | inr opening ↦ inl (inr opening)
    ]

-- what is placed stays placed
pub placed_lasts : (c : Setup) (time : ℕ) (g : Ghost) (m : Machine) (k : ℕ) (e : TicketEvent) (n : Machine) → EventStep c time g m k e n → (r p : ℕ)
    → is_placed (g.puts r p) ≡ true → is_placed ((ghost_next time g m k e).puts r p) ≡ true
placed_lasts c time g m k e n event_step r p is =
    let at = placement g r p is in ap is_placed (event_step.moves.lies r p at.index at.content at.maker at.is)

pub record FinishedArePlaced (c : Setup) (time : ℕ) (g : Ghost) (m : Machine) : Type 0 where
  pub placed : (r p : ℕ) → IsFinished c m r p → is_placed (g.puts r p) ≡ true

finished_placed_start : (c : Setup) (opening : List (List ℕ)) → FinishedArePlaced c 0 (start_ghost c opening) (start_of c opening)
finished_placed_start c opening =
    record {
      placed =
          λ r p fin.
          elim fin [
            | inl done ↦ absurd (contains_none (Done r p done.content) done.ended)
            | inr opens ↦
                elim (stands_at c opening r p) [
                  | inl s ↦ ap is_placed s.is
                  | inr s ↦ absurd (s.out opens.ring opens.first opens.last)
                ]
          ];
    }

finished_placed_step : (c : Setup) (time : ℕ) (g : Ghost) (m : Machine) (k : ℕ) (e : TicketEvent) (n : Machine) → EventStep c time g m k e n
    → FinishedArePlaced c time g m → FinishedArePlaced c (time + 1) (ghost_next time g m k e) n
finished_placed_step c time g m k (finished q i v t) n event_step was =
    record {
      placed =
          λ r p fin.
          elim (finished_or c g m k q i v t n event_step.event_facts r p fin) [
            | inl old ↦ was.placed r p old
            | inr new ↦ rw (new.0, new.1) (ap is_placed event_step.event_facts.proper.placed)
          ];
    }
finished_placed_step c time g m k e n event_step was =
    record {
      placed =
          λ r p fin.
          placed_lasts c time g m k e n event_step r p (was.placed r p (finished_back c g m k e n event_step.event_facts refl r p fin));
    }

pub finished_placed : (c : Setup) (time : ℕ) (g : Ghost) (m : Machine) → Trace c time g m → FinishedArePlaced c time g m
finished_placed c = along c (FinishedArePlaced c) (λ opening full. finished_placed_start c opening) (finished_placed_step c)
