-- How the tickets' states change by an event, as the cover and the book ask.
use Rattle.std.proofs.Common.{◌≡◌, ◌≢◌, ℕ, ◌+◌, ◌<◌, ◌≤◌, ◌⊎◌, true, false, List, length, inl, inr, ap, sym, ◌∙◌, arith}
use Rattle.std.proofs.lemmas.Bool.{cases_Bool, cases_lt}
use Rattle.scq_word.specs.declared.setup.Setup.{Setup}
use Rattle.scq_core.specs.Machine.{Machine}
use Rattle.scq_core.specs.Exports.{updated}
use Rattle.scq_core.proofs.UpdatedLemmas.{updated_or, updated_entry_or, updated_entry_here}
use Rattle.scq_law.specs.Exports.{Maker, call_of}
use Rattle.scq_law.proofs.Base.Ghosts.{Ghost, PutState, GetState, fresh, pending, failed, placed, opened, dead, took, is_placed, waiting, with_put, with_get}
use Rattle.scq_law.proofs.Base.TicketEvents.{TicketEvent, drew, fell, laid, began, died, lifted, taken, overran}
use Rattle.scq_law.proofs.Base.EventFacts.{Live, Blocks}
use Rattle.scq_law.proofs.Base.EventSteps.{EventStep, ghost_next}

-- a ticket fails at this step: it was pending, and Head is past it, or an index at another place of its slot is in its way
pub record Fails (c : Setup) (g : Ghost) (head : ℕ → ℕ) (time r t y d b : ℕ) : Type 0 where
  pub seat : ℕ
  pub at : y ≡ time
  pub pending : g.puts r t ≡ pending seat d
  pub cause : (t < head r) ⊎ Blocks c g r t b

pub record Flows (c : Setup) (g : Ghost) (tail head : ℕ → ℕ) (time : ℕ) (h : Ghost) : Type 0 where
  pub waits : (r s k x : ℕ) → h.puts r s ≡ pending k x → (g.puts r s ≡ pending k x) ⊎ (tail r ≤ s)
  pub lies : (r p x : ℕ) → Live h r p x → Live g r p x ⊎ ((k : ℕ) × (g.puts r p ≡ pending k x))
  pub fails : (r t y d b : ℕ) → h.puts r t ≡ failed y d b → (g.puts r t ≡ failed y d b) ⊎ Fails c g head time r t y d b
  pub stays : (r p x : ℕ) → Live g r p x → Live h r p x ⊎ (waiting (h.gets r p) ≡ false)
  pub drawn : (r t : ℕ) → g.puts r t ≢ fresh → h.puts r t ≢ fresh

-- no ticket changes
same_flows : (c : Setup) (g : Ghost) (tail head : ℕ → ℕ) (time : ℕ) → Flows c g tail head time g
same_flows c g tail head time =
    record {
      waits = λ r s k x is. inl is;
      lies = λ r p x live. inl live;
      fails = λ r t y d b is. inl is;
      stays = λ r p x live. inl live;
      drawn = λ r t was. was;
    }

-- a ticket of a put does
put_flows : (c : Setup) (g : Ghost) (tail head : ℕ → ℕ) (time q u : ℕ) (x : PutState) → x ≢ fresh → is_placed (g.puts q u) ≡ false
    → ((k i : ℕ) → x ≡ pending k i → tail q ≤ u) → ((i : ℕ) (w : List ℕ) (b : Maker) → x ≡ placed i w b → (k : ℕ) × (g.puts q u ≡ pending k i))
    → ((y d b : ℕ) → x ≡ failed y d b → Fails c g head time q u y d b) → Flows c g tail head time (with_put g q u x)
put_flows c g tail head time q u x some empty new_waits new_lies new_fails =
    record {
      waits =
          λ r s k i is.
          elim (updated_entry_or g.puts q u x r s) [
            | inl a ↦ inr (rw (a.0, a.1) (new_waits k i (sym a.2 ∙ is)))
            | inr a ↦ inl (sym a.1 ∙ is)
          ];
      lies =
          λ r p i live.
          elim (updated_entry_or g.puts q u x r p) [
            | inl a ↦ inr (rw (a.0, a.1) (new_lies i live.content live.maker (sym a.2 ∙ live.is)))
            | inr a ↦
                inl (record { content = live.content; maker = live.maker; is = sym a.1 ∙ live.is; waits = live.waits })
          ];
      fails =
          λ r t y d b is.
          elim (updated_entry_or g.puts q u x r t) [
            | inl a ↦ inr (rw (a.0, a.1) (new_fails y d b (sym a.2 ∙ is)))
            | inr a ↦ inl (sym a.1 ∙ is)
          ];
      stays =
          λ r p i live.
          elim (updated_entry_or g.puts q u x r p) [
            | inl a ↦
                let there : is_placed (g.puts r p) ≡ true = ap is_placed live.is in
                let not_there : is_placed (g.puts r p) ≡ false = rw (a.0, a.1) empty in
                absurd (cc)
            | inr a ↦ inl (record { content = live.content; maker = live.maker; is = a.1 ∙ live.is; waits = live.waits })
          ];
      drawn =
          λ r t was is.
          elim (updated_entry_or g.puts q u x r t) [
            | inl a ↦ some (sym a.2 ∙ is)
            | inr a ↦ was (sym a.1 ∙ is)
          ];
    }

-- a ticket of a get does
get_flows : (c : Setup) (g : Ghost) (tail head : ℕ → ℕ) (time q u : ℕ) (x : GetState) → waiting (g.gets q u) ≡ true
    → Flows c g tail head time (with_get g q u x)
get_flows c g tail head time q u x waits_there =
    record {
      waits = λ r s k i is. inl is;
      lies =
          λ r p i live.
          elim (updated_entry_or g.gets q u x r p) [
            | inl a ↦
                inl (record { content = live.content; maker = live.maker; is = live.is; waits = rw (a.0, a.1) waits_there })
            | inr a ↦
                inl (record { content = live.content; maker = live.maker; is = live.is; waits = ap waiting (sym a.1) ∙ live.waits })
          ];
      fails = λ r t y d b is. inl is;
      stays =
          λ r p i live.
          elim (cases_Bool (waiting ((with_get g q u x).gets r p))) [
            | inl waits ↦ inl (record { content = live.content; maker = live.maker; is = live.is; waits = waits })
            | inr over ↦ inr over
          ];
      drawn = λ r t was. was;
    }

pub flows : (c : Setup) (time : ℕ) (g : Ghost) (m : Machine) (k : ℕ) (e : TicketEvent) (n : Machine) → EventStep c time g m k e n
    → Flows c g m.cells.tail m.cells.head time (ghost_next time g m k e)
flows c time g m k (drew r i w t) n event_step =
    let p = event_step.event_facts.proper in
    let at = p.at_tail in
    put_flows c g m.cells.tail m.cells.head time r t (pending k i) (λ is. absurd (cc)) (ap is_placed p.fresh) (λ j x is. omega arith) (λ x v b is. absurd (cc))
    (λ y d b is. absurd (cc))
flows c time g m k (fell r i w t found) n event_step =
    let p = event_step.event_facts.proper in
    put_flows
    c
    g
    m.cells.tail
    m.cells.head
    time
    r
    t
    (failed time i found)
    (λ is. absurd (cc))
    (ap is_placed p.pending)
    (λ j x is. absurd (cc))
    (λ x v b is. absurd (cc))
    (λ y d b is.
    let when : time ≡ y = cc in
    let index : i ≡ d = cc in
    let blocker : found ≡ b = cc in
    record { seat = k; at = sym when; pending = rw (← index) p.pending; cause = rw (← blocker) p.cause })
flows c time g m k (laid r i w t) n event_step =
    let p = event_step.event_facts.proper in
    put_flows c g m.cells.tail m.cells.head time r t (placed i w (call_of k (length (m.part k).calls))) (λ is. absurd (cc)) (ap is_placed p.pending)
    (λ j x is. absurd (cc)) (λ x v b is. let index : i ≡ x = cc in (k, rw (← index) p.pending)) (λ y d b is. absurd (cc))
flows c time g m k (began r h) n event_step =
    get_flows c g m.cells.tail m.cells.head time r h (opened k) (ap waiting event_step.event_facts.proper.unopened)
flows c time g m k (died r h) n event_step =
    get_flows c g m.cells.tail m.cells.head time r h dead (ap waiting event_step.event_facts.proper.opened)
flows c time g m k (taken r h i w) n event_step =
    get_flows c g m.cells.tail m.cells.head time r h (took k (length (m.part k).calls)) (ap waiting event_step.event_facts.proper.opened)
flows c time g m k e n event_step = same_flows c g m.cells.tail m.cells.head time

-- Head and Tail after an event: Head no lower, and below Tail no ticket at or past Head that was not drawn before or now
pub record HeadAndTailAdvance (c : Setup) (tail head tail' head' : ℕ → ℕ) (h : Ghost) : Type 0 where
  pub tails : (r : ℕ) → tail r ≤ tail' r
  pub heads : (r : ℕ) → head r ≤ head' r
  pub drawn : (r t : ℕ) → head' r ≤ t → t < tail' r → t < c.limit → (t < tail r) ⊎ (h.puts r t ≢ fresh)

-- a counter that moved up
moved_up : (f : ℕ → ℕ) (r x : ℕ) → f r ≤ x → (q : ℕ) → f q ≤ updated f r x q
moved_up f r x up q =
    elim (updated_or f r x q) [
      | inl a ↦ rw a.1 (rw a.0 up)
      | inr a ↦ rw a.1 (omega arith)
    ]

-- Tail moves up, or Head, or neither
tail_moves : (c : Setup) (tail head : ℕ → ℕ) (h : Ghost) (r x : ℕ) → tail r ≤ x
    → ((u : ℕ) → head r ≤ u → u < x → u < c.limit → (u < tail r) ⊎ (h.puts r u ≢ fresh)) → HeadAndTailAdvance c tail head (updated tail r x) head h
tail_moves c tail head h r x up drawn =
    record {
      tails = moved_up tail r x up;
      heads = λ q. omega arith;
      drawn =
          λ q u high less below_limit.
          elim (updated_or tail r x q) [
            | inl a ↦ rw a.0 (drawn u (rw a.0 at high) (rw a.1 at less) below_limit)
            | inr a ↦ inl (rw a.1 at less)
          ];
    }

head_moves : (c : Setup) (tail head : ℕ → ℕ) (h : Ghost) (r x : ℕ) → head r ≤ x → HeadAndTailAdvance c tail head tail (updated head r x) h
head_moves c tail head h r x up = record { tails = λ q. omega arith; heads = moved_up head r x up; drawn = λ q u high less below_limit. inl less }

none_moves : (c : Setup) (tail head : ℕ → ℕ) (h : Ghost) → HeadAndTailAdvance c tail head tail head h
none_moves c tail head h = record { tails = λ q. omega arith; heads = λ q. omega arith; drawn = λ q u high less below_limit. inl less }

pub advances : (c : Setup) (time : ℕ) (g : Ghost) (m : Machine) (k : ℕ) (e : TicketEvent) (n : Machine) → EventStep c time g m k e n
    → HeadAndTailAdvance c m.cells.tail m.cells.head n.cells.tail n.cells.head (ghost_next time g m k e)
advances c time g m k (drew r i w t) n event_step =
    let d = event_step.event_facts in
    let at = d.proper.at_tail in
    rw (d.tail, d.head)
    (tail_moves c m.cells.tail m.cells.head (ghost_next time g m k (drew r i w t)) r (t + 1) (omega arith)
    (λ u high top below_limit.
    elim (cases_lt u t) [
      | inl below ↦ inl (omega arith)
      | inr above ↦
          let one : u ≡ t = omega arith in
          inr (rw one (λ is. let there = updated_entry_here g.puts r t (pending k i) in absurd (cc)))
    ]))
advances c time g m k (lifted r h to) n event_step =
    let d = event_step.event_facts in
    let rises = d.proper.rises in
    let low = d.proper.low in
    rw (d.tail, d.head)
    (tail_moves c m.cells.tail m.cells.head (ghost_next time g m k (lifted r h to)) r to (omega arith) (λ u high top below_limit. absurd (omega arith)))
advances c time g m k (overran r t true) n event_step =
    let d = event_step.event_facts in
    let at = d.proper.at_tail in
    let past = d.proper.past in
    rw (d.tail, d.head)
    (tail_moves c m.cells.tail m.cells.head (ghost_next time g m k (overran r t true)) r (t + 1) (omega arith) (λ u high top below_limit. inl (omega arith)))
advances c time g m k (overran r t false) n event_step =
    let d = event_step.event_facts in
    let at = d.proper.at_head in
    rw (d.tail, d.head) (head_moves c m.cells.tail m.cells.head (ghost_next time g m k (overran r t false)) r (t + 1) (omega arith))
advances c time g m k (began r h) n event_step =
    let d = event_step.event_facts in
    let at = d.proper.at_head in
    rw (d.tail, d.head) (head_moves c m.cells.tail m.cells.head (ghost_next time g m k (began r h)) r (h + 1) (omega arith))
advances c time g m k e n event_step =
    let d = event_step.event_facts in rw (d.tail, d.head) (none_moves c m.cells.tail m.cells.head (ghost_next time g m k e))
