-- The order in which tickets are drawn: of one ring, higher tickets later. And what the record says of who drew them.
use Rattle.std.proofs.Common.{◌≡◌, ℕ, ◌+◌, ◌<◌, ◌≤◌, inl, inr, false, List, [], ◌∷◌, length, refl, ap, sym, ◌∙◌, subst, arith}
use Rattle.std.specs.Prelude.{nat_le}
use Rattle.std.proofs.lemmas.Bool.{cases_lt, lt-leb}
use Rattle.scq_word.specs.Exports.{n_of}
use Rattle.scq_core.specs.declared.ended.Ended.TheVariants.{Done, Got}
use Rattle.scq_core.specs.declared.phase.Phase.TheVariants.{AtE1, AtD2}
use Rattle.scq_core.specs.Exports.{ring_slots}
use Rattle.scq_core.proofs.UpdatedLemmas.{updated_here}
use Rattle.scq_law.specs.Exports.{Maker, call_of, opening_put, Recorded, IsRun, DrawsPut, DrawsGet, IsStepOf, HasEnded, state_before}
use Rattle.scq_law.proofs.Base.Ghosts.{placed, opened}
use Rattle.scq_law.proofs.Base.TicketEvents.{TicketEvent, calm, drew, began, taken, ended_by, tail_by, head_by}
use Rattle.scq_law.proofs.Base.EventFacts.{Proper, Taken}
use Rattle.scq_law.proofs.Base.Traces.{event_of}
use Rattle.scq_law.proofs.Places.Throughout.{records_agree}
use Rattle.scq_law.specs.RunSteps.{Run}
use Rattle.scq_law.proofs.Order.RunStates.{step_facts, ghost_before, traced}
use Rattle.scq_law.proofs.Order.CallDraws.{by_placed, by_opened}
use Rattle.scq_law.proofs.Order.RunDraws.{PutDraw, put_draw, GetDraw, get_draw, call_end, makes_is, rise}
use Rattle.scq_law.proofs.Order.Decisions.{within}

-- an End with Got is that of a turn that took
pub ended_got : (e : TicketEvent) (r p : ℕ) (w : List ℕ) → ended_by e ≡ Got r p w ∷ [] → (i : ℕ) × (e ≡ taken r p i w)
ended_got calm r p w is = absurd (cc)
ended_got (taken q h i v) r p w is =
    let ring : q ≡ r = cc in let place : h ≡ p = cc in
    let content : v ≡ w = cc in (i, rw (ring, place, content) refl)
ended_got e r p w is = absurd (cc)

-- the step at which a get took, with the step of its call that drew the ticket
pub record GetEnd (run : Run) (k x r p : ℕ) (w : List ℕ) : Type 0 where
  pub at : ℕ
  pub before : at < length run.steps
  pub in_call : IsStepOf run at k x
  pub index : ℕ
  pub maker : Maker
  pub placed : (ghost_before run at).puts r p ≡ placed index w maker
  pub draw : GetDraw run at r p k x

-- a counter that never falls is past nothing at a later step
falls_never : (f : ℕ → ℕ) → ((a b : ℕ) → a ≤ b → f a ≤ f b) → (i j : ℕ) → f i < f (j + 1) → i ≤ j
falls_never f up i j less =
    elim (cases_lt j i) [ inl before ↦ let le = up (j + 1) i (omega arith) in absurd (omega arith) | inr past ↦ past ]

module _ (run : Run) (recorded : Recorded) (is_run : IsRun run.setup run.opening run.steps recorded) where
  -- after a draw the counter is past the ticket
  tail_after : (i k r p : ℕ) → DrawsPut run i k r p → (state_before run (i + 1)).cells.tail r ≡ p + 1
  tail_after i k r p d =
      let f = step_facts run recorded is_run i (within run recorded is_run i run.steps d.makes.there) in
      let m = state_before run i in
      let same = makes_is run i k (AtE1 r d.index d.content d.least) f d.makes in
      let found = d.found in
      let under : nat_le run.setup.limit p ≡ false = lt-leb run.setup.limit p d.low in
      let is : event_of run.setup m (AtE1 r d.index d.content d.least) ≡ drew r d.index d.content p = rw (found, under) refl in
      ap (λ (t : ℕ → ℕ). t r) f.event.event_facts.tail
      ∙ ap (λ (e : TicketEvent). tail_by e m.cells.tail r) (ap (event_of run.setup m) (sym same.turn_is) ∙ is) ∙ updated_here m.cells.tail r (p + 1)

  head_after : (i k r p : ℕ) → DrawsGet run i k r p → (state_before run (i + 1)).cells.head r ≡ p + 1
  head_after i k r p d =
      let f = step_facts run recorded is_run i (within run recorded is_run i run.steps d.makes.there) in
      let m = state_before run i in
      let same = makes_is run i k (AtD2 r d.least) f d.makes in
      let found = d.found in
      let under : nat_le run.setup.limit p ≡ false = lt-leb run.setup.limit p d.low in
      let is : event_of run.setup m (AtD2 r d.least) ≡ began r p = rw (found, under) refl in
      ap (λ (t : ℕ → ℕ). t r) f.event.event_facts.head
      ∙ ap (λ (e : TicketEvent). head_by e m.cells.head r) (ap (event_of run.setup m) (sym same.turn_is) ∙ is) ∙ updated_here m.cells.head r (p + 1)

  -- higher tickets are drawn later
  pub put_draws_rise : (i j k h r p q : ℕ) → p ≤ q → DrawsPut run i k r p → DrawsPut run j h r q → i ≤ j
  put_draws_rise i j k h r p q order first second =
      let found = first.found in
      let after = tail_after j h r q second in
      falls_never (λ a. (state_before run a).cells.tail r) (λ a b le. (rise run recorded is_run a b le).tail r) i j (omega arith)

  pub get_draws_rise : (i j k h r p q : ℕ) → p ≤ q → DrawsGet run i k r p → DrawsGet run j h r q → i ≤ j
  get_draws_rise i j k h r p q order first second =
      let found = first.found in
      let after = head_after j h r q second in
      falls_never (λ a. (state_before run a).cells.head r) (λ a b le. (rise run recorded is_run a b le).head r) i j (omega arith)

  -- and each ticket once
  pub one_put_draw : (i j k h r p : ℕ) → DrawsPut run i k r p → DrawsPut run j h r p → i ≡ j
  one_put_draw i j k h r p first second =
      let up = put_draws_rise i j k h r p p (omega arith) first second in
      let down = put_draws_rise j i h k r p p (omega arith) second first in
      omega arith

  pub one_get_draw : (i j k h r p : ℕ) → DrawsGet run i k r p → DrawsGet run j h r p → i ≡ j
  one_get_draw i j k h r p first second =
      let up = get_draws_rise i j k h r p p (omega arith) first second in
      let down = get_draws_rise j i h k r p p (omega arith) second first in
      omega arith

  -- where Head is no further than a ticket, nobody has drawn it; and where it is past it, somebody has
  pub drawn_later : (i j k r p : ℕ) → (state_before run i).cells.head r ≤ p → DrawsGet run j k r p → i ≤ j
  drawn_later i j k r p head draws =
      elim (cases_lt j i) [
        | inl less ↦
            let up = (rise run recorded is_run (j + 1) i (omega arith)).head r in
            let after = head_after j k r p draws in
            absurd (omega arith)
        | inr past ↦ past
      ]

  pub drawn_before : (i j k r p : ℕ) → p < (state_before run i).cells.head r → DrawsGet run j k r p → j < i
  drawn_before i j k r p head draws =
      elim (cases_lt j i) [
        | inl less ↦ less
        | inr past ↦
            let up = (rise run recorded is_run i j past).head r in
            let found = draws.found in
            absurd (omega arith)
      ]

  pub drawn_below : (j k r p : ℕ) → DrawsGet run j k r p → p < (state_before run (length run.steps)).cells.head r
  drawn_below j k r p draws =
      let low = within run recorded is_run j run.steps draws.makes.there in
      let up = (rise run recorded is_run (j + 1) (length run.steps) (omega arith)).head r in
      let after = head_after j k r p draws in
      omega arith

  -- an enqueue draws tickets past the opening places
  pub drawn_past : (i k r p : ℕ) → DrawsPut run i k r p → r ≡ 0 → ring_slots run.setup + n_of run.setup.order ≤ p
  drawn_past i k r p draws ring =
      let up = (rise run recorded is_run 0 i (omega arith)).tail r in
      let start : (state_before run 0).cells.tail r ≡ ring_slots run.setup + n_of run.setup.order = rw ring refl in
      let found = draws.found in
      omega arith

  -- the E1 that drew the place of a put that ended
  pub done_draw : (k x r p : ℕ) (w : List ℕ) → HasEnded run k x (Done r p w) → PutDraw run (length run.steps) r p k x
  done_draw k x r p w ended =
      let n = length run.steps in
      let records = records_agree run.setup n (ghost_before run n) (state_before run n) (traced run recorded is_run n (omega arith)) in
      let made = records.done k x r p w ended in
      put_draw run recorded is_run n (omega arith) r p k x (by_placed made.index w made.is)

  -- how a get that ended took its place
  pub got_end : (k x r p : ℕ) (w : List ℕ) → HasEnded run k x (Got r p w) → GetEnd run k x r p w
  got_end k x r p w ended =
      let e = call_end run recorded is_run (length run.steps) (omega arith) k x (Got r p w) ended in
      let m = state_before run e.at in
      let g = ghost_before run e.at in
      let took = ended_got (event_of run.setup m e.facts.turn) r p w e.ends in
      let facts : Taken run.setup m g e.facts.seat r p took.0 w =
      subst (λ (v : TicketEvent). Proper run.setup m g e.facts.seat v) took.1 e.facts.event.event_facts.proper in
      let low = e.before in
      record {
        at = e.at;
        before = e.before;
        in_call = e.in_call;
        index = took.0;
        maker = facts.maker;
        placed = facts.placed;
        draw =
            get_draw run recorded is_run e.at (omega arith) r p k x (by_opened (facts.opened ∙ ap opened (sym e.seat)) e.in_call.in_call);
      }

  -- its place was drawn for a put before it took
  pub put_before_got : (k x r p : ℕ) (w : List ℕ) (e : GetEnd run k x r p w) (i h : ℕ) → DrawsPut run i h r p → i < e.at
  put_before_got k x r p w e i h draws = made e.maker e.placed
    where
      made : (a : Maker) → (ghost_before run e.at).puts r p ≡ placed e.index w a → i < e.at
      made opening_put is =
          let low = e.before in
          let records = records_agree run.setup e.at (ghost_before run e.at) (state_before run e.at) (traced run recorded is_run e.at (omega arith)) in
          let stood = records.stood r p e.index w is in
          let past = drawn_past i h r p draws stood.ring in
          let last = stood.last in
          absurd (omega arith)
      made (call_of s y) is =
          let low = e.before in
          let d = put_draw run recorded is_run e.at (omega arith) r p s y (by_placed e.index w is) in
          let order = put_draws_rise i d.at h s r p p (omega arith) draws d.draws in
          let before = d.before in
          omega arith
