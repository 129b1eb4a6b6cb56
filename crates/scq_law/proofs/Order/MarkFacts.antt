-- What the marks of a run's first steps are, and the points that they give.
use Rattle.std.proofs.Common.{◌≡◌, ℕ, zero, suc, ◌+◌, ◌<◌, ◌≤◌, ◌⊎◌, inl, inr, true, List, [], ◌∷◌, length, get_or, refl, ap, sym, subst, arith}
use Rattle.std.specs.Prelude.{Some, None, Option, slice_get, max}
use Rattle.std.specs.List.{Contains}
use Rattle.std.proofs.lemmas.Bool.{cases_lt}
use Rattle.scq_word.specs.Exports.{n_of}
use Rattle.scq_core.specs.declared.ended.Ended.{Ended}
use Rattle.scq_core.specs.declared.ended.Ended.TheVariants.{Done, Got}
use Rattle.scq_core.specs.declared.phase.Phase.{Phase}
use Rattle.scq_core.specs.declared.phase.Phase.TheVariants.{Idle}
use Rattle.scq_core.specs.Exports.{SeatPart, ring_slots, gave_up}
use Rattle.scq_core.proofs.UpdatedLemmas.{updated_or}
use Rattle.scq_law.specs.Exports.{Maker, IsPlacedBy, at_opening, in_record, under_way, HasLanded, Counts, Recorded, marked, puts_by, gets_by}
use Rattle.scq_law.specs.Exports.{decided_by, mark_or, is_on, Rise, IsPutMark, key, HasKey, IsDecidingStep, DecidesBefore, IsPutPoint, of_call}
use Rattle.scq_law.specs.Exports.{IsGetPoint, IsFinishedRun, DrawsPut, DrawsGet, HasEnded, state_before, last_state}
use Rattle.scq_law.proofs.Base.EventFacts.{stance}
use Rattle.scq_law.proofs.Places.PlaceLaws.{places_once}
use Rattle.scq_law.proofs.Places.Throughout.{reached}
use Rattle.scq_law.specs.declared.marks.Decision.{Decision}
use Rattle.scq_law.specs.declared.marks.Marks.{Marks}
use Rattle.scq_law.specs.declared.marks.Member.{Member}
use Rattle.scq_law.specs.declared.note.Note.{Note}
use Rattle.scq_law.specs.declared.note.Note.TheVariants as note
use Rattle.scq_law.specs.declared.ordered.Ordered.TheVariants.{Opening, Call}
use Rattle.scq_law.specs.Points.{of_opening}
use Rattle.scq_law.specs.RunSteps.{Run}
use Rattle.scq_law.proofs.Order.RunStates.{ghost_before, traced}
use Rattle.scq_law.proofs.Order.RunDraws.{PutDraw}
use Rattle.scq_law.proofs.Order.Decisions.{decides_before}
use Rattle.scq_law.proofs.Order.DrawOrder.{drawn_later, drawn_past, done_draw, GetEnd, got_end, put_before_got}
use Rattle.scq_law.proofs.Order.KeyLemmas.{all_idle, last_reached}
use Rattle.scq_law.proofs.Order.CallEnds.{step_before_end}

-- a decision as it is marked of a deciding step
pub record IsDecisionOf (run : Run) (r i : ℕ) (e : Decision) : Type 0 where
  pub at : ℕ
  pub seat : ℕ
  pub call : ℕ
  pub is : IsDecidingStep run at seat call r
  pub before : at < i
  pub head : e.head ≡ (state_before run at).cells.head r
  pub point : e.point ≡ at + 1

-- where a seat has decided and is leaving: its deciding step
pub record Leaves (run : Run) (r i k : ℕ) (t : Marks) : Type 0 where
  pub at : ℕ
  pub is : IsDecidingStep run at k (length ((state_before run i).part k).calls) r
  pub mark : marked t.decided k ≡ Some (at + 1)

-- what the steps before step i are to the order
pub record IsNoted (run : Run) (r i : ℕ) (t : Marks) : Type 0 where
  pub puts : (e k p : ℕ) → e < i → DrawsPut run e k r p → marked t.puts p ≡ Some (e + 1)
  pub puts_only : (p q : ℕ) → marked t.puts p ≡ Some q → (e : ℕ) × (k : ℕ) × DrawsPut run e k r p
  pub gets : (e k p : ℕ) → e < i → DrawsGet run e k r p → marked t.gets p ≡ Some (e + 1)
  pub decisions : (d k x : ℕ) → d < i → IsDecidingStep run d k x r
      → Contains t.decisions.items (record { head = (state_before run d).cells.head r; point = d + 1 })
  pub decisions_only : (e : Decision) → Contains t.decisions.items e → IsDecisionOf run r i e
  pub rise : Rise t.decisions.items

-- the marks before step i
pub record IsMarked (run : Run) (r i : ℕ) (t : Marks) : Type 0 where
  pub ring : t.ring ≡ r
  pub noted : IsNoted run r i t
  pub leaves : (k h : ℕ) → stance (state_before run i) k ≡ gave_up r h true → Leaves run r i k t
  pub calls : Counts run.setup.seats t.calls.items (λ k. length ((state_before run i).part k).calls)
  pub openings : (j : ℕ) → r ≡ 0 → j < n_of run.setup.order → (m : Member) × Contains t.members.items m × (m.ordered ≡ Opening j)
  pub done : (k x : ℕ) (e : Ended) → slice_get ((state_before run i).part k).calls x ≡ Some e → is_on r e ≡ true
      → (m : Member) × Contains t.members.items m × (m.ordered ≡ Call k (x + 1))
  pub only : (m : Member) → Contains t.members.items m → HasKey run r m.ordered (key m.key.0 m.key.1 m.key.2)
  pub below : (m : Member) → Contains t.members.items m → (k n : ℕ) → m.ordered ≡ Call k n → n ≤ length ((state_before run i).part k).calls
  pub apart : (a b : ℕ) (m n : Member) → slice_get t.members.items a ≡ Some m → slice_get t.members.items b ≡ Some n → m.ordered ≡ n.ordered → a ≡ b

-- what a note changes
pub puts_cases : (n : Note) (point : ℕ) (f : ℕ → Option ℕ) (p : ℕ)
    → ((n ≡ note.DrawsPut p) × (puts_by n point f p ≡ Some point)) ⊎ (puts_by n point f p ≡ f p)
puts_cases (note.DrawsPut q) point f p =
    elim (updated_or f q (Some point) p) [ inl a ↦ inl (ap note.DrawsPut (sym a.0), a.1) | inr a ↦ inr a.1 ]
puts_cases n point f p = inr refl

pub gets_cases : (n : Note) (point : ℕ) (f : ℕ → Option ℕ) (p : ℕ)
    → ((n ≡ note.DrawsGet p) × (gets_by n point f p ≡ Some point)) ⊎ (gets_by n point f p ≡ f p)
gets_cases (note.DrawsGet q) point f p =
    elim (updated_or f q (Some point) p) [ inl a ↦ inl (ap note.DrawsGet (sym a.0), a.1) | inr a ↦ inr a.1 ]
gets_cases n point f p = inr refl

pub decided_cases : (n : Note) (seat point : ℕ) (f : ℕ → Option ℕ) (k : ℕ)
    → ((h : ℕ) × (n ≡ note.Decides h) × (k ≡ seat) × (decided_by n seat point f k ≡ Some point)) ⊎ (decided_by n seat point f k ≡ f k)
decided_cases (note.Decides h) seat point f k =
    elim (updated_or f seat (Some point) k) [ inl a ↦ inl (h, refl, a.0, a.1) | inr a ↦ inr a.1 ]
decided_cases n seat point f k = inr refl

-- whatever the decisions are, some point is marked for a put
pub put_mark : (ds : List Decision) (first place : ℕ) → (point : ℕ) × IsPutMark ds first place point
put_mark [] first place =
    (first, record { from_first = omega arith; from_decisions = λ d at low. (let none = at.1 in absurd (omega arith)); reached = inl refl })
put_mark (d ∷ ds) first place =
    let rest = put_mark ds first place in
    elim (cases_lt place d.head) [
      | inl further ↦ (rest.0, skipped rest.0 rest.1 further)
      | inr near ↦ (max rest.0 d.point, counted rest.0 rest.1 near)
    ]
  where
    behind : (e : Decision) → Contains (d ∷ ds) e → (e ≡ d) ⊎ Contains ds e
    behind e at = go at.0 at.1 at.2
      where
        go : (k : ℕ) → k < length (d ∷ ds) → get_or (d ∷ ds) k e ≡ e → (e ≡ d) ⊎ Contains ds e
        go zero low is = inl (sym is)
        go (suc k) low is = inr (k, omega arith, is)

    ahead : (e : Decision) → Contains ds e → Contains (d ∷ ds) e
    ahead e at = (suc at.0, (let low = at.1 in omega arith), at.2)

    skipped : (point : ℕ) → IsPutMark ds first place point → place < d.head → IsPutMark (d ∷ ds) first place point
    skipped point is further =
        record {
          from_first = is.from_first;
          from_decisions =
              λ e at low.
              elim (behind e at) [
                | inl same ↦ (let heads : e.head ≡ d.head = ap (λ (x : Decision). x.head) same in absurd (omega arith))
                | inr later ↦ is.from_decisions e later low
              ];
          reached = elim is.reached [ inl own ↦ inl own | inr one ↦ inr (one.0, ahead one.0 one.1, one.2, one.3) ];
        }

    counted : (point : ℕ) → IsPutMark ds first place point → d.head ≤ place → IsPutMark (d ∷ ds) first place (max point d.point)
    counted point is near =
        let first_low = is.from_first in
        record {
          from_first = omega arith;
          from_decisions =
              λ e at low.
              elim (behind e at) [
                | inl same ↦ (let points : e.point ≡ d.point = ap (λ (x : Decision). x.point) same in omega arith)
                | inr later ↦ (let up = is.from_decisions e later low in omega arith)
              ];
          reached =
              elim (cases_lt point d.point) [
                | inl less ↦ inr (d, (0, omega arith, refl), near, omega arith)
                | inr high ↦
                    elim is.reached [
                      | inl own ↦ inl (omega arith)
                      | inr one ↦ inr (one.0, ahead one.0 one.1, one.2, (let same = one.3 in omega arith))
                    ]
              ];
        }

module _ (run : Run) (fin : IsFinishedRun run) where
  abbrev rec : Recorded
  rec = fin.recorded

  -- who placed at a place that was got: an opening put, or a call that has ended
  pub data PlacedAt (r p : ℕ) : Type 0 where
    by_opening : r ≡ 0 → ring_slots run.setup ≤ p → p < ring_slots run.setup + n_of run.setup.order → PlacedAt r p
    by_call : (k x : ℕ) (w : List ℕ) → HasEnded run k x (Done r p w) → PlacedAt r p

  pub placed_at : (k x r p : ℕ) (w : List ℕ) → HasEnded run k x (Got r p w) → PlacedAt r p
  placed_at k x r p w ended =
      let fresh = (places_once run.setup (last_state run) (last_reached run fin)).fresh r p w k x ended in
      go fresh.0 fresh.1
    where
      go : (a : Maker) → IsPlacedBy run.setup (last_state run) r p w a → PlacedAt r p
      go a (at_opening ring first last content) = by_opening ring first last
      go a (in_record s y is) = by_call s y w is
      go a (under_way s has) =
          elim (cases_lt s run.setup.seats) [
            | inl low ↦ let at : HasLanded Idle r p w = subst (λ (q : Phase). HasLanded q r p w) (all_idle run fin s low) has in let clash = at.1 in absurd (cc)
            | inr high ↦
                let n = length run.steps in
                let part = (reached run.setup n (ghost_before run n) (last_state run) (traced run rec fin.is_run n (omega arith))).absent s high in
                let at : HasLanded Idle r p w = subst (λ (q : SeatPart). HasLanded q.phase r p w) part has in
                let clash = at.1 in
                absurd (cc)
          ]

  module _ (r i : ℕ) (t : Marks) (marks : IsNoted run r i t) where
    -- a put's point from the marks, where its place was drawn and all decisions that count were made before step i
    pub put_point : (k x p point : ℕ) (w : List ℕ) → HasEnded run k x (Done r p w) → (e : PutDraw run (length run.steps) r p k x) → e.at < i
        → ((d j y : ℕ) → IsDecidingStep run d j y r → (state_before run d).cells.head r ≤ p → DecidesBefore run d k x r p → d < i)
        → IsPutMark t.decisions.items (mark_or (marked t.puts p)) p point → IsPutPoint run k x r p point
    put_point k x p point w ended e low early is =
        let first : mark_or (marked t.puts p) ≡ e.at + 1 = ap mark_or (marks.puts e.at k p low e.draws) in
        let from = is.from_first in
        record {
          drawn = e.at;
          draws = e.draws;
          from_draw = omega arith;
          from_decisions =
              λ d before.
              is.from_decisions (record { head = (state_before run d).cells.head r; point = d + 1 })
              (marks.decisions d before.decider before.nothing (early d before.decider before.nothing before.decides before.head before) before.decides)
              before.head;
          reached =
              elim is.reached [
                | inl own ↦ inl (omega arith)
                | inr one ↦
                    let of = marks.decisions_only one.0 one.1 in
                    let head = of.head in let near = one.2 in let point_is = of.point in let same = one.3 in
                    inr (of.at, decides_before run rec fin.is_run of.at of.seat of.call k x r p w of.is (omega arith) ended, omega arith)
              ];
        }

    -- the point of a put that ended before step i
    pub done_point : (k x p point : ℕ) (w : List ℕ) → HasEnded run k x (Done r p w) → slice_get ((state_before run i).part k).calls x ≡ Some (Done r p w)
        → IsPutMark t.decisions.items (mark_or (marked t.puts p)) p point → IsPutPoint run k x r p point
    done_point k x p point w ended now is =
        let e = done_draw run rec fin.is_run k x r p w ended in
        put_point k x p point w ended e (step_before_end run rec fin.is_run e.at i k x (Done r p w) now e.in_call.in_call)
        (λ d j y decides head before.
        let later = step_before_end run rec fin.is_run before.later i k x (Done r p w) now before.is_later.in_call in
        let order = before.before in
        omega arith) is

    -- the point of a get that ended before step i
    pub got_point : (k x p point : ℕ) (w : List ℕ) → HasEnded run k x (Got r p w) → slice_get ((state_before run i).part k).calls x ≡ Some (Got r p w)
        → point ≡ max (mark_or (marked t.gets p)) (mark_or (marked t.puts p)) → IsGetPoint run k r p point
    got_point k x p point w ended now is = of_maker (placed_at k x r p w ended)
      where
        end : GetEnd run k x r p w
        end = got_end run rec fin.is_run k x r p w ended

        took_low : end.at < i
        took_low = step_before_end run rec fin.is_run end.at i k x (Got r p w) now end.in_call.in_call

        got_first : mark_or (marked t.gets p) ≡ end.draw.at + 1
        got_first = let below = end.draw.before in let low = took_low in ap mark_or (marks.gets end.draw.at k p (omega arith) end.draw.draws)

        of_maker : PlacedAt r p → IsGetPoint run k r p point
        of_maker (by_opening ring first last) =
            let none : mark_or (marked t.puts p) ≡ 0 = none_put ring last (marked t.puts p) refl in
            let gets = got_first in
            record { drawn = end.draw.at; draws = end.draw.draws; put = 0; of_put = of_opening ring first last; is = omega arith }
          where
            none_put : r ≡ 0 → p < ring_slots run.setup + n_of run.setup.order → (o : Option ℕ) → marked t.puts p ≡ o → mark_or (marked t.puts p) ≡ 0
            none_put ring last None is = rw is refl
            none_put ring last (Some q) is =
                let drawn = marks.puts_only p q is in
                let past = drawn_past run rec fin.is_run drawn.0 drawn.1 r p drawn.2 ring in
                absurd (omega arith)
        of_maker (by_call s y v done) =
            let e = done_draw run rec fin.is_run s y r p v done in
            let drawn = put_before_got run rec fin.is_run k x r p w end e.at s e.draws in
            let low = took_low in
            let put = put_mark t.decisions.items (mark_or (marked t.puts p)) p in
            let early : (d j z : ℕ) → IsDecidingStep run d j z r → (state_before run d).cells.head r ≤ p → d ≤ end.draw.at =
            λ d j z decides head. drawn_later run rec fin.is_run d end.draw.at k r p head end.draw.draws in
            let below = end.draw.before in
            let point_is = put_point s y p put.0 v done e (omega arith)
            (λ d j z decides head before. (let order = early d j z decides head in omega arith)) put.1 in
            let first : mark_or (marked t.puts p) ≡ e.at + 1 = ap mark_or (marks.puts e.at s p (omega arith) e.draws) in
            let from = put.1.from_first in
            let gets = got_first in
            let high : put.0 ≤ max (end.draw.at + 1) (e.at + 1) =
            elim put.1.reached [
              | inl own ↦ omega arith
              | inr one ↦
                  let of = marks.decisions_only one.0 one.1 in
                  let head = of.head in let near = one.2 in let point_of = of.point in let same = one.3 in
                  let order = early of.at of.seat of.call of.is (omega arith) in
                  omega arith
            ] in
            record { drawn = end.draw.at; draws = end.draw.draws; put = put.0; of_put = of_call s y put.0 v done point_is; is = omega arith }
