-- The marks after one step more. Plan: the note says which ticket the step draws, or that it decides; what was marked of earlier steps
-- stays; and the call that the step ends has its point from what is marked by then.
use Rattle.std.proofs.Common.{◌≡◌, ℕ, zero, suc, ◌+◌, ◌-◌, ◌<◌, ◌≤◌, ◌⊎◌, inl, inr, true, false, List, [], ◌∷◌, ◌++◌, length, get_or, append-nil, refl, ap, sym, ◌∙◌, subst, arith, eqb-true}
use Rattle.std.specs.Prelude.{Some, None, Option, slice_get, slice_index, slice_set, ◌==◌}
use Rattle.std.specs.List.{Contains}
use Rattle.std.proofs.lemmas.Bool.{cases_eq}
use Rattle.std.proofs.lemmas.List.Elements.{Contains-append_left, Contains-push, Contains-push_cases, Contains-get_or}
use Rattle.std.proofs.lemmas.List.Sorted.{IsNonDecreasingBy-push}
use Rattle.std.proofs.lemmas.List.{length-append}
use Rattle.std.proofs.lemmas.Option.{slice_get_within}
use Rattle.scq_word.specs.declared.setup.Setup.{Setup}
use Rattle.scq_core.specs.declared.ended.Ended.{Ended}
use Rattle.scq_core.specs.declared.ended.Ended.TheVariants.{Done, Got, Nothing, Spent}
use Rattle.scq_core.specs.declared.phase.Phase.{Phase}
use Rattle.scq_core.specs.Exports.{SeatPart, resting, gave_up, stance_of}
use Rattle.scq_core.specs.Machine.{Machine}
use Rattle.scq_core.proofs.UpdatedLemmas.{updated_here, updated_else}
use Rattle.scq_law.specs.Exports.{ended_in, Counts, Recorded, marked, note_of, puts_by, gets_by, decided_by, decisions_by, calls_by, mark_or, is_on}
use Rattle.scq_law.specs.Exports.{Rise, IsMarkedKey, AddsMember, AddsStep, key, HasKey, of_nothing, of_put, of_get, Decides, IsDecidingStep}
use Rattle.scq_law.specs.Exports.{IsFinishedRun, DrawsPut, DrawsGet, HasEnded, state_before}
use Rattle.scq_law.proofs.Base.EventFacts.{stance, EventFacts}
use Rattle.scq_law.proofs.Base.TicketEvents.{TicketEvent, calm, drew, fell, laid, finished, entered, refused, began, died, saw_end, lifted, taken, lowered, emptied, overran, ended_by}
use Rattle.scq_law.proofs.Base.Traces.{event_of}
use Rattle.scq_law.proofs.Base.TurnOrigins.{came_from, goes_from}
use Rattle.scq_law.proofs.Places.RecordsAgree.{call_was, call_last, ended_few}
use Rattle.scq_law.proofs.Replays.TurnRecording.{counts_updated}
use Rattle.scq_law.proofs.Threshold.EmptyDecisions as law
use Rattle.scq_law.specs.declared.marks.Decision.{Decision}
use Rattle.scq_law.specs.declared.marks.Marks.{Marks}
use Rattle.scq_law.specs.declared.marks.Member.{Member}
use Rattle.scq_law.specs.declared.note.Note.{Note}
use Rattle.scq_law.specs.declared.note.Note.TheVariants as note
use Rattle.scq_law.specs.declared.ordered.Ordered.TheVariants.{Call}
use Rattle.scq_law.specs.RunSteps.{Run}
use Rattle.scq_law.proofs.Order.RunStates.{StepFacts, step_facts}
use Rattle.scq_law.proofs.Order.RunDraws.{makes_is, rise}
use Rattle.scq_law.proofs.Order.Decisions.{deciding, stands_in}
use Rattle.scq_law.proofs.Order.DrawOrder.{put_draws_rise, get_draws_rise}
use Rattle.scq_law.proofs.Aspects.EndedCalls.{first_of_calls, ended_none}
use Rattle.scq_law.proofs.Order.CallEnds.{step_end, EndsEmpty, decided, left, ends_empty, call_kept, calls_grow, saw_decides}
use Rattle.scq_law.proofs.Order.NoteLemmas.{NoteTells, told}
use Rattle.scq_law.proofs.Order.MarkFacts.{Leaves, IsNoted, IsMarked, puts_cases, gets_cases, decided_cases, done_point, got_point}

-- after a deciding event, or one that goes on, the seat leaves only where it saw the end or left before
pub leaving_from : (c : Setup) (m : Machine) (k : ℕ) (e : TicketEvent) (n : Machine) {g : _} (facts : EventFacts c m g k e n) (r h : ℕ)
    → stance n k ≡ gave_up r h true
    → (stance m k ≡ gave_up r h true) ⊎ (e ≡ saw_end r h)
leaving_from c m k calm n facts r h at = inl (sym facts.stance ∙ at)
leaving_from c m k (drew q i w t) n facts r h at = let both = sym facts.stance ∙ at in absurd (cc)
leaving_from c m k (fell q i w t z) n facts r h at = let both = sym facts.stance ∙ at in absurd (cc)
leaving_from c m k (laid q i w t) n facts r h at = let both = sym facts.stance ∙ at in absurd (cc)
leaving_from c m k (finished q i w t) n facts r h at = let both = sym facts.stance ∙ at in absurd (cc)
leaving_from c m k (entered q) n facts r h at = let both = sym facts.stance ∙ at in absurd (cc)
leaving_from c m k (refused q) n facts r h at = let both = sym facts.stance ∙ at in absurd (cc)
leaving_from c m k (began q u) n facts r h at = let both = sym facts.stance ∙ at in absurd (cc)
leaving_from c m k (died q u) n facts r h at = let both : gave_up q u false ≡ gave_up r h true = sym facts.stance ∙ at in absurd (cc)
leaving_from c m k (saw_end q u) n facts r h at =
    let both : gave_up q u true ≡ gave_up r h true = sym facts.stance ∙ at in
    let ring : q ≡ r = cc in
    let ticket : u ≡ h = cc in inr (rw (ring, ticket) refl)
leaving_from c m k (lifted q u to) n facts r h at = inl (facts.proper.was ∙ sym facts.stance ∙ at)
leaving_from c m k (taken q u i w) n facts r h at = let both = sym facts.stance ∙ at in absurd (cc)
leaving_from c m k (lowered q u) n facts r h at = let both = sym facts.stance ∙ at in absurd (cc)
leaving_from c m k (emptied q u) n facts r h at = let both = sym facts.stance ∙ at in absurd (cc)
leaving_from c m k (overran q u z) n facts r h at = let both = sym facts.stance ∙ at in absurd (cc)

-- a seat that leaves makes no deciding event
pub no_decision : (c : Setup) (m : Machine) (k : ℕ) (e : TicketEvent) (n : Machine) {g : _} (facts : EventFacts c m g k e n) (r q h : ℕ) → law.DecidesEmpty m k e r
    → stance m k ≡ gave_up q h true → ⊥
no_decision c m k e n facts r q h (law.by_refusal u) at =
    let was : stance m k ≡ resting = facts.proper.was.rests in let both : resting ≡ gave_up q h true = sym was ∙ at in cc
no_decision c m k e n facts r q h (law.by_end u t) at = let both : gave_up u t false ≡ gave_up q h true = sym facts.proper.was ∙ at in cc
no_decision c m k e n facts r q h (law.by_level u t low) at = let both : gave_up u t false ≡ gave_up q h true = sym low ∙ at in cc

-- the decisions are those from before, and the one that a note tells of
pub decisions_kept : (n : Note) (point : ℕ) (ds : List Decision) (e : Decision) → Contains ds e → Contains (decisions_by n point ds) e
decisions_kept (note.Decides h) point ds e at = Contains-append_left ds (record { head = h; point = point } ∷ []) e at
decisions_kept n point ds e at = at

pub decisions_cases : (n : Note) (point : ℕ) (ds : List Decision) (e : Decision) → Contains (decisions_by n point ds) e
    → Contains ds e ⊎ ((h : ℕ) × (n ≡ note.Decides h) × (e.head ≡ h) × (e.point ≡ point))
decisions_cases (note.Decides h) point ds e at =
    elim (Contains-push_cases ds (record { head = h; point = point }) e at) [
      | inl old ↦ inl old
      | inr same ↦ inr (h, refl, sym (ap (λ (d : Decision). d.head) same), sym (ap (λ (d : Decision). d.point) same))
    ]
decisions_cases n point ds e at = inl at

-- a decision that a note tells of stands among them
pub decisions_added : (n : Note) (h point : ℕ) (ds : List Decision) → n ≡ note.Decides h
    → Contains (decisions_by n point ds) (record { head = h; point = point })
decisions_added n h point ds is = rw is (Contains-push ds (record { head = h; point = point }))

rise_pushed : (ds : List Decision) (y : Decision) → Rise ds → ((e : Decision) → Contains ds e → (e.head ≤ y.head) × (e.point ≤ y.point)) → Rise (ds ++ y ∷ [])
rise_pushed ds y up last =
    record {
      heads =
          IsNonDecreasingBy-push (λ (d : Decision). d.head) ds y up.heads
          (λ d some. (last (get_or ds (length ds - 1) d) (Contains-get_or ds (length ds - 1) d (omega arith))).0);
      points =
          IsNonDecreasingBy-push (λ (d : Decision). d.point) ds y up.points
          (λ d some. (last (get_or ds (length ds - 1) d) (Contains-get_or ds (length ds - 1) d (omega arith))).1);
    }

rise_noted : (n : Note) (point : ℕ) (ds : List Decision) → Rise ds → ((h : ℕ) → n ≡ note.Decides h → (e : Decision) → Contains ds e
    → (e.head ≤ h) × (e.point ≤ point))
    → Rise (decisions_by n point ds)
rise_noted (note.Decides h) point ds up last = rise_pushed ds (record { head = h; point = point }) up (λ e at. last h refl e at)
rise_noted n point ds up last = up

-- a list with one more at its end
pub pushed_cases : {A : Type 0} (xs : List A) (y : A) (a : ℕ) (x : A) → slice_get (xs ++ y ∷ []) a ≡ Some x
    → (slice_get xs a ≡ Some x) ⊎ ((a ≡ length xs) × (y ≡ x))
pushed_cases [] y zero x is = inr (refl, cc)
pushed_cases [] y (suc a) x is = absurd (cc)
pushed_cases (z ∷ xs) y zero x is = inl is
pushed_cases (z ∷ xs) y (suc a) x is =
    elim (pushed_cases xs y a x is) [ inl old ↦ inl old | inr new ↦ inr (ap suc new.0, new.1) ]

-- what the members become
data Members (run : Run) (r seat number : ℕ) (u : Marks) (old new : List Member) : Option Ended → Type 0 where
  stay : {o : Option Ended} → ((e : Ended) → o ≡ Some e → is_on r e ≡ false) → new ≡ old → Members run r seat number u old new o
  grow : (e : Ended) (m : Member) → is_on r e ≡ true → m.ordered ≡ Call seat number
      → IsMarkedKey (marked u.puts) (marked u.gets) (marked u.decided) u.decisions.items seat e m.key → new ≡ old ++ m ∷ []
      → Members run r seat number u old new (Some e)

unwrapped : (x y : Ended) → Some x ≡ Some y → x ≡ y
unwrapped x y is = cc

members_of : (run : Run) (r seat number : ℕ) (u : Marks) (old new : List Member) (o : Option Ended)
    → AddsMember r (marked u.puts) (marked u.gets) (marked u.decided) u.decisions.items seat number o old new → Members run r seat number u old new o
members_of run r seat number u old new None adds = stay (λ e is. absurd (cc)) adds
members_of run r seat number u old new (Some e) adds =
    elim adds [
      | inl none ↦ stay (λ x (is : Some e ≡ Some x). subst (λ (y : Ended). is_on r y ≡ false) (unwrapped e x is) none.0) none.1
      | inr one ↦ grow e one.0 one.1 one.2 one.3 one.4
    ]

-- a list with a first element and at most one
only_one : (xs : List Ended) (e : Ended) → length xs ≤ 1 → first_of_calls xs ≡ Some e → xs ≡ e ∷ []
only_one [] e few is = absurd (cc)
only_one (x ∷ []) e few is = let same : x ≡ e = cc in ap (λ z. z ∷ []) same
only_one (x ∷ y ∷ xs) e few is = absurd (omega arith)

pub no_one : (xs : List Ended) → first_of_calls xs ≡ None → xs ≡ []
no_one [] is = refl
no_one (x ∷ xs) is = absurd (cc)

module _ (run : Run) (fin : IsFinishedRun run) (r i : ℕ) (f : StepFacts run i) (t u : Marks) (marks : IsMarked run r i t)
    (adds : AddsStep run.setup f.seat f.step (state_before run i) (state_before run (i + 1)) (i + 1) t u) where
  abbrev rec : Recorded
  rec = fin.recorded

  abbrev m : Machine
  m = state_before run i

  abbrev later : Machine
  later = state_before run (i + 1)

  -- the note of the step
  abbrev n : Note
  n = note_of run.setup m.cells t.ring (m.part f.seat).phase f.step

  abbrev e : TicketEvent
  e = event_of run.setup m f.turn

  tell : NoteTells run r i f n
  tell = subst (λ (q : ℕ). NoteTells run q i f n) marks.ring (told run t.ring i f)

  low : i < length run.steps
  low = slice_get_within run.steps i (f.seat, f.step) f.there

  draws_at : (a : ℕ) → a < i + 1 → (a ≡ i) ⊎ (a < i)
  draws_at a before = elim (cases_eq a i) [ inl same ↦ inl same | inr apart ↦ inr (omega arith) ]

  -- the mark of a ticket that was drawn, by this step or before: no ticket is drawn again
  noted_mark : (Draws : ℕ → ℕ → ℕ → Type 0) (mark by old : ℕ → Option ℕ) → ((p : ℕ) → mark p ≡ by p)
      → ((k p : ℕ) → Draws i k p → by p ≡ Some (i + 1)) → ((p : ℕ) → ((j : ℕ) × Draws i j p) ⊎ (by p ≡ old p))
      → ((a k j p : ℕ) → Draws i j p → Draws a k p → i ≤ a) → ((a k p : ℕ) → a < i → Draws a k p → old p ≡ Some (a + 1)) → (a k p : ℕ)
      → a < i + 1 → Draws a k p → mark p ≡ Some (a + 1)
  noted_mark Draws mark by old adds_is now either rises was a k p before draws =
      elim (draws_at a before) [
        | inl same ↦ adds_is p ∙ now k p (subst (λ (z : ℕ). Draws z k p) same draws) ∙ ap (λ (z : ℕ). Some (z + 1)) (sym same)
        | inr less ↦
            elim (either p) [
              | inl new ↦ let back = rises a k new.0 p new.1 draws in absurd (omega arith)
              | inr kept ↦ adds_is p ∙ kept ∙ was a k p less draws
            ]
      ]

  noted : IsNoted run r (i + 1) u
  noted =
      record {
        puts = noted_mark (λ a k p. DrawsPut run a k r p) (marked u.puts) (puts_by n (i + 1) (marked t.puts)) (marked t.puts) adds.puts
            (λ k p here. ap (λ (x : Note). puts_by x (i + 1) (marked t.puts) p) (tell.puts k p here) ∙ updated_here (marked t.puts) p (Some (i + 1)))
            (λ p. elim (puts_cases n (i + 1) (marked t.puts) p) [ inl new ↦ inl (f.seat, tell.put_is p new.0) | inr old ↦ inr old ])
            (λ a k j p here. put_draws_rise run rec fin.is_run i a j k r p p (omega arith) here) marks.noted.puts;
        puts_only =
            λ p q is.
            elim (puts_cases n (i + 1) (marked t.puts) p) [
              | inl new ↦ (i, f.seat, tell.put_is p new.0)
              | inr old ↦ marks.noted.puts_only p q (sym old ∙ sym (adds.puts p) ∙ is)
            ];
        gets = noted_mark (λ a k p. DrawsGet run a k r p) (marked u.gets) (gets_by n (i + 1) (marked t.gets)) (marked t.gets) adds.gets
            (λ k p here. ap (λ (x : Note). gets_by x (i + 1) (marked t.gets) p) (tell.gets k p here) ∙ updated_here (marked t.gets) p (Some (i + 1)))
            (λ p. elim (gets_cases n (i + 1) (marked t.gets) p) [ inl new ↦ inl (f.seat, tell.get_is p new.0) | inr old ↦ inr old ])
            (λ a k j p here. get_draws_rise run rec fin.is_run i a j k r p p (omega arith) here) marks.noted.gets;
        decisions =
            λ d k x before is.
            rw adds.decisions
            (elim (draws_at d before) [
              | inl same ↦
                  let here : IsDecidingStep run i k x r = subst (λ (z : ℕ). IsDecidingStep run z k x r) same is in
                  let told_so = tell.decisions k x here in
                  rw (same, told_so) (Contains-push t.decisions.items (record { head = m.cells.head r; point = i + 1 }))
              | inr less ↦
                  decisions_kept n (i + 1) t.decisions.items (record { head = (state_before run d).cells.head r; point = d + 1 })
                  (marks.noted.decisions d k x less is)
            ]);
        decisions_only =
            λ d at.
            let all : Contains (decisions_by n (i + 1) t.decisions.items) d = rw (← adds.decisions) at in
            elim (decisions_cases n (i + 1) t.decisions.items d all) [
              | inl old ↦
                  let of = marks.noted.decisions_only d old in
                  record {
                    at = of.at;
                    seat = of.seat;
                    call = of.call;
                    is = of.is;
                    before =
                        (let b = of.before in omega arith);
                    head = of.head;
                    point = of.point;
                  }
              | inr new ↦
                  let mine = tell.decision_is new.0 new.1 in
                  record { at = i; seat = f.seat; call = _; is = mine.1; before = omega arith; head = new.2 ∙ mine.0; point = new.3 }
            ];
        rise =
            rw adds.decisions
            (rise_noted n (i + 1) t.decisions.items marks.noted.rise
            (λ h is d at.
            let mine = tell.decision_is h is in
            let of = marks.noted.decisions_only d at in
            let before = of.before in
            let up = (rise run rec fin.is_run of.at i (omega arith)).head r in
            let head = of.head in
            let point = of.point in
            let now = mine.0 in
            (omega arith, omega arith)));
      }

  -- the call that the step ended, as it is seen afterwards
  seen : ended_in (later.part f.seat).phase (later.part f.seat).calls ≡ first_of_calls (ended_by e)
  seen = step_end run i f

  calls_now : (later.part f.seat).calls ≡ (m.part f.seat).calls ++ ended_by e
  calls_now = f.event.event_facts.calls

  other_part : (k : ℕ) → (k ≡ f.seat → ⊥) → later.part k ≡ m.part k
  other_part k apart = f.event.event_facts.others k apart

  -- a seat that goes on has ended no call
  goes_on_calls : (q h : ℕ) → stance later f.seat ≡ gave_up q h true → length (later.part f.seat).calls ≡ length (m.part f.seat).calls
  goes_on_calls q h at =
      let none = ended_none (later.part f.seat).phase (later.part f.seat).calls (λ rests. let both : resting ≡ gave_up q h true = sym rests ∙ at in cc) in
      let empty = no_one (ended_by e) (sym seen ∙ none) in
      ap length (calls_now ∙ ap (λ (xs : List Ended). (m.part f.seat).calls ++ xs) empty ∙ append-nil (m.part f.seat).calls)

  -- the step decides, and its point is marked
  deciding_now : Decides m f.turn r → IsDecidingStep run i f.seat (length (m.part f.seat).calls) r
  deciding_now decides =
      record {
        turn = f.turn;
        makes = record { step = f.step; there = f.there; enabled = f.enabled };
        decides = decides;
        in_call = record { step = f.step; there = f.there; in_call = refl };
      }

  decided_mark : IsDecidingStep run i f.seat (length (m.part f.seat).calls) r → marked u.decided f.seat ≡ Some (i + 1)
  decided_mark step =
      adds.decided f.seat
      ∙ ap (λ (x : Note). decided_by x f.seat (i + 1) (marked t.decided) f.seat) (tell.decisions f.seat (length (m.part f.seat).calls) step)
      ∙ updated_here (marked t.decided) f.seat (Some (i + 1))

  leaves : (k h : ℕ) → stance later k ≡ gave_up r h true → Leaves run r (i + 1) k u
  leaves k h at =
      elim (cases_eq k f.seat) [
        | inl same ↦ rw same (own (rw (← same) at))
        | inr apart ↦
            let part = other_part k apart in
            let was = marks.leaves k h (sym (ap (λ (p : SeatPart). stance_of p.phase) part) ∙ at) in
            record {
              at = was.at;
              is = subst (λ (x : ℕ). IsDecidingStep run was.at k x r) (ap (λ (p : SeatPart). length p.calls) (sym part)) was.is;
              mark =
                  adds.decided k
                  ∙ elim (decided_cases n f.seat (i + 1) (marked t.decided) k) [
                    | inl new ↦ absurd (apart new.2)
                    | inr old ↦ old ∙ was.mark
                  ];
            }
      ]
    where
      own : stance later f.seat ≡ gave_up r h true → Leaves run r (i + 1) f.seat u
      own here =
          let long = goes_on_calls r h here in
          elim (leaving_from run.setup m f.seat e later f.event.event_facts r h here) [
            | inl before ↦
                let was = marks.leaves f.seat h before in
                record {
                  at = was.at;
                  is = subst (λ (x : ℕ). IsDecidingStep run was.at f.seat x r) (sym long) was.is;
                  mark =
                      adds.decided f.seat
                      ∙ elim (decided_cases n f.seat (i + 1) (marked t.decided) f.seat) [
                        | inl new ↦
                            let mine = tell.decision_is new.0 new.1 in
                            absurd (no_decision run.setup m _ _ later (step_facts run rec fin.is_run i low).event.event_facts r r h
                            (deciding run rec fin.is_run i f.seat (length (m.part f.seat).calls) r low mine.1) (seat_again before))
                        | inr old ↦ old ∙ was.mark
                      ];
                }
            | inr saw ↦
                let step = deciding_now (saw_decides run.setup m f.turn r h saw) in
                record {
                  at = i;
                  is = subst (λ (x : ℕ). IsDecidingStep run i f.seat x r) (sym long) step;
                  mark = decided_mark step;
                }
          ]
        where
          seat_again : stance m f.seat ≡ gave_up r h true → stance m (step_facts run rec fin.is_run i low).seat ≡ gave_up r h true
          seat_again before =
              ap (stance m)
              (sym (makes_is run i f.seat f.turn (step_facts run rec fin.is_run i low) (record { step = f.step; there = f.there; enabled = f.enabled })).seat)
              ∙ before

  -- a member from before, or the one that is new
  record NewMember (x : Member) : Type 0 where
    ended : Ended
    is : ended_by e ≡ ended ∷ []
    on : is_on r ended ≡ true
    ordered : x.ordered ≡ Call f.seat (length (m.part f.seat).calls + 1)
    marked_key : IsMarkedKey (marked u.puts) (marked u.gets) (marked u.decided) u.decisions.items f.seat ended x.key

  data Added : Type 0 where
    as_before : ((ended : Ended) → ended_by e ≡ ended ∷ [] → is_on r ended ≡ false) → u.members.items ≡ t.members.items → Added
    with_one : (x : Member) → NewMember x → u.members.items ≡ t.members.items ++ x ∷ [] → Added

  added : Added
  added = go (ended_in (later.part f.seat).phase (later.part f.seat).calls) refl
      (members_of run t.ring f.seat (slice_index t.calls.items f.seat + 1) u t.members.items u.members.items
      (ended_in (later.part f.seat).phase (later.part f.seat).calls) adds.members)
    where
      go : (o : Option Ended) → ended_in (later.part f.seat).phase (later.part f.seat).calls ≡ o
          → Members run t.ring f.seat (slice_index t.calls.items f.seat + 1) u t.members.items u.members.items o → Added
      go o is (stay off same) =
          as_before (λ ended ends. subst (λ (q : ℕ). is_on q ended ≡ false) marks.ring (off ended (sym is ∙ seen ∙ ap first_of_calls ends))) same
      go o is (grow ended x on ordered key_is more) =
          with_one x
          (record {
            ended = ended;
            is = only_one (ended_by e) ended (ended_few e) (sym seen ∙ is);
            on = subst (λ (q : ℕ). is_on q ended ≡ true) marks.ring on;
            ordered = ordered ∙ ap (λ (z : ℕ). Call f.seat (z + 1)) (marks.calls.each f.seat);
            marked_key = key_is;
          })
          more

  kept : (x : Member) → Contains t.members.items x → Contains u.members.items x
  kept x at =
      elim added [
        | as_before off same ↦ rw same at
        | with_one y new more ↦ rw more (Contains-append_left t.members.items (y ∷ []) x at)
      ]

  was : (x : Member) → Contains u.members.items x → Contains t.members.items x ⊎ NewMember x
  was x at =
      elim added [
        | as_before off same ↦ inl (rw (← same) at)
        | with_one y new more ↦
            elim (Contains-push_cases t.members.items y x (rw (← more) at)) [
              | inl old ↦ inl old
              | inr same ↦ inr (subst NewMember same new)
            ]
      ]

  -- the new member has the key of its call
  new_key : (x : Member) → NewMember x → HasKey run r x.ordered (key x.key.0 x.key.1 x.key.2)
  new_key x new =
      rw new.ordered (of_ended new.ended (now new.ended new.is) (call_kept run rec fin.is_run (i + 1) (length run.steps) f.seat _ new.ended (up)
      (now new.ended new.is))
      new.is new.on new.marked_key)
    where
      up : i + 1 ≤ length run.steps
      up = let below = low in omega arith

      now : (ended : Ended) → ended_by e ≡ ended ∷ [] → slice_get (later.part f.seat).calls (length (m.part f.seat).calls) ≡ Some ended
      now ended is = rw (calls_now, is) (call_last (m.part f.seat).calls ended)

      ring_of_test : (q : ℕ) → (q == r) ≡ true → q ≡ r
      ring_of_test q on = eqb-true q r on

      of_ended : (ended : Ended) → slice_get (later.part f.seat).calls (length (m.part f.seat).calls) ≡ Some ended
          → HasEnded run f.seat (length (m.part f.seat).calls) ended → ended_by e ≡ ended ∷ [] → is_on r ended ≡ true
          → IsMarkedKey (marked u.puts) (marked u.gets) (marked u.decided) u.decisions.items f.seat ended x.key
          → HasKey run r (Call f.seat (length (m.part f.seat).calls + 1)) (key x.key.0 x.key.1 x.key.2)
      of_ended (Done q p w) here ended is on key_is =
          let ring = ring_of_test q on in
          let mine : HasEnded run f.seat (length (m.part f.seat).calls) (Done r p w) = rw (← ring) ended in
          let at : slice_get (later.part f.seat).calls (length (m.part f.seat).calls) ≡ Some (Done r p w) = rw (← ring) here in
          rw (key_is.1, key_is.2)
          (of_put f.seat (length (m.part f.seat).calls) p x.key.0 w mine
          (done_point run fin r (i + 1) u noted f.seat (length (m.part f.seat).calls) p x.key.0 w mine at (key_is.0 noted.rise)))
      of_ended (Got q p w) here ended is on key_is =
          let ring = ring_of_test q on in let mine : HasEnded run f.seat (length (m.part f.seat).calls) (Got r p w) = rw (← ring) ended in
          let at : slice_get (later.part f.seat).calls (length (m.part f.seat).calls) ≡ Some (Got r p w) = rw (← ring) here in
          rw (key_is.1, key_is.2)
          (of_get f.seat (length (m.part f.seat).calls) p x.key.0 w mine
          (got_point run fin r (i + 1) u noted f.seat (length (m.part f.seat).calls) p x.key.0 w mine at key_is.0))
      of_ended (Nothing q) here ended is on key_is =
          let ring = ring_of_test q on in
          let mine : HasEnded run f.seat (length (m.part f.seat).calls) (Nothing r) = rw (← ring) ended in
          let ends : ended_by e ≡ Nothing r ∷ [] = rw (← ring) is in
          rw (key_is.1, key_is.2) (empty mine key_is.0 (ends_empty run.setup m f.turn r ends))
        where
          decided_at : HasEnded run f.seat (length (m.part f.seat).calls) (Nothing r) → x.key.0 ≡ mark_or (marked u.decided f.seat) → (d : ℕ)
              → IsDecidingStep run d f.seat (length (m.part f.seat).calls) r → marked u.decided f.seat ≡ Some (d + 1)
              → HasKey run r (Call f.seat (length (m.part f.seat).calls + 1)) (key x.key.0 0 0)
          decided_at mine point d step mark =
              let is : x.key.0 ≡ d + 1 = point ∙ ap mark_or mark in
              rw is (of_nothing f.seat (length (m.part f.seat).calls) d mine step)

          empty : HasEnded run f.seat (length (m.part f.seat).calls) (Nothing r) → x.key.0 ≡ mark_or (marked u.decided f.seat) → EndsEmpty run.setup m f.turn r
              → HasKey run r (Call f.seat (length (m.part f.seat).calls + 1)) (key x.key.0 0 0)
          empty mine point (decided decides) =
              let step = deciding_now decides in decided_at mine point i step (decided_mark step)
          empty mine point (left h turn) =
              let at : stance m f.seat ≡ gave_up r h true =
              goes_from (m.part f.seat) f.turn (rw turn refl) (came_from run.setup (m.part f.seat) f.step f.turn f.enabled) ∙ ap stance_of turn in
              let was_leaving = marks.leaves f.seat h at in
              decided_at mine point was_leaving.at was_leaving.is
              (adds.decided f.seat
              ∙ elim (decided_cases n f.seat (i + 1) (marked t.decided) f.seat) [
                | inl new ↦
                    let step = (tell.decision_is new.0 new.1).1 in
                    let same = (makes_is run i f.seat step.turn f step.makes).turn_is in
                    absurd (subst (λ (z : Phase). Decides m z r) (same ∙ turn) step.decides)
                | inr old ↦ old ∙ was_leaving.mark
              ])
      of_ended (Spent q z put) here ended is on key_is = absurd (cc)

  -- how many calls each seat has ended
  counts : Counts run.setup.seats u.calls.items (λ k. length (later.part k).calls)
  counts = go (ended_by e) refl
    where
      others_same : (k : ℕ) → (k ≡ f.seat → ⊥) → length (later.part k).calls ≡ length (m.part k).calls
      others_same k apart = ap (λ (p : SeatPart). length p.calls) (other_part k apart)

      go : (xs : List Ended) → ended_by e ≡ xs → Counts run.setup.seats u.calls.items (λ k. length (later.part k).calls)
      go [] none =
          let as_it_was : u.calls.items ≡ t.calls.items =
          adds.calls ∙ ap (λ (o : Option Ended). calls_by f.seat o t.calls.items) (seen ∙ ap first_of_calls none) in
          let own : length (later.part f.seat).calls ≡ length (m.part f.seat).calls =
          ap length (calls_now ∙ ap (λ (xs : List Ended). (m.part f.seat).calls ++ xs) none ∙ append-nil (m.part f.seat).calls) in
          record {
            size = ap length as_it_was ∙ marks.calls.size;
            each =
                λ k.
                ap (λ (xs : List ℕ). slice_index xs k) as_it_was ∙ marks.calls.each k
                ∙ elim (cases_eq k f.seat) [ inl same ↦ rw same (sym own) | inr apart ↦ sym (others_same k apart) ];
          }
      go (x ∷ xs) some =
          let one : xs ≡ [] = (let few = ended_few e in let same = ap length some in short xs (omega arith)) in
          let more : u.calls.items ≡ slice_set t.calls.items f.seat (slice_index t.calls.items f.seat + 1) =
          adds.calls ∙ ap (λ (o : Option Ended). calls_by f.seat o t.calls.items) (seen ∙ ap first_of_calls some) in
          let c = counts_updated run.setup.seats t.calls.items (λ k. length (m.part k).calls) f.seat (slice_index t.calls.items f.seat + 1)
          (length (m.part f.seat).calls + 1) marks.calls f.low (ap (λ z. z + 1) (marks.calls.each f.seat)) in
          let own : length (later.part f.seat).calls ≡ length (m.part f.seat).calls + 1 =
          ap length (calls_now ∙ ap (λ (ys : List Ended). (m.part f.seat).calls ++ ys) (some ∙ ap (λ ys. x ∷ ys) one))
          ∙ length-append (m.part f.seat).calls (x ∷ []) in
          record {
            size = ap length more ∙ c.size;
            each =
                λ k.
                ap (λ (ys : List ℕ). slice_index ys k) more ∙ c.each k
                ∙ elim (cases_eq k f.seat) [
                  | inl same ↦ rw same (updated_here (λ j. length (m.part j).calls) f.seat (length (m.part f.seat).calls + 1) ∙ sym own)
                  | inr apart ↦
                      updated_else (λ j. length (m.part j).calls) f.seat (length (m.part f.seat).calls + 1) k apart ∙ sym (others_same k apart)
                ];
          }
        where
          short : (ys : List Ended) → length ys ≤ 0 → ys ≡ []
          short [] few = refl
          short (y ∷ ys) few = absurd (omega arith)

  done : (k x : ℕ) (ended : Ended) → slice_get (later.part k).calls x ≡ Some ended → is_on r ended ≡ true
      → (y : Member) × Contains u.members.items y × (y.ordered ≡ Call k (x + 1))
  done k x ended is on =
      elim (cases_eq k f.seat) [
        | inl same ↦ rw same (own (rw (← same) is))
        | inr apart ↦
            let old = marks.done k x ended (sym (ap (λ (p : SeatPart). slice_get p.calls x) (other_part k apart)) ∙ is) on in
            (old.0, kept old.0 old.1, old.2)
      ]
    where
      own : slice_get (later.part f.seat).calls x ≡ Some ended → (y : Member) × Contains u.members.items y × (y.ordered ≡ Call f.seat (x + 1))
      own here =
          elim (call_was (m.part f.seat).calls (ended_by e) x ended (ended_few e) (sym (ap (λ (xs : List Ended). slice_get xs x) calls_now) ∙ here)) [
            | inl before ↦ let old = marks.done f.seat x ended before on in (old.0, kept old.0 old.1, old.2)
            | inr new ↦
                elim added [
                  | as_before off same ↦ let clash = off ended new.1 in absurd (cc)
                  | with_one y one more ↦
                      (y, rw more (Contains-push t.members.items y), one.ordered ∙ ap (λ (z : ℕ). Call f.seat (z + 1)) (sym new.0))
                ]
          ]

  below : (y : Member) → Contains u.members.items y → (k z : ℕ) → y.ordered ≡ Call k z → z ≤ length (later.part k).calls
  below y at k z ordered =
      elim (was y at) [
        | inl old ↦
            let before = marks.below y old k z ordered in
            let grown = calls_grow run rec fin.is_run i (i + 1) k (omega arith) in
            omega arith
        | inr new ↦
            let both : Call k z ≡ Call f.seat (length (m.part f.seat).calls + 1) = sym ordered ∙ new.ordered in
            let seat : k ≡ f.seat = cc in
            let number : z ≡ length (m.part f.seat).calls + 1 = cc in
            let long : length (later.part f.seat).calls ≡ length (m.part f.seat).calls + 1 =
            ap length (calls_now ∙ ap (λ (ys : List Ended). (m.part f.seat).calls ++ ys) new.is) ∙ length-append (m.part f.seat).calls (new.ended ∷ []) in
            rw seat (omega arith)
      ]

  apart : (a b : ℕ) (x y : Member) → slice_get u.members.items a ≡ Some x → slice_get u.members.items b ≡ Some y → x.ordered ≡ y.ordered → a ≡ b
  apart a b x y first second same =
      elim added [
        | as_before off is ↦
            marks.apart a b x y (sym (ap (λ (xs : List Member). slice_get xs a) is) ∙ first) (sym (ap (λ (xs : List Member). slice_get xs b) is) ∙ second) same
        | with_one z new more ↦
            let one = pushed_cases t.members.items z a x (sym (ap (λ (xs : List Member). slice_get xs a) more) ∙ first) in
            let two = pushed_cases t.members.items z b y (sym (ap (λ (xs : List Member). slice_get xs b) more) ∙ second) in
            elim one [
              | inl old ↦
                  elim two [
                    | inl also ↦ marks.apart a b x y old also same
                    | inr last ↦ absurd (clash z new x a old (same ∙ ap (λ (v : Member). v.ordered) (sym last.1)))
                  ]
              | inr last ↦
                  elim two [
                    | inl old ↦ absurd (clash z new y b old (sym same ∙ ap (λ (v : Member). v.ordered) (sym last.1)))
                    | inr also ↦ last.0 ∙ sym also.0
                  ]
            ]
      ]
    where
      clash : (z : Member) → NewMember z → (x : Member) (a : ℕ) → slice_get t.members.items a ≡ Some x → x.ordered ≡ z.ordered → ⊥
      clash z new x a at equal =
          let before = marks.below x (stands_in t.members.items a x at) f.seat (length (m.part f.seat).calls + 1) (equal ∙ new.ordered) in
          omega arith

  pub marked_step : IsMarked run r (i + 1) u
  marked_step =
      record {
        ring = adds.ring ∙ marks.ring;
        noted = noted;
        leaves = leaves;
        calls = counts;
        openings = λ j ring small. (let old = marks.openings j ring small in (old.0, kept old.0 old.1, old.2));
        done = done;
        only = λ x at. elim (was x at) [ inl old ↦ marks.only x old | inr new ↦ new_key x new ];
        below = below;
        apart = apart;
      }
