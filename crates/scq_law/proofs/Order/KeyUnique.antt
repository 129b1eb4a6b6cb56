-- One key for each member, and one member for each key: a call decides once, and a place is placed and got once.
use Rattle.std.proofs.Common.{◌≡◌, ℕ, ◌+◌, ◌<◌, ◌≤◌, ◌⊎◌, inl, inr, true, false, List, [], ◌∷◌, length, refl, ap, sym, ◌∙◌, arith}
use Rattle.std.specs.Prelude.{Option, Some, slice_get}
use Rattle.std.proofs.lemmas.Bool.{cases_lt, cases_eq}
use Rattle.std.proofs.lemmas.List.{length-append}
use Rattle.scq_word.specs.declared.setup.Setup.{Setup}
use Rattle.scq_word.specs.Exports.{n_of}
use Rattle.scq_core.specs.declared.ended.Ended.TheVariants.{Done, Got, Nothing}
use Rattle.scq_core.specs.declared.step.Step.{Step}
use Rattle.scq_core.specs.Exports.{SeatPart, resting, drawing, putting, landed, seeking, trying, gave_up, stance_of, ring_slots}
use Rattle.scq_core.specs.Machine.{Machine}
use Rattle.scq_law.specs.Exports.{call_of, in_record, Recorded, IsRun, IsFinishedRun, HasEnded, state_before, last_state, IsDecidingStep, IsPutPoint}
use Rattle.scq_law.specs.Exports.{Key, key, HasKey, of_nothing, of_put, of_get}
use Rattle.scq_law.proofs.Base.EventFacts.{stance, EventFacts}
use Rattle.scq_law.proofs.Base.TicketEvents.{TicketEvent, calm, drew, fell, laid, finished, entered, refused, began, died, saw_end, lifted, taken, lowered, emptied, overran}
use Rattle.scq_law.proofs.Places.PlaceLaws.{places_once}
use Rattle.scq_law.proofs.Threshold.EmptyDecisions as law
use Rattle.scq_law.specs.declared.ordered.Ordered.{Ordered}
use Rattle.scq_law.specs.declared.ordered.Ordered.TheVariants.{Opening, Call}
use Rattle.scq_law.specs.RunSteps.{Run}
use Rattle.scq_law.specs.Order.{of_opening}
use Rattle.scq_law.proofs.Order.RunStates.{step_facts}
use Rattle.scq_law.proofs.Order.RunDraws.{makes_is, follow_run}
use Rattle.scq_law.proofs.Order.Decisions.{deciding, within}
use Rattle.scq_law.proofs.Order.DrawOrder.{drawn_past}
use Rattle.scq_law.proofs.Order.PointLemmas.{CallKey, nothing_key, put_key, get_key, call_key, put_points_rise, get_points_rise}
use Rattle.scq_law.proofs.Order.KeyLemmas.{GetMember, get_of, last_reached, got_once, opening_key}
use Rattle.scq_law.proofs.Order.CallEnds.{calls_grow}
use Rattle.scq_law.proofs.Order.MarkedSteps.{no_decision}

-- a seat that leaves goes on leaving, until its call ends
leaves_on : (c : Setup) (m : Machine) (k : ℕ) (e : TicketEvent) (n : Machine) {g : _} (facts : EventFacts c m g k e n) (q h : ℕ) → stance m k ≡ gave_up q h true
    → (stance n k ≡ gave_up q h true) ⊎ (length (n.part k).calls ≡ length (m.part k).calls + 1)
leaves_on c m k calm n facts q h at = inl (facts.stance ∙ at)
leaves_on c m k (drew r i w t) n facts q h at =
    elim facts.proper.was [
      | inl a ↦ let both : resting ≡ gave_up q h true = sym a.rests ∙ at in absurd (cc)
      | inr a ↦ let both : drawing r i w ≡ gave_up q h true = sym a ∙ at in absurd (cc)
    ]
leaves_on c m k (fell r i w t z) n facts q h at = let both : putting r i w t ≡ gave_up q h true = sym facts.proper.was ∙ at in absurd (cc)
leaves_on c m k (laid r i w t) n facts q h at = let both : putting r i w t ≡ gave_up q h true = sym facts.proper.was ∙ at in absurd (cc)
leaves_on c m k (finished r i w t) n facts q h at = let both : landed r i w t ≡ gave_up q h true = sym facts.proper.was ∙ at in absurd (cc)
leaves_on c m k (entered r) n facts q h at = let both : resting ≡ gave_up q h true = sym facts.proper.was.rests ∙ at in absurd (cc)
leaves_on c m k (refused r) n facts q h at = let both : resting ≡ gave_up q h true = sym facts.proper.was.rests ∙ at in absurd (cc)
leaves_on c m k (began r u) n facts q h at = let both : seeking r ≡ gave_up q h true = sym facts.proper.was ∙ at in absurd (cc)
leaves_on c m k (died r u) n facts q h at = let both : trying r u ≡ gave_up q h true = sym facts.proper.was ∙ at in absurd (cc)
leaves_on c m k (saw_end r u) n facts q h at = let both : gave_up r u false ≡ gave_up q h true = sym facts.proper.was ∙ at in absurd (cc)
leaves_on c m k (lifted r u to) n facts q h at = inl (facts.stance ∙ sym facts.proper.was ∙ at)
leaves_on c m k (taken r u i w) n facts q h at = let both : trying r u ≡ gave_up q h true = sym facts.proper.was ∙ at in absurd (cc)
leaves_on c m k (lowered r u) n facts q h at = let both : gave_up r u false ≡ gave_up q h true = sym facts.proper.was ∙ at in absurd (cc)
leaves_on c m k (emptied r u) n facts q h at = inr (ap length facts.calls ∙ length-append (m.part k).calls (Nothing r ∷ []))
leaves_on c m k (overran r u true) n facts q h at = inr (ap length facts.calls ∙ length-append (m.part k).calls _)
leaves_on c m k (overran r u false) n facts q h at = inr (ap length facts.calls ∙ length-append (m.part k).calls _)

-- a deciding event ends its seat's call, or leaves it leaving
decides_on : (c : Setup) (m : Machine) (k : ℕ) (e : TicketEvent) (n : Machine) {g : _} (facts : EventFacts c m g k e n) (r : ℕ) → law.DecidesEmpty m k e r
    → ((h : ℕ) × (stance n k ≡ gave_up r h true)) ⊎ (length (n.part k).calls ≡ length (m.part k).calls + 1)
decides_on c m k e n facts r (law.by_refusal u) = inr (ap length facts.calls ∙ length-append (m.part k).calls (Nothing u ∷ []))
decides_on c m k e n facts r (law.by_end u h) = inl (h, facts.stance)
decides_on c m k e n facts r (law.by_level u h at) = inr (ap length facts.calls ∙ length-append (m.part k).calls (Nothing u ∷ []))

module _ (run : Run) (recorded : Recorded) (is_run : IsRun run.setup run.opening run.steps recorded) where
  -- after its deciding step a call leaves, while it is under way
  pub leaves_after : (d k x r : ℕ) → IsDecidingStep run d k x r → (j : ℕ) → j ≤ length run.steps → d < j → length ((state_before run j).part k).calls ≡ x
      → (h : ℕ) × (stance (state_before run j) k ≡ gave_up r h true)
  leaves_after d k x r is =
      follow_run (length run.steps) (λ j. d < j → length ((state_before run j).part k).calls ≡ x → (h : ℕ) × (stance (state_before run j) k ≡ gave_up r h true))
      (λ less at. absurd (omega arith))
      (λ j low old less at.
      let f = step_facts run recorded is_run j low in
      elim (cases_eq d j) [
        | inl same ↦
            let here : IsDecidingStep run j k x r = rw (← same) is in
            let seat = (makes_is run j k here.turn f here.makes).seat in
            let start = here.in_call.in_call in
            elim (decides_on run.setup (state_before run j) f.seat _ (state_before run (j + 1)) f.event.event_facts r
            (deciding run recorded is_run j k x r low here)) [
              | inl leaves ↦ (leaves.0, ap (stance (state_before run (j + 1))) seat ∙ leaves.1)
              | inr more ↦
                  let long : length ((state_before run (j + 1)).part k).calls ≡ length ((state_before run j).part k).calls + 1 =
                  rw seat more in absurd (omega arith)
            ]
        | inr apart ↦
            let up = calls_grow run recorded is_run d j k (omega arith) in
            let down = calls_grow run recorded is_run j (j + 1) k (omega arith) in
            let start = is.in_call.in_call in
            let before = old (omega arith) (omega arith) in
            elim (cases_eq k f.seat) [
              | inl seat ↦
                  elim (leaves_on run.setup (state_before run j) f.seat _ (state_before run (j + 1)) f.event.event_facts r before.0
                  (ap (stance (state_before run j)) (sym seat) ∙ before.1)) [
                    | inl on ↦ (before.0, ap (stance (state_before run (j + 1))) seat ∙ on)
                    | inr more ↦
                        let long : length ((state_before run (j + 1)).part k).calls ≡ length ((state_before run j).part k).calls + 1 = rw seat more in
                        absurd (omega arith)
                  ]
              | inr other_seat ↦
                  (before.0, ap (λ (p : SeatPart). stance_of p.phase) (f.event.event_facts.others k other_seat) ∙ before.1)
            ]
      ])

  -- a call decides once
  no_second : (d e k x r q : ℕ) → d < e → IsDecidingStep run d k x r → IsDecidingStep run e k x q → ⊥
  no_second d e k x r q less first second =
      let low = within run recorded is_run e run.steps second.makes.there in
      let f = step_facts run recorded is_run e low in
      let seat = (makes_is run e k second.turn f second.makes).seat in
      let leaves = leaves_after d k x r first e (omega arith) less second.in_call.in_call in
      no_decision run.setup (state_before run e) f.seat _ (state_before run (e + 1)) f.event.event_facts q r leaves.0
      (deciding run recorded is_run e k x q low second) (ap (stance (state_before run e)) (sym seat) ∙ leaves.1)

  pub one_decision : (d e k x r q : ℕ) → IsDecidingStep run d k x r → IsDecidingStep run e k x q → d ≡ e
  one_decision d e k x r q first second =
      elim (cases_lt d e) [
        | inl less ↦ absurd (no_second d e k x r q less first second)
        | inr high ↦
            elim (cases_eq d e) [ inl same ↦ same | inr apart ↦ absurd (no_second e d k x q r (omega arith) second first) ]
      ]

  -- each member has one key
  one_call_key : (r k x : ℕ) (f g : Key) → CallKey run r k x f → CallKey run r k x g → f ≡ g
  one_call_key r k x f g (nothing_key d ended is same) (nothing_key b done at also) =
      let step = one_decision d b k x r r is at in
      same ∙ ap (λ (z : ℕ). key (z + 1) 0 0) step ∙ sym also
  one_call_key r k x f g (nothing_key d ended is same) (put_key p point w done at also) = let both = sym ended ∙ done in absurd (cc)
  one_call_key r k x f g (nothing_key d ended is same) (get_key p point w done at also) = let both = sym ended ∙ done in absurd (cc)
  one_call_key r k x f g (put_key p point w ended is same) (nothing_key b done at also) = let both = sym ended ∙ done in absurd (cc)
  one_call_key r k x f g (put_key p point w ended is same) (put_key q least v done at also) =
      let both : Some (Done r p w) ≡ Some (Done r q v) = sym ended ∙ done in
      let place : p ≡ q = cc in
      let up = put_points_rise run recorded is_run k x k x r p q point least w v (omega arith) done is at in
      let down = put_points_rise run recorded is_run k x k x r q p least point v w (omega arith) ended at is in
      let points : point ≡ least = omega arith in
      same ∙ ap (λ (z : ℕ). key z 1 p) points ∙ ap (λ (z : ℕ). key least 1 z) place ∙ sym also
  one_call_key r k x f g (put_key p point w ended is same) (get_key q least v done at also) = let both = sym ended ∙ done in absurd (cc)
  one_call_key r k x f g (get_key p point w ended is same) (nothing_key b done at also) = let both = sym ended ∙ done in absurd (cc)
  one_call_key r k x f g (get_key p point w ended is same) (put_key q least v done at also) = let both = sym ended ∙ done in absurd (cc)
  one_call_key r k x f g (get_key p point w ended is same) (get_key q least v done at also) =
      let both : Some (Got r p w) ≡ Some (Got r q v) = sym ended ∙ done in
      let place : p ≡ q = cc in
      let up = get_points_rise run recorded is_run k k r p q point least (omega arith) is at in
      let down = get_points_rise run recorded is_run k k r q p least point (omega arith) at is in
      let points : point ≡ least = omega arith in
      same ∙ ap (λ (z : ℕ). key z 2 p) points ∙ ap (λ (z : ℕ). key least 2 z) place ∙ sym also

  pub one_key : (r : ℕ) (y : Ordered) (f g : Key) → HasKey run r y f → HasKey run r y g → f ≡ g
  one_key r y f g (of_opening j ring low) other_key = sym (opening_key run r y g other_key j refl)
  one_key r y f g (of_nothing s c d ended is) other_key =
      one_call_key r s c f g (nothing_key d ended is refl) (call_key run r y g other_key s c refl)
  one_key r y f g (of_put s c p point w ended is) other_key =
      one_call_key r s c f g (put_key p point w ended is refl) (call_key run r y g other_key s c refl)
  one_key r y f g (of_get s c p point w ended is) other_key =
      one_call_key r s c f g (get_key p point w ended is refl) (call_key run r y g other_key s c refl)

-- a Nothing, by its key, and a put
record NothingMember (run : Run) (r : ℕ) (y : Ordered) (f : Key) : Type 0 where
  at : ℕ
  seat : ℕ
  call : ℕ
  is : y ≡ Call seat (call + 1)
  step : IsDecidingStep run at seat call r
  point : f.point ≡ at + 1

nothing_of : (run : Run) (r : ℕ) (y : Ordered) (f : Key) → HasKey run r y f → f.kind ≡ 0 → NothingMember run r y f
nothing_of run r y f (of_opening j ring low) kind = absurd (omega arith)
nothing_of run r y f (of_nothing s c d ended is) kind = record { at = d; seat = s; call = c; is = refl; step = is; point = refl }
nothing_of run r y f (of_put s c p point w ended is) kind = absurd (omega arith)
nothing_of run r y f (of_get s c p point w ended is) kind = absurd (omega arith)

data PutMember (run : Run) (r : ℕ) (y : Ordered) (f : Key) : Type 0 where
  opening_member : (j : ℕ) → y ≡ Opening j → r ≡ 0 → j < n_of run.setup.order → f.place ≡ ring_slots run.setup + j → PutMember run r y f
  call_member : (s c : ℕ) (w : List ℕ) → y ≡ Call s (c + 1) → HasEnded run s c (Done r f.place w) → IsPutPoint run s c r f.place f.point → PutMember run r y f

put_member : (run : Run) (r : ℕ) (y : Ordered) (f : Key) → HasKey run r y f → f.kind ≡ 1 → PutMember run r y f
put_member run r y f (of_opening j ring low) kind = opening_member j refl ring low refl
put_member run r y f (of_nothing s c d ended is) kind = absurd (omega arith)
put_member run r y f (of_put s c p point w ended is) kind = call_member s c w refl ended is
put_member run r y f (of_get s c p point w ended is) kind = absurd (omega arith)

module _ (run : Run) (fin : IsFinishedRun run) (r : ℕ) where
  one_nothing : (y z : Ordered) (f g : Key) → NothingMember run r y f → NothingMember run r z g → f.point ≡ g.point → y ≡ z
  one_nothing y z f g first second same =
      let a = first.point in
      let b = second.point in
      let steps : first.at ≡ second.at = omega arith in
      let there : ◌≡◌ {A = Option (ℕ × Step)} (Some (first.seat, first.step.makes.step)) (Some (second.seat, second.step.makes.step)) =
      sym first.step.makes.there ∙ ap (slice_get run.steps) steps ∙ second.step.makes.there in
      let seat : first.seat ≡ second.seat = seat_of there in
      let call : first.call ≡ second.call =
      sym first.step.in_call.in_call ∙ ap (λ (d : ℕ). length ((state_before run d).part first.seat).calls) steps
      ∙ ap (λ (k : ℕ). length ((state_before run second.at).part k).calls) seat ∙ second.step.in_call.in_call in
      first.is ∙ ap (λ (k : ℕ). Call k (first.call + 1)) seat ∙ ap (λ (x : ℕ). Call second.seat (x + 1)) call ∙ sym second.is
    where
      seat_of : {k h : ℕ} {s u : Step} → ◌≡◌ {A = Option (ℕ × Step)} (Some (k, s)) (Some (h, u)) → k ≡ h
      seat_of {k = k} {h = h} {s = s} {u = u} is = let pair : ◌≡◌ {A = ℕ × Step} (k, s) (h, u) = cc in ap (λ (x : ℕ × Step). x.0) pair

  one_put : (y z : Ordered) (f g : Key) → PutMember run r y f → PutMember run r z g → f.place ≡ g.place → y ≡ z
  one_put y z f g (opening_member i is ring low at) (opening_member j also base small here) same =
      let index : i ≡ j = omega arith in is ∙ ap Opening index ∙ sym also
  one_put y z f g (opening_member i is ring low at) (call_member s c w also ended point) same =
      let past = drawn_past run fin.recorded fin.is_run point.drawn s r g.place point.draws ring in absurd (omega arith)
  one_put y z f g (call_member s c w is ended point) (opening_member j also ring low at) same =
      let past = drawn_past run fin.recorded fin.is_run point.drawn s r f.place point.draws ring in absurd (omega arith)
  one_put y z f g (call_member s c w is ended point) (call_member h x v also done least) same =
      let here : HasEnded run h x (Done r f.place v) = rw same done in
      let one = (places_once run.setup (last_state run) (last_reached run fin)).once r f.place w v (call_of s c) (call_of h x) (in_record s c ended)
      (in_record h x here) in
      let makers : call_of s c ≡ call_of h x = one.0 in
      let seat : s ≡ h = cc in
      let call : c ≡ x = cc in
      is ∙ ap (λ (k : ℕ). Call k (c + 1)) seat ∙ ap (λ (n : ℕ). Call h (n + 1)) call ∙ sym also

  one_get : (y z : Ordered) (f g : Key) → GetMember run r y f → GetMember run r z g → f.place ≡ g.place → y ≡ z
  one_get y z f g first second same =
      let here : HasEnded run second.seat second.call (Got r f.place second.content) = rw same second.ended in
      let one = got_once run fin r f.place first.seat first.call second.seat second.call first.content second.content first.ended here in
      first.is ∙ ap (λ (k : ℕ). Call k (first.call + 1)) one.0 ∙ ap (λ (x : ℕ). Call second.seat (x + 1)) one.1 ∙ sym second.is

  -- one member for each key
  pub one_member : (y z : Ordered) (f g : Key) → HasKey run r y f → HasKey run r z g → f ≡ g → y ≡ z
  one_member y z f g (of_opening j ring low) other_key same =
      one_put y z f g (opening_member j refl ring low refl) (put_member run r z g other_key (sym (ap (λ (k : Key). k.kind) same))) (ap (λ
      (k : Key). k.place) same)
  one_member y z f g (of_nothing s c d ended is) other_key same =
      one_nothing y z f g (record { at = d; seat = s; call = c; is = refl; step = is; point = refl })
      (nothing_of run r z g other_key (sym (ap (λ (k : Key). k.kind) same))) (ap (λ (k : Key). k.point) same)
  one_member y z f g (of_put s c p point w ended is) other_key same =
      one_put y z f g (call_member s c w refl ended is) (put_member run r z g other_key (sym (ap (λ (k : Key). k.kind) same))) (ap (λ (k : Key). k.place) same)
  one_member y z f g (of_get s c p point w ended is) other_key same =
      one_get y z f g (record { seat = s; call = c; content = w; is = refl; ended = ended; point = is })
      (get_of run r z g other_key (sym (ap (λ (k : Key). k.kind) same))) (ap (λ (k : Key). k.place) same)
