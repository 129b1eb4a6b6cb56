-- The history of a run shows each seat's calls as its record has them. Plan: what a seat has under way in the history is what its phase
-- says; a turn that begins a call has its Start, and one that ends a call its End, whose reply is that of the call in the record. Who
-- placed where something was taken is never recorded otherwise again, since no exchange succeeds there once more.
use Rattle.std.proofs.Common.{◌≡◌, ◌≢◌, ℕ, suc, ◌+◌, ◌-◌, true, false, ◌&&◌, List, [], ◌∷◌, ◌++◌, length, length-append, append-nil, append_assoc, refl, sym, ◌∙◌, ap, subst, inl, inr, arith, eq-eqb, ne_eqb}
use Rattle.std.specs.Prelude.{◌==◌, nat_lt, nat_le, if◌then◌else◌, Option, Some, None, slice_get}
use Rattle.scq_word.specs.declared.setup.Setup.{Setup}
use Rattle.scq_word.specs.Exports.{safe_in, cycle_in, is_none_in}
use Rattle.scq_core.specs.declared.ended.Ended.{Ended}
use Rattle.scq_core.specs.declared.ended.Ended.TheVariants as ended
use Rattle.scq_core.specs.declared.phase.Phase.{Phase}
use Rattle.scq_core.specs.declared.phase.Phase.TheVariants.{Idle, AtE1, AtE2, AtE3, AtE4, AtE5, AtE6, AtD1, AtD2, AtD3, AtD4, AtD5, AtD6, AtD7, AtD8, AtD9, AtD10}
use Rattle.scq_core.specs.declared.step.Step.{Step}
use Rattle.scq_core.specs.Exports.{SeatPart, read, beside, updated_entry, ring_slots, cycle, zero_level, reset_level, turn_of, location_of, after}
use Rattle.scq_core.specs.Exports.{stance_of}
use Rattle.scq_core.proofs.Steady.{either_way}
use Rattle.scq_core.proofs.Turns.{Begins, begins_put, begins_get, begins, awake}
use Rattle.scq_core.proofs.UpdatedLemmas.{updated_here, updated_else, updated_entry_or}
use Rattle.std.proofs.lemmas.Bool.{cases_eq}
use Rattle.scq_hist.specs.declared.events.Call.{Call}
use Rattle.scq_hist.specs.declared.events.Call.TheVariants.{Put, Get}
use Rattle.scq_hist.specs.declared.events.Event.{Event}
use Rattle.scq_hist.specs.declared.events.Event.TheVariants.{Start, End}
use Rattle.scq_hist.specs.declared.events.PutName.{PutName}
use Rattle.scq_hist.specs.declared.events.PutName.TheVariants.{Of}
use Rattle.scq_hist.specs.declared.events.Reply.{Reply}
use Rattle.scq_hist.specs.declared.events.Reply.TheVariants.{Got}
use Rattle.scq_law.specs.Exports.{Maker, Recorded, recorded_reply, starts, end_if_idle, placer_after, recorded_after, recorded_first, IsRun}
use Rattle.scq_law.specs.Exports.{ended_call, calls_from, AskedFor, AllShown, HistoryShowsRecords}
use Rattle.scq_law.proofs.Aspects.CoupledRuns.{IsTiedRun, tied_run_first, tied_run_turn}
use Rattle.scq_law.proofs.Aspects.EventRecording.{starts_none}
use Rattle.scq_law.proofs.Base.Based.{turn_claims, based}
use Rattle.scq_law.proofs.Base.BaseGroup.{Claims}
use Rattle.scq_law.proofs.Base.Ghosts.{Ghost, placed, pending}
use Rattle.scq_law.proofs.Places.RecordsAgree.{call_last}
use Rattle.scq_law.proofs.Places.Throughout.{records_agree}
use Rattle.scq_law.proofs.Replays.RecordedRuns.{all_along}

-- the call that a phase is in the middle of
abbrev call_in : Phase → Option Call
call_in Idle = None
call_in (AtE1 r i w l) = Some (Put r w)
call_in (AtE2 r i w t l) = Some (Put r w)
call_in (AtE3 r i w t e) = Some (Put r w)
call_in (AtE4 r i w t e) = Some (Put r w)
call_in (AtE5 r i w t) = Some (Put r w)
call_in (AtE6 r i w t) = Some (Put r w)
call_in (AtD1 r) = Some (Get r)
call_in (AtD2 r l) = Some (Get r)
call_in (AtD3 r h l) = Some (Get r)
call_in (AtD4 r h) = Some (Get r)
call_in (AtD5 r h e) = Some (Get r)
call_in (AtD6 r h) = Some (Get r)
call_in (AtD7 r h from to) = Some (Get r)
call_in (AtD8 r h from) = Some (Get r)
call_in (AtD9 r h from to) = Some (Get r)
call_in (AtD10 r h leaving) = Some (Get r)

-- what becomes of a seat by its turn: its call has ended as its record says, or goes on
data Became (turn : Phase) (p q : SeatPart) : Type 0 where
  rests : (e : Ended) (call : Call) → q.phase ≡ Idle → q.calls ≡ p.calls ++ e ∷ [] → call_in turn ≡ Some call
      → AskedFor e call → Became turn p q
  goes : (q.phase ≡ Idle → ⊥) → call_in q.phase ≡ call_in turn → q.calls ≡ p.calls → Became turn p q

module _ (c : Setup) (x : ℕ) (y : List ℕ) (p : SeatPart) where
  became : (turn : Phase) → (turn ≡ Idle → ⊥) → Became turn p (after c turn x y p)
  became Idle awake = absurd (awake refl)
  became (AtE1 q i w l) awake =
      either_way (Became (AtE1 q i w l) p) (nat_le c.limit x) _ _ (rests (ended.Spent q x true) (Put q w) refl refl refl (w, refl)) (goes (λ is. cc) refl refl)
  became (AtE2 q i w t l) awake =
      either_way (Became (AtE2 q i w t l) p) (nat_lt (cycle_in (ring_slots c) x) (cycle c t) && is_none_in (ring_slots c) x) _ _
      (either_way (Became (AtE2 q i w t l) p) (safe_in (ring_slots c) x == 1) _ _ (goes (λ is. cc) refl refl) (goes (λ is. cc) refl refl))
      (goes (λ is. cc) refl refl)
  became (AtE3 q i w t e) awake = either_way (Became (AtE3 q i w t e) p) (nat_le x t) _ _ (goes (λ is. cc) refl refl) (goes (λ is. cc) refl refl)
  became (AtE4 q i w t e) awake = either_way (Became (AtE4 q i w t e) p) (x == e) _ _ (goes (λ is. cc) refl refl) (goes (λ is. cc) refl refl)
  became (AtE5 q i w t) awake =
      either_way (Became (AtE5 q i w t) p) (x == reset_level c) _ _ (rests (ended.Done q t w) (Put q w) refl refl refl refl)
      (goes (λ is. cc) refl refl)
  became (AtE6 q i w t) awake = rests (ended.Done q t w) (Put q w) refl refl refl refl
  became (AtD1 q) awake =
      either_way (Became (AtD1 q) p) (nat_lt x zero_level) _ _ (rests (ended.Nothing q) (Get q) refl refl refl refl) (goes (λ is. cc) refl refl)
  became (AtD2 q l) awake =
      either_way (Became (AtD2 q l) p) (nat_le c.limit x) _ _ (rests (ended.Spent q x false) (Get q) refl refl refl refl) (goes (λ is. cc) refl refl)
  became (AtD3 q h l) awake =
      either_way (Became (AtD3 q h l) p) (cycle_in (ring_slots c) x == cycle c h) _ _
      (goes (λ is. cc) refl refl)
      (either_way (Became (AtD3 q h l) p) (nat_lt (cycle_in (ring_slots c) x) (cycle c h)) _ _ (goes (λ is. cc) refl refl) (goes (λ is. cc) refl refl))
  became (AtD4 q h) awake = rests (ended.Got q h y) (Get q) refl refl refl refl
  became (AtD5 q h e) awake = either_way (Became (AtD5 q h e) p) (x == e) _ _ (goes (λ is. cc) refl refl) (goes (λ is. cc) refl refl)
  became (AtD6 q h) awake = either_way (Became (AtD6 q h) p) (nat_le x (h + 1)) _ _ (goes (λ is. cc) refl refl) (goes (λ is. cc) refl refl)
  became (AtD7 q h from to) awake = either_way (Became (AtD7 q h from to) p) (x == from) _ _ (goes (λ is. cc) refl refl) (goes (λ is. cc) refl refl)
  became (AtD8 q h from) awake = goes (λ is. cc) refl refl
  became (AtD9 q h from to) awake = either_way (Became (AtD9 q h from to) p) (nat_le to x) _ _ (goes (λ is. cc) refl refl) (goes (λ is. cc) refl refl)
  became (AtD10 q h true) awake = rests (ended.Nothing q) (Get q) refl refl refl refl
  became (AtD10 q h false) awake =
      either_way (Became (AtD10 q h false) p) (nat_le x zero_level) _ _ (rests (ended.Nothing q) (Get q) refl refl refl refl)
      (goes (λ is. cc) refl refl)

-- what is recorded of a turn's beginning
data Started (seat : ℕ) (phase turn : Phase) : Type 0 where
  goes_on : starts seat phase turn ≡ [] → call_in phase ≡ call_in turn → Started seat phase turn
  begun : (call : Call) → starts seat phase turn ≡ Start seat call ∷ [] → call_in turn ≡ Some call → Started seat phase turn

begun_by : (c : Setup) (hand : List ℕ) (seat : ℕ) (turn : Phase) → Begins c hand turn → Started seat Idle turn
begun_by c hand seat turn (begins_put r i w a b d) = begun (Put r w) refl refl
begun_by c hand seat turn (begins_get r a) = begun (Get r) refl refl

started : (c : Setup) (seat : ℕ) (p : SeatPart) (s : Step) (turn : Phase) → turn_of c p s ≡ Some turn → Started seat p.phase turn
started c seat p s turn enabled =
    elim (begins c p.hand p.spent p.phase s turn enabled) [
      | inl same ↦
          let busy : p.phase ≡ Idle → ⊥ = λ idle. awake c p.hand p.spent p.phase s turn enabled (same ∙ idle) in
          subst (λ (t : Phase). Started seat p.phase t) (sym same) (goes_on (starts_none seat p.phase busy) refl)
      | inr new ↦ subst (λ (ph : Phase). Started seat ph turn) (sym new.0) (begun_by c p.hand seat turn new.2)
    ]

-- and of its end
none_finished : (seat : ℕ) (placer : ℕ → ℕ → PutName) (phase : Phase) (calls : List Ended) → (phase ≡ Idle → ⊥) → end_if_idle seat placer phase calls ≡ []
none_finished seat placer Idle calls busy = absurd (busy refl)
none_finished seat placer phase calls busy = refl

one_finished : (seat : ℕ) (placer : ℕ → ℕ → PutName) (phase : Phase) (calls old : List Ended) (e : Ended) → phase ≡ Idle → calls ≡ old ++ e ∷ []
    → end_if_idle seat placer phase calls ≡ End seat (recorded_reply placer e) ∷ []
one_finished seat placer phase calls old e idle is =
    let long : length (old ++ e ∷ []) ≡ length old + 1 = length-append old (e ∷ []) in
    let last : length (old ++ e ∷ []) - 1 ≡ length old = omega arith in
    rw (idle, is, last, call_last old e) refl

-- what a seat has under way after these events
abbrev pub pending_in : ℕ → Option Call → List Event → Option Call
pending_in k under [] = under
pending_in k under (Start seat call ∷ events) = pending_in k (if seat == k then Some call else under) events
pending_in k under (End seat reply ∷ events) = pending_in k (if seat == k then None else under) events

pub more_calls : (k : ℕ) (under : Option Call) (xs ys : List Event)
    → calls_from k under (xs ++ ys) ≡ calls_from k under xs ++ calls_from k (pending_in k under xs) ys
more_calls k under [] ys = refl
more_calls k under (Start seat call ∷ xs) ys = more_calls k (if seat == k then Some call else under) xs ys
more_calls k under (End seat reply ∷ xs) ys =
    let first = if seat == k then ended_call under reply else [] in
    let next = if seat == k then None else under in
    ap (λ (l : List (Call × Reply)). first ++ l) (more_calls k next xs ys)
    ∙ sym (append_assoc first (calls_from k next xs) (calls_from k (pending_in k next xs) ys))

more_pending : (k : ℕ) (under : Option Call) (xs ys : List Event) → pending_in k under (xs ++ ys) ≡ pending_in k (pending_in k under xs) ys
more_pending k under [] ys = refl
more_pending k under (Start seat call ∷ xs) ys = more_pending k (if seat == k then Some call else under) xs ys
more_pending k under (End seat reply ∷ xs) ys = more_pending k (if seat == k then None else under) xs ys

-- one more
shown_more : (placer : ℕ → ℕ → PutName) (es : List Ended) (xs : List (Call × Reply)) (e : Ended) (call : Call) → AllShown placer es xs → AskedFor e call
    → AllShown placer (es ++ e ∷ []) (xs ++ (call, recorded_reply placer e) ∷ [])
shown_more placer [] [] e call all one = (one, refl, tt)
shown_more placer [] (x ∷ xs) e call all one = absurd all
shown_more placer (f ∷ es) [] e call all one = absurd all
shown_more placer (f ∷ es) (x ∷ xs) e call all one = (all.0, all.1, shown_more placer es xs e call all.2 one)

-- where the names of what was got stay, so does what is shown
reply_same : (old new : ℕ → ℕ → PutName) (e : Ended) → ((r p : ℕ) (w : List ℕ) → Some e ≡ Some (ended.Got r p w) → new r p ≡ old r p)
    → recorded_reply old e ≡ recorded_reply new e
reply_same old new (ended.Done r p w) same = refl
reply_same old new (ended.Got r p w) same = ap (λ (name : PutName). Got name w) (sym (same r p w refl))
reply_same old new (ended.Nothing r) same = refl
reply_same old new (ended.Spent r t put) same = refl

shown_same : (old new : ℕ → ℕ → PutName) (es : List Ended) (xs : List (Call × Reply))
    → ((x r p : ℕ) (w : List ℕ) → slice_get es x ≡ Some (ended.Got r p w) → new r p ≡ old r p) → AllShown old es xs → AllShown new es xs
shown_same old new [] [] same all = tt
shown_same old new [] (x ∷ xs) same all = absurd all
shown_same old new (e ∷ es) [] same all = absurd all
shown_same old new (e ∷ es) (x ∷ xs) same all =
    (all.0, all.1 ∙ reply_same old new e (same 0), shown_same old new es xs (λ y r p w is. same (suc y) r p w is) all.2)

-- who placed what a seat has got stays recorded: an exchange that succeeds is at a ticket where nothing was placed
laid_apart : (c : Setup) (g : Ghost) (placer : ℕ → ℕ → PutName) (puts : ℕ → ℕ) (k number r p i : ℕ) (w : List ℕ) (b : Maker) (turn : Phase) (found : ℕ)
    → Claims g k number (stance_of turn) → g.puts r p ≡ placed i w b → placer_after k turn found puts placer r p ≡ placer r p
laid_apart c g placer puts k number r p i w b (AtE4 q j v t e) found claims is =
    either_way (λ (f : ℕ → ℕ → PutName). f r p ≡ placer r p) (found == e) (updated_entry placer q t (Of k (puts k))) placer
    (elim (updated_entry_or placer q t (Of k (puts k)) r p) [
      | inl here ↦
          let pends : g.puts r p ≡ pending k j = rw (here.0, here.1) claims in
          let both : placed i w b ≡ pending k j = sym is ∙ pends in
          absurd (cc)
      | inr apart ↦ apart.1
    ]) refl
laid_apart c g placer puts k number r p i w b turn found claims is = refl

-- the calls so far, and what is under way
record Shown (k : ℕ) (placer : ℕ → ℕ → PutName) (p : SeatPart) (events : List Event) : Type 0 where
  calls : AllShown placer p.calls (calls_from k None events)
  under : pending_in k None events ≡ call_in p.phase

abbrev IsShown : ℕ → Recorded → Type 0
IsShown k t = Shown k t.placer (t.state.part k) t.events

-- the events of a seat's own turn
record Grown (k : ℕ) (placer : ℕ → ℕ → PutName) (under : Option Call) (cs : List (Call × Reply)) (more : List Event) (q : SeatPart) : Type 0 where
  calls_then : AllShown placer q.calls (cs ++ calls_from k under more)
  under_then : pending_in k under more ≡ call_in q.phase

own_events : (k : ℕ) (placer : ℕ → ℕ → PutName) (turn : Phase) (p q : SeatPart) (cs : List (Call × Reply)) → Started k p.phase turn → Became turn p q
    → AllShown placer p.calls cs → Grown k placer (call_in p.phase) cs (starts k p.phase turn ++ end_if_idle k placer q.phase q.calls) q
own_events k placer turn p q cs (goes_on none_yet same) (goes busy call calls) all =
    subst (λ (l : List Event). Grown k placer (call_in p.phase) cs (l ++ end_if_idle k placer q.phase q.calls) q) (sym none_yet)
    (subst (λ (l : List Event). Grown k placer (call_in p.phase) cs l q) (sym (none_finished k placer q.phase q.calls busy))
    (record { calls_then = rw (append-nil cs, calls) all; under_then = same ∙ sym call }))
own_events k placer turn p q cs (goes_on none_yet same) (rests e call idle calls its its_call) all =
    let here : call_in p.phase ≡ Some call = same ∙ its in
    let reply = recorded_reply placer e in
    let made : Grown k placer (Some call) cs (End k reply ∷ []) q = record {
      calls_then = rw (eq-eqb k k refl, calls) (shown_more placer p.calls cs e call all its_call);
      under_then = rw (eq-eqb k k refl, idle) refl;
    } in
    subst (λ (l : List Event). Grown k placer (call_in p.phase) cs (l ++ end_if_idle k placer q.phase q.calls) q) (sym none_yet)
    (subst (λ (l : List Event). Grown k placer (call_in p.phase) cs l q) (sym (one_finished k placer q.phase q.calls p.calls e idle calls))
    (subst (λ (u : Option Call). Grown k placer u cs (End k reply ∷ []) q) (sym here) made))
own_events k placer turn p q cs (begun call is its) (goes busy same calls) all =
    let made : Grown k placer (call_in p.phase) cs (Start k call ∷ []) q = record {
      calls_then = rw (append-nil cs, calls) all;
      under_then = rw (eq-eqb k k refl) (sym its ∙ sym same);
    } in
    subst (λ (l : List Event). Grown k placer (call_in p.phase) cs (l ++ end_if_idle k placer q.phase q.calls) q) (sym is)
    (subst (λ (l : List Event). Grown k placer (call_in p.phase) cs (Start k call ∷ l) q) (sym (none_finished k placer q.phase q.calls busy)) made)
own_events k placer turn p q cs (begun call is its) (rests e ends idle calls other its_call) all =
    let same : call ≡ ends = some_same call ends (sym its ∙ other) in
    let reply = recorded_reply placer e in
    let made : Grown k placer (call_in p.phase) cs (Start k call ∷ End k reply ∷ []) q = record {
      calls_then = rw (eq-eqb k k refl, calls) (shown_more placer p.calls cs e call all (subst (λ (d : Call). AskedFor e d) (sym same) its_call));
      under_then = rw (eq-eqb k k refl, idle) refl;
    } in
    subst (λ (l : List Event). Grown k placer (call_in p.phase) cs (l ++ end_if_idle k placer q.phase q.calls) q) (sym is)
    (subst (λ (l : List Event). Grown k placer (call_in p.phase) cs (Start k call ∷ l) q) (sym (one_finished k placer q.phase q.calls p.calls e idle calls)) made)
  where
    some_same : (a b : Call) → Some a ≡ Some b → a ≡ b
    some_same a b e = cc

-- those of another seat's show nothing of this one
other_events : (k j : ℕ) (under : Option Call) (placer : ℕ → ℕ → PutName) (turn : Phase) (p q : SeatPart) → j ≢ k → Started j p.phase turn → Became turn p q
    → (calls_from k under (starts j p.phase turn ++ end_if_idle j placer q.phase q.calls) ≡ [])
    × (pending_in k under (starts j p.phase turn ++ end_if_idle j placer q.phase q.calls) ≡ under)
other_events k j under placer turn p q apart (goes_on none_yet same) (goes busy call calls) =
    rw (none_yet, none_finished j placer q.phase q.calls busy) (refl, refl)
other_events k j under placer turn p q apart (goes_on none_yet same) (rests e call idle calls its its_call) =
    rw (none_yet, one_finished j placer q.phase q.calls p.calls e idle calls) (rw (ne_eqb j k apart) (refl, refl))
other_events k j under placer turn p q apart (begun call is its) (goes busy same calls) =
    rw (is, none_finished j placer q.phase q.calls busy) (rw (ne_eqb j k apart) (refl, refl))
other_events k j under placer turn p q apart (begun call is its) (rests e ends idle calls other its_call) =
    rw (is, one_finished j placer q.phase q.calls p.calls e idle calls) (rw (ne_eqb j k apart) (refl, refl))

shown_turn : (c : Setup) (opening : List (List ℕ)) (t : Recorded) (j : ℕ) (s : Step) (turn : Phase) → turn_of c (t.state.part j) s ≡ Some turn
    → IsTiedRun c opening t → ((k : ℕ) → IsShown k t) → (k : ℕ) → IsShown k (recorded_after c j turn t)
shown_turn c opening t j s turn enabled tied_run shown k =
    let m = t.state in
    let p = m.part j in
    let x = read m.cells (location_of c turn) in
    let q = after c turn x (beside m.cells (location_of c turn)) p in
    let placer = placer_after j turn x t.puts t.placer in
    let begins_so = started c j p s turn enabled in
    let ends_so = became c x (beside m.cells (location_of c turn)) p turn (awake c p.hand p.spent p.phase s turn enabled) in
    let here : (recorded_after c j turn t).state.part j ≡ q = updated_here m.part j q in
    let more = starts j p.phase turn ++ end_if_idle j placer q.phase q.calls in
    let events : (recorded_after c j turn t).events ≡ t.events ++ more =
    ap (λ (z : SeatPart). t.events ++ starts j p.phase turn ++ end_if_idle j placer z.phase z.calls) here
    ∙ append_assoc t.events (starts j p.phase turn) (end_if_idle j placer q.phase q.calls) in
    let records = records_agree c tied_run.time tied_run.ghost m tied_run.trace in
    let claims = turn_claims c tied_run.ghost p j (length p.calls) s turn enabled ((based c tied_run.time tied_run.ghost m tied_run.trace).claims j) in
    let was : (i : ℕ) → Shown i placer (m.part i) t.events =
    λ i. record {
      calls =
          shown_same t.placer placer (m.part i).calls (calls_from i None t.events)
          (λ number r h w is.
          let took = records.got i number r h w is in
          laid_apart c tied_run.ghost t.placer t.puts j (length p.calls) r h took.index w took.maker turn x claims took.is)
          (shown i).calls;
      under = (shown i).under;
    } in
    elim (cases_eq j k) [
      | inl same ↦
          let own : Grown j placer (call_in p.phase) (calls_from j None t.events) more q =
          own_events j placer turn p q (calls_from j None t.events) begins_so ends_so (was j).calls in
          let now : Shown j placer q (t.events ++ more) = record {
            calls = rw (more_calls j None t.events more, (was j).under) own.calls_then;
            under = rw (more_pending j None t.events more, (was j).under) own.under_then;
          } in
          subst (λ (i : ℕ). IsShown i (recorded_after c j turn t)) same
          (subst (λ (z : SeatPart). Shown j placer z (recorded_after c j turn t).events) (sym here)
          (subst (λ (l : List Event). Shown j placer q l) (sym events) now))
      | inr apart ↦
          let still : (recorded_after c j turn t).state.part k ≡ m.part k = updated_else m.part j q k (λ e. apart (sym e)) in
          let none_more = other_events k j (pending_in k None t.events) placer turn p q apart begins_so ends_so in
          let now : Shown k placer (m.part k) (t.events ++ more) = record {
            calls = rw (more_calls k None t.events more, none_more.0, append-nil (calls_from k None t.events)) (was k).calls;
            under = rw (more_pending k None t.events more, none_more.1) (was k).under;
          } in
          subst (λ (z : SeatPart). Shown k placer z (recorded_after c j turn t).events) (sym still)
          (subst (λ (l : List Event). Shown k placer (m.part k) l) (sym events) now)
    ]

-- what is shown along a run, with what it is tied to
record IsShownRun (c : Setup) (opening : List (List ℕ)) (recorded : Recorded) : Type 0 where
  tied_so : IsTiedRun c opening recorded
  all_shown : (k : ℕ) → IsShown k recorded

shown_run : (c : Setup) (opening : List (List ℕ)) (steps : List (ℕ × Step)) (recorded : Recorded) → IsRun c opening steps recorded
    → IsShownRun c opening recorded
shown_run c opening steps recorded run =
    all_along c (IsShownRun c opening)
    (λ t j s turn low enabled was. record {
      tied_so = tied_run_turn c opening run.full t j s turn low enabled was.tied_so;
      all_shown = shown_turn c opening t j s turn enabled was.tied_so was.all_shown;
    })
    steps (recorded_first c opening) recorded run.seats run.recorded_is
    (record { tied_so = tied_run_first c opening run.full; all_shown = λ k. record { calls = tt; under = refl } })

pub records_shown : (c : Setup) (opening : List (List ℕ)) (steps : List (ℕ × Step)) (recorded : Recorded) → IsRun c opening steps recorded
    → HistoryShowsRecords recorded
records_shown c opening steps recorded run = record { shows = λ k. ((shown_run c opening steps recorded run).all_shown k).calls }

-- a seat that rests has nothing under way in the history
pub none_pending : (c : Setup) (opening : List (List ℕ)) (steps : List (ℕ × Step)) (recorded : Recorded) (seat : ℕ) → IsRun c opening steps recorded
    → (recorded.state.part seat).phase ≡ Idle → pending_in seat None recorded.events ≡ None
none_pending c opening steps recorded seat run idle =
    ((shown_run c opening steps recorded run).all_shown seat).under ∙ ap call_in idle
