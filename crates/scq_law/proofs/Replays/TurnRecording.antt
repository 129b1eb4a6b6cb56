-- What an enabled turn adds to what is recorded, by its seat's phase and the step: the lists that the replay keeps go on showing it.
-- Plan: `taken` says which turns there are for a phase and a step; one lemma for each part of what is recorded, by cases on it;
-- `shown` puts them together.
use Rattle.std.proofs.Common.{◌≡◌, ℕ, ◌+◌, ◌<◌, List, ◌++◌, length, inl, inr, refl, sym, ◌∙◌, ap, subst, eq-eqb, ne_eqb}
use Rattle.std.specs.Prelude.{◌==◌, if◌then◌else◌, Option, Some, slice_index, slice_set, unwrap_or}
use Rattle.std.specs.Option.{option_map}
use Rattle.std.proofs.lemmas.Bool.{cases_eq}
use Rattle.std.proofs.lemmas.List.{length-set}
use Rattle.scq_word.specs.declared.setup.Setup.{Setup}
use Rattle.scq_core.specs.declared.ended.Ended.{Ended}
use Rattle.scq_core.specs.declared.phase.Phase.{Phase}
use Rattle.scq_core.specs.declared.phase.Phase.TheVariants.{Idle, AtE1, AtE4, AtE5, AtE6, AtD1, AtD10}
use Rattle.scq_core.specs.declared.step.Step.{Step}
use Rattle.scq_core.specs.declared.step.Step.TheVariants.{E1, E4, D1}
use Rattle.scq_core.specs.Exports.{updated, Cells, SeatPart, read, beside, updated_entry, turn_at, turn_of, next_step, step_of, moved, after}
use Rattle.scq_core.specs.Exports.{location_of, machine_of, Busy, IsReachable}
use Rattle.scq_core.specs.Machine.{Machine}
use Rattle.scq_core.proofs.UpdatedLemmas.{updated_here, updated_entry_or, updated_entry_cases}
use Rattle.scq_core.proofs.ListedTurns.{set_is}
use Rattle.scq_core.proofs.Turns.{turned, Enables, new_put, new_get, continues, enables}
use Rattle.scq_core.proofs.Steady.{steady}
use Rattle.scq_hist.specs.declared.events.Event.{Event}
use Rattle.scq_hist.specs.declared.events.PutName.{PutName}
use Rattle.scq_hist.specs.declared.events.PutName.TheVariants.{Of}
use Rattle.scq_law.specs.declared.act.Act.{Act}
use Rattle.scq_law.specs.declared.act.Act.TheVariants.{Exchanges, Settles}
use Rattle.scq_core.specs.StateLists.{StateLists}
use Rattle.scq_law.specs.declared.recording.Recording.{Recording}
use Rattle.scq_law.specs.Exports.{Recorded, first_placer, starts, end_of, end_if_idle, puts_after, placer_after, is_reset, resets_after, fails_after}
use Rattle.scq_law.specs.Exports.{recorded_after, recorded_by, act_of, IsOnRing, starts_by, puts_after_act, names_by, resets_by, fails_by, ended_in}
use Rattle.scq_law.specs.Exports.{name_at, placer_in, Counts, Shows, AddsTurn, finishes_by}

-- the turn of a step that is enabled in a phase: it begins a call, or is the phase
pub data Taken : Phase → Step → Phase → Type 0 where
  begins_put : (r i : ℕ) (w : List ℕ) → Taken Idle (E1 r i w) (AtE1 r i w 0)
  begins_get : (r : ℕ) → Taken Idle (D1 r) (AtD1 r)
  goes_on : (phase : Phase) (step : Step) → (phase ≡ Idle → ⊥) → Taken phase step phase

taken_by : (c : Setup) (hand : List ℕ) (spent : Option ℕ) (phase : Phase) (step : Step) (turn : Phase) → Enables c hand spent phase step turn
    → Taken phase step turn
taken_by c hand spent phase step turn (new_put r i w ring index held) = begins_put r i w
taken_by c hand spent phase step turn (new_get r ring) = begins_get r
taken_by c hand spent phase step turn (continues kept same s next new) =
    goes_on same s (λ idle. let none : next_step Idle ≡ Some s = rw idle at next in cc)

pub taken : (c : Setup) (hand : List ℕ) (spent : Option ℕ) (phase : Phase) (step : Step) (turn : Phase) → turn_at c hand spent phase step ≡ Some turn
    → Taken phase step turn
taken c hand spent phase step turn e = taken_by c hand spent phase step turn (enables c hand spent phase step turn e)

-- a count that is changed
pub counts_updated : (n : ℕ) (xs : List ℕ) (f : ℕ → ℕ) (k v w : ℕ) → Counts n xs f → k < n → v ≡ w → Counts n (slice_set xs k v) (updated f k w)
counts_updated n xs f k v w old low same =
    let low_list : k < length xs = rw old.size low in
    let is : ◌≡◌ {A = ℕ → ℕ} (λ j. slice_index xs j) f = λ i j. old.each j i in
    record {
      size = length-set xs k v ∙ old.size;
      each = λ j. ap (λ (g : ℕ → ℕ). g j) (set_is xs k v 0 low_list) ∙ ap (λ (g : ℕ → ℕ). updated g k v j) is ∙ ap (λ u. updated f k u j) same;
    }

-- the Start
pub started_recorded : (k : ℕ) (phase : Phase) (step : Step) (turn : Phase) → Taken phase step turn → starts_by k (act_of phase step) ≡ starts k phase turn
started_recorded k phase step turn (begins_put r i w) = refl
started_recorded k phase step turn (begins_get r) = refl
started_recorded k phase step turn (goes_on Idle s awake) = absurd (awake refl)
started_recorded k phase step turn (goes_on p s awake) = refl

-- the puts that each seat has begun
pub puts_recorded : (n k : ℕ) (xs : List ℕ) (f : ℕ → ℕ) (phase : Phase) (step : Step) (turn : Phase) → Counts n xs f → k < n → Taken phase step turn
    → Counts n (puts_after_act k (act_of phase step) xs) (puts_after k phase turn f)
puts_recorded n k xs f phase step turn old low (begins_put r i w) =
    counts_updated n xs f k _ _ old low (ap (λ u. u + 1) (old.each k))
puts_recorded n k xs f phase step turn old low (begins_get r) = old
puts_recorded n k xs f phase step turn old low (goes_on Idle s awake) = absurd (awake refl)
puts_recorded n k xs f phase step turn old low (goes_on p s awake) = old

-- an exchange that has failed places nothing, and one that has succeeded places the put of this name
placed_recorded : (c : Setup) (r i t e : ℕ) (w : List ℕ) (x : ℕ) (y : List ℕ) (q : SeatPart) (a b : PutName) (names : ℕ → ℕ → Option PutName)
    (placer : ℕ → ℕ → PutName) → a ≡ b → ((s u : ℕ) → placer_in c names s u ≡ placer s u)
    → (s u : ℕ) → placer_in c (names_by (act_of (AtE4 r i w t e) E4) (after c (AtE4 r i w t e) x y q).phase a names) s u
    ≡ (if x == e then updated_entry placer r t b else placer) s u
placed_recorded c r i t e w x y q a b names placer same old s u =
    elim (cases_eq x e) [
      | inl hit ↦ rw (eq-eqb x e hit) (
          elim (updated_entry_or names r t (Some a) s u) [
            | inl here ↦ rw here.2 (updated_entry_cases (λ _ _ v. a ≡ v) placer r t b s u (λ _ _. same) (λ apart. absurd (apart here.0 here.1)))
            | inr apart ↦ rw apart.1
                (updated_entry_cases (λ _ _ v. placer_in c names s u ≡ v) placer r t b s u (λ ring place. absurd (apart.0 ring place)) (λ _. old s u))
          ])
      | inr miss ↦ rw (ne_eqb x e miss) (old s u)
    ]

-- who placed where
pub placer_recorded : (c : Setup) (k : ℕ) (phase : Phase) (step : Step) (turn : Phase) (x : ℕ) (y : List ℕ) (q : SeatPart) (a : PutName)
    (names : ℕ → ℕ → Option PutName) (puts : ℕ → ℕ) (placer : ℕ → ℕ → PutName)
    → Taken phase step turn → ((r t : ℕ) → act_of phase step ≡ Exchanges r t → a ≡ Of k (puts k)) → ((s u : ℕ) → placer_in c names s u ≡ placer s u)
    → (s u : ℕ) → placer_in c (names_by (act_of phase step) (after c turn x y q).phase a names) s u ≡ placer_after k turn x puts placer s u
placer_recorded c k phase step turn x y q a names puts placer (begins_put r i w) same old = old
placer_recorded c k phase step turn x y q a names puts placer (begins_get r) same old = old
placer_recorded c k phase step turn x y q a names puts placer (goes_on Idle s awake) same old = absurd (awake refl)
placer_recorded c k phase step turn x y q a names puts placer (goes_on (AtE4 r i w t e) s awake) same old =
    placed_recorded c r i t e w x y q a (Of k (puts k)) names placer (same r t refl) old
placer_recorded c k phase step turn x y q a names puts placer (goes_on p s awake) same old = old

-- one more reset where a put ends, as the phase afterwards says, and no failed attempt since
five_recorded : (n r i t : ℕ) (w : List ℕ) (xs : List ℕ) (f : ℕ → ℕ) (later : Phase) → Counts n xs f → r < n
    → Counts n (resets_by (Settles r) later xs) (resets_after (is_reset (AtE5 r i w t) later) f)
five_recorded n r i t w xs f Idle old low = counts_updated n xs f r _ _ old low (ap (λ u. u + 1) (old.each r))
five_recorded n r i t w xs f later old low = old

six_recorded : (n r i t : ℕ) (w : List ℕ) (xs : List ℕ) (f : ℕ → ℕ) (later : Phase) → Counts n xs f → r < n
    → Counts n (resets_by (Settles r) later xs) (resets_after (is_reset (AtE6 r i w t) later) f)
six_recorded n r i t w xs f Idle old low = counts_updated n xs f r _ _ old low (ap (λ u. u + 1) (old.each r))
six_recorded n r i t w xs f later old low = old

pub resets_recorded : (n : ℕ) (xs : List ℕ) (f : ℕ → ℕ) (phase : Phase) (step : Step) (turn later : Phase) → Counts n xs f → IsOnRing n (act_of phase step)
    → Taken phase step turn → Counts n (resets_by (act_of phase step) later xs) (resets_after (is_reset turn later) f)
resets_recorded n xs f phase step turn later old low (begins_put r i w) = old
resets_recorded n xs f phase step turn later old low (begins_get r) = old
resets_recorded n xs f phase step turn later old low (goes_on Idle s awake) = absurd (awake refl)
resets_recorded n xs f phase step turn later old low (goes_on (AtE5 r i w t) s awake) = five_recorded n r i t w xs f later old low
resets_recorded n xs f phase step turn later old low (goes_on (AtE6 r i w t) s awake) = six_recorded n r i t w xs f later old low
resets_recorded n xs f phase step turn later old low (goes_on p s awake) = old

five_fails : (n r i t : ℕ) (w : List ℕ) (xs : List ℕ) (f : ℕ → ℕ) (later : Phase) → Counts n xs f → r < n
    → Counts n (fails_by (Settles r) later xs) (fails_after (AtE5 r i w t) (is_reset (AtE5 r i w t) later) f)
five_fails n r i t w xs f Idle old low = counts_updated n xs f r 0 0 old low refl
five_fails n r i t w xs f later old low = old

six_fails : (n r i t : ℕ) (w : List ℕ) (xs : List ℕ) (f : ℕ → ℕ) (later : Phase) → Counts n xs f → r < n
    → Counts n (fails_by (Settles r) later xs) (fails_after (AtE6 r i w t) (is_reset (AtE6 r i w t) later) f)
six_fails n r i t w xs f Idle old low = counts_updated n xs f r 0 0 old low refl
six_fails n r i t w xs f later old low = old

pub fails_recorded : (n : ℕ) (xs : List ℕ) (f : ℕ → ℕ) (phase : Phase) (step : Step) (turn later : Phase) → Counts n xs f → IsOnRing n (act_of phase step)
    → Taken phase step turn → Counts n (fails_by (act_of phase step) later xs) (fails_after turn (is_reset turn later) f)
fails_recorded n xs f phase step turn later old low (begins_put r i w) = old
fails_recorded n xs f phase step turn later old low (begins_get r) = old
fails_recorded n xs f phase step turn later old low (goes_on Idle s awake) = absurd (awake refl)
fails_recorded n xs f phase step turn later old low (goes_on (AtE5 r i w t) s awake) = five_fails n r i t w xs f later old low
fails_recorded n xs f phase step turn later old low (goes_on (AtE6 r i w t) s awake) = six_fails n r i t w xs f later old low
fails_recorded n xs f phase step turn later old low (goes_on (AtD10 r h leaving) s awake) =
    counts_updated n xs f r _ _ old low (ap (λ u. u + 1) (old.each r))
fails_recorded n xs f phase step turn later old low (goes_on p s awake) = old

-- the End, as the phase and the record afterwards say
finished_recorded : (k : ℕ) (placer : ℕ → ℕ → PutName) (phase : Phase) (calls : List Ended)
    → end_of k placer (ended_in phase calls) ≡ end_if_idle k placer phase calls
finished_recorded k placer Idle calls = refl
finished_recorded k placer phase calls = refl

-- the ring that an act counts on is that of the seat's phase
pub act_within : (c : Setup) (m : Cells) (hand : List ℕ) (phase : Phase) (step : Step) → Busy c m hand phase → IsOnRing c.rings (act_of phase step)
act_within c m hand Idle (E1 r i w) busy = tt
act_within c m hand Idle (D1 r) busy = tt
act_within c m hand Idle step busy = tt
act_within c m hand (AtE4 r i w t e) step busy = busy.0.ring
act_within c m hand (AtE5 r i w t) step busy = busy.0
act_within c m hand (AtE6 r i w t) step busy = busy.0
act_within c m hand (AtD10 r h leaving) step busy = busy.0
act_within c m hand phase step busy = tt

-- an exchange of an entry begins no put
exchange_begins_none : (k : ℕ) (phase : Phase) (step : Step) (xs : List ℕ) (r t : ℕ) → act_of phase step ≡ Exchanges r t → puts_after_act k (act_of phase step) xs ≡ xs
exchange_begins_none k phase step xs r t is = rw is refl

-- after an enabled turn, the lists with what it adds show what is recorded after it
pub shown : (c : Setup) (k : ℕ) (step : Step) (turn : Phase) (recorded : Recorded) (old middle new : Recording) → k < c.seats → Shows c recorded old
    → turn_of c (recorded.state.part k) step ≡ Some turn → IsOnRing c.rings (act_of (recorded.state.part k).phase step)
    → middle ≡ record old { state = middle.state } → middle.state.setup ≡ c → machine_of middle.state ≡ moved c recorded.state k turn
    → AddsTurn c k (act_of (recorded.state.part k).phase step) ((moved c recorded.state k turn).part k) middle new
    → Shows c (recorded_after c k turn recorded) new
shown c k step turn recorded old middle new low shows enabled within same setup state adds =
    let m = recorded.state in
    let before = m.part k in
    let x = read m.cells (location_of c turn) in
    let y = beside m.cells (location_of c turn) in
    let later = (moved c m k turn).part k in
    let is : later ≡ after c turn x y before = updated_here m.part k _ in
    let t = taken c before.hand before.spent before.phase step turn enabled in
    let act = act_of before.phase step in
    let puts_old : middle.puts.items ≡ old.puts.items = ap (λ (u : Recording). u.puts.items) same in
    let names_old : name_at middle.names.items ≡ name_at old.names.items = ap (λ (u : Recording). name_at u.names.items) same in
    let name = Of k (slice_index new.puts.items k) in
    let counted : (r u : ℕ) → act ≡ Exchanges r u → name ≡ Of k (recorded.puts k) =
    λ r u ex. ap (λ v. Of k v)
    (ap (λ (v : List ℕ). slice_index v k) (adds.puts ∙ exchange_begins_none k before.phase step middle.puts.items r u ex ∙ puts_old) ∙ shows.puts.each k) in
    let placed : (r u : ℕ) → placer_in c (name_at new.names.items) r u ≡ placer_after k turn x recorded.puts recorded.placer r u =
    λ r u. ap (λ (o : Option PutName). unwrap_or o (first_placer c r u))
    (adds.names r u ∙ ap (λ (p : SeatPart). names_by act p.phase name (name_at middle.names.items) r u) is
    ∙ ap (λ (g : ℕ → ℕ → Option PutName). names_by act (after c turn x y before).phase name g r u) names_old)
    ∙ placer_recorded c k before.phase step turn x y before name (name_at old.names.items) recorded.puts recorded.placer t counted shows.placer r u in
    let placer_is : placer_in c (name_at new.names.items) ≡ placer_after k turn x recorded.puts recorded.placer = λ i r u. placed r u i in
    record {
      setup = ap (λ (s : StateLists). s.setup) adds.state ∙ setup;
      state = ap (λ (s : StateLists). machine_of s) adds.state ∙ state;
      events =
          adds.events
          ∙ ap (λ (es : List Event). es ++ starts_by k act ++ finishes_by k (placer_in c (name_at new.names.items)) later)
          (ap (λ (u : Recording). u.events.items) same ∙ shows.events)
          ∙ ap (λ (es : List Event). recorded.events ++ es ++ finishes_by k (placer_in c (name_at new.names.items)) later)
          (started_recorded k before.phase step turn t)
          ∙ ap (λ (es : List Event). recorded.events ++ starts k before.phase turn ++ es)
          (finished_recorded k (placer_in c (name_at new.names.items)) later.phase later.calls
          ∙ ap (λ (f : ℕ → ℕ → PutName). end_if_idle k f later.phase later.calls) placer_is);
      puts = rw (adds.puts, puts_old) (puts_recorded c.seats k old.puts.items recorded.puts before.phase step turn shows.puts low t);
      rings = adds.rings ∙ ap (λ (u : Recording). length u.names.items) same ∙ shows.rings;
      placer = placed;
      resets = rw (adds.resets, ap (λ (u : Recording). u.resets.items) same)
          (resets_recorded c.rings old.resets.items recorded.resets before.phase step turn later.phase shows.resets within t);
      fails = rw (adds.fails, ap (λ (u : Recording). u.fails.items) same)
          (fails_recorded c.rings old.fails.items recorded.fails before.phase step turn later.phase shows.fails within t);
    }

-- the ring of an act is in range on every reachable state
pub acts_within : (c : Setup) (seat : ℕ) (step : Step) (recorded : Recorded) (old : Recording) (act : Act) (phase : Phase) → Shows c recorded old
    → IsReachable c recorded.state → phase ≡ ((machine_of old.state).part seat).phase → act ≡ act_of phase step → IsOnRing c.rings act
acts_within c seat step recorded old act phase shows reach at is =
    let act_is : act ≡ act_of (recorded.state.part seat).phase step =
    is ∙ ap (λ (p : Phase). act_of p step) at ∙ ap (λ (m : Machine). act_of (m.part seat).phase step) shows.state in
    subst
    (λ (a : Act). IsOnRing c.rings a)
    (sym act_is)
    (act_within c recorded.state.cells (recorded.state.part seat).hand (recorded.state.part seat).phase step ((steady c recorded.state reach).busy seat))

-- a step that is made, with what it adds, is one more step of what is recorded
pub made : (c : Setup) (seat : ℕ) (step : Step) (recorded : Recorded) (old : Recording) (later : StateLists) (new : Recording) (act : Act) (phase : Phase)
    → seat < c.seats → Shows c recorded old → IsReachable c recorded.state → later.setup ≡ old.state.setup
    → step_of old.state.setup (machine_of old.state) seat step ≡ Some (machine_of later) → phase ≡ ((machine_of old.state).part seat).phase
    → act ≡ act_of phase step
    → AddsTurn c seat act ((machine_of later).part seat) (record old { state = later }) new
    → (next : Recorded) × (recorded_by c recorded (seat, step) ≡ Some next) × Shows c next new
made c seat step recorded old later new act phase low shows reach setup steps at is adds =
    let enabled : step_of c recorded.state seat step ≡ Some (machine_of later) =
    ap (λ (d : Setup). step_of d recorded.state seat step) (sym shows.setup) ∙ ap (λ (m : Machine). step_of old.state.setup m seat step) (sym shows.state)
    ∙ steps in
    let t = turned c recorded.state seat step (machine_of later) enabled in
    let act_is : act ≡ act_of (recorded.state.part seat).phase step =
    is ∙ ap (λ (p : Phase). act_of p step) at ∙ ap (λ (m : Machine). act_of (m.part seat).phase step) shows.state in
    let within = subst (λ (a : Act). IsOnRing c.rings a) act_is (acts_within c seat step recorded old act phase shows reach at is) in
    let middle : Recording = record old { state = later } in
    let adds =
    subst
    (λ (a : Act). AddsTurn c seat a ((moved c recorded.state seat t.turn).part seat) middle new)
    act_is
    (subst (λ (m : Machine). AddsTurn c seat act (m.part seat) middle new) t.next adds) in (
      recorded_after c seat t.turn recorded,
      ap (option_map (λ turn. recorded_after c seat turn recorded)) t.enabled,
      shown c seat step t.turn recorded old middle new low shows t.enabled within refl (setup ∙ shows.setup) t.next adds,
    )
