-- A turn that a seat may make keeps the rule, and tells what it should. Plan: the turn's word and its slot are those of the
-- machine's step, so the next state is shown; the seat's own view is the one that the turn makes, and all others stay true.
use Rattle.std.proofs.Common.{◌≡◌, ◌≢◌, ◌⊎◌, ℕ, ◌+◌, ◌<◌, ◌≤◌, false, List, [], ◌∷◌, ◌++◌, map, length, refl, sym, ◌∙◌, ap, subst, inl, inr, arith}
use Rattle.std.specs.Prelude.{Option, Some, slice_index}
use Rattle.std.proofs.lemmas.Bool.{cases_eq}
use Rattle.std.specs.Option.{option_map}
use Rattle.std.specs.List.{Contains}
use mathlib.Core.Option.{some}
use mathlib.Core.Option as maybe
use lib.ListN.{get_elem?}
use Rattle.atomic_table.specs.Table.{State, Me, Act, Valid, stepped, carried_after, homes_after}
use Rattle.atomic_table.proofs.Lists.{at_set}
use Rattle.scq_word.specs.declared.setup.Setup.{Setup}
use Rattle.scq_word.specs.Exports.{n_of, is_none_in}
use Rattle.scq_core.specs.declared.phase.Phase.{Phase}
use Rattle.scq_core.specs.declared.phase.Phase.TheVariants.{AtE1, AtD2, AtD4}
use Rattle.scq_core.specs.declared.step.Step.{Step}
use Rattle.scq_core.specs.Exports.{SeatPart, read, beside, ring_slots, turn_of, location_of, writes, stores, after, moved, IsReady, IsReachable}
use Rattle.scq_core.specs.Exports.{CountersRise, Busy, word_at}
use Rattle.scq_core.specs.Machine.{Machine}
use Rattle.scq_core.proofs.UpdatedLemmas.{updated_here, updated_else}
use Rattle.scq_law.specs.Exports.{times, OneHand, ThresholdCovers, FindsAtLeast, recorded_after}
use Rattle.scq_band.specs.declared.numbers.Numbers.{Numbers}
use Rattle.scq_band.specs.Exports.{at, IsLocation, Member, Scene, LeadsTo, Has, IsMember, Owns, IsView, learned, turned_member, made, FindsIndex}
use Rattle.scq_band.specs.Exports.{Draws, IsPastFirstRound, MayTurn, Carries, Turned, my, my_of}
use Rattle.scq_band.specs.Known.{Known}
use Rattle.scq_band.specs.Shown.{Shown}
use Rattle.scq_law.proofs.Replays.LongerRuns.{run_last}
use Rattle.scq_band.proofs.RunEnds.{reaches}
use Rattle.scq_band.proofs.WordLemmas.{written_shown, gate_kept}
use Rattle.scq_band.proofs.Handles.{Handles, handles}
use Rattle.scq_band.proofs.Knowledge.{AllTrue, FinishedStay, all_stay}
use Rattle.scq_core.proofs.Records.{calls_after}
use Rattle.std.proofs.lemmas.List.{length-append}
use Rattle.scq_band.proofs.Learning.{learned_true, learned_length}
use Rattle.scq_band.proofs.StandingSeats.{set_stands, turned_stands}

-- what the laws of the machine give for a turn of a seat
pub record Ground (c : Setup) (m : Machine) (k : ℕ) (t : Phase) : Type 0 where
  pub busy : Busy c m.cells (m.part k).hand t
  pub location : IsLocation c (location_of c t)
  pub one : OneHand c m
  pub stands : (r h : ℕ) → t ≡ AtD4 r h → is_none_in (ring_slots c) (word_at c m.cells r h) ≡ false
  pub ready : IsReady c t (read m.cells (location_of c t))
  pub finds : FindsAtLeast c t (read m.cells (location_of c t))
  pub covers : ThresholdCovers c m
  pub tails : (r : ℕ) → ring_slots c ≤ m.cells.tail r
  pub heads : (r : ℕ) → ring_slots c ≤ m.cells.head r
  pub got : (r h : ℕ) → t ≡ AtD4 r h → h < m.cells.tail r
  pub up : CountersRise m.cells (moved c m k t).cells
  pub stay : FinishedStay c m (moved c m k t)
  pub reach : IsReachable c (moved c m k t)
  pub fits : length ((moved c m k t).part k).hand ≤ n_of c.order
  pub once : (i : ℕ) → times i ((moved c m k t).part k).hand ≤ 1

-- a ticket is above what is known of its counter
draws_above : (c : Setup) (m : Machine) (t : Phase) (numbers : List Numbers) → AllTrue c m numbers → Draws t (read m.cells (location_of c t)) numbers
draws_above c m (AtE1 r i w l) numbers all = λ x e. (all r x e).seen
draws_above c m (AtD2 r l) numbers all = λ x e. (all r x e).head
draws_above c m t numbers all = tt

-- and past the first round
past_first_round : (c : Setup) (m : Machine) (t : Phase) → ((r : ℕ) → ring_slots c ≤ m.cells.tail r) → ((r : ℕ) → ring_slots c ≤ m.cells.head r)
    → IsPastFirstRound c t (read m.cells (location_of c t))
past_first_round c m (AtE1 r i w l) tails heads = tails r
past_first_round c m (AtD2 r l) tails heads = heads r
past_first_round c m t tails heads = tt

-- where a get takes, an index stands
finds_index : (c : Setup) (m : Machine) (t : Phase) → ((r h : ℕ) → t ≡ AtD4 r h → is_none_in (ring_slots c) (word_at c m.cells r h) ≡ false)
    → FindsIndex c t (read m.cells (location_of c t))
finds_index c m (AtD4 r h) stands = stands r h refl
finds_index c m t stands = tt

-- a turn leaves its seat's record no shorter
calls_longer : (c : Setup) (t : Phase) (x : ℕ) (y : List ℕ) (p : SeatPart) → length p.calls ≤ length (after c t x y p).calls
calls_longer c t x y p =
    let grown = calls_after c t x y p in
    let same : length (after c t x y p).calls ≡ length p.calls + length grown.more = ap length grown.appended ∙ length-append p.calls grown.more in
    omega arith

-- and no other record any shorter
calls_stay : (c : Setup) (m : Machine) (k b : ℕ) (t : Phase) → length (m.part b).calls ≤ length ((moved c m k t).part b).calls
calls_stay c m k b t =
    let x = read m.cells (location_of c t) in
    let y = beside m.cells (location_of c t) in
    elim (cases_eq b k) [
      | inl same ↦
          let now : (moved c m k t).part k ≡ after c t x y (m.part k) = updated_here m.part k _ in
          let more = calls_longer c t x y (m.part k) in
          let same_length = ap (λ (p : SeatPart). length p.calls) now in
          rw same (omega arith)
      | inr other ↦
          let now : (moved c m k t).part b ≡ m.part b = updated_else m.part k _ b other in
          let same_length = ap (λ (p : SeatPart). length p.calls) now in
          omega arith
    ]

-- a view with a seat keeps numbers of each ring
rings_told : (c : Setup) (t : Phase) (x : ℕ) (y : List ℕ) (v : Known) → (v.seats ≡ []) ⊎ (length v.numbers ≡ c.rings)
    → (map (turned_member c t x y) v.seats ≡ []) ⊎ (length (learned c t x v.numbers) ≡ c.rings)
rings_told c t x y v (inl none) = inl (ap (map (turned_member c t x y)) none)
rings_told c t x y v (inr all) = inr (learned_length c t x v.numbers ∙ all)

-- the hand of the one seat of the view that a turn makes
hand_of_made : (P : List ℕ → Type 0) (c : Setup) (t : Phase) (x : ℕ) (y : List ℕ) (v : Known) (m : Member) → v.seats ≡ m ∷ [] → P (after c t x y m.part).hand
    → P (my (made c t x y v)).part.hand
hand_of_made P c t x y v m alone holds = subst (λ (xs : List Member). P (my_of (map (turned_member c t x y) xs)).part.hand) (sym alone) holds

-- a run goes on by a turn
goes_on : (c : Setup) (opening : List (List ℕ)) (run : List (ℕ × Step)) (m : Machine) (k : ℕ) (s : Step) (t : Phase) → k < c.seats
    → turn_of c (m.part k) s ≡ Some t → LeadsTo c opening run m → LeadsTo c opening (run ++ (k, s) ∷ []) (moved c m k t)
goes_on c opening run m k s t low enabled leads =
    let r = leads.recorded in
    let there : turn_of c (r.state.part k) s ≡ Some t = ap (λ (n : Machine). turn_of c (n.part k) s) leads.ends ∙ enabled in
    record {
      recorded = recorded_after c k t r;
      is_run = run_last c opening run r (recorded_after c k t r) (k, s) leads.is_run low (ap (option_map (λ turn. recorded_after c k turn r)) there);
      ends = ap (λ (n : Machine). moved c n k t) leads.ends;
    }

module _ {S : Type 0} (Lies : ℕ → S → List ℕ → Type 0) where
  -- the seats of another view, after a turn
  owns_else : (c : Setup) (z : Scene) (homes homes' : List (maybe.Option S)) (id j k : ℕ) (t : Phase) → z.owner k ≡ (id, 0) → j ≢ id
      → ((i b : ℕ) (w : List ℕ) → b ≢ k → 0 < times i (z.state.part b).hand → Has Lies homes i w → Has Lies homes' i w)
      → (xs : List Member) → Owns Lies c z homes j xs → Owns Lies c (record z { state = moved c z.state k t }) homes' j xs
  owns_else c z homes homes' id j k t mine apart stays [] owns = tt
  owns_else c z homes homes' id j k t mine apart stays (x ∷ xs) owns =
      let x_is = owns.0 in
      let other : x.number ≢ k = λ e. let both = sym x_is.owner ∙ ap z.owner e ∙ mine in apart (ap (λ (q : ℕ × ℕ). q.0) both) in (
        record {
          low = x_is.low;
          owner = x_is.owner;
          part = updated_else z.state.part k _ x.number other ∙ x_is.part;
          gone = x_is.gone;
          brought =
              λ b there.
              let was = x_is.brought b there in
              (was.0, stays b.0 x.number b.1 other (rw x_is.part was.0) was.1);
        },
        owns_else c z homes homes' id j k t mine apart stays xs owns.1,
      )

  -- the seat's own, after its turn
  owns_own : (c : Setup) (z : Scene) (homes homes' : List (maybe.Option S)) (id : ℕ) (t : Phase) (x : Member) → x.brought ≡ [] → IsMember Lies c z homes id 0 x
      → Owns Lies c (record z { state = moved c z.state x.number t }) homes' id
      (turned_member c t (read z.state.cells (location_of c t)) (beside z.state.cells (location_of c t)) x ∷ [])
  owns_own c z homes homes' id t x none x_is = (
    record {
      low = x_is.low;
      owner = x_is.owner;
      part = updated_here z.state.part x.number _
          ∙ ap (after c t (read z.state.cells (location_of c t)) (beside z.state.cells (location_of c t))) x_is.part;
      gone = x_is.gone;
      brought = λ b there. let e : Contains [] b = subst (λ (l : List (ℕ × List ℕ)). Contains l b) none there in absurd (omega (arith, e.1));
    },
    tt,
  )

  -- the rule after the turn
  moved_shown : (opening : List (List ℕ)) (c : Setup) (s : State S Known) (id : ℕ) (me : Me S Known) (t : Phase) (may : MayTurn c me.0 t)
      (gone : ℕ → Option ℕ) (run : List (ℕ × Step)) (sh : Shown Lies opening c gone run s)
      → get_elem? s.views id ≡ some me.0
      → IsMember Lies c sh.scene s.homes id 0 may.member → Ground c sh.scene.state may.member.number t
      → (h : Handles Lies c sh.scene.state s.homes me.1 may.member.number t)
      → turn_of c (sh.scene.state.part may.member.number) may.step ≡ Some t
      → Shown Lies opening c gone (run ++ (may.member.number, may.step) ∷ []) (stepped s (at c (location_of c t)) (writes c t (read sh.scene.state.cells
      (location_of c t))) id me.1
      (made c t (read sh.scene.state.cells (location_of c t)) (beside sh.scene.state.cells (location_of c t)) me.0) h.act)
  moved_shown opening c s id me t may gone run sh here x_is g h enabled =
      let m = sh.scene.state in
      let k = may.member.number in
      let l = location_of c t in
      let gate = gate_kept c s.words l (writes c t (read m.cells l)) in
      record {
        scene = record sh.scene { state = moved c m k t };
        leads = goes_on c opening run m k may.step t x_is.low enabled sh.leads;
        gone_is = sh.gone_is;
        made = λ b n e. let was = sh.made b n e in let more = calls_stay c m k b t in omega arith;
        words = written_shown c s.words m.cells l (writes c t (read m.cells l)) (stores t (read m.cells l) (beside m.cells l)) g.location sh.words;
        awake_seats = gate ∙ sh.awake_seats;
        room = h.room ∙ sh.room;
        views =
            λ j v e.
            elim (at_set s.views id j (made c t (read m.cells l) (beside m.cells l) me.0) v e) [
              | inl same ↦
                  let mine = sh.views id me.0 here in
                  let view : IsView Lies c (record sh.scene { state = moved c m k t }) (homes_after s.homes me.1 h.act) (slice_index s.words 0) id
                  (made c t (read m.cells l) (beside m.cells l) me.0) =
                  record {
                    seats =
                        subst (λ (xs : List Member). Owns Lies c (record sh.scene { state = moved c m k t }) (homes_after s.homes me.1 h.act) id
                        (map (turned_member c t (read m.cells l) (beside m.cells l)) xs)) (sym may.alone)
                        (owns_own c sh.scene s.homes (homes_after s.homes me.1 h.act) id t may.member may.out x_is);
                    numbers = learned_true c m k t me.0.numbers g.busy g.up g.stay g.covers g.heads g.got mine.numbers;
                    rings = rings_told c t (read m.cells l) (beside m.cells l) me.0 mine.rings;
                    last_gate = mine.last_gate;
                  } in
                  rw (gate, same.0) (subst
                  (λ (u : Known). IsView Lies c (record sh.scene { state = moved c m k t }) (homes_after s.homes me.1 h.act) (slice_index s.words 0) id
                  u) same.1 view)
              | inr other ↦
                  let old = sh.views j v other.1 in
                  rw gate (record {
                    seats = owns_else c sh.scene s.homes (homes_after s.homes me.1 h.act) id j k t x_is.owner other.0 h.stays v.seats old.seats;
                    numbers = all_stay c m (moved c m k t) v.numbers g.up g.stay old.numbers;
                    rings = old.rings;
                    last_gate = old.last_gate;
                  })
            ];
        stored = h.stored;
        all_stand =
            λ j low.
            set_stands s.views id j me.0 (made c t (read m.cells l) (beside m.cells l) me.0) here
            (turned_stands c t (read m.cells l) (beside m.cells l) j me.0.seats) (sh.all_stand j low);
      }

module _ {S : Type 0} (Lies : ℕ → S → List ℕ → Type 0) where
  -- a turn may be made, whatever the table is when its word changes, and is a step of the machine
  pub moves_by : {opening : List (List ℕ)} {gone : ℕ → Option ℕ}
      {run : List (ℕ × Step)} (c : Setup) (slots id : ℕ) (me : Me S Known) (t : Phase) (i : ℕ) (f : ℕ → ℕ) (may : MayTurn c me.0 t)
      → Carries Lies t me.1
      → i ≡ at c (location_of c t)
      → ((m : Machine) → IsReachable c m → Busy c m.cells may.member.part.hand t
      → f (read m.cells (location_of c t)) ≡ writes c t (read m.cells (location_of c t)))
      → ((m : Machine) (k : ℕ) (s : Step) → IsReachable c m → k < c.seats → turn_of c (m.part k) s ≡ Some t → Ground c m k t)
      → (s : State S Known) (sh : Shown Lies opening c gone run s) → get_elem? s.views id ≡ some me.0
      → (w : Known) × (a : Act S) × Valid s.homes me.1 a
      × Shown Lies opening c gone (run ++ (may.member.number, may.step) ∷ []) (stepped s i (f (slice_index s.words i)) id me.1 w a)
      × Turned Lies c t me (slice_index s.words i) (w, carried_after me.1 a)
  moves_by {opening} {gone} {run} c slots id me t i f may carries word does grounds s sh here =
      let m = sh.scene.state in
      let k = may.member.number in
      let l = location_of c t in
      let mine = sh.views id me.0 here in
      let owns : Owns Lies c sh.scene s.homes id (may.member ∷ []) = subst (λ (xs : List Member). Owns Lies c sh.scene s.homes id xs) may.alone mine.seats in
      let x_is = owns.0 in
      let enabled : turn_of c (m.part k) may.step ≡ Some t = rw x_is.part may.enabled in
      let g = grounds m k may.step (reaches sh.leads) x_is.low enabled in
      let h = handles Lies c m s.homes me.1 k t g.one sh.room sh.stored g.busy carries g.stands in
      let found : slice_index s.words i ≡ read m.cells l = ap (slice_index s.words) word ∙ sh.words.shows l g.location in
      let busy : Busy c m.cells may.member.part.hand t = subst (λ (p : SeatPart). Busy c m.cells p.hand t) x_is.part g.busy in
      let wrote : f (slice_index s.words i) ≡ writes c t (read m.cells l) = ap f found ∙ does m (reaches sh.leads) busy in
      let w = made c t (read m.cells l) (beside m.cells l) me.0 in
      let longer = run ++ (k, may.step) ∷ [] in
      let shown : Shown Lies opening c gone longer (stepped s i (f (slice_index s.words i)) id me.1 w h.act) =
      subst (λ (v : ℕ). Shown Lies opening c gone longer (stepped s i v id me.1 w h.act)) (sym wrote)
      (subst (λ (j : ℕ). Shown Lies opening c gone longer (stepped s j (writes c t (read m.cells l)) id me.1 w h.act)) (sym word)
      (moved_shown Lies opening c s id me t may gone run sh here x_is g h enabled)) in
      let tells : Turned Lies c t me (read m.cells l) (w, carried_after me.1 h.act) = record {
        beside = beside m.cells l;
        view = refl;
        slots = h.carried;
        found = g.finds;
        stands = finds_index c m t g.stands;
        ready = g.ready;
        draws = draws_above c m t me.0.numbers mine.numbers;
        past_first = past_first_round c m t g.tails g.heads;
        fits =
            hand_of_made (λ h. length h ≤ n_of c.order) c t (read m.cells l) (beside m.cells l) me.0 may.member may.alone
            (subst (λ (p : SeatPart). length (after c t (read m.cells l) (beside m.cells l) p).hand ≤ n_of c.order) x_is.part
            (subst (λ (p : SeatPart). length p.hand ≤ n_of c.order) (updated_here m.part k _) g.fits));
        once =
            λ i.
            hand_of_made (λ h. times i h ≤ 1) c t (read m.cells l) (beside m.cells l) me.0 may.member may.alone
            (subst (λ (p : SeatPart). times i (after c t (read m.cells l) (beside m.cells l) p).hand ≤ 1) x_is.part
            (subst (λ (p : SeatPart). times i p.hand ≤ 1) (updated_here m.part k _) (g.once i)));
      } in
      (w, h.act, h.valid, shown, subst (λ n. Turned Lies c t me n (w, carried_after me.1 h.act)) (sym found) tells)
