-- What a key says of its member, and which members there must be: gets of lower places, and gets before a Nothing.
use Rattle.std.proofs.Common.{◌≡◌, ℕ, ◌+◌, ◌<◌, inl, inr, List, length, take, refl, ap, sym, ◌∙◌, subst, arith}
use Rattle.std.specs.Prelude.{◌-◌, Some, max}
use Rattle.std.proofs.lemmas.Bool.{cases_lt}
use Rattle.std.proofs.lemmas.List.{take_all}
use Rattle.scq_word.specs.Exports.{n_of}
use Rattle.scq_core.specs.declared.ended.Ended.TheVariants.{Done, Got}
use Rattle.scq_core.specs.declared.step.Step.{Step}
use Rattle.scq_core.specs.Exports.{ring_slots, IsReachable}
use Rattle.scq_law.specs.Exports.{at_opening, in_record, call_of, opening_put, AllIdle, Recorded, recorded_of, IsFinishedRun, DrawsGet, HasEnded}
use Rattle.scq_law.specs.Exports.{state_before, recorded_before, last_state, IsDecidingStep, IsPointOfPlace, of_call, IsGetPoint, Key, key, IsEarlier}
use Rattle.scq_law.specs.Exports.{HasKey, of_nothing, of_put, of_get}
use Rattle.scq_law.proofs.Places.PlaceLaws.{got_below, places_once}
use Rattle.scq_law.proofs.Replays.RunLaws.{run_reaches}
use Rattle.scq_law.specs.declared.ordered.Ordered.{Ordered}
use Rattle.scq_law.specs.declared.ordered.Ordered.TheVariants.{Opening, Call}
use Rattle.scq_law.specs.RunSteps.{Run}
use Rattle.scq_law.specs.Points.{of_opening}
use Rattle.scq_law.specs.Order as order
use Rattle.scq_law.proofs.Order.RunStates.{moment, moment_run}
use Rattle.scq_law.proofs.Order.RunDraws.{rise}
use Rattle.scq_law.proofs.Order.Decisions.{within}
use Rattle.scq_law.proofs.Order.DrawOrder.{drawn_before, drawn_below, got_end}
use Rattle.scq_law.proofs.Order.PointLemmas.{CallKey, nothing_key, put_key, get_key, call_key, decided_by_point}

-- a get, by its key
pub record GetMember (run : Run) (r : ℕ) (y : Ordered) (f : Key) : Type 0 where
  pub seat : ℕ
  pub call : ℕ
  pub content : List ℕ
  pub is : y ≡ Call seat (call + 1)
  pub ended : HasEnded run seat call (Got r f.place content)
  pub point : IsGetPoint run seat r f.place f.point

pub get_of : (run : Run) (r : ℕ) (y : Ordered) (f : Key) → HasKey run r y f → f.kind ≡ 2 → GetMember run r y f
get_of run r y f (order.of_opening j ring low) kind = absurd (omega arith)
get_of run r y f (of_nothing s c d ended is) kind = absurd (omega arith)
get_of run r y f (of_put s c p point w ended is) kind = absurd (omega arith)
get_of run r y f (of_get s c p point w ended is) kind = record { seat = s; call = c; content = w; is = refl; ended = ended; point = is }

pub put_of : (run : Run) (r : ℕ) (y : Ordered) (f : Key) → HasKey run r y f → f.kind ≡ 1 → IsPointOfPlace run r f.place f.point
put_of run r y f (order.of_opening j ring low) kind = of_opening ring (omega arith) (omega arith)
put_of run r y f (of_nothing s c d ended is) kind = absurd (omega arith)
put_of run r y f (of_put s c p point w ended is) kind = of_call s c point w ended is
put_of run r y f (of_get s c p point w ended is) kind = absurd (omega arith)

-- and a put at a place has a member
pub record Keyed (run : Run) (r : ℕ) (f : Key) : Type 0 where
  pub member : Ordered
  pub has : HasKey run r member f

pub place_keyed : (run : Run) (r p point : ℕ) → IsPointOfPlace run r p point → Keyed run r (key point 1 p)
place_keyed run r p point (of_opening ring first last) = opening_keyed (p - ring_slots run.setup) (omega arith) (omega arith)
  where
    opening_keyed : (j : ℕ) → ring_slots run.setup + j ≡ p → j < n_of run.setup.order → Keyed run r (key 0 1 p)
    opening_keyed j is low = record { member = Opening j; has = subst (λ (q : ℕ). HasKey run r (Opening j) (key 0 1 q)) is (order.of_opening j ring low) }
place_keyed run r p point (of_call s c least w ended is) = record { member = Call s (c + 1); has = of_put s c p point w ended is }

-- one member has one kind and place
pub record SameKind (f g : Key) : Type 0 where
  pub kind : f.kind ≡ g.kind
  pub place : f.place ≡ g.place

pub opening_key : (run : Run) (r : ℕ) (y : Ordered) (f : Key) → HasKey run r y f → (j : ℕ) → y ≡ Opening j → f ≡ key 0 1 (ring_slots run.setup + j)
opening_key run r y f (order.of_opening i ring low) j same = let index : i ≡ j = cc in rw index refl
opening_key run r y f (of_nothing s c d ended is) j same = absurd (cc)
opening_key run r y f (of_put s c p point w ended is) j same = absurd (cc)
opening_key run r y f (of_get s c p point w ended is) j same = absurd (cc)

kind_place : {f g : Key} (a b kind place : ℕ) → f ≡ key a kind place → g ≡ key b kind place → SameKind f g
kind_place a b kind place left right =
    record {
      kind = ap (λ (k : Key). k.kind) left ∙ sym (ap (λ (k : Key). k.kind) right);
      place = ap (λ (k : Key). k.place) left ∙ sym (ap (λ (k : Key). k.place) right);
    }

same_call : (run : Run) (r k x : ℕ) (f g : Key) → CallKey run r k x f → CallKey run r k x g → SameKind f g
same_call run r k x f g (nothing_key d ended is same) (nothing_key b done at also) = kind_place (d + 1) (b + 1) 0 0 same also
same_call run r k x f g (nothing_key d ended is same) (put_key p point w done at also) = let both = sym ended ∙ done in absurd (cc)
same_call run r k x f g (nothing_key d ended is same) (get_key p point w done at also) = let both = sym ended ∙ done in absurd (cc)
same_call run r k x f g (put_key p point w ended is same) (nothing_key b done at also) = let both = sym ended ∙ done in absurd (cc)
same_call run r k x f g (put_key p point w ended is same) (put_key q least v done at also) =
    let both : Some (Done r p w) ≡ Some (Done r q v) = sym ended ∙ done in
    let place : p ≡ q = cc in kind_place point least 1 q (rw (← place) same) also
same_call run r k x f g (put_key p point w ended is same) (get_key q least v done at also) = let both = sym ended ∙ done in absurd (cc)
same_call run r k x f g (get_key p point w ended is same) (nothing_key b done at also) = let both = sym ended ∙ done in absurd (cc)
same_call run r k x f g (get_key p point w ended is same) (put_key q least v done at also) = let both = sym ended ∙ done in absurd (cc)
same_call run r k x f g (get_key p point w ended is same) (get_key q least v done at also) =
    let both : Some (Got r p w) ≡ Some (Got r q v) = sym ended ∙ done in
    let place : p ≡ q = cc in kind_place point least 2 q (rw (← place) same) also

pub same_kind : (run : Run) (r : ℕ) (y z : Ordered) (f g : Key) → HasKey run r y f → HasKey run r z g → z ≡ y → SameKind f g
same_kind run r y z f g (order.of_opening j ring low) other same =
    kind_place 0 0 1 (ring_slots run.setup + j) refl (opening_key run r z g other j same)
same_kind run r y z f g (of_nothing s c d ended is) other same = same_call run r s c f g (nothing_key d ended is refl) (call_key run r z g other s c same)
same_kind run r y z f g (of_put s c p point w ended is) other same =
    same_call run r s c f g (put_key p point w ended is refl) (call_key run r z g other s c same)
same_kind run r y z f g (of_get s c p point w ended is) other same =
    same_call run r s c f g (get_key p point w ended is refl) (call_key run r z g other s c same)

-- keys come in one order
pub before_apart : (f g : Key) → IsEarlier f g → IsEarlier g f → ⊥
before_apart f g first second =
    elim first.before [
      | inl less ↦ elim second.before [ inl back ↦ omega arith | inr back ↦ let same = back.0 in omega arith ]
      | inr tie ↦
          let point = tie.0 in
          elim second.before [
            | inl back ↦ omega arith
            | inr back ↦
                elim tie.1 [
                  | inl kind ↦ elim back.1 [ inl other ↦ omega arith | inr other ↦ let same = other.0 in omega arith ]
                  | inr kind ↦
                      let one = kind.0 in
                      let place = kind.1 in
                      elim back.1 [ inl other ↦ omega arith | inr other ↦ let less = other.1 in omega arith ]
                ]
          ]
    ]

module _ (run : Run) (fin : IsFinishedRun run) where
  abbrev recorded : Recorded
  recorded = fin.recorded

  -- the state in which it ends
  pub ends_in : recorded ≡ recorded_before run (length run.steps)
  ends_in =
      let all : recorded_of run.setup run.opening (take (length run.steps) run.steps) ≡ Some recorded =
      ap (λ (xs : List (ℕ × Step)). recorded_of run.setup run.opening xs) (take_all (length run.steps) run.steps (omega arith)) ∙ fin.is_run.recorded_is in
      let both : Some recorded ≡ Some (recorded_before run (length run.steps)) = sym all ∙ moment run recorded fin.is_run (length run.steps) in cc

  pub all_idle : AllIdle run.setup (last_state run)
  all_idle = subst (λ (t : Recorded). AllIdle run.setup t.state) ends_in fin.idle

  pub last_reached : IsReachable run.setup (last_state run)
  last_reached = run_reaches run.setup run.opening (take (length run.steps) run.steps) (recorded_before run (length run.steps))
      (moment_run run recorded fin.is_run (length run.steps))

  -- a place below Head at the end was got
  pub record GotPlace (r p : ℕ) : Type 0 where
    pub seat : ℕ
    pub call : ℕ
    pub content : List ℕ
    pub ended : HasEnded run seat call (Got r p content)

  got_place : (r p point : ℕ) → IsPointOfPlace run r p point → p < (last_state run).cells.head r → GotPlace r p
  got_place r p point (of_opening ring first last) low =
      let t = got_below run.setup (last_state run) last_reached all_idle r p _ opening_put (at_opening ring first last refl) low in
      record { seat = t.seat; call = t.number; content = _; ended = t.taken }
  got_place r p point (of_call s c least w ended is) low =
      let t = got_below run.setup (last_state run) last_reached all_idle r p w (call_of s c) (in_record s c ended) low in
      record { seat = t.seat; call = t.number; content = w; ended = t.taken }

  -- the member of a get, with its point
  pub record GetAt (r p put : ℕ) : Type 0 where
    pub member : Ordered
    pub drawn : ℕ
    pub seat : ℕ
    pub draws : DrawsGet run drawn seat r p
    pub has : HasKey run r member (key (max (drawn + 1) put) 2 p)

  got_keyed : (r p put : ℕ) → IsPointOfPlace run r p put → (got : GotPlace r p) → GetAt r p put
  got_keyed r p put puts got =
      let e = got_end run recorded fin.is_run got.seat got.call r p got.content got.ended in
      let d = e.draw in
      record {
        member = Call got.seat (got.call + 1);
        drawn = d.at;
        seat = got.seat;
        draws = d.draws;
        has = of_get got.seat got.call p (max (d.at + 1) put) got.content got.ended
            (record { drawn = d.at; draws = d.draws; put = put; of_put = puts; is = refl });
      }

  -- below a place that was got each put's place was
  pub lower_got : (r p q k d put : ℕ) → DrawsGet run d k r p → q < p → IsPointOfPlace run r q put → GetAt r q put
  lower_got r p q k d put draws less puts =
      let below = drawn_below run recorded fin.is_run d k r p draws in
      got_keyed r q put puts (got_place r q put puts (omega arith))

  -- each put before a deciding step was got before it
  pub got_before : (r q k x d put : ℕ) → IsDecidingStep run d k x r → put < d + 1 → IsPointOfPlace run r q put
      → (got : GetAt r q put) × (got.drawn < d)
  got_before r q k x d put is early puts =
      let below : q < (state_before run d).cells.head r =
      elim (cases_lt q ((state_before run d).cells.head r)) [
        | inl less ↦ less
        | inr head ↦ let late = decided_by_point run recorded fin.is_run d k x r q put is head puts in absurd (omega arith)
      ] in
      let low = within run recorded fin.is_run d run.steps is.makes.there in
      let up = (rise run recorded fin.is_run d (length run.steps) (omega arith)).head r in
      let got = got_keyed r q put puts (got_place r q put puts (omega arith)) in
      (got, drawn_before run recorded fin.is_run d got.drawn got.seat r q below got.draws)

  -- a place is got once
  pub got_once : (r p k x h y : ℕ) (v w : List ℕ) → HasEnded run k x (Got r p v) → HasEnded run h y (Got r p w) → (k ≡ h) × (x ≡ y)
  got_once r p k x h y v w first second = (places_once run.setup (last_state run) last_reached).taken_once r p v w k x h y first second
