-- What a port keeps, through each call.
use Rattle.std.proofs.Common.{◌≡◌, ◌≢◌, ℕ, zero, suc, ◌+◌, ◌-◌, ◌<◌, List, [], ◌∷◌, ◌++◌, length, refl, sym, ◌∙◌, ap, subst, inl, inr, arith, length-set, length-append}
use Rattle.std.specs.Prelude.{Option, Some, None, slice_get, slice_set, replicate}
use Rattle.std.specs.List.{Contains}
use Rattle.std.proofs.lemmas.Bool.{cases_eq}
use Rattle.scq_law.specs.Exports.{times}
use Rattle.scq_word.specs.Exports.{n_of}
use Rattle.scq_queue.specs.Exports.{PassStanding, IsHeldBy, without, after_put, after_get, having_seen}
use Rattle.scq_queue.proofs.HeldOnce.{IsAlike, contains_times}
use Rattle.scq_port.specs.declared.port_buffer.PortBuffer.{PortBuffer}
use Rattle.scq_port.specs.Exports.{PortQueue, Value, Keeps, StandsAt}
use Rattle.scq_port.proofs.Lists.{set_here, set_other, times_contains, more_here, more_other, less_here, less_other, less_length}

-- the place of an index below n is there
place_there : (slots : List (Option Value)) (i : ℕ) → i < length slots → (x : Option Value) × (slice_get slots i ≡ Some x)
place_there [] i low = absurd (omega (arith, low))
place_there (x ∷ xs) zero low = (x, refl)
place_there (x ∷ xs) (suc i) low = place_there xs i (omega (arith, low))

none_set : (slots : List (Option Value)) (i j : ℕ) (y : Option Value) (x : Option Value) → slice_get slots i ≡ Some x → slice_get (slice_set slots i y) j ≡ None
    → j ≢ i
none_set slots i j y x is none e = let here : Some y ≡ None = sym (set_here slots i x y is) ∙ ap (λ k. slice_get (slice_set slots i y) k) (sym e) ∙ none in cc

-- the place of a value that came was free
pub place_free : {queue : PortQueue} {p : PassStanding PortBuffer} {slots : List (Option Value)} {room hold : ℕ} (i : ℕ) → Keeps queue p slots room hold
    → i < n_of queue.setup.order → (Contains p.held i → ⊥) → slice_get slots i ≡ Some None
place_free {p = p} {slots = slots} i before low came =
    let there = place_there slots i (subst (λ (n : ℕ). i < n) (sym before.places) low) in
    by there.0 there.1
  where
    by : (x : Option Value) → slice_get slots i ≡ Some x → slice_get slots i ≡ Some None
    by None is = is
    by (Some h) is = absurd (came (contains_times p.held i (let one = (before.here i h is).holds in omega (arith, one))))

-- a value that stands at its place is held by the pass
pub place_held : {queue : PortQueue} {p : PassStanding PortBuffer} {slots : List (Option Value)} {room hold : ℕ} (i : ℕ) {h : Value}
    → Keeps queue p slots room hold → slice_get slots i ≡ Some (Some h) → IsHeldBy p h
place_held {p = p} i {h = h} before is =
    let stands = before.here i h is in
    record {
      queue = stands.queue_of ∙ sym before.own;
      pass = stands.pass;
      holds =
          subst (λ (j : ℕ). Contains p.held j) (sym stands.index)
          (contains_times p.held i (let one = stands.holds in omega (arith, one)));
    }

-- where no value stands at a place, the pass holds none of this index
pub none_held : {queue : PortQueue} {p : PassStanding PortBuffer} {slots : List (Option Value)} {room hold : ℕ} (i : ℕ) → Keeps queue p slots room hold
    → ((h : Value) → slice_get slots i ≡ Some (Some h) → ⊥) → Contains p.held i → ⊥
none_held {p = p} {slots = slots} i before none there = by (slice_get slots i) refl
  where
    some : 0 < times i p.held
    some = times_contains p.held i there

    by : (x : Option (Option Value)) → slice_get slots i ≡ x → ⊥
    by None is = let zero_of = before.past i is in omega (arith, some, zero_of)
    by (Some None) is = let zero_of = before.free i is in omega (arith, some, zero_of)
    by (Some (Some h)) is = none h is

abbrev no_value : Option Value
no_value = None

-- a pass of a new queue holds nothing
pub keeps_new : (queue : PortQueue) (p : PassStanding PortBuffer) (hold : ℕ) → p.queue ≡ queue → p.held ≡ []
    → Keeps queue p (replicate (n_of queue.setup.order) None) hold hold
keeps_new queue p hold own none =
    record {
      own = own;
      places = filled (n_of queue.setup.order);
      here = λ i h is. absurd (none_there (n_of queue.setup.order) i h is);
      free = λ i is. ap (times i) none;
      past = λ i is. ap (times i) none;
      room_is = let zero_of = ap length none in omega (arith, zero_of);
    }
  where
    filled : (n : ℕ) → length (replicate n no_value) ≡ n
    filled zero = refl
    filled (suc n) = ap suc (filled n)

    none_there : (n i : ℕ) (h : Value) → slice_get (replicate n no_value) i ≡ Some (Some h) → ⊥
    none_there zero i h is = cc
    none_there (suc n) zero h is = cc
    none_there (suc n) (suc i) h is = none_there n i h is

-- a value came
pub keeps_more : (queue : PortQueue) (old new : PassStanding PortBuffer) (slots : List (Option Value)) (room hold : ℕ) (h : Value) (ring place : ℕ) (w : List ℕ)
    → Keeps queue old slots room hold → new ≡ having_seen new.seen (after_get ring h.index place w old) → IsHeldBy new h → (Contains old.held h.index → ⊥)
    → h.index < n_of queue.setup.order → 0 < room → Keeps queue new (slice_set slots h.index (Some h)) (room - 1) hold
keeps_more queue old new slots room hold h ring place w before is held came low some =
    record {
      own = own;
      places = length-set slots h.index (Some h) ∙ before.places;
      here = here;
      free = λ j at. rest j (apart j None at (λ (e : Some (Some h) ≡ Some None). cc)) (before.free j (other_place j (apart j None at (λ (e : Some (Some h) ≡ Some None). cc)) ∙ at));
      past = λ j at. let differs = none_set slots h.index j (Some h) None was at in rest j differs (before.past j (other_place j differs ∙ at));
      room_is = let len = ap length now in let two = length-append old.held (h.index ∷ []) in let u = before.room_is in omega (arith, len, two, u, some);
    }
  where
    own : new.queue ≡ queue
    own = ap (λ (p : PassStanding PortBuffer). p.queue) is ∙ before.own

    now : new.held ≡ old.held ++ h.index ∷ []
    now = ap (λ (p : PassStanding PortBuffer). p.held) is

    number : new.number ≡ old.number
    number = ap (λ (p : PassStanding PortBuffer). p.number) is

    was : slice_get slots h.index ≡ Some None
    was = place_free h.index before low came

    other_place : (j : ℕ) → j ≢ h.index → slice_get slots j ≡ slice_get (slice_set slots h.index (Some h)) j
    other_place j differs = sym (set_other slots h.index j (Some h) differs)

    rest : (j : ℕ) → j ≢ h.index → times j old.held ≡ 0 → times j new.held ≡ 0
    rest j differs none = ap (times j) now ∙ more_other old.held h.index j differs ∙ none

    apart : (j : ℕ) (x : Option Value) → slice_get (slice_set slots h.index (Some h)) j ≡ Some x → (Some (Some h) ≡ Some x → ⊥) → j ≢ h.index
    apart j x at differs e = differs (sym (set_here slots h.index None (Some h) was) ∙ ap (slice_get (slice_set slots h.index (Some h))) (sym e) ∙ at)

    here : (j : ℕ) (v : Value) → slice_get (slice_set slots h.index (Some h)) j ≡ Some (Some v) → StandsAt queue new j v
    here j v at =
        elim (cases_eq j h.index) [
          | inl same ↦
              let at_h : Some (Some h) ≡ Some (Some v) = sym (set_here slots h.index None (Some h) was) ∙ ap (slice_get (slice_set slots h.index (Some h))) (sym same) ∙ at in
              let is_h : h ≡ v = cc in
              let none = before.free h.index was in
              let here_one = more_here old.held h.index in
              let one : times h.index new.held ≡ 1 = ap (times h.index) now ∙ (omega (arith, none, here_one)) in
              subst (λ (u : Value). StandsAt queue new j u) is_h (record {
                queue_of = held.queue ∙ own;
                pass = held.pass;
                index = sym same;
                holds = ap (λ k. times k new.held) same ∙ one;
              })
          | inr differs ↦
              let stands = before.here j v (other_place j differs ∙ at) in
              record {
                queue_of = stands.queue_of;
                pass = stands.pass ∙ sym number;
                index = stands.index;
                holds = ap (times j) now ∙ more_other old.held h.index j differs ∙ stands.holds;
              }
        ]

-- a value went
pub keeps_less : (queue : PortQueue) (old new : PassStanding PortBuffer) (slots : List (Option Value)) (room hold i : ℕ) (h : Value) (ring place : ℕ) (w : List ℕ)
    → Keeps queue old slots room hold → slice_get slots i ≡ Some (Some h) → new ≡ having_seen new.seen (after_put ring h.index place w old)
    → (room < hold) × Keeps queue new (slice_set slots i None) (room + 1) hold
keeps_less queue old new slots room hold i h ring place w before was is = (
  some,
  record {
    own = ap (λ (p : PassStanding PortBuffer). p.queue) is ∙ before.own;
    places = length-set slots i None ∙ before.places;
    here =
        λ j v at.
        let differs = apart j (Some v) at (λ (e : Some None ≡ Some (Some v)). cc) in
        let stands = before.here j v (other_place j differs ∙ at) in
        record {
          queue_of = stands.queue_of;
          pass = stands.pass ∙ sym number;
          index = stands.index;
          holds = ap (times j) now ∙ less_other old.held i j differs ∙ stands.holds;
        };
    free =
        λ j at.
        elim (cases_eq j i) [
          | inl same ↦ ap (λ k. times k new.held) same ∙ gone
          | inr differs ↦ ap (times j) now ∙ less_other old.held i j differs ∙ before.free j (other_place j differs ∙ at)
        ];
    past =
        λ j at.
        let differs = none_set slots i j None (Some h) was at in
        ap (times j) now ∙ less_other old.held i j differs ∙ before.past j (other_place j differs ∙ at);
    room_is = let u = before.room_is in let l = left in let len = ap length now in omega (arith, u, l, len);
  },
)
  where
    stands_i : StandsAt queue old i h
    stands_i = before.here i h was

    now : new.held ≡ without i old.held
    now = ap (λ (p : PassStanding PortBuffer). p.held) is ∙ ap (λ k. without k old.held) stands_i.index

    number : new.number ≡ old.number
    number = ap (λ (p : PassStanding PortBuffer). p.number) is

    left : length (without i old.held) + 1 ≡ length old.held
    left = let l = less_length old.held i in let one = stands_i.holds in omega (arith, l, one)

    some : room < hold
    some = let u = before.room_is in let l = left in omega (arith, u, l)

    gone : times i new.held ≡ 0
    gone = ap (times i) now ∙ less_here old.held i

    other_place : (j : ℕ) → j ≢ i → slice_get slots j ≡ slice_get (slice_set slots i None) j
    other_place j differs = sym (set_other slots i j None differs)

    apart : (j : ℕ) (x : Option Value) → slice_get (slice_set slots i None) j ≡ Some x → (Some None ≡ Some x → ⊥) → j ≢ i
    apart j x at differs e = differs (sym (set_here slots i (Some h) None was) ∙ ap (slice_get (slice_set slots i None)) (sym e) ∙ at)

-- nothing came and nothing went
pub keeps_alike : (queue : PortQueue) (old new : PassStanding PortBuffer) (slots : List (Option Value)) (room hold : ℕ) → Keeps queue old slots room hold → IsAlike old new
    → Keeps queue new slots room hold
keeps_alike queue old new slots room hold before is =
    record {
      own = is.queue ∙ before.own;
      places = before.places;
      here =
          λ i h at.
          let stands = before.here i h at in
          record {
            queue_of = stands.queue_of;
            pass = stands.pass ∙ sym is.number;
            index = stands.index;
            holds = ap (times i) is.held ∙ stands.holds;
          };
      free = λ i at. ap (times i) is.held ∙ before.free i at;
      past = λ i at. ap (times i) is.held ∙ before.past i at;
      room_is = let len = ap length is.held in let u = before.room_is in omega (arith, u, len);
    }
