-- The files of seats, event by event
use Rattle.std.proofs.Common.{◌≡◌, ℕ, ◌+◌, ◌<◌, ◌≤◌, inl, inr, List, Option, Some, None, length, nat_eq, cond, MatchOption, sym, ◌∙◌, ap, subst, arith}
use Rattle.std.specs.Ordering.{nat_cmp}
use Rattle.std.specs.BTreeMap.{get, is_at, IsEmpty}
use Rattle.std.specs.Map.{lookup}
use Rattle.std.proofs.lemmas.Bool.{cases_eq}
use Rattle.std.proofs.lemmas.Bool.Decides.{eqb_tells}
use Rattle.std.proofs.lemmas.Option.{slice_get_within}
use Rattle.scq_judge.specs.Exports.{event_seat, EventIsAt, EachSeatInOneFile, HasSeatOfAnother, NoneBefore, IsSeatHome, AreHomes, IsAtHome, IsAway}
use Rattle.scq_judge.specs.Exports.{IsAwayFrom}
use Rattle.scq_judge.specs.declared.recorded.Place.{Place}
use Rattle.scq_judge.specs.declared.recorded.Stamped.{Stamped}
use Rattle.scq_judge.specs.declared.seats.Homes.{Homes}

pub homes_start : (events : List Stamped) (homes : Homes) → IsEmpty homes.known → AreHomes events 0 homes
homes_start events homes empty = record {
  each = λ seat. subst (λ o. MatchOption o (NoneBefore events 0 seat) (IsSeatHome events 0 seat)) (sym (ap (λ es. lookup (is_at (nat_cmp seat)) es) empty))
      (record { none = λ k place lt. absurd (omega arith) });
}

-- one event stands at a position
one_at : (events : List Stamped) (i s t : ℕ) (a b : Place) → EventIsAt events i s a → EventIsAt events i t b → (s ≡ t) × (a ≡ b)
one_at events i s t a b x y =
    let p = x.stands in let q = y.stands in
    let same : x.event ≡ y.event = cc in
    (x.seat_is ∙ ap (λ (e : Stamped). event_seat e.event) same ∙ sym y.seat_is, x.place_is ∙ ap (λ (e : Stamped). e.place) same ∙ sym y.place_is)

-- the seat has no home yet
pub home_none : (events : List Stamped) (i seat : ℕ) (place : Place) (homes : Homes) → get nat_cmp homes.known seat ≡ None → EventIsAt events i seat place
    → AreHomes events i homes → IsAtHome events i
home_none events i seat place homes none here are k s a b lt at_k at_i =
    let empty : NoneBefore events i seat = subst (λ o. MatchOption o (NoneBefore events i seat) (IsSeatHome events i seat)) none (are.each seat) in
    let same = one_at events i seat s place b here at_i in
    absurd (empty.none k a lt (subst (λ z. EventIsAt events k z a) (sym same.0) at_k))

home_of : (events : List Stamped) (i seat : ℕ) (home : Place) (homes : Homes) → get nat_cmp homes.known seat ≡ Some home → AreHomes events i homes
    → IsSeatHome events i seat home
home_of events i seat home homes is are = subst (λ o. MatchOption o (NoneBefore events i seat) (IsSeatHome events i seat)) is (are.each seat)

-- the home is in the event's file, or it isn't
pub home_decides : (events : List Stamped) (i seat : ℕ) (place home : Place) (homes : Homes) (told : Option Place) → get nat_cmp homes.known seat ≡ Some home
    → MatchOption told (home.file ≡ place.file) (λ other. (other ≡ home) × (¬ (home.file ≡ place.file)))
    → EventIsAt events i seat place → AreHomes events i homes → MatchOption told (IsAtHome events i) (IsAway events i)
home_decides events i seat place home homes None is file here are = λ k s a b lt at_k at_i.
    let known = home_of events i seat home homes is are in
    let same = one_at events i seat s place b here at_i in
    known.all k a lt (subst (λ z. EventIsAt events k z a) (sym same.0) at_k) ∙ file ∙ ap (λ (p : Place). p.file) same.1
home_decides events i seat place home homes (Some other) is told here are =
    let known = home_of events i seat home homes is are in
    subst (λ z. IsAway events i z) (sym told.0) (place, record { k = known.k; seat = seat; here = here; there = known.there; apart = told.1 })

-- one event more, of another seat
others_none : (events : List Stamped) (i seat s : ℕ) (place : Place) → EventIsAt events i s place → (s ≡ seat → ⊥) → NoneBefore events i seat → NoneBefore events (i + 1) seat
others_none events i seat s place here other before = record {
  none = λ k p lt at_k. elim (cases_eq k i) [
    | inl is ↦ other (one_at events i s seat place p here (subst (λ z. EventIsAt events z seat p) is at_k)).0
    | inr ne ↦ before.none k p (omega arith) at_k
  ];
}

others_home : (events : List Stamped) (i seat s : ℕ) (place home : Place) → EventIsAt events i s place → (s ≡ seat → ⊥) → IsSeatHome events i seat home → IsSeatHome events (i + 1) seat home
others_home events i seat s place home here other known = record {
  k = known.k;
  before = (let lt = known.before in omega arith);
  there = known.there;
  all = λ k p lt at_k. elim (cases_eq k i) [
    | inl is ↦ absurd (other (one_at events i s seat place p here (subst (λ z. EventIsAt events z seat p) is at_k)).0)
    | inr ne ↦ known.all k p (omega arith) at_k
  ];
}

others : (events : List Stamped) (i seat s : ℕ) (place : Place) (o : Option Place) → EventIsAt events i s place → (s ≡ seat → ⊥)
    → MatchOption o (NoneBefore events i seat) (IsSeatHome events i seat) → MatchOption o (NoneBefore events (i + 1) seat) (IsSeatHome events (i + 1) seat)
others events i seat s place None here other before = others_none events i seat s place here other before
others events i seat s place (Some home) here other known = others_home events i seat s place home here other known

-- of the same seat, which has a home
own_home : (events : List Stamped) (i seat : ℕ) (place home : Place) → EventIsAt events i seat place → IsAtHome events i → IsSeatHome events i seat home
    → IsSeatHome events (i + 1) seat home
own_home events i seat place home here at_home known = record {
  k = known.k;
  before = (let lt = known.before in omega arith);
  there = known.there;
  all = λ k p lt at_k. elim (cases_eq k i) [
    | inl is ↦ sym (at_home known.k seat home p known.before known.there (subst (λ z. EventIsAt events z seat p) is at_k))
    | inr ne ↦ known.all k p (omega arith) at_k
  ];
}

-- of a seat that has none
new_home : (events : List Stamped) (i seat : ℕ) (place : Place) → EventIsAt events i seat place → NoneBefore events i seat → IsSeatHome events (i + 1) seat place
new_home events i seat place here empty = record {
  k = i;
  before = omega arith;
  there = here;
  all = λ k p lt at_k. elim (cases_eq k i) [
    | inl is ↦ ap (λ (q : Place). q.file) (one_at events i seat seat p place (subst (λ z. EventIsAt events z seat p) is at_k) here).1
    | inr ne ↦ absurd (empty.none k p (omega arith) at_k)
  ];
}

-- after one event more, of a seat that has a home
pub homes_kept : (events : List Stamped) (i seat : ℕ) (place home : Place) (homes : Homes) → get nat_cmp homes.known seat ≡ Some home → EventIsAt events i seat place
    → IsAtHome events i → AreHomes events i homes → AreHomes events (i + 1) homes
homes_kept events i seat place home homes some here at_home are = record {
  each = λ q. elim (eqb_tells seat q) [
    | inl s ↦ subst (λ z. MatchOption (get nat_cmp homes.known z) (NoneBefore events (i + 1) z) (IsSeatHome events (i + 1) z)) s.1
        (subst (λ o. MatchOption o (NoneBefore events (i + 1) seat) (IsSeatHome events (i + 1) seat)) (sym some)
        (own_home events i seat place home here at_home (home_of events i seat home homes some are)))
    | inr s ↦ others events i q seat place (get nat_cmp homes.known q) here s.1 (are.each q)
  ];
}

-- and of one that has none
pub homes_more : (events : List Stamped) (i seat : ℕ) (place : Place) (old new : Homes) → get nat_cmp old.known seat ≡ None → EventIsAt events i seat place
    → ((q : ℕ) → get nat_cmp new.known q ≡ cond (nat_eq seat q) (Some place) (get nat_cmp old.known q))
    → AreHomes events i old → AreHomes events (i + 1) new
homes_more events i seat place old new none here now are = record {
  each = λ q. elim (eqb_tells seat q) [
    | inl s ↦ (let there : get nat_cmp new.known q ≡ Some place = rw s.0 at (now q) in
        subst (λ o. MatchOption o (NoneBefore events (i + 1) q) (IsSeatHome events (i + 1) q)) (sym there)
        (subst (λ z. IsSeatHome events (i + 1) z place) s.1 (new_home events i seat place here
        (subst (λ o. MatchOption o (NoneBefore events i seat) (IsSeatHome events i seat)) none (are.each seat)))))
    | inr s ↦ (let there : get nat_cmp new.known q ≡ get nat_cmp old.known q = rw s.0 at (now q) in
        subst (λ o. MatchOption o (NoneBefore events (i + 1) q) (IsSeatHome events (i + 1) q)) (sym there)
        (others events i q seat place (get nat_cmp old.known q) here s.1 (are.each q)))
  ];
}

-- all events have gone by
pub homes_all : (events : List Stamped) (i : ℕ) (homes : Homes) → length events ≤ i → AreHomes events i homes → EachSeatInOneFile events
homes_all events i homes past are j k seat a b at_j at_k = by (get nat_cmp homes.known seat) (are.each seat) where
  j_lt : j < i
  j_lt = let lt = slice_get_within events j at_j.event at_j.stands in omega arith

  k_lt : k < i
  k_lt = let lt = slice_get_within events k at_k.event at_k.stands in omega arith

  by : (o : Option Place) → MatchOption o (NoneBefore events i seat) (IsSeatHome events i seat) → a.file ≡ b.file
  by None empty = absurd (empty.none j a j_lt at_j)
  by (Some home) known = known.all j a j_lt at_j ∙ sym (known.all k b k_lt at_k)

-- an event that is away
pub away_there : (events : List Stamped) (i seat : ℕ) (place other : Place) → EventIsAt events i seat place → IsAway events i other → HasSeatOfAnother events place other
away_there events i seat place other here away =
    let same = one_at events i away.1.seat seat away.0 place away.1.here here in
    (i, subst (λ z. IsAwayFrom events i z other) same.1 away.1)
