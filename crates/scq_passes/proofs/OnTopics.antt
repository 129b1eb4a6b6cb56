-- Sends and takes topic by topic: of one record, and of all passes.
use Rattle.std.proofs.Common.{◌≡◌, refl, sym, ◌∙◌, ap, subst, arith, zero, suc, ℕ, ◌+◌, ◌≤◌, List, [], ◌∷◌, ◌++◌, length, Bool, true, ⊎_elim, rules}
use Rattle.std.specs.Prelude.{flat_map, ◌==◌}
use Rattle.std.specs.List.{Contains}
use Rattle.std.specs.List.Sorted.{IsPermutation}
use Rattle.std.proofs.lemmas.Bool.{ne_eqb, eq-eqb, eqb-true, cases_eq}
use Rattle.std.proofs.lemmas.List.{append-nil, length-append}
use Rattle.std.proofs.lemmas.List.Elements.{filter-append, filter_passes, All-filter, All-contains, All-contains_itself, Contains-append_left, Contains-append_right}
use Rattle.std.proofs.lemmas.List.Kept.{AllPairs-filter}
use Rattle.std.proofs.lemmas.List.Sorted.{Contains-permutation, IsPermutation-sym}
use Rattle.scq_core.specs.declared.ended.Ended.{Ended}
use Rattle.scq_core.specs.declared.ended.Ended.TheVariants.{Done, Got, Nothing, Spent}
use Rattle.scq_law.specs.Exports.{tally, was_put}
use Rattle.scq_queue.specs.Exports.{Placed, sends_of, takes_of, PassStanding, EachTakeIsASend, NoPlaceIsTakenTwice}
use Rattle.scq_queue.proofs.Records.{sends-append, takes-append}
use Rattle.scq_collect.proofs.Distinct.{same-members, included-length}
use Rattle.scq_collect.proofs.Orders.{contains-cases, contains-first, contains-more}
use Rattle.scq_passes.specs.Exports.{on, Puts, AreTakesFollowed, and_got, and_found_none, MeetsNoSpent, Apart, all_sends, all_takes, SendsAreTakes}
use Rattle.scq_passes.specs.Exports.{NoPlaceStandsTwice}
use Rattle.scq_passes.specs.Records.{none}
use Rattle.scq_passes.proofs.SendsAndTakes.{distinct, takes-apart, take-was-sent}

-- of a list with one behind it
pub on-append : (topic : ℕ) (xs ys : List Placed) → on topic (xs ++ ys) ≡ on topic xs ++ on topic ys
on-append topic xs ys = filter-append (λ (m : Placed). m.topic == topic) xs ys

-- of one that is of the topic, and of one that is of another
pub on-same : (topic : ℕ) (m : Placed) → m.topic ≡ topic → on topic (m ∷ []) ≡ m ∷ []
on-same topic m is = rw (eq-eqb m.topic topic is) refl

pub on-other : (topic : ℕ) (m : Placed) → (m.topic ≡ topic → ⊥) → on topic (m ∷ []) ≡ []
on-other topic m apart = rw (ne_eqb m.topic topic apart) refl

-- a member of these is one of the list and of the topic, and the other way round
pub on-member : (topic : ℕ) (ms : List Placed) (m : Placed) → Contains (on topic ms) m → Contains ms m × (m.topic ≡ topic)
on-member topic ms m has =
    let test : Placed → Bool = λ (n : Placed). n.topic == topic in
    let there = All-contains (Contains ms) (on topic ms) m (All-filter test (Contains ms) ms (All-contains_itself ms)) has in
    let passes = All-contains (λ (n : Placed). (n.topic == topic) ≡ true) (on topic ms) m (filter_passes test ms) has in
    (there, eqb-true m.topic topic passes)

pub member-on : (topic : ℕ) (ms : List Placed) (m : Placed) → Contains ms m → m.topic ≡ topic → Contains (on topic ms) m
member-on topic [] m has is = absurd (search rules)
member-on topic (n ∷ ms) m has is =
    let split : on topic (n ∷ ms) ≡ on topic (n ∷ []) ++ on topic ms = on-append topic (n ∷ []) ms in
    subst (λ l. Contains l m) (sym split)
    (⊎_elim (λ (same : n ≡ m).
    let alone : on topic (n ∷ []) ≡ n ∷ [] = on-same topic n (ap (λ (x : Placed). x.topic) same ∙ is) in
    Contains-append_left (on topic (n ∷ [])) (on topic ms) m
    (subst (λ l. Contains l m) (sym alone) (subst (λ x. Contains (n ∷ []) x) same (contains-first n []))))
    (λ (h : Contains ms m). Contains-append_right (on topic (n ∷ [])) (on topic ms) m (member-on topic ms m h is))
    (contains-cases n m ms has))

-- the topic's of several lists, one behind the other
pub on-all : {P : Type 0} (topic : ℕ) (f : P → List Placed) (ps : List P) → on topic (flat_map f ps) ≡ flat_map (λ p. on topic (f p)) ps
on-all topic f [] = refl
on-all topic f (p ∷ ps) = on-append topic (f p) (flat_map f ps) ∙ ap (λ l. on topic (f p) ++ l) (on-all topic f ps)

-- the puts that were begun on a topic are the sends to it, where none met Spent
pub puts-on : (topic : ℕ) (calls : List Ended) → MeetsNoSpent calls → tally (was_put (suc topic)) calls ≡ length (on topic (sends_of calls))
puts-on topic [] unspent = refl
puts-on topic (call ∷ calls) unspent =
    let rest = puts-on topic calls (λ ring ticket put has. unspent ring ticket put (contains-more call (Spent ring ticket put) calls has)) in
    let sends : length (on topic (sends_of (call ∷ calls))) ≡ length (on topic (sends_of (call ∷ []))) + length (on topic (sends_of calls)) =
    ap (λ l. length (on topic l)) (sends-append (call ∷ []) calls) ∙ ap length (on-append topic (sends_of (call ∷ [])) (sends_of calls))
    ∙ length-append (on topic (sends_of (call ∷ []))) (on topic (sends_of calls)) in
    let here = one call (λ ring ticket put is. unspent ring ticket put (subst (λ c. Contains (c ∷ calls) (Spent ring ticket put)) (sym is)
    (contains-first (Spent ring ticket put) calls))) in
    omega (arith, rest, sends, here) where
      one : (c : Ended) → ((ring ticket : ℕ) (put : Bool) → c ≡ Spent ring ticket put → ⊥) → was_put (suc topic) c ≡ length (on topic (sends_of (c ∷ [])))
      one (Done zero place bytes) other = rw (ne_eqb 0 (suc topic) (λ e. omega arith)) refl
      one (Done (suc t) place bytes) other =
          ⊎_elim (λ (same : t ≡ topic). rw (eq-eqb (suc t) (suc topic) (ap suc same), eq-eqb t topic same) refl)
          (λ (apart : t ≡ topic → ⊥). rw (ne_eqb (suc t) (suc topic) (λ e. apart (omega arith)), ne_eqb t topic apart) refl) (cases_eq t topic)
      one (Got zero place bytes) other = refl
      one (Got (suc t) place bytes) other = refl
      one (Nothing zero) other = refl
      one (Nothing (suc t)) other = refl
      one (Spent ring ticket put) other = absurd (other ring ticket put refl)

-- where only what was taken from one topic may be put on another, there are at most as many such sends as takes
pub moved-few : {By : Puts} (from to : ℕ)
    → ((topic : ℕ) (bytes : List ℕ) (ring : ℕ) (later : List ℕ) → By topic bytes ring later → ring ≡ suc to → topic ≡ from)
    → (calls : List Ended) → AreTakesFollowed By calls
    → length (on to (sends_of calls)) ≤ length (on from (takes_of calls))
moved-few from to only calls none = omega arith
moved-few from to only calls (and_got {calls = before} topic place bytes ring back later more by) =
    let got : List Ended = Got (suc topic) place bytes ∷ [] in
    let put : List Ended = Done ring back later ∷ [] in
    let front = before ++ got in
    let rest = moved-few from to only before more in
    let sends : length (on to (sends_of (front ++ put))) ≡ length (on to (sends_of before)) + length (on to (sends_of put)) =
    ap (λ l. length (on to l)) (sends-append front put ∙ ap (λ l. l ++ sends_of put) (sends-append before got ∙ append-nil (sends_of before)))
    ∙ ap length (on-append to (sends_of before) (sends_of put)) ∙ length-append (on to (sends_of before)) (on to (sends_of put)) in
    let takes : length (on from (takes_of (front ++ put))) ≡ length (on from (takes_of before)) + length (on from (takes_of got)) =
    ap (λ l. length (on from l)) (takes-append front put ∙ append-nil (takes_of front) ∙ takes-append before got)
    ∙ ap length (on-append from (takes_of before) (takes_of got)) ∙ length-append (on from (takes_of before)) (on from (takes_of got)) in
    let here = one ring (only topic bytes ring later by) in
    omega (arith, rest, sends, takes, here) where
      one : (r : ℕ) → (r ≡ suc to → topic ≡ from) → length (on to (sends_of (Done r back later ∷ []))) ≤ length (on from (takes_of (Got (suc topic) place bytes ∷ [])))
      one zero is = omega arith
      one (suc t) is =
          let sent : Placed = record { topic = t; place = back; bytes = later } in
          let took : Placed = record { topic = topic; place = place; bytes = bytes } in
          ⊎_elim (λ (same : t ≡ to). omega (arith, ap length (on-same to sent same), ap length (on-same from took (is (ap suc same)))))
          (λ (apart : t ≡ to → ⊥). omega (arith, ap length (on-other to sent apart))) (cases_eq t to)
moved-few from to only calls (and_found_none {calls = before} topic more) =
    let none : List Ended = Nothing (suc topic) ∷ [] in
    let rest = moved-few from to only before more in
    omega (
      arith,
      rest,
      ap (λ l. length (on to l)) (sends-append before none ∙ append-nil (sends_of before)),
      ap (λ l. length (on from l)) (takes-append before none ∙ append-nil (takes_of before)),
    )

module _ {B : Type 0} where
  -- however little was swept, there are at most as many takes of a topic as sends to it
  pub few-takes-on : (passes : List (PassStanding B)) → EachTakeIsASend passes → NoPlaceIsTakenTwice passes → (topic : ℕ)
      → length (on topic (all_takes passes)) ≤ length (on topic (all_sends passes))
  few-takes-on passes sent once topic =
      included-length (on topic (all_takes passes)) (on topic (all_sends passes))
      (distinct (on topic (all_takes passes)) (AllPairs-filter Apart (λ (m : Placed). m.topic == topic) (all_takes passes) (takes-apart passes once)))
      (λ m has.
      let its = on-member topic (all_takes passes) m has in
      member-on topic (all_sends passes) m (take-was-sent passes sent m its.0) its.1)

  -- the takes of a topic are the sends to it, in some order
  pub sends-are-takes-on : (passes : List (PassStanding B)) → NoPlaceStandsTwice passes → NoPlaceIsTakenTwice passes → SendsAreTakes passes → (topic : ℕ)
      → IsPermutation (on topic (all_sends passes)) (on topic (all_takes passes))
  sends-are-takes-on passes places once same topic =
      same-members (on topic (all_sends passes)) (on topic (all_takes passes))
      (distinct (on topic (all_sends passes)) (AllPairs-filter Apart (λ (m : Placed). m.topic == topic) (all_sends passes) places))
      (distinct (on topic (all_takes passes)) (AllPairs-filter Apart (λ (m : Placed). m.topic == topic) (all_takes passes) (takes-apart passes once)))
      (λ m has.
      let its = on-member topic (all_sends passes) m has in
      member-on topic (all_takes passes) m (Contains-permutation (all_sends passes) (all_takes passes) m same its.0) its.1)
      (λ m has.
      let its = on-member topic (all_takes passes) m has in
      member-on topic (all_sends passes) m (Contains-permutation (all_takes passes) (all_sends passes) m (IsPermutation-sym (all_sends passes) (all_takes passes) same)
      its.0) its.1)
