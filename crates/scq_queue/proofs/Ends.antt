-- What the seats of all passes say together, in the words of passes.
use Rattle.std.proofs.Common.{◌≡◌, ℕ, zero, suc, ◌+◌, ◌<◌, List, [], ◌∷◌, ◌++◌, length, map, take, refl, sym, ◌∙◌, ap, subst, inl, inr, arith, eq-eqb, ne_eqb}
use Rattle.std.specs.List.{Contains, filter_map}
use Rattle.std.specs.Prelude.{All, Option, Some, slice_get, sum, sum_by}
use Rattle.std.proofs.lemmas.Bool.{cases_eq}
use Rattle.std.proofs.lemmas.List.{length-append, length-map}
use Rattle.std.proofs.lemmas.List.Elements.{All-head, All-tail, All-map}
use Rattle.std.proofs.lemmas.List.Sums.{sum_by-cons}
use Rattle.std.proofs.Math.Dec.{eqb-suc-zero}
use Rattle.scq_core.specs.declared.ended.Ended.{Ended}
use Rattle.scq_core.specs.declared.ended.Ended.TheVariants.{Done, Got}
use Rattle.scq_word.specs.declared.setup.Setup.{Setup}
use Rattle.scq_law.specs.Exports.{times, tally, openings, was_done, was_got}
use Rattle.scq_band.specs.Exports.{Identity, IsAsGiven, caller_of as band_caller}
use Rattle.scq_band.specs.Standing.{Standing}
use Rattle.scq_band.specs.Closing as band
use Rattle.scq_band.proofs.ClosedRecords.{map_back, map_on}
use Rattle.scq_band.proofs.Slots.{times-append}
use Rattle.scq_queue.specs.Exports.{Placed, sent_by, taken_by, sends_of, takes_of, on_topic, PassStanding, HeldStanding, records_of, all_held}
use Rattle.scq_queue.specs.Exports.{callers_of, WasSent, WasTaken, EachTakeIsASend, NoPlaceIsSentTwice, NoPlaceIsTakenTwice, IsBalance}
use Rattle.scq_queue.specs.Exports.{EachSendPassedIsTaken, IsAllThere, AllRetiredWhereTold, EachSeenRetiredHas, AreTheHeld, seat_of_pass, value_of}
use Rattle.scq_queue.specs.Exports.{HasGivenBuffer}
use Rattle.scq_queue.proofs.Hands.{indices-all_lifted, lifted-all_lifted}
use Rattle.scq_queue.proofs.Records.{CameBy, came_by, gives_one, sent_call, taken_call, done_sent, got_taken}

-- a sum over passes is one over what each gives
sum_images : {A C : Type 0} (f : A → C) (g : C → ℕ) (xs : List A) → sum_by g (map f xs) ≡ sum_by (λ x. g (f x)) xs
sum_images f g [] = refl
sum_images f g (x ∷ xs) =
    let rest = sum_images f g xs in
    sum_by-cons g (f x) (map f xs) ∙ ap (λ n. g (f x) + n) rest ∙ sym (sum_by-cons (λ u. g (f u)) x xs)

sum_same : {A : Type 0} (f g : A → ℕ) (xs : List A) → ((x : A) → f x ≡ g x) → sum_by f xs ≡ sum_by g xs
sum_same f g [] same = refl
sum_same f g (x ∷ xs) same =
    let rest = sum_same f g xs same in
    let one = same x in
    let left = sum_by-cons f x xs in
    let right = sum_by-cons g x xs in
    omega arith

-- a list that has each number as often as another is as long
split_at : (x : ℕ) (ys : List ℕ) → 0 < times x ys → (front : List ℕ) × (behind : List ℕ) × (ys ≡ front ++ x ∷ behind)
split_at x [] some = absurd (omega arith)
split_at x (y ∷ ys) some =
    elim (cases_eq y x) [
      | inl same ↦ ([], ys, ap (λ (n : ℕ). n ∷ ys) same)
      | inr other ↦
          let seen = rw (ne_eqb y x other) at some in
          let rest = split_at x ys (omega (arith, seen)) in
          (y ∷ rest.0, rest.1, ap (λ (l : List ℕ). y ∷ l) rest.2)
    ]

same_length : (xs ys : List ℕ) → ((i : ℕ) → times i xs ≡ times i ys) → length xs ≡ length ys
same_length [] [] same = refl
same_length [] (y ∷ ys) same =
    let none : 0 ≡ 1 + times y ys = same y ∙ rw (eq-eqb y y refl) refl in
    absurd (omega arith)
same_length (x ∷ xs) ys same =
    let here : times x (x ∷ xs) ≡ 1 + times x xs = rw (eq-eqb x x refl) refl in
    let some : 0 < times x ys = let s = same x in omega arith in
    let cut = split_at x ys some in
    let rest = same_length xs (cut.0 ++ cut.1) (λ i.
    let whole : times i (x ∷ xs) ≡ times i (cut.0 ++ x ∷ cut.1) = same i ∙ ap (times i) cut.2 in
    let parts = times-append i cut.0 (x ∷ cut.1) in
    let joined = times-append i cut.0 cut.1 in
    omega arith) in
    let lengths = ap length cut.2 in
    let parts = length-append cut.0 (x ∷ cut.1) in
    let joined = length-append cut.0 cut.1 in
    omega arith

-- one list after the other
abbrev joined_up : List (List ℕ) → List ℕ
joined_up [] = []
joined_up (xs ∷ xss) = xs ++ joined_up xss

times-joined_up : (i : ℕ) (xss : List (List ℕ)) → times i (joined_up xss) ≡ sum_by (times i) xss
times-joined_up i [] = refl
times-joined_up i (xs ∷ xss) =
    let rest = times-joined_up i xss in
    let one = times-append i xs (joined_up xss) in
    let cons = sum_by-cons (times i) xs xss in
    omega arith

length-joined_up : (xss : List (List ℕ)) → length (joined_up xss) ≡ sum_by length xss
length-joined_up [] = refl
length-joined_up (xs ∷ xss) =
    let rest = length-joined_up xss in
    let one = length-append xs (joined_up xss) in
    let cons = sum_by-cons length xs xss in
    omega arith

-- as many indices as stand in some lists, where each stands as often in one
pub same_total : (xs : List ℕ) (xss : List (List ℕ)) → ((i : ℕ) → times i xs ≡ sum_by (times i) xss) → length xs ≡ sum_by length xss
same_total xs xss same =
    same_length xs (joined_up xss) (λ i. same i ∙ sym (times-joined_up i xss)) ∙ length-joined_up xss

-- what is read of the seats is read of the passes
images : {A B C : Type 0} (f : A → B) (g : B → C) (xs : List A) → map g (map f xs) ≡ map (λ x. g (f x)) xs
images f g [] = refl
images f g (x ∷ xs) = ap (λ l. g (f x) ∷ l) (images f g xs)

map_same : {A C : Type 0} (f g : A → C) → ((x : A) → f x ≡ g x) → (xs : List A) → map f xs ≡ map g xs
map_same f g same [] = refl
map_same f g same (x ∷ xs) = ap (λ y. y ∷ map f xs) (same x) ∙ ap (λ l. g x ∷ l) (map_same f g same xs)

-- a put of a topic's ring is a send, and a get a take
abbrev sent_as : Placed → Ended
sent_as m = Done (suc m.topic) m.place m.bytes

abbrev taken_as : Placed → Ended
taken_as m = Got (suc m.topic) m.place m.bytes

module _ {B : Type 0} where
  module _ (passes : List (PassStanding B)) (seats : List (Standing B)) (are : seats ≡ map seat_of_pass passes) where
    read_as : {A : Type 0} (f : Standing B → A) → map f seats ≡ map (λ (p : PassStanding B). f (seat_of_pass p)) passes
    read_as f = ap (λ (l : List (Standing B)). map f l) are ∙ images seat_of_pass f passes

    pub calls_are : band.all_calls seats ≡ records_of passes
    calls_are = read_as (λ (s : Standing B). s.calls)

    pub known_are : band.all_known seats ≡ map (λ (p : PassStanding B). p.numbers) passes
    known_are = read_as (λ (s : Standing B). s.numbers)

    pub spent_are : band.all_spent seats ≡ map (λ (p : PassStanding B). p.spent) passes
    spent_are = read_as (λ (s : Standing B). s.spent)

    pub callers_are : band.callers_of seats ≡ callers_of passes
    callers_are = read_as (λ (s : Standing B). band_caller s)

    pub hands_are : band.all_hands seats ≡ all_held passes
    hands_are =
        read_as (λ (s : Standing B). band.indices_of s.hand)
        ∙ map_same (λ (p : PassStanding B). band.indices_of (seat_of_pass p).hand) (λ p. p.held) (λ p. indices-all_lifted B p.held) passes

  -- a call of a pass, in the records
  called : (passes : List (PassStanding B)) (a x : ℕ) (p : PassStanding B) (e : Ended) → slice_get passes a ≡ Some p → slice_get p.calls x ≡ Some e
      → band.CallEndedSo (records_of passes) a x e
  called passes a x p e its is = (p.calls, map_on (λ (q : PassStanding B). q.calls) passes a p its, is)

  -- the calls of one kind, where `h` reads what such a call sent or took
  module _ (h : Ended → Option Placed) (call : Placed → Ended) (gives : (m : Placed) → h (call m) ≡ Some m)
      (is_call : (e : Ended) (m : Placed) → h e ≡ Some m → e ≡ call m) (passes : List (PassStanding B)) where
    abbrev By : ℕ → ℕ → Placed → Type 0
    By pass number m = (p : PassStanding B) × (slice_get passes pass ≡ Some p) × (slice_get (filter_map h p.calls) number ≡ Some m)

    by_ended : (m : Placed) → band.SomeCallEndedSo (records_of passes) (call m) → (pass : ℕ) × (number : ℕ) × By pass number m
    by_ended m ended =
        let back = map_back (λ (q : PassStanding B). q.calls) passes ended.seat ended.is.0 ended.is.1 in
        let is : slice_get back.0.calls ended.number ≡ Some (call m) =
        subst (λ (calls : List Ended). slice_get calls ended.number ≡ Some (call m)) (sym back.2) ended.is.2 in
        let one = gives_one h back.0.calls ended.number (call m) m is (gives m) in
        (ended.seat, one.0, (back.0, back.1, one.1))

    -- the call of the record by which it came
    module _ (pass number : ℕ) (m : Placed) (by : By pass number m) where
      came : CameBy h by.0.calls number m
      came = came_by h by.0.calls number m by.2

      came_call : band.CallEndedSo (records_of passes) pass came.at (call m)
      came_call = called passes pass came.at by.0 _ by.1 (came.is ∙ ap (λ (e : Ended). Some e) (is_call came.call m came.gives))

      ended_by : band.SomeCallEndedSo (records_of passes) (call m)
      ended_by = record { seat = pass; number = came.at; is = came_call }

    by_once : (a x b y : ℕ) (m n : Placed) → By a x m → By b y n
        → ((i j : ℕ) → band.CallEndedSo (records_of passes) a i (call m) → band.CallEndedSo (records_of passes) b j (call n) → (a ≡ b) × (i ≡ j)) → (a ≡ b) × (x ≡ y)
    by_once a x b y m n first second once =
        let p = first.0 in
        let q = second.0 in
        let one = came a x m first in
        let other = came b y n second in
        let same = once one.at other.at (came_call a x m first) (came_call b y n second) in
        let pass : p ≡ q = let left = first.1 in let right = second.1 in let seat = same.0 in
        let both : Some p ≡ Some q = sym left ∙ ap (slice_get passes) seat ∙ right in cc in
        let number : length (filter_map h (take one.at p.calls)) ≡ length (filter_map h (take other.at q.calls)) =
        ap (λ (u : PassStanding B). length (filter_map h (take one.at u.calls))) pass ∙ ap (λ (k : ℕ). length (filter_map h (take k q.calls))) same.1 in
        (same.0, one.before ∙ number ∙ sym other.before)

  pub ended_sent : (passes : List (PassStanding B)) (m : Placed) → band.SomeCallEndedSo (records_of passes) (sent_as m) → WasSent passes m
  ended_sent passes m ended =
      let by = by_ended sent_by sent_as (λ (n : Placed). refl) sent_call passes m ended in
      record { pass = by.0; number = by.1; is = by.2 }

  pub ended_taken : (passes : List (PassStanding B)) (m : Placed) → band.SomeCallEndedSo (records_of passes) (taken_as m) → WasTaken passes m
  ended_taken passes m ended =
      let by = by_ended taken_by taken_as (λ (n : Placed). refl) taken_call passes m ended in
      record { pass = by.0; number = by.1; is = by.2 }

  module _ (c : Setup) (opening : List (List ℕ)) (passes : List (PassStanding B)) where
    pub takes_are_sends : band.EachGetHasItsPut c opening (records_of passes) → EachTakeIsASend passes
    takes_are_sends gets m taken =
        elim (gets (suc m.topic) m.place m.bytes (ended_by taken_by taken_as (λ (n : Placed). refl) taken_call passes taken.pass taken.number m taken.is)) [
          | inl opened ↦ let no : suc m.topic ≡ 0 = opened.ring in absurd (omega arith)
          | inr ended ↦ ended_sent passes m ended
        ]

    pub none_taken_twice : band.NoneIsGotTwice (records_of passes) → NoPlaceIsTakenTwice passes
    none_taken_twice once a x b y m n first second topic place =
        by_once taken_by taken_as (λ (k : Placed). refl) taken_call passes a x b y m n first second (λ i j one other.
        let same : band.CallEndedSo (records_of passes) b j (Got (suc m.topic) m.place n.bytes) = rw (topic, place) other in
        once (suc m.topic) m.place m.bytes n.bytes a i b j one same)

    pub none_sent_twice : band.NoneIsPutTwice c opening (records_of passes) → NoPlaceIsSentTwice passes
    none_sent_twice puts a x b y m n first second topic place =
        by_once sent_by sent_as (λ (k : Placed). refl) sent_call passes a x b y m n first second (λ i j one other.
        let same : band.CallEndedSo (records_of passes) b j (Done (suc m.topic) m.place n.bytes) = rw (topic, place) other in
        puts.once (suc m.topic) m.place m.bytes n.bytes a i b j one same)

    pub sends_passed : band.EachPutPassedIsGot c opening (records_of passes) (map (λ (p : PassStanding B). p.numbers) passes) → EachSendPassedIsTaken passes
    sends_passed passed m pass p sent its known =
        ended_taken passes m (passed (suc m.topic) m.place m.bytes
        (inr (ended_by sent_by sent_as (λ (n : Placed). refl) sent_call passes sent.pass sent.number m sent.is))
        (record { seat = pass; numbers = p.numbers; its = map_on (λ (q : PassStanding B). q.numbers) passes pass p its; passed = known }))

    no_opening : (t : ℕ) → openings c (suc t) ≡ 0
    no_opening t = rw (eqb-suc-zero t) refl

    pub balance_of : (left : List ℕ) → band.IsBalance c (records_of passes) left → IsBalance c passes left
    balance_of left is =
        record {
          rings = is.rings;
          balance =
              λ topic low.
              let sum_is = is.balance (suc topic) low in
              let none = no_opening topic in
              let gets = sum_images (λ (p : PassStanding B). p.calls) (tally (was_got (suc topic))) passes
              ∙ sum_same (λ (p : PassStanding B). tally (was_got (suc topic)) p.calls) (λ p. on_topic topic (takes_of p.calls)) passes
              (λ p. got_taken topic p.calls) in
              let puts = sum_images (λ (p : PassStanding B). p.calls) (tally (was_done (suc topic))) passes
              ∙ sum_same (λ (p : PassStanding B). tally (was_done (suc topic)) p.calls) (λ p. on_topic topic (sends_of p.calls)) passes
              (λ p. done_sent topic p.calls) in
              omega (arith, sum_is, none, gets, puts);
        }

    pub retired_where_told : band.AllRetiredWhereClosed (map seat_of_pass passes) → AllRetiredWhereTold passes
    retired_where_told all a b told other its gate others =
        all a b (seat_of_pass told) (seat_of_pass other) (map_on seat_of_pass passes a told its) gate (map_on seat_of_pass passes b other others)

    pub retirees_have : band.EachSeenRetiredHas (map seat_of_pass passes) → EachSeenRetiredHas passes
    retirees_have all a b calls one other its others has =
        all a b calls (seat_of_pass one) (seat_of_pass other) (map_on seat_of_pass passes a one its) (map_on seat_of_pass passes b other others) has

  -- the indices in the hands of all seats are those that are held
  pub held_sum : (passes : List (PassStanding B)) (i : ℕ)
      → sum_by (λ (s : Standing B). times i (band.lifted_of s.hand)) (map seat_of_pass passes) ≡ sum_by (λ (p : PassStanding B). times i p.held) passes
  held_sum passes i =
      sum_images seat_of_pass (λ (s : Standing B). times i (band.lifted_of s.hand)) passes
      ∙ sum_same (λ (p : PassStanding B). times i (band.lifted_of (seat_of_pass p).hand)) (λ p. times i p.held) passes
      (λ p. ap (times i) (lifted-all_lifted B p.held))

  pub indices_out : (held : List (HeldStanding B)) → band.indices_of (map value_of held) ≡ map (λ (h : HeldStanding B). h.index) held
  indices_out held = images value_of (λ (x : ℕ × B). x.0) held

  -- the seats of a queue's passes are its band's
  pub seats_own : (queue : Identity B) (passes : List (PassStanding B)) → All (λ (p : PassStanding B). p.queue ≡ queue) passes
      → All (λ (s : Standing B). s.band ≡ queue) (map seat_of_pass passes)
  seats_own queue passes all = All-map (λ (s : Standing B). s.band ≡ queue) seat_of_pass passes all

  -- all that they hold is lifted
  pub seats_lifted : (passes : List (PassStanding B)) → All (λ (s : Standing B). band.HoldsLifted s) (map seat_of_pass passes)
  seats_lifted passes =
      All-map (λ (s : Standing B). band.HoldsLifted s) seat_of_pass passes
      (λ k d low i. ap (times i) (lifted-all_lifted B _ ∙ sym (indices-all_lifted B _)))

  -- the buffers of held values, with their indices, are those that are lifted
  same_given : (IsSame : B → B → Type 0) (queue : Identity B) (held : List (HeldStanding B)) → All (HasGivenBuffer IsSame) held
      → ((k : ℕ) (h : HeldStanding B) → slice_get held k ≡ Some h → h.queue ≡ queue) → (o : ℕ × B) → Contains (map value_of held) o
      → IsAsGiven IsSame queue.given o.0 o.1
  same_given IsSame queue [] given own o there = absurd (let low = there.1 in omega (arith, low))
  same_given IsSame queue (h ∷ held) given own o (zero, low, is) =
      subst (λ (u : ℕ × B). IsAsGiven IsSame queue.given u.0 u.1) is
      (subst (λ (q : Identity B). IsAsGiven IsSame q.given h.index h.buffer) (own 0 h refl) (All-head (HasGivenBuffer IsSame) h held given))
  same_given IsSame queue (h ∷ held) given own o (suc k, low, is) =
      same_given IsSame queue held (All-tail (HasGivenBuffer IsSame) h held given) (λ j v e. own (suc j) v e) o (k, omega arith, is)

  pub are_lifted : (IsSame : B → B → Type 0) (queue : Identity B) (passes : List (PassStanding B)) (held : List (HeldStanding B)) → AreTheHeld queue passes held
      → All (HasGivenBuffer IsSame) held → band.AreTheLifted IsSame queue (map seat_of_pass passes) (map value_of held)
  are_lifted IsSame queue passes held are given =
      record {
        lifted = λ i. ap (times i) (indices_out held) ∙ are.all i ∙ sym (held_sum passes i);
        same = same_given IsSame queue held given are.queue_of;
      }

  -- as many values as the hands of all seats have indices
  pub held_count : (queue : Identity B) (passes : List (PassStanding B)) (held : List (HeldStanding B)) → AreTheHeld queue passes held
      → sum_by length (all_held passes) ≡ length held
  held_count queue passes held are =
      sym (same_total (map (λ (h : HeldStanding B). h.index) held) (all_held passes)
      (λ i. are.all i ∙ sym (sum_images (λ (p : PassStanding B). p.held) (times i) passes)))
      ∙ length-map held (λ (h : HeldStanding B). h.index)

  pub all_is_there : (c : Setup) (queue : Identity B) (passes : List (PassStanding B)) (held : List (HeldStanding B)) (left : List ℕ)
      → AreTheHeld queue passes held → band.IsAllThere c (all_held passes) left → IsAllThere c held left
  all_is_there c queue passes held left are there =
      let count = held_count queue passes held are in
      ap (λ (n : ℕ). sum left + n) (sym count) ∙ there

-- what holds of all buffers that seats hold, holds of those that are out
pub all_out : {B : Type 0} (P : ℕ × B → Type 0) (seats : List (Standing B)) (out : List (ℕ × B)) → All P (band.held_buffers seats out) → All P out
all_out P [] out all = all
all_out P (s ∷ ss) out all = all_out P ss out (All-behind P (band.laid_of s.hand) (band.held_buffers ss out) all)
  where
    All-behind : {A : Type 0} (Q : A → Type 0) (xs ys : List A) → All Q (xs ++ ys) → All Q ys
    All-behind Q [] ys all = all
    All-behind Q (x ∷ xs) ys all = All-behind Q xs ys (All-tail Q x (xs ++ ys) all)
