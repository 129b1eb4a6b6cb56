-- What a seat keeps after a call.
use Rattle.std.proofs.Common.{◌≡◌, ◌≢◌, ◌⊎◌, ℕ, zero, suc, ◌+◌, ◌^◌, ◌<◌, ◌≤◌, Bool, true, false, List, [], ◌∷◌, ◌++◌, length, refl, sym, ◌∙◌, ap, subst, inl, inr, arith, eq-eqb, ne_eqb}
use Rattle.std.specs.Prelude.{Some, None, Option, IfSome, max, slice_set, slice_get, slice_index_or}
use Rattle.std.specs.List.{Contains}
use Rattle.std.proofs.lemmas.Bool.{cases_eq, cases_lt}
use Rattle.std.proofs.Math.Nat.{max-eq_left, max-eq_right}
use Rattle.std.proofs.lemmas.List.{length-set}
use Rattle.atomic_table.specs.Seated.{TableId}
use Rattle.atomic_table.specs.Table.{Me, rest}
use Rattle.scq_core.specs.Exports.{SeatPart, Location, hand_without, ends}
use Rattle.scq_word.specs.declared.setup.Setup.{Setup}
use Rattle.scq_core.specs.declared.ended.Ended.{Ended}
use Rattle.scq_core.specs.declared.ended.Ended.TheVariants.{Nothing}
use Rattle.scq_core.specs.declared.phase.Phase.TheVariants.{Idle}
use Rattle.scq_core.specs.declared.step.Step.{Step}
use Rattle.scq_law.specs.Exports.{times, IsRecordAfter}
use Rattle.scq_band.specs.declared.numbers.Numbers.{Numbers}
use Rattle.scq_band.specs.Slots.{SlotStanding}
use Rattle.scq_band.specs.declared.rule.Key.{Key}
use Rattle.scq_band.specs.Exports.{known_of, changed, finishes, sees, passes, drew, empties, RisesInHead, Member, at, IsLocation, Sight, StandsAfter}
use Rattle.scq_band.specs.Exports.{Went, Looked, retired_ones, WasShownRun, HasFound, Seen, Caller, EndsWith, IsCallInRun, WasEmptyInRun}
use Rattle.scq_band.specs.Exports.{IsReadingInRun, IsMomentInRun, WasFoundInRun, AllWereSeenRetired, my, bytes_in, front_bytes, IsAlone, looked}
use Rattle.scq_band.specs.Exports.{HasGotAfter, with_part, seated, put_at, got_at, nothing_at, none_at, drew_head, drawn_spent, spent_at}
use Rattle.scq_band.specs.Exports.{HasFoundNone, HasSpentGet, Fronts, LiesIn, opening_of, Identity, in_hand, laid_bytes, bytes_in_hand, having_seen}
use Rattle.scq_band.specs.Exports.{caller_of, seat_after_put, seat_after_get, seat_after_nothing, seat_after_spent_put, seat_after_spent_get}
use Rattle.scq_band.specs.Exports.{SeatHasTaken, indices_of, noted, buffer_in, hand_of, identity_of, standing_from, standing_of, AllGiven, IsSmall, AreSmall}
use Rattle.scq_band.specs.Exports.{IsKept}
use Rattle.scq_band.specs.Known.{Known}
use Rattle.scq_band.specs.Standing.{Standing}
use Rattle.scq_band.proofs.Slots.{times-append, times-without, noted_low, noted_here, noted_else, put_hand}
use Rattle.scq_law.proofs.Aspects.EmptyCalls.{empty_at_call}
use Rattle.scq_band.proofs.DelayedCalls.{call_delayed}
use Rattle.scq_band.proofs.RunShown.{began}
use Rattle.scq_band.proofs.Exchanging.{Brought, kept_once}
use Rattle.scq_band.proofs.Gates.{none_awake, some_awake, ones_gone, gone_ones}

-- what is known of a ring where it was written, or another one
known_set : (ns : List Numbers) (r : ℕ) (y : Numbers) (q : ℕ) → (known_of (slice_set ns r y) q ≡ y) ⊎ (known_of (slice_set ns r y) q ≡ known_of ns q)
known_set [] r y q = inr refl
known_set (n ∷ ns) zero y zero = inl refl
known_set (n ∷ ns) zero y (suc q) = inr refl
known_set (n ∷ ns) (suc r) y zero = inr refl
known_set (n ∷ ns) (suc r) y (suc q) = known_set ns r y q

pub small_changed : (f : Numbers → Numbers) (r : ℕ) (ns : List Numbers) → ((x : Numbers) → IsSmall x → IsSmall (f x)) → AreSmall ns
    → AreSmall (changed f r ns)
small_changed f r ns keeps small q =
    elim (known_set ns r (f (known_of ns r)) q) [ inl new ↦ rw new (keeps (known_of ns r) (small r)) | inr old ↦ rw old (small q) ]

-- an element that was read is the known one, and is there
pub known_read : (ns : List Numbers) (r : ℕ) (x : Numbers) → r < length ns → x ≡ slice_index_or ns r x → x ≡ known_of ns r
known_read [] r x low is = absurd (omega arith)
known_read (n ∷ ns) zero x low is = is
known_read (n ∷ ns) (suc r) x low is = known_read ns r x (omega arith) is

pub known_there : (ns : List Numbers) (r : ℕ) → r < length ns → slice_get ns r ≡ Some (known_of ns r)
known_there [] r low = absurd (omega arith)
known_there (n ∷ ns) zero low = refl
known_there (n ∷ ns) (suc r) low = known_there ns r (omega arith)

-- where a head has not risen, nothing has to be written
pub set_same : (ns : List Numbers) (r : ℕ) (y : Numbers) → y ≡ known_of ns r → r < length ns → ns ≡ slice_set ns r y
set_same [] r y is low = absurd (omega arith)
set_same (n ∷ ns) zero y is low = ap (λ (x : Numbers). x ∷ ns) (sym is)
set_same (n ∷ ns) (suc r) y is low = ap (λ (l : List Numbers). n ∷ l) (set_same ns r y is (omega arith))

pub same_head : (x y : Numbers) → RisesInHead x y → y.head ≤ x.head → y ≡ x
same_head x y rises low =
    let made : ℕ → ℕ → ℕ → Numbers = λ f s h. record { finished = f; seen = s; head = h } in
    let up = rises.head in
    let head : y.head ≡ x.head = omega (arith, up, low) in
    ap (λ f. made f y.seen y.head) rises.finished ∙ ap (λ s. made x.finished s y.head) rises.seen ∙ ap (λ h. made x.finished x.seen h) head

-- two changes of one ring are one change
pub changed_twice : (f g : Numbers → Numbers) (r : ℕ) (ns : List Numbers) → changed f r (changed g r ns) ≡ changed (λ x. f (g x)) r ns
changed_twice f g r [] = refl
changed_twice f g zero (n ∷ ns) = refl
changed_twice f g (suc r) (n ∷ ns) = ap (λ (l : List Numbers). n ∷ l) (changed_twice f g r ns)

pub max_small : (a b : ℕ) → a < 2 ^ 60 → b < 2 ^ 60 → max a b < 2 ^ 60
max_small a b one other =
    elim (cases_lt a b) [
      | inl low ↦ let same : max a b ≡ b = max-eq_right (omega (arith, low)) in rw same other
      | inr high ↦ let same : max a b ≡ a = max-eq_left (omega (arith, high)) in rw same one
    ]

-- the larger of two is no lower than that of two lower ones
pub max_order : (a b x y : ℕ) → a ≤ x → b ≤ y → max a b ≤ max x y
max_order a b x y one other =
    elim (cases_lt x y) [
      | inl low ↦
          let top : max x y ≡ y = max-eq_right (omega (arith, low)) in
          elim (cases_lt a b) [
            | inl less ↦ let same : max a b ≡ b = max-eq_right (omega (arith, less)) in rw (same, top) other
            | inr more ↦ let same : max a b ≡ a = max-eq_left (omega (arith, more)) in rw (same, top) (omega (arith, one, low))
          ]
      | inr high ↦
          let top : max x y ≡ x = max-eq_left (omega (arith, high)) in
          elim (cases_lt a b) [
            | inl less ↦ let same : max a b ≡ b = max-eq_right (omega (arith, less)) in rw (same, top) (omega (arith, other, high))
            | inr more ↦ let same : max a b ≡ a = max-eq_left (omega (arith, more)) in rw (same, top) one
          ]
    ]

pub max_above : (a b : ℕ) → a ≤ max a b
max_above a b =
    elim (cases_lt a b) [
      | inl low ↦ let same : max a b ≡ b = max-eq_right (omega (arith, low)) in rw same (omega (arith, low))
      | inr high ↦ let same : max a b ≡ a = max-eq_left (omega (arith, high)) in rw same (omega arith)
    ]

module _ {B : Type 0} (IsSame : B → B → Type 0) where
  -- after a put of the first index
  pub kept_put : (key : Key B) (me' : Me (SlotStanding B) Known) (v : Known) (i : ℕ) (x : SlotStanding B) (others : List (ℕ × SlotStanding B)) (notes notes' : List Bool)
      (numbers numbers' : List Numbers) (spent : Option ℕ) (r p : ℕ) (w : List ℕ)
      → IsKept IsSame key (v, (i, x) ∷ others) notes numbers spent → notes' ≡ slice_set notes i false
      → numbers' ≡ changed (finishes p) r v.numbers → p < 2 ^ 60 → me' ≡ (put_at r i p w v, others)
      → IsKept IsSame key me' notes' numbers' spent
  kept_put key me' v i x others notes notes' numbers numbers' spent r p w kept less new small now =
      let me : Me (SlotStanding B) Known = (v, (i, x) ∷ others) in
      let split : (j : ℕ) → times j (indices_of me.1) ≡ times j (i ∷ []) + times j (indices_of others) =
      λ j. times-append j (i ∷ []) (indices_of others) in
      let one : times i (i ∷ []) ≡ 1 = rw (eq-eqb i i refl) refl in
      let none : times i (indices_of others) ≡ 0 =
      let s = split i in let once = kept_once IsSame key me notes numbers spent kept i in omega (arith, s, one, once) in
      let there : i < length notes = let s = split i in let is = kept.slots i in noted_low notes i (omega (arith, s, one, is)) in
      let away : (j : ℕ) → j ≢ i → times j (i ∷ []) ≡ 0 = λ j other. rw (ne_eqb i j (λ e. other (sym e))) refl in
      let hand = (my v).part.hand in
      subst (λ (m : Me (SlotStanding B) Known). IsKept IsSame key m notes' numbers' spent) (sym now) (
      record {
        alone = record { seats = refl; out = kept.alone.out };
        idle = refl;
        slots =
            λ j.
            let s = split j in
            let was = kept.slots j in
            elim (cases_eq j i) [
              | inl same ↦
                  let gone : noted notes' i ≡ 0 = ap (λ (l : List Bool). noted l i) less ∙ noted_here notes i false there in
                  rw same (none ∙ sym gone)
              | inr other ↦
                  let still : noted notes' j ≡ noted notes j = ap (λ (l : List Bool). noted l j) less ∙ noted_else notes i j false other in
                  let no = away j other in
                  omega (arith, s, was, still, no)
            ];
        each = ap length less ∙ length-set notes i false ∙ kept.each;
        same =
            λ j.
            let s = split j in
            let was = kept.same j in
            elim (cases_eq j i) [
              | inl same ↦
                  let gone : times i (hand_without i hand) ≡ 0 = times-without i i hand ∙ rw (eq-eqb i i refl) refl in
                  rw same (none ∙ sym gone)
              | inr other ↦
                  let rest : times j (hand_without i hand) ≡ times j hand = times-without i j hand ∙ rw (ne_eqb j i other) refl in
                  let no = away j other in
                  omega (arith, s, was, rest, no)
            ];
        numbers = new;
        rings = ap length new ∙ length-set v.numbers r _ ∙ ap length (sym kept.numbers) ∙ kept.rings;
        small =
            subst AreSmall (sym (new ∙ ap (changed (finishes p) r) (sym kept.numbers)))
            (small_changed (finishes p) r numbers (λ y low. (max_small y.finished p low.0 small, max_order y.finished p y.seen p low.1 (omega arith))) kept.small);
        spent = kept.spent;
        given = kept.given.1;
      })

  -- after a call that left the hand as it was
  pub kept_still : (key : Key B) (me' : Me (SlotStanding B) Known) (v u : Known) (ms : List (ℕ × SlotStanding B)) (notes : List Bool)
      (numbers numbers' : List Numbers)
      (spent spent' : Option ℕ)
      → IsKept IsSame key (v, ms) notes numbers spent → IsAlone u → (my u).part.phase ≡ Idle → (my u).part.hand ≡ (my v).part.hand
      → numbers' ≡ u.numbers → length numbers' ≡ length numbers → AreSmall numbers' → spent' ≡ (my u).part.spent → me' ≡ (u, ms)
      → IsKept IsSame key me' notes numbers' spent'
  kept_still key me' v u ms notes numbers numbers' spent spent' kept alone idle hand new long small keeps now =
      subst (λ (m : Me (SlotStanding B) Known). IsKept IsSame key m notes numbers' spent') (sym now) (
      record {
        alone = alone;
        idle = idle;
        slots = kept.slots;
        each = kept.each;
        same = λ j. kept.same j ∙ ap (times j) (sym hand);
        numbers = new;
        rings = long ∙ kept.rings;
        small = small;
        spent = keeps;
        given = kept.given;
      })

module _ {B : Type 0} where
  -- what contracts see of a seat after a put
  pub put_standing : (contents : B → List ℕ) (IsSame : B → B → Type 0) (fs gs : Seen) (table later : TableId) (key : Key B) (me me' : Me (SlotStanding B) Known)
      (v : Known)
      (ms : List (ℕ × SlotStanding B)) (given : List B) (i : ℕ) (buffer : B) (s : Standing B) (r p : ℕ)
      → standing_from fs table key me ≡ s → later ≡ table → v ≡ me.0 → in_hand s.hand i ≡ Some (Some buffer) → Brought IsSame me given ms i (Some buffer)
      → me'.0 ≡ put_at r i p (front_bytes contents ms) v → me'.1 ≡ rest ms
      → standing_from gs later key me' ≡ having_seen gs (seat_after_put r i p (bytes_in_hand contents s.hand i) s)
  put_standing contents IsSame fs gs table later key me me' v ms given i buffer s r p is same view has b put home =
      let others : rest ms ≡ b.others = ap rest b.is in
      let bytes : front_bytes contents ms ≡ bytes_in_hand contents s.hand i = ap (front_bytes contents) b.is ∙ ap (bytes_in contents) b.has
      ∙ ap (laid_bytes contents) (sym has) in
      let w = bytes_in_hand contents s.hand i in
      let now : me' ≡ (put_at r i p w me.0, b.others) =
      ap (λ (u : Known). (u, me'.1)) (put ∙ ap (λ (l : List ℕ). put_at r i p l v) bytes ∙ ap (put_at r i p w) view)
      ∙ ap (λ (l : List (ℕ × SlotStanding B)). (put_at r i p w me.0, l)) (home ∙ others) in
      ap (standing_from gs later key) now ∙ ap (λ t. standing_from gs t key (put_at r i p w me.0, b.others)) same
      ∙ ap (λ (h : List (ℕ × Option B)). record (having_seen gs (seat_after_put r i p w (standing_from fs table key me))) { hand = h })
      (put_hand me.1 ms b.others i b.slot b.same b.is (my me.0).part.hand)
      ∙ ap (λ (t : Standing B). having_seen gs (seat_after_put r i p w t)) is

  pub turned_hand : (slots ms : List (ℕ × SlotStanding B)) → ((j : ℕ) → buffer_in ms j ≡ buffer_in slots j) → (hand : List ℕ) → hand_of ms hand ≡ hand_of slots hand
  turned_hand slots ms same [] = refl
  turned_hand slots ms same (j ∷ js) =
      ap (λ (o : Option B). (j, o) ∷ hand_of ms js) (same j) ∙ ap (λ (l : List (ℕ × Option B)). (j, buffer_in slots j) ∷ l) (turned_hand slots ms same js)

  -- what contracts see of a seat whose put drew a ticket at or past the limit
  pub spent_standing : (fs gs : Seen) (table later : TableId) (key : Key B) (me me' : Me (SlotStanding B) Known) (v : Known)
      (ms : List (ℕ × SlotStanding B)) (s : Standing B) (r t : ℕ)
      → standing_from fs table key me ≡ s → later ≡ table → v ≡ me.0 → ((j : ℕ) → buffer_in ms j ≡ buffer_in me.1 j)
      → me'.0 ≡ spent_at r t true v → me'.1 ≡ ms
      → standing_from gs later key me' ≡ having_seen gs (seat_after_spent_put r t s)
  spent_standing fs gs table later key me me' v ms s r t is same view buffers spent slots =
      let now : me' ≡ (spent_at r t true me.0, ms) = ap (λ (u : Known). (u, me'.1)) (spent ∙ ap (spent_at r t true) view)
      ∙ ap (λ (l : List (ℕ × SlotStanding B)). (spent_at r t true me.0, l)) slots in
      ap (standing_from gs later key) now ∙ ap (λ z. standing_from gs z key (spent_at r t true me.0, ms)) same
      ∙ ap (λ (h : List (ℕ × Option B)). record (having_seen gs (seat_after_spent_put r t (standing_from fs table key me))) { hand = h })
      (turned_hand me.1 ms buffers (my me.0).part.hand)
      ∙ ap (λ (z : Standing B). having_seen gs (seat_after_spent_put r t z)) is

  -- the slot in front has the buffer that its index was given
  pub seen : (contents : B → List ℕ) (IsSame : B → B → Type 0) (me : Me (SlotStanding B) Known) (ms : List (ℕ × SlotStanding B)) (given all : List B) (i : ℕ) (buffer : B)
      → Brought IsSame me given ms i (Some buffer) → given ≡ all → Fronts (LiesIn contents IsSame all) i (front_bytes contents ms) ms
  seen contents IsSame me ms given all i buffer b same =
      let it = b.given_so buffer b.has in
      subst (λ (l : List (ℕ × SlotStanding B)). Fronts (LiesIn contents IsSame all) i (front_bytes contents l) l) (sym b.is) (
        refl,
        record {
          first = it.first;
          buffer = buffer;
          was = subst (λ (bs : List B). slice_get bs i ≡ Some it.first) same it.was;
          laid = b.has;
          same = it.same;
          bytes = sym (ap (bytes_in contents) b.has);
        },
      )

module _ {B : Type 0} (contents : B → List ℕ) (IsSame : B → B → Type 0) where
  -- after a get
  pub kept_got : (key : Key B) (me me' : Me (SlotStanding B) Known) (notes notes' : List Bool) (numbers numbers' : List Numbers) (spent : Option ℕ)
      (r h i : ℕ)
      → IsKept IsSame key me notes numbers spent → HasGotAfter (LiesIn contents IsSame key.given.value.items) key.setup r h i me me'
      → notes' ≡ slice_set notes i true → numbers' ≡ changed (λ x. sees h (passes (h + 1) x)) r numbers
      → IsKept IsSame key me' notes' numbers' spent
  kept_got key me me' notes notes' numbers numbers' spent r h i kept gets more new =
      let got = gets.got in
      let hand = (my me.0).part.hand in
      let view = got.view in
      let come = got.slots.come in
      let held_now : (my me'.0).part.hand ≡ hand ++ i ∷ [] = ap (λ (u : Known). (my u).part.hand) view in
      let split : (j : ℕ) → times j (indices_of me'.1) ≡ times j (i ∷ []) + times j (indices_of me.1) =
      λ j. ap (λ (l : List (ℕ × SlotStanding B)). times j (indices_of l)) come ∙ times-append j (i ∷ []) (indices_of me.1) in
      let size : (j : ℕ) → times j (indices_of me'.1) ≡ times j (my me'.0).part.hand =
      λ j.
      let s = split j in
      let was = kept.same j in
      let now = ap (times j) held_now ∙ times-append j hand (i ∷ []) in
      omega (arith, s, was, now) in
      let one : times i (i ∷ []) ≡ 1 = rw (eq-eqb i i refl) refl in
      let come_once : times i (indices_of me'.1) ≡ 1 =
      let s = split i in let is = size i in let once = got.once i in omega (arith, s, is, once, one) in
      let there : i < length notes = subst (λ n. i < n) (sym kept.each) got.low in
      let known : numbers' ≡ me'.0.numbers = new ∙ sym (changed_twice (sees h) (passes (h + 1)) r numbers)
      ∙ ap (λ (ns : List Numbers). changed (sees h) r (changed (passes (h + 1)) r ns)) kept.numbers ∙ ap (λ (u : Known). u.numbers) (sym view) in
      record {
        alone = record {
          seats = ap (λ (u : Known). u.seats) view ∙ ap (λ (x : Member). x ∷ []) (ap my (sym view));
          out = ap (λ (u : Known). (my u).brought) view ∙ kept.alone.out;
        };
        idle = ap (λ (u : Known). (my u).part.phase) view;
        slots =
            λ j.
            elim (cases_eq j i) [
              | inl same ↦
                  let is : noted notes' i ≡ 1 = ap (λ (l : List Bool). noted l i) more ∙ noted_here notes i true there in
                  rw same (come_once ∙ sym is)
              | inr other ↦
                  let s = split j in
                  let was = kept.slots j in
                  let away : times j (i ∷ []) ≡ 0 = rw (ne_eqb i j (λ e. other (sym e))) refl in
                  let still : noted notes' j ≡ noted notes j = ap (λ (l : List Bool). noted l j) more ∙ noted_else notes i j true other in
                  omega (arith, s, was, away, still)
            ];
        each = ap length more ∙ length-set notes i true ∙ kept.each;
        same = size;
        numbers = known;
        rings = ap length new ∙ length-set numbers r _ ∙ kept.rings;
        small = subst AreSmall (sym new) (small_changed (λ x. sees h (passes (h + 1) x)) r numbers (λ y small. (small.0, let up = max_above y.seen h in omega (arith, small, up))) kept.small);
        spent = kept.spent ∙ ap (λ (u : Known). (my u).part.spent) (sym view);
        given =
            subst (λ (l : List (ℕ × SlotStanding B)). AllGiven IsSame key.given.value.items l) (sym come) (
              (λ b is.
                  let lies = got.slots.lies in
                  let same : lies.buffer ≡ b = cc in
                  record { first = lies.first; was = lies.was; same = subst (λ (y : B). IsSame lies.first y) same lies.same }),
              kept.given,
            );
      }

  -- an index that is not in the hand
  in_hand-none : (slots : List (ℕ × SlotStanding B)) (hand : List ℕ) (i : ℕ) → times i hand ≡ 0 → in_hand (hand_of slots hand) i ≡ None
  in_hand-none slots [] i none = refl
  in_hand-none slots (x ∷ xs) i none =
      elim (cases_eq x i) [
        | inl here ↦ let some : 1 + times i xs ≡ 0 = rw (eq-eqb x i here) at none in absurd (omega (arith, some))
        | inr away ↦
            let rest : 0 + times i xs ≡ 0 = rw (ne_eqb x i away) at none in
            rw (ne_eqb x i away) (in_hand-none slots xs i (omega (arith, rest)))
      ]

  -- a slot that comes leaves every other index its buffer
  come_hand : (slots : List (ℕ × SlotStanding B)) (i : ℕ) (x : SlotStanding B) (hand : List ℕ) → times i hand ≡ 0
      → hand_of ((i, x) ∷ slots) (hand ++ i ∷ []) ≡ hand_of slots hand ++ (i, x.buffer) ∷ []
  come_hand slots i x [] none = rw (eq-eqb i i refl) refl
  come_hand slots i x (j ∷ js) none =
      elim (cases_eq j i) [
        | inl here ↦ let some : 1 + times i js ≡ 0 = rw (eq-eqb j i here) at none in absurd (omega (arith, some))
        | inr away ↦
            let rest : 0 + times i js ≡ 0 = rw (ne_eqb j i away) at none in
            rw (ne_eqb i j (λ e. away (sym e)))
            (ap (λ (l : List (ℕ × Option B)). (j, buffer_in slots j) ∷ l) (come_hand slots i x js (omega (arith, rest))))
      ]

  -- what contracts see of a seat after a get
  pub got_standing : (fs gs : Seen) (table later : TableId) (key : Key B) (me me' : Me (SlotStanding B) Known) (s : Standing B) (r h i : ℕ)
      → standing_from fs table key me ≡ s → later ≡ table → HasGotAfter (LiesIn contents IsSame key.given.value.items) key.setup r h i me me'
      → SeatHasTaken contents IsSame r h i s (standing_from gs later key me')
  got_standing fs gs table later key me me' s r h i is same gets =
      let got = gets.got in
      let hand = (my me.0).part.hand in
      let lies = got.slots.lies in
      let b = lies.buffer in
      let w = got.content in
      let x = got.slots.value in
      let held_now : (my me'.0).part.hand ≡ hand ++ i ∷ [] = ap (λ (u : Known). (my u).part.hand) got.view in
      let none : times i hand ≡ 0 =
      let o = got.once i in
      let l = ap (times i) held_now ∙ times-append i hand (i ∷ []) in
      let one : times i (i ∷ []) ≡ 1 = rw (eq-eqb i i refl) refl in
      omega (arith, o, l, one) in
      let here : SeatHasTaken contents IsSame r h i (standing_from fs table key me) (standing_from gs later key me') =
      record {
        buffer = b;
        given = record { first = lies.first; was = lies.was; same = lies.same };
        seat =
            ap (standing_from gs later key) (ap (λ (u : Known). (u, me'.1)) got.view
            ∙ ap (λ (l : List (ℕ × SlotStanding B)). (got_at r h i w (drew_head r h me.0), l)) got.slots.come)
            ∙ ap (λ t. standing_from gs t key (got_at r h i w (drew_head r h me.0), (i, x) ∷ me.1)) same
            ∙ ap (λ (l : List (ℕ × Option B)). record (standing_from gs table key (got_at r h i w (drew_head r h me.0), (i, x) ∷ me.1)) { hand = l })
            (come_hand me.1 i x hand none ∙ ap (λ (o : Option B). hand_of me.1 hand ++ (i, o) ∷ []) lies.laid)
            ∙ ap (λ (ns : List Numbers). record (having_seen gs (seat_after_get r h i b w (standing_from fs table key me))) { numbers = ns })
            (changed_twice (sees h) (passes (h + 1)) r me.0.numbers)
            ∙ ap (λ (z : List ℕ). having_seen gs (seat_after_get r h i b z (standing_from fs table key me))) (sym lies.bytes);
        came = in_hand-none me.1 hand i none;
      } in
      subst (λ (z : Standing B). SeatHasTaken contents IsSame r h i z (standing_from gs later key me')) is here

pub known_here : (ns : List Numbers) (r : ℕ) (y : Numbers) → r < length ns → known_of (slice_set ns r y) r ≡ y
known_here [] r y low = absurd (omega arith)
known_here (n ∷ ns) zero y low = refl
known_here (n ∷ ns) (suc r) y low = known_here ns r y (omega arith)

-- what is known of a ring's Head after some steps is true then
pub head_reached : (c : Setup) (opening : List (List ℕ)) (v u : Sight) (r head : ℕ) → (went : Went c opening v u) → r < length u.known.numbers
    → head ≡ (known_of u.known.numbers r).head → head ≤ went.now.recorded.state.cells.head r
head_reached c opening v u r head went low is =
    let numbers = u.known.numbers in
    let le = (went.numbers r (known_of numbers r) (known_there numbers r low)).head in omega (arith, is, le)

-- what a get has found that ends at once, and one that drew a ticket
module _ {S : Type 0} (c : Setup) (r : ℕ) (me later : Me S Known) where
  pub found_first : later.0 ≡ nothing_at r me.0 → later.1 ≡ me.1 → HasFoundNone c r None me later
  found_first view slots = record { view = view; slots = slots; below = λ t is. absurd (cc); past = λ t is. absurd (cc) }

  pub found_after : (t : ℕ) → later.0 ≡ nothing_at r (drew_head r t me.0) → later.1 ≡ me.1 → t < c.limit
      → ((known : Numbers) → slice_get me.0.numbers r ≡ Some known → known.head ≤ t) → HasFoundNone c r (Some t) me later
  found_after t view slots low above =
      record {
        view =
            view ∙ ap (λ (ns : List Numbers). seated (with_part (ends (Nothing r) (my me.0).part) (my me.0)) ns me.0)
            (changed_twice empties (passes (t + 1)) r me.0.numbers);
        slots = slots;
        below = λ u is. let same : t ≡ u = cc in rw (← same) low;
        past = λ u is. let same : t ≡ u = cc in rw (← same) above;
      }

none_small : (drawn : Option ℕ) (x : Numbers) → IsSmall x → IsSmall (empties (drew drawn x))
none_small None x small = small
none_small (Some t) x small = small

pub none_rises : (drawn : Option ℕ) (x : Numbers) → RisesInHead x (empties (drew drawn x))
none_rises None x = record { finished = refl; seen = refl; head = max_above x.head (x.finished + 1) }
none_rises (Some t) x =
    record {
      finished = refl;
      seen = refl;
      head = let a = max_above x.head (t + 1) in let b = max_above (max x.head (t + 1)) (x.finished + 1) in omega (arith, a, b);
    }

pub if_drawn : (P : ℕ → Type 0) (drawn : Option ℕ) → ((t : ℕ) → drawn ≡ Some t → P t) → IfSome drawn P
if_drawn P None holds = tt
if_drawn P (Some t) holds = holds t refl

module _ {B : Type 0} (IsSame : B → B → Type 0) where
  pub kept_none : (key : Key B) (me me' : Me (SlotStanding B) Known) (notes : List Bool) (numbers numbers' : List Numbers) (spent : Option ℕ) (r : ℕ)
      (drawn : Option ℕ)
      → IsKept IsSame key me notes numbers spent → me'.0 ≡ none_at r drawn me.0 → me'.1 ≡ me.1
      → numbers' ≡ changed (λ x. empties (drew drawn x)) r numbers
      → IsKept IsSame key me' notes numbers' spent
  kept_none key me me' notes numbers numbers' spent r drawn kept none same new =
      let f : Numbers → Numbers = λ x. empties (drew drawn x) in
      kept_still IsSame key me' me.0 (none_at r drawn me.0) me.1 notes numbers numbers' spent spent kept
      (record { seats = refl; out = kept.alone.out }) refl refl (new ∙ ap (changed f r) kept.numbers) (ap length new ∙ length-set numbers r _)
      (subst AreSmall (sym new) (small_changed f r numbers (none_small drawn) kept.small)) kept.spent
      (ap (λ (u : Known). (u, me'.1)) none ∙ ap (λ (l : List (ℕ × SlotStanding B)). (none_at r drawn me.0, l)) same)

  pub none_standing : (fs gs : Seen) (table later : TableId) (key : Key B) (me me' : Me (SlotStanding B) Known) (s : Standing B) (r : ℕ) (drawn : Option ℕ)
      → standing_from fs table key me ≡ s → later ≡ table → me'.0 ≡ none_at r drawn me.0 → me'.1 ≡ me.1
      → standing_from gs later key me' ≡ having_seen gs (seat_after_nothing r drawn s)
  none_standing fs gs table later key me me' s r drawn is same none slots =
      ap (standing_from gs later key) (ap (λ (u : Known). (u, me'.1)) none ∙ ap (λ (l : List (ℕ × SlotStanding B)). (none_at r drawn me.0, l)) slots)
      ∙ ap (λ t. standing_from gs t key (none_at r drawn me.0, me.1)) same ∙ ap (λ (z : Standing B). having_seen gs (seat_after_nothing r drawn z)) is

module _ {B : Type 0} (IsSame : B → B → Type 0) where
  -- after a get that drew a ticket at or past the limit
  pub kept_spent_get : (key : Key B) (c : Setup) (me me' : Me (SlotStanding B) Known) (notes : List Bool) (numbers numbers' : List Numbers) (spent : Option ℕ)
      (r t : ℕ) → IsKept IsSame key me notes numbers spent → HasSpentGet c r t me me' → numbers' ≡ changed (passes (t + 1)) r numbers
      → IsKept IsSame key me' notes numbers' (Some t)
  kept_spent_get key c me me' notes numbers numbers' spent r t kept drew new =
      let f : Numbers → Numbers = passes (t + 1) in
      kept_still IsSame key me' me.0 (drawn_spent r t me.0) me.1 notes numbers numbers' spent (Some t) kept
      (record { seats = refl; out = kept.alone.out }) refl refl (new ∙ ap (changed f r) kept.numbers) (ap length new ∙ length-set numbers r _)
      (subst AreSmall (sym new) (small_changed f r numbers (λ x small. small) kept.small)) refl
      (ap (λ (u : Known). (u, me'.1)) drew.view ∙ ap (λ (l : List (ℕ × SlotStanding B)). (drawn_spent r t me.0, l)) drew.slots)

  pub spent_get_standing : (fs gs : Seen) (table later : TableId) (key : Key B) (c : Setup) (me me' : Me (SlotStanding B) Known) (s : Standing B) (r t : ℕ)
      → standing_from fs table key me ≡ s → later ≡ table → HasSpentGet c r t me me'
      → standing_from gs later key me' ≡ having_seen gs (seat_after_spent_get r t s)
  spent_get_standing fs gs table later key c me me' s r t is same drew =
      ap (standing_from gs later key) (ap (λ (u : Known). (u, me'.1)) drew.view ∙ ap (λ (l : List (ℕ × SlotStanding B)). (drawn_spent r t me.0, l)) drew.slots)
      ∙ ap (λ z. standing_from gs z key (drawn_spent r t me.0, me.1)) same ∙ ap (λ (z : Standing B). having_seen gs (seat_after_spent_get r t z)) is

-- a seat that rests after a run, with the part that its view has
rests_after : (c : Setup) (opening : List (List ℕ)) (run : List (ℕ × Step)) (x : Member) (number : ℕ) → StandsAfter c opening run x → x.part.phase ≡ Idle
    → x.number ≡ number → IsRecordAfter c opening run number x.part.calls
rests_after c opening run x number stands rests same =
    let part : stands.recorded.state.part number ≡ x.part = ap stands.recorded.state.part (sym same) ∙ stands.part in
    record {
      recorded = stands.recorded;
      is_run = stands.is_run;
      idle = ap (λ (p : SeatPart). p.phase) part ∙ rests;
      calls_are = ap (λ (p : SeatPart). p.calls) part;
    }

module _ {B : Type 0} where
  -- a call in the run, as contracts see it
  pub call_in_run : (opening : List (List ℕ)) (table later : TableId) (key : Key B) (me me' : Me (SlotStanding B) Sight) → Went key.setup opening me.0 me'.0
      → (my me.0.known).part.phase ≡ Idle → (my me'.0.known).part.phase ≡ Idle → (my me'.0.known).number ≡ (my me.0.known).number
      → IsCallInRun key.setup opening (caller_of (standing_of table key me)) (caller_of (standing_of later key me'))
  call_in_run opening table later key me me' went rested rests same =
      let seat = (my me.0.known).number in
      let was = rests_after key.setup opening went.before (my me.0.known) seat went.was rested refl in
      let now = rests_after key.setup opening went.after (my me'.0.known) seat went.now rests same in
      record {
        before = went.before;
        after = went.after;
        had_seen = went.had_seen;
        first = went.first;
        begins = went.begins;
        last = went.last;
        ends = subst (λ (k : ℕ). EndsWith (k, went.last) went.after) same went.ends;
        has_seen = went.has_seen;
        was = was;
        now = now;
        delayed =
            call_delayed key.setup opening went.before went.after seat went.first (my me.0.known).part.calls
            (my me'.0.known).part.calls went.begins was now;
      }

  -- the same, of the seat and the band as contracts see them
  pub call_seen : (contents : B → List ℕ) (table later shared_table : TableId) (key shared : Key B) (self : Identity B) (s : Standing B)
      (me me' : Me (SlotStanding B) Sight) → standing_of table key me ≡ s → s.band ≡ self → identity_of shared_table shared ≡ self
      → Went shared.setup (opening_of contents shared.given.value.items) me.0 me'.0 → (my me.0.known).part.phase ≡ Idle
      → {v : Known} → me'.0.known ≡ v → (my v).part.phase ≡ Idle → (my v).number ≡ (my me.0.known).number
      → IsCallInRun self.setup (opening_of contents self.given) (caller_of s) (caller_of (standing_of later key me'))
  call_seen contents table later shared_table key shared self s me me' is own shared_is went was view rests same =
      let band : identity_of table key ≡ self = ap (λ (t : Standing B). t.band) is ∙ own in
      let its : Went key.setup (opening_of contents key.given.value.items) me.0 me'.0 =
      subst (λ (i : Identity B). Went i.setup (opening_of contents i.given) me.0 me'.0) (shared_is ∙ sym band) went in
      let call = call_in_run (opening_of contents key.given.value.items) table later key me me' its was (ap (λ (u : Known). (my u).part.phase) view ∙ rests)
      (ap (λ (u : Known). (my u).number) view ∙ same) in
      subst (λ (i : Identity B). IsCallInRun i.setup (opening_of contents i.given) (caller_of s) (caller_of (standing_of later key me'))) band
      (subst (λ (t : Standing B). IsCallInRun key.setup (opening_of contents key.given.value.items) (caller_of t) (caller_of
      (standing_of later key me'))) is call)

  -- a get that found nothing, in the run
  pub empty_seen : (contents : B → List ℕ) (table later shared_table : TableId) (key shared : Key B) (self : Identity B) (s : Standing B)
      (me me' : Me (SlotStanding B) Sight) (r head : ℕ) → standing_of table key me ≡ s → s.band ≡ self → identity_of shared_table shared ≡ self
      → Went shared.setup (opening_of contents shared.given.value.items) me.0 me'.0
      → (my me.0.known).part.phase ≡ Idle → (my me'.0.known).part.phase ≡ Idle → (my me'.0.known).number ≡ (my me.0.known).number
      → r < length me'.0.known.numbers → head ≡ (known_of me'.0.known.numbers r).head
      → (my me'.0.known).part.calls ≡ (my me.0.known).part.calls ++ Nothing r ∷ []
      → WasEmptyInRun self.setup (opening_of contents self.given) r head (caller_of s) (caller_of (standing_of later key me'))
  unfolding call_in_run rests_after
  empty_seen contents table later shared_table key shared self s me me' r head is own shared_is went was rests same low known ended =
      let band : identity_of table key ≡ self = ap (λ (t : Standing B). t.band) is ∙ own in
      let opening = opening_of contents key.given.value.items in
      let its : Went key.setup opening me.0 me'.0 =
      subst (λ (i : Identity B). Went i.setup (opening_of contents i.given) me.0 me'.0) (shared_is ∙ sym band) went in
      let x = my me.0.known in
      let call = call_in_run opening table later key me me' its was rests same in
      let finished : IsRecordAfter key.setup opening its.after x.number (x.part.calls ++ Nothing r ∷ []) = record {
        recorded = call.now.recorded;
        is_run = call.now.is_run;
        idle = call.now.idle;
        calls_are = call.now.calls_are ∙ ended;
      } in
      let here : WasEmptyInRun key.setup opening r head (caller_of (standing_of table key me)) (caller_of (standing_of later key me')) = record {
        call = call;
        past = head_reached key.setup opening me.0 me'.0 r head its low known;
        moment = empty_at_call key.setup opening its.before its.after x.number r x.part.calls (began key.setup opening me.0 me'.0 its) call.was finished;
      } in
      subst (λ (i : Identity B). WasEmptyInRun i.setup (opening_of contents i.given) r head (caller_of s) (caller_of (standing_of later key me'))) band
      (subst (λ (t : Standing B). WasEmptyInRun key.setup opening r head (caller_of t) (caller_of (standing_of later key me'))) is here)

  -- a reading of the gate in the run
  pub reading_seen : (contents : B → List ℕ) (table later shared_table : TableId) (key shared : Key B) (self : Identity B) (s : Standing B)
      (me me' : Me (SlotStanding B) Sight) (found : ℕ) → standing_of table key me ≡ s → s.band ≡ self → identity_of shared_table shared ≡ self
      → IsAlone me.0.known → (my me.0.known).part.phase ≡ Idle → me'.0.known ≡ looked found me.0.known
      → Looked shared.setup (opening_of contents shared.given.value.items) me.0 me'.0 found
      → IsReadingInRun self.setup (opening_of contents self.given) s.retired (caller_of s) (caller_of (standing_of later key me')) found
  reading_seen contents table later shared_table key shared self s me me' found is own shared_is alone rests same look =
      let band : identity_of table key ≡ self = ap (λ (t : Standing B). t.band) is ∙ own in
      let opening = opening_of contents key.given.value.items in
      let its : Looked key.setup opening me.0 me'.0 found =
      subst (λ (i : Identity B). Looked i.setup (opening_of contents i.given) me.0 me'.0 found) (shared_is ∙ sym band) look in
      let x = my me.0.known in
      let calls : (my me'.0.known).part.calls ≡ x.part.calls = ap (λ (u : Known). (my u).part.calls) same in
      let known : (p : ℕ × ℕ) → Contains me'.0.seen.retirees p → Contains (retired_ones its.gone key.setup.seats) p =
      λ p has. subst (λ (y : Seen). Contains y.retirees p) its.has_seen has in
      let knows : (k n : ℕ) → k < key.setup.seats → its.gone k ≡ Some n → Contains me'.0.seen.retirees (k, n) =
      λ k n low gone. subst (λ (y : Seen). Contains y.retirees (k, n)) (sym its.has_seen) (gone_ones its.gone key.setup.seats k n low gone) in
      let here : IsReadingInRun key.setup opening x.retired (caller_of (standing_of table key me)) (caller_of (standing_of later key me')) found = record {
        after = its.after;
        had_seen = its.had_seen;
        has_seen = ap (λ (y : Seen). y.runs) its.has_seen;
        now =
            subst (λ (l : List Ended). IsRecordAfter key.setup opening its.after x.number l) (sym calls)
            (rests_after key.setup opening its.after x x.number (its.stands alone.seats) rests refl);
        still = λ p has. let was = its.still p has in knows p.0 p.1 was.0 was.1;
        made = λ p has. its.made p.0 p.1 (ones_gone its.gone key.setup.seats p (known p has));
        itself = λ n is. knows x.number n (its.own alone.seats).0 ((its.own alone.seats).1 ∙ is);
        not_itself =
            λ is n has.
            let gone : Some n ≡ None = sym (ones_gone its.gone key.setup.seats (x.number, n) (known (x.number, n) has)) ∙ (its.own alone.seats).1 ∙ is in cc;
        none_left =
            λ zeroth k low.
            let all = none_awake its.gone key.setup.seats (sym its.awake_seats ∙ zeroth) k low in
            (all.0, knows k all.0 low all.1);
        some_left =
            λ above.
            let one = some_awake its.gone key.setup.seats (let e = its.awake_seats in omega (arith, e, above)) in (
              one.0,
              one.1,
              λ n has. let gone : Some n ≡ None = sym (ones_gone its.gone key.setup.seats (one.0, n) (known (one.0, n) has)) ∙ one.2 in cc,
            );
      } in
      subst (λ (i : Identity B). IsReadingInRun i.setup (opening_of contents i.given) s.retired (caller_of s) (caller_of
      (standing_of later key me')) found) band
      (subst (λ (t : Standing B). IsReadingInRun key.setup opening t.retired (caller_of t) (caller_of (standing_of later key me')) found) is here)

module _ {B : Type 0} where
  -- the run that was shown to a seat is a moment of the seat's
  moment_of : (opening : List (List ℕ)) (table later : TableId) (key : Key B) (me me' : Me (SlotStanding B) Sight) → IsAlone me.0.known
      → (my me.0.known).part.phase ≡ Idle → me'.0.known ≡ me.0.known → WasShownRun key.setup opening me.0 me'.0
      → IsMomentInRun key.setup opening (caller_of (standing_of table key me)) (caller_of (standing_of later key me'))
  moment_of opening table later key me me' alone rests same its =
      let x = my me.0.known in
      let now = rests_after key.setup opening its.steps x x.number (its.stands alone.seats) rests refl in
      record {
        steps = its.steps;
        had_seen = its.had_seen;
        has_seen = its.has_seen;
        now =
            record {
              recorded = now.recorded;
              is_run = now.is_run;
              idle = now.idle;
              calls_are = now.calls_are ∙ sym (ap (λ (u : Known). (my u).part.calls) same);
            };
      }

  -- the same, as contracts see the seat and the band
  pub moment_seen : (contents : B → List ℕ) (table later shared_table : TableId) (key shared : Key B) (self : Identity B) (s : Standing B)
      (me me' : Me (SlotStanding B) Sight) → standing_of table key me ≡ s → s.band ≡ self → identity_of shared_table shared ≡ self
      → IsAlone me.0.known → (my me.0.known).part.phase ≡ Idle → me'.0.known ≡ me.0.known
      → WasShownRun shared.setup (opening_of contents shared.given.value.items) me.0 me'.0
      → IsMomentInRun self.setup (opening_of contents self.given) (caller_of s) (caller_of (standing_of later key me'))
  moment_seen contents table later shared_table key shared self s me me' is own shared_is alone rests same raised =
      let band : identity_of table key ≡ self = ap (λ (t : Standing B). t.band) is ∙ own in
      let opening = opening_of contents key.given.value.items in
      let its : WasShownRun key.setup opening me.0 me'.0 =
      subst (λ (i : Identity B). WasShownRun i.setup (opening_of contents i.given) me.0 me'.0) (shared_is ∙ sym band) raised in
      subst (λ (i : Identity B). IsMomentInRun i.setup (opening_of contents i.given) (caller_of s) (caller_of (standing_of later key me'))) band
      (subst (λ (t : Standing B). IsMomentInRun key.setup opening (caller_of t) (caller_of (standing_of later key me'))) is
      (moment_of opening table later key me me' alone rests same its))

  -- and what was found there
  pub found_seen : (contents : B → List ℕ) (table later shared_table : TableId) (key shared : Key B) (self : Identity B) (s : Standing B)
      (me me' : Me (SlotStanding B) Sight) (word n : ℕ) → standing_of table key me ≡ s → s.band ≡ self → identity_of shared_table shared ≡ self
      → IsAlone me.0.known → (my me.0.known).part.phase ≡ Idle → me'.0.known ≡ me.0.known
      → HasFound shared.setup (opening_of contents shared.given.value.items) word n me.0 me'.0
      → (l : Location) → IsLocation self.setup l → word ≡ at self.setup l
      → WasFoundInRun self.setup (opening_of contents self.given) l n (caller_of s) (caller_of (standing_of later key me'))
  unfolding moment_of rests_after
  found_seen contents table later shared_table key shared self s me me' word n is own shared_is alone rests same raised l low at_l =
      let band : identity_of table key ≡ self = ap (λ (t : Standing B). t.band) is ∙ own in
      let opening = opening_of contents key.given.value.items in
      let its : HasFound key.setup opening word n me.0 me'.0 =
      subst (λ (i : Identity B). HasFound i.setup (opening_of contents i.given) word n me.0 me'.0) (shared_is ∙ sym band) raised in
      let here : WasFoundInRun key.setup opening l n (caller_of (standing_of table key me)) (caller_of (standing_of later key me')) = record {
        moment = moment_of opening table later key me me' alone rests same its.shown;
        found =
            its.found alone.seats l (subst (λ (i : Identity B). IsLocation i.setup l) (sym band) low)
            (subst (λ (i : Identity B). word ≡ at i.setup l) (sym band) at_l);
      } in
      subst (λ (i : Identity B). WasFoundInRun i.setup (opening_of contents i.given) l n (caller_of s) (caller_of (standing_of later key me'))) band
      (subst (λ (t : Standing B). WasFoundInRun key.setup opening l n (caller_of t) (caller_of (standing_of later key me'))) is here)

-- one who has seen all seats retired reads 0
pub all_told : (c : Setup) (opening : List (List ℕ)) (own : Option ℕ) (old new : Caller) (found : ℕ) → IsReadingInRun c opening own old new found
    → AllWereSeenRetired c old.seen → found ≡ 0
all_told c opening own old new zero reading all = refl
all_told c opening own old new (suc n) reading all =
    let left = reading.some_left (omega arith) in
    let its = all left.0 left.1 in
    absurd (left.2 its.0 (reading.still (left.0, its.0) its.1))
