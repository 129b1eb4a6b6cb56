-- What a pass holds after each call: for those who call, and have to show at the end which values are held.
use Rattle.std.proofs.Common.{◌≡◌, ℕ, zero, suc, ◌+◌, ◌<◌, ◌≤◌, List, [], ◌∷◌, ◌++◌, length, map, refl, sym, ◌∙◌, ap, subst, inl, inr, arith, eq-eqb, ne_eqb}
use Rattle.std.specs.Prelude.{Some, Err, slice_get}
use Rattle.std.specs.List.{Contains}
use Rattle.std.proofs.lemmas.Bool.{cases_eq}
use Rattle.std.proofs.lemmas.List.{map-append}
use Rattle.scq_law.specs.Exports.{times}
use Rattle.scq_band.specs.Exports.{Identity}
use Rattle.scq_band.proofs.GoingHome.{contains_behind}
use Rattle.scq_band.proofs.Slots.{times-append}
use Rattle.scq_queue.specs.declared.calls.LendRefusal.{LendRefusal}
use Rattle.scq_queue.specs.declared.calls.LendRefusal.TheVariants.{Full, Spent as NoTicket}
use Rattle.scq_queue.specs.declared.calls.TakeRefusal.{TakeRefusal}
use Rattle.scq_queue.specs.declared.calls.TakeRefusal.TheVariants.{Empty, Spent}
use Rattle.scq_queue.specs.Exports.{PassStanding, HeldStanding, HasGot, IsHeldBy, without, after_put, after_spent_put, after_spent_get, having_seen}
use Rattle.scq_queue.specs.Exports.{FoundNoneFree, FoundTopicEmpty, WasSpent, GetWasSpent, PutWasSpent, AreTheHeld, AllOf}
use Rattle.scq_queue.specs.HoldsJust.{HoldsJust}
use Rattle.scq_queue.proofs.Hands.{contains_last}
use Rattle.scq_queue.proofs.HeldValues.{cases_spent, failed}

-- an index that stands in a list is one of it
pub contains_times : (xs : List ℕ) (i : ℕ) → 0 < times i xs → Contains xs i
contains_times [] i some = absurd (omega arith)
contains_times (x ∷ xs) i some =
    elim (cases_eq x i) [
      | inl same ↦ (0, omega arith, same)
      | inr other ↦
          let seen = rw (ne_eqb x i other) at some in
          contains_behind x i xs (contains_times xs i (omega (arith, seen)))
    ]

-- no index is held twice, once another came
once_more : (held : List ℕ) (i : ℕ) → (Contains held i → ⊥) → ((j : ℕ) → times j held ≤ 1) → (j : ℕ) → times j (held ++ i ∷ []) ≤ 1
once_more held i came once j =
    let both = times-append j held (i ∷ []) in
    elim (cases_eq i j) [
      | inl same ↦
          let one : times j (i ∷ []) ≡ 1 = rw (eq-eqb i j same) refl in
          let none : times j held < 1 = below (times j held) (λ some. came (subst (λ (k : ℕ). Contains held k) (sym same) (contains_times held j some))) in
          omega (arith, both, one, none)
      | inr other ↦
          let none : times j (i ∷ []) ≡ 0 = rw (ne_eqb i j other) refl in
          let before = once j in
          omega (arith, both, none, before)
    ]
  where
    below : (n : ℕ) → (0 < n → ⊥) → n < 1
    below zero nothing = omega arith
    below (suc n) nothing = absurd (nothing (omega arith))

-- what is held without its last, which is held once
without_none : (held : List ℕ) (i : ℕ) → times i held ≡ 0 → without i held ≡ held
without_none [] i none = refl
without_none (x ∷ xs) i none =
    elim (cases_eq x i) [
      | inl same ↦ let one : 1 + times i xs ≡ 0 = rw (eq-eqb x i same) at none in absurd (omega arith)
      | inr other ↦
          let rest : 0 + times i xs ≡ 0 = rw (ne_eqb x i other) at none in
          rw (ne_eqb x i other) (ap (λ (l : List ℕ). x ∷ l) (without_none xs i (omega (arith, rest))))
    ]

without-append : (xs : List ℕ) (i : ℕ) → without i (xs ++ i ∷ []) ≡ without i xs
without-append [] i = rw (eq-eqb i i refl) refl
without-append (x ∷ xs) i =
    elim (cases_eq x i) [
      | inl same ↦ rw (eq-eqb x i same) (without-append xs i)
      | inr other ↦ rw (ne_eqb x i other) (ap (λ (l : List ℕ). x ∷ l) (without-append xs i))
    ]

last_left : (xs : List ℕ) (i : ℕ) → times i (xs ++ i ∷ []) ≤ 1 → without i (xs ++ i ∷ []) ≡ xs
last_left xs i once =
    let both = times-append i xs (i ∷ []) in
    let one : times i (i ∷ []) ≡ 1 = rw (eq-eqb i i refl) refl in
    without-append xs i ∙ without_none xs i (omega (arith, both, one, once))

-- what stands before the last two of a list of two
pub none_before : {A : Type 0} (xs : List A) (x y a b : A) → (xs ++ x ∷ []) ++ y ∷ [] ≡ a ∷ b ∷ [] → xs ≡ []
none_before [] x y a b e = refl
none_before (z ∷ []) x y a b e = absurd (cc)
none_before (z ∷ w ∷ []) x y a b e = absurd (cc)
none_before (z ∷ w ∷ v ∷ xs) x y a b e = absurd (cc)

module _ {B : Type 0} where
  all-append : (queue : Identity B) (number : ℕ) (values : List (HeldStanding B)) (h : HeldStanding B) → AllOf queue number values → h.queue ≡ queue
      → h.pass ≡ number → AllOf queue number (values ++ h ∷ [])
  all-append queue number [] h all own is = (own, is, tt)
  all-append queue number (v ∷ values) h all own is = (all.0, all.1, all-append queue number values h all.2 own is)

  all_but_last : (queue : Identity B) (number : ℕ) (values : List (HeldStanding B)) (h : HeldStanding B) → AllOf queue number (values ++ h ∷ [])
      → AllOf queue number values × (h.queue ≡ queue) × (h.pass ≡ number)
  all_but_last queue number [] h all = (tt, all.0, all.1)
  all_but_last queue number (v ∷ values) h all =
      let rest = all_but_last queue number values h all.2 in
      ((all.0, all.1, rest.0), rest.1, rest.2)

  pub holds_more : {contents : B → List ℕ} {queue : Identity B} {old new : PassStanding B} {values : List (HeldStanding B)} {h : HeldStanding B}
      {ring place : ℕ} → HoldsJust queue old values → HasGot contents ring place old new h → HoldsJust queue new (values ++ h ∷ [])
  holds_more {queue = queue} {old = old} {new = new} {values = values} {h = h} before got =
      let is = got.pass in
      let held = got.held in
      let own : new.queue ≡ queue = ap (λ (p : PassStanding B). p.queue) is ∙ before.own in
      let now : new.held ≡ old.held ++ h.index ∷ [] = ap (λ (p : PassStanding B). p.held) is in
      let number : new.number ≡ old.number = ap (λ (p : PassStanding B). p.number) is in
      record {
        own = own;
        awake = ap (λ (p : PassStanding B). p.retired) is ∙ before.awake;
        same =
            map-append (λ (v : HeldStanding B). v.index) values (h ∷ []) ∙ ap (λ (l : List ℕ). l ++ h.index ∷ []) before.same ∙ sym now;
        all =
            subst (λ (k : ℕ). AllOf queue k (values ++ h ∷ [])) (sym number)
            (all-append queue old.number values h before.all (held.queue ∙ own) (held.pass ∙ number));
        once = subst (λ (l : List ℕ). (j : ℕ) → times j l ≤ 1) (sym now) (once_more old.held h.index got.came before.once);
      }

  -- the last of the values is held by the pass
  pub last_held : {queue : Identity B} {p : PassStanding B} {all : List (HeldStanding B)} (values : List (HeldStanding B)) {h : HeldStanding B}
      → all ≡ values ++ h ∷ [] → HoldsJust queue p all → IsHeldBy p h
  last_held {queue = queue} {p = p} values {h = h} is holds =
      let before = subst (λ (vs : List (HeldStanding B)). HoldsJust queue p vs) is holds in
      let last = all_but_last queue p.number values h before.all in
      record {
        queue = last.1 ∙ sym before.own;
        pass = last.2;
        holds =
            subst (λ (l : List ℕ). Contains l h.index) (sym (map-append (λ (v : HeldStanding B). v.index) values (h ∷ [])) ∙ before.same)
            (contains_last (map (λ (v : HeldStanding B). v.index) values) h.index);
      }

  pub holds_less : {queue : Identity B} {old new : PassStanding B} {all values : List (HeldStanding B)} (h : HeldStanding B) (ring place : ℕ) (w : List ℕ)
      → all ≡ values ++ h ∷ [] → HoldsJust queue old all → new ≡ having_seen new.seen (after_put ring h.index place w old) → HoldsJust queue new values
  holds_less {queue = queue} {old = old} {new = new} {values = values} h ring place w ends holds is =
      let before = subst (λ (vs : List (HeldStanding B)). HoldsJust queue old vs) ends holds in
      let list : List ℕ = map (λ (v : HeldStanding B). v.index) values in
      let was : old.held ≡ list ++ h.index ∷ [] = sym before.same ∙ map-append (λ (v : HeldStanding B). v.index) values (h ∷ []) in
      let once = subst (λ (l : List ℕ). (j : ℕ) → times j l ≤ 1) was before.once in
      let now : new.held ≡ list = ap (λ (p : PassStanding B). p.held) is ∙ ap (without h.index) was ∙ last_left list h.index (once h.index) in
      let number : new.number ≡ old.number = ap (λ (p : PassStanding B). p.number) is in
      record {
        own = ap (λ (p : PassStanding B). p.queue) is ∙ before.own;
        awake = ap (λ (p : PassStanding B). p.retired) is ∙ before.awake;
        same = sym now;
        all = subst (λ (k : ℕ). AllOf queue k values) (sym number) (all_but_last queue old.number values h before.all).0;
        once =
            λ j.
            let both = times-append j list (h.index ∷ []) in
            let before_j = once j in
            subst (λ (l : List ℕ). times j l ≤ 1) (sym now) (omega (arith, both, before_j));
      }

  -- a pass that holds the same
  pub record IsAlike (old new : PassStanding B) : Type 0 where
    pub queue : new.queue ≡ old.queue
    pub number : new.number ≡ old.number
    pub held : new.held ≡ old.held
    pub retired : new.retired ≡ old.retired

  pub alike_itself : (p : PassStanding B) → IsAlike p p
  alike_itself p = record { queue = refl; number = refl; held = refl; retired = refl }

  same_as : (old new t : PassStanding B) → new ≡ t → IsAlike old t → IsAlike old new
  same_as old new t is keeps = subst (λ (p : PassStanding B). IsAlike old p) (sym is) keeps

  -- a pass whose call was refused holds what it held
  module _ {X : ℕ → Type 0} {queue : Identity B} (old new : PassStanding B) (kept : (ticket : ℕ) → old.spent ≡ Some ticket → X ticket × (new ≡ old)) where
    spent_alike : (ticket : ℕ) (after : PassStanding B) → WasSpent queue ticket after old new → IsAlike old after → IsAlike old new
    spent_alike ticket after spent alike =
        elim (cases_spent old.spent) [
          | inl none ↦
              same_as old new _ (spent.drawn none).0
              (record { queue = alike.queue; number = alike.number; held = alike.held; retired = alike.retired })
          | inr some ↦ same_as old new old (kept some.0 some.1).1 (record { queue = refl; number = refl; held = refl; retired = refl })
        ]

    pub get_refused : (ring ticket : ℕ) → GetWasSpent queue ring ticket old new → IsAlike old new
    get_refused ring ticket spent =
        spent_alike ticket (after_spent_get ring ticket old) spent (record { queue = refl; number = refl; held = refl; retired = refl })

    pub put_refused : (ring ticket : ℕ) → PutWasSpent queue ring ticket old new → IsAlike old new
    put_refused ring ticket spent =
        spent_alike ticket (after_spent_put ring ticket old) spent (record { queue = refl; number = refl; held = refl; retired = refl })

    pub lend_refused : {T : Type 0} {contents : B → List ℕ} (refusal : LendRefusal)
        → ((head : ℕ) → failed T refusal ≡ Err (Full head) → FoundNoneFree contents queue head old new)
        → ((ticket : ℕ) → failed T refusal ≡ Err (NoTicket ticket) → GetWasSpent queue 0 ticket old new) → IsAlike old new
    lend_refused (Full head) full spent =
        same_as old new _ (full head refl).found.pass (record { queue = refl; number = refl; held = refl; retired = refl })
    lend_refused (NoTicket ticket) full spent = get_refused 0 ticket (spent ticket refl)

    pub take_refused : {T : Type 0} {contents : B → List ℕ} (topic : ℕ) (refusal : TakeRefusal)
        → ((head : ℕ) → failed T refusal ≡ Err (Empty head) → FoundTopicEmpty contents queue topic head old new)
        → ((ticket : ℕ) → failed T refusal ≡ Err (Spent ticket) → GetWasSpent queue (suc topic) ticket old new) → IsAlike old new
    take_refused topic (Empty head) empty spent =
        same_as old new _ (empty head refl).found.pass (record { queue = refl; number = refl; held = refl; retired = refl })
    take_refused topic (Spent ticket) empty spent = get_refused (suc topic) ticket (spent ticket refl)

  pub holds_same : (queue : Identity B) (old new : PassStanding B) (values : List (HeldStanding B)) → HoldsJust queue old values → IsAlike old new
      → HoldsJust queue new values
  holds_same queue old new values before is =
      record {
        own = is.queue ∙ before.own;
        awake = is.retired ∙ before.awake;
        same = before.same ∙ sym is.held;
        all = subst (λ (k : ℕ). AllOf queue k values) (sym is.number) before.all;
        once = subst (λ (l : List ℕ). (j : ℕ) → times j l ≤ 1) (sym is.held) before.once;
      }

  -- a put was refused, and its value is the last again
  pub holds_again : {queue : Identity B} {old new : PassStanding B} {all now : List (HeldStanding B)} (values : List (HeldStanding B)) {h v : HeldStanding B}
      → all ≡ values ++ h ∷ [] → HoldsJust queue old all → v ≡ h → now ≡ values ++ v ∷ [] → IsAlike old new → HoldsJust queue new now
  holds_again {queue = queue} {old = old} {new = new} {all = all} values ends holds back put alike =
      subst (λ (vs : List (HeldStanding B)). HoldsJust queue new vs)
      (ends ∙ ap (λ (u : HeldStanding B). values ++ u ∷ []) (sym back) ∙ sym put) (holds_same queue old new all holds alike)

  all_at : (queue : Identity B) (number : ℕ) (values : List (HeldStanding B)) → AllOf queue number values → (k : ℕ) (h : HeldStanding B)
      → slice_get values k ≡ Some h → h.queue ≡ queue
  all_at queue number [] all k h e = absurd (cc)
  all_at queue number (v ∷ values) all zero h e = let same : v ≡ h = cc in subst (λ (u : HeldStanding B). u.queue ≡ queue) same all.0
  all_at queue number (v ∷ values) all (suc k) h e = all_at queue number values all.2 k h e

  -- the values of the one pass of a queue
  pub held_alone : (queue : Identity B) (p : PassStanding B) (values : List (HeldStanding B)) → HoldsJust queue p values → AreTheHeld queue (p ∷ []) values
  held_alone queue p values before =
      record {
        queue_of = all_at queue p.number values before.all;
        all = λ i. ap (times i) before.same ∙ (omega arith);
      }

  -- the last value with other bytes
  pub holds_written : (queue : Identity B) (p : PassStanding B) (values : List (HeldStanding B)) (h v : HeldStanding B) → HoldsJust queue p (values ++ h ∷ [])
      → v.queue ≡ h.queue → v.pass ≡ h.pass → v.index ≡ h.index → HoldsJust queue p (values ++ v ∷ [])
  holds_written queue p values h v before same_queue same_pass same_index =
      let last = all_but_last queue p.number values h before.all in
      record {
        own = before.own;
        awake = before.awake;
        same =
            map-append (λ (u : HeldStanding B). u.index) values (v ∷ [])
            ∙ ap (λ (i : ℕ). map (λ (u : HeldStanding B). u.index) values ++ i ∷ []) same_index
            ∙ sym (map-append (λ (u : HeldStanding B). u.index) values (h ∷ [])) ∙ before.same;
        all = all-append queue p.number values v last.0 (same_queue ∙ last.1) (same_pass ∙ last.2);
        once = before.once;
      }

  -- a pass without values holds nothing
  pub none_held : (queue : Identity B) (p : PassStanding B) (values : List (HeldStanding B)) → HoldsJust queue p values → length values ≡ 0 → p.held ≡ []
  none_held queue p [] before none = sym before.same
  none_held queue p (v ∷ values) before none = absurd (omega (arith, none))

  -- the values of two passes, of which the first holds none
  pub held_two : (queue : Identity B) (first second old : PassStanding B) (values : List (HeldStanding B)) → HoldsJust queue old values → first.held ≡ []
      → second.held ≡ old.held → AreTheHeld queue (first ∷ second ∷ []) values
  held_two queue first second old values before none same =
      record {
        queue_of = all_at queue old.number values before.all;
        all =
            λ i.
            let mine = ap (times i) before.same in
            let empty = ap (times i) none in
            let its = ap (times i) same in
            omega arith;
      }
