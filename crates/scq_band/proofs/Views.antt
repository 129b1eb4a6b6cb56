-- Views are cut and joined: a note is copied off a view, a seat is split off the first view, and a view takes in another.
use Rattle.std.proofs.Common.{◌≡◌, ◌≢◌, ◌⊎◌, ℕ, zero, suc, ◌+◌, ◌<◌, ◌≤◌, true, false, ◌==◌, List, [], ◌∷◌, ◌++◌, length, refl, sym, ◌∙◌, ap, subst, inl, inr, arith, eq-eqb, ne_eqb}
use Rattle.std.specs.Prelude.{Option, Some, None, min, max, if◌then◌else◌, slice_get, slice_set, slice_index}
use Rattle.std.proofs.lemmas.Bool.{cases_lt}
use Rattle.std.proofs.lemmas.List.{length-append, length-set}
use Rattle.std.proofs.Math.Nat.{max-eq_left, max-eq_right}
use mathlib.Core.Option.{some, some-injective, some-ne-none}
use mathlib.Core.Option as maybe
use lib.ListN.{get_elem?}
use Rattle.atomic_table.specs.Table.{State, Splits, Joins}
use Rattle.atomic_table.proofs.Lists.{at_set, at_snoc, set_again, set_else}
use Rattle.scq_word.specs.declared.setup.Setup.{Setup}
use Rattle.scq_core.specs.declared.step.Step.{Step}
use Rattle.scq_core.specs.Exports.{updated}
use Rattle.scq_core.specs.Machine.{Machine}
use Rattle.scq_core.proofs.UpdatedLemmas.{updated_here, updated_else}
use Rattle.scq_law.specs.Exports.{IsFinished}
use Rattle.scq_band.specs.declared.numbers.Numbers.{Numbers}
use Rattle.scq_band.specs.Exports.{before_places, IsTrue, larger, raised_by, Member, nobody, note_of_view, behind_first, first_alone, others_of}
use Rattle.scq_band.specs.Exports.{first_of, lower_gate, both_of, Scene, Owns, IsView, StandsInAView}
use Rattle.scq_band.specs.Known.{Known}
use Rattle.scq_band.specs.Shown.{Shown}
use Rattle.scq_band.proofs.Knowledge.{AllTrue}
use Rattle.scq_band.proofs.StandingSeats.{set_stands, longer_stands, peeled_stands, joined_stands}

-- the larger of two true numbers is true
either_max : (P : ℕ → Type 0) (a b : ℕ) → P a → P b → P (max a b)
either_max P a b one other =
    elim (cases_lt a b) [
      | inl low ↦ subst P (sym (max-eq_right (omega arith))) other
      | inr high ↦ subst P (sym (max-eq_left high)) one
    ]

larger_true : (c : Setup) (m : Machine) (r : ℕ) (x y : Numbers) → IsTrue c m r x → IsTrue c m r y → IsTrue c m r (larger x y)
larger_true c m r x y t u =
    record {
      finished = either_max (λ n. (n ≡ before_places c r) ⊎ IsFinished c m r n) x.finished y.finished t.finished u.finished;
      order = let a = t.order in let b = u.order in omega arith;
      seen = let a = t.seen in let b = u.seen in omega arith;
      head = let a = t.head in let b = u.head in omega arith;
    }

joined_read : (xs ys : List Numbers) (r : ℕ) (z : Numbers) → slice_get (raised_by xs ys) r ≡ Some z
    → (slice_get xs r ≡ Some z) ⊎ ((x : Numbers) × (y : Numbers) × (slice_get xs r ≡ Some x) × (slice_get ys r ≡ Some y) × (z ≡ larger x y))
joined_read [] ys r z e = absurd (cc)
joined_read (x ∷ xs) [] r z e = inl e
joined_read (x ∷ xs) (y ∷ ys) zero z e = let same : larger x y ≡ z = cc in inr (x, y, refl, refl, sym same)
joined_read (x ∷ xs) (y ∷ ys) (suc r) z e = joined_read xs ys r z e

joined_true : (c : Setup) (m : Machine) (xs ys : List Numbers) → AllTrue c m xs → AllTrue c m ys → AllTrue c m (raised_by xs ys)
joined_true c m xs ys one other r z e =
    elim (joined_read xs ys r z e) [
      | inl there ↦ one r z there
      | inr h ↦ rw h.4 (larger_true c m r h.0 h.1 (one r h.0 h.2) (other r h.1 h.3))
    ]

pub joined_length : (xs ys : List Numbers) → length (raised_by xs ys) ≡ length xs
joined_length [] ys = refl
joined_length (x ∷ xs) [] = refl
joined_length (x ∷ xs) (y ∷ ys) = ap suc (joined_length xs ys)

-- the lower of two readings is no lower than the gate
lower_true : (word : ℕ) (x y : Option ℕ) → ((n : ℕ) → x ≡ Some n → word ≤ n) → ((n : ℕ) → y ≡ Some n → word ≤ n) → (n : ℕ) → lower_gate x y ≡ Some n → word ≤ n
lower_true word x None one other n is = one n is
lower_true word None (Some b) one other n is = other n is
lower_true word (Some a) (Some b) one other n is =
    let same : min a b ≡ n = cc in let left = one a refl in let right = other b refl in omega (arith, same, left, right)

module _ {S : Type 0} (Lies : ℕ → S → List ℕ → Type 0) where
  -- where words and slots are as they were, the views have to be true, and each seat to stand in one
  pub views_shown : {opening : List (List ℕ)} {gone : ℕ → Option ℕ} {run : List (ℕ × Step)} (c : Setup) (s : State S Known) (owner : ℕ → ℕ × ℕ)
      (views : List Known) → (sh : Shown Lies opening c gone run s)
      → ((j : ℕ) (u : Known) → get_elem? views j ≡ some u → IsView Lies c (record (sh.scene) { owner = owner }) s.homes (slice_index s.words 0) j u)
      → ((k : ℕ) → k < c.seats → StandsInAView k views) → Shown Lies opening c gone run (record { words = s.words; homes = s.homes; views = views })
  views_shown c s owner views sh each stand =
      record {
        scene = record (sh.scene) { owner = owner };
        leads = sh.leads;
        gone_is = sh.gone_is;
        made = sh.made;
        words = sh.words;
        awake_seats = sh.awake_seats;
        room = sh.room;
        views = each;
        stored = sh.stored;
        all_stand = stand;
      }

  -- one more view, in which no seat stands
  adds : {opening : List (List ℕ)} {gone : ℕ → Option ℕ} {run : List (ℕ × Step)} (c : Setup) (id : ℕ) (v new : Known)
      → ((z : Scene) (homes : List (maybe.Option S)) (word j : ℕ) → IsView Lies c z homes word id v → IsView Lies c z homes word j new)
      → Splits (Shown Lies opening c gone run) id v v new
  adds c id v new its s sh here =
      views_shown c s sh.scene.owner (slice_set s.views id v ++ new ∷ []) sh
      (λ j u e.
      elim (at_snoc (slice_set s.views id v) new u j e) [
        | inl old ↦ sh.views j u (subst (λ (vs : List Known). get_elem? vs j ≡ some u) (set_again s.views id v here) old)
        | inr last ↦
            subst (λ (w : Known). IsView Lies c sh.scene s.homes (slice_index s.words 0) j w) last
            (its sh.scene s.homes (slice_index s.words 0) j (sh.views id v here))
      ])
      (λ k low. longer_stands (slice_set s.views id v) (new ∷ []) k (set_stands s.views id k v v here (λ a. a) (sh.all_stand k low)))

  -- a note may be copied off any view, and a mark be made of it
  pub copies : {opening : List (List ℕ)} {gone : ℕ → Option ℕ} {run : List (ℕ × Step)} (c : Setup) (id : ℕ) (v : Known)
      → Splits (Shown Lies opening c gone run) id v v (note_of_view v)
  copies c id v =
      adds c id v (note_of_view v) (λ z homes word j mine. record { seats = tt; rings = inl refl; numbers = mine.numbers; last_gate = λ n is. absurd (cc) })

  pub marks : {opening : List (List ℕ)} {gone : ℕ → Option ℕ} {run : List (ℕ × Step)} (c : Setup) (id : ℕ) (v : Known)
      → Splits (Shown Lies opening c gone run) id v v nobody
  marks c id v =
      adds c id v nobody (λ z homes word j mine. record { seats = tt; rings = inl refl; numbers = λ r x is. absurd (cc); last_gate = λ n is. absurd (cc) })

  -- who stands where after a join: the seats of the other view in front of the first's
  abbrev joined_owner : ℕ → ℕ → ℕ → (ℕ → ℕ × ℕ) → ℕ → ℕ × ℕ
  joined_owner id other n owner k = if (owner k).0 == other then (id, (owner k).1 + n) else owner k

  abbrev joined_scene : ℕ → ℕ → ℕ → Scene → Scene
  joined_scene id other n z = record z { owner = joined_owner id other n z.owner }

  -- the seats of a view that is not the other's stay
  stay_there : (c : Setup) (z : Scene) (homes : List (maybe.Option S)) (id other n j : ℕ) → j ≢ other → (xs : List Member) → Owns Lies c z homes j xs
      → Owns Lies c (joined_scene id other n z) homes j xs
  stay_there c z homes id other n j apart [] owns = tt
  stay_there c z homes id other n j apart (x ∷ xs) owns =
      let x_is = owns.0 in
      let other_view : ((z.owner x.number).0 == other) ≡ false = ne_eqb _ _ (λ e. apart (sym (ap (λ (q : ℕ × ℕ). q.0) x_is.owner) ∙ e)) in (
        record {
          low = x_is.low;
          owner = rw other_view x_is.owner;
          part = x_is.part;
          gone = x_is.gone;
          brought = x_is.brought;
        },
        stay_there c z homes id other n j apart xs owns.1,
      )

  -- those of the other view come over
  come_over : (c : Setup) (z : Scene) (homes : List (maybe.Option S)) (id other : ℕ) (vs xs : List Member) → Owns Lies c z homes other xs
      → Owns Lies c (joined_scene id other (length vs) z) homes id vs
      → Owns Lies c (joined_scene id other (length vs) z) homes id (xs ++ vs)
  come_over c z homes id other vs [] owns behind = behind
  come_over c z homes id other vs (x ∷ xs) owns behind =
      let x_is = owns.0 in
      let its_view : ((z.owner x.number).0 == other) ≡ true = eq-eqb _ _ (ap (λ (q : ℕ × ℕ). q.0) x_is.owner) in
      let depth : (z.owner x.number).1 + length vs ≡ length (xs ++ vs) = ap (λ (q : ℕ × ℕ). q.1 + length vs) x_is.owner ∙ sym (length-append xs vs) in (
        record {
          low = x_is.low;
          owner = rw its_view (ap (λ d. (id, d)) depth);
          part = x_is.part;
          gone = x_is.gone;
          brought = x_is.brought;
        },
        come_over c z homes id other vs xs owns.1 behind,
      )

  -- a view in which a seat stands may take in another
  pub joins : {opening : List (List ℕ)} {gone : ℕ → Option ℕ} {run : List (ℕ × Step)} (c : Setup) (id : ℕ) (v : Known) (other : ℕ) (w : Known)
      → (v.seats ≡ [] → ⊥)
      → Joins (Shown Lies opening c gone run) id v other w (both_of v w) nobody
  joins c id v other w full s sh here apart there =
      let z = sh.scene in
      let zz = joined_scene id other (length v.seats) z in
      let mine = sh.views id v here in
      let its = sh.views other w (sym (set_else s.views id other (both_of v w) apart) ∙ there) in
      views_shown c s zz.owner (slice_set (slice_set s.views id (both_of v w)) other nobody) sh
      (λ j u e.
      elim (at_set (slice_set s.views id (both_of v w)) other j nobody u e) [
        | inl at ↦
            let none : IsView Lies c zz s.homes (slice_index s.words 0) j nobody =
            record { seats = tt; rings = inl refl; numbers = λ r x is. absurd (cc); last_gate = λ n is. absurd (cc) } in
            subst (λ (k : Known). IsView Lies c zz s.homes (slice_index s.words 0) j k) at.1 none
        | inr beside ↦
            elim (at_set s.views id j (both_of v w) u beside.1) [
              | inl at ↦
                  let both : IsView Lies c zz s.homes (slice_index s.words 0) id (both_of v w) = record {
                    seats =
                        come_over c z s.homes id other v.seats w.seats its.seats
                        (stay_there c z s.homes id other (length v.seats) id (λ e. apart (sym e)) v.seats mine.seats);
                    rings = inr (joined_length v.numbers w.numbers ∙ all_rings c v full mine.rings);
                    numbers = joined_true c z.state v.numbers w.numbers mine.numbers its.numbers;
                    last_gate = lower_true (slice_index s.words 0) v.gate w.gate mine.last_gate its.last_gate;
                  } in
                  rw at.0 (subst (λ (k : Known). IsView Lies c zz s.homes (slice_index s.words 0) id k) at.1 both)
              | inr elsewhere ↦
                  let old = sh.views j u elsewhere.1 in
                  record {
                    seats = stay_there c z s.homes id other (length v.seats) j beside.0 u.seats old.seats;
                    rings = old.rings;
                    numbers = old.numbers;
                    last_gate = old.last_gate;
                  }
            ]
      ])
      (λ k low. joined_stands s.views id other k v w here (sym (set_else s.views id other (both_of v w) apart) ∙ there) apart (sh.all_stand k low))
    where
      all_rings : (c : Setup) (v : Known) → (v.seats ≡ [] → ⊥) → (v.seats ≡ []) ⊎ (length v.numbers ≡ c.rings) → length v.numbers ≡ c.rings
      all_rings c v seated (inl empty) = absurd (seated empty)
      all_rings c v seated (inr all) = all

module _ {S : Type 0} (Lies : ℕ → S → List ℕ → Type 0) where
  -- a seat is split off a view: it stands alone in a new one
  split_owner_else : (c : Setup) (z : Scene) (homes : List (maybe.Option S)) (k at_view j : ℕ) (n : ℕ) → z.owner k ≡ (at_view, n) → (xs : List Member)
      → Owns Lies c z homes j xs
      → ((b : ℕ) → b < length xs → (j ≡ at_view → b ≢ n)) → (new : ℕ × ℕ) → Owns Lies c (record z { owner = updated z.owner k new }) homes j xs
  split_owner_else c z homes k at_view j n mine [] owns apart new = tt
  split_owner_else c z homes k at_view j n mine (x ∷ xs) owns apart new =
      let x_is = owns.0 in
      let other : x.number ≢ k = λ e.
      let same = sym x_is.owner ∙ ap z.owner e ∙ mine in
      apart (length xs) (omega arith) (ap (λ (q : ℕ × ℕ). q.0) same) (ap (λ (q : ℕ × ℕ). q.1) same) in (
        record {
          low = x_is.low;
          owner = updated_else z.owner k new x.number other ∙ x_is.owner;
          part = x_is.part;
          gone = x_is.gone;
          brought = x_is.brought;
        },
        split_owner_else c z homes k at_view j n mine xs owns.1 (λ b low is. apart b (omega (arith, low)) is) new,
      )

  -- the first seat of a view may be split off
  pub peels : {opening : List (List ℕ)} {gone : ℕ → Option ℕ} {run : List (ℕ × Step)} (c : Setup) (id : ℕ) (v : Known) (x : Member) (xs : List Member)
      → v.seats ≡ x ∷ xs
      → Splits (Shown Lies opening c gone run) id v (others_of v) (first_of v)
  peels c id v x xs seats s sh here =
      let z = sh.scene in
      let mine = sh.views id v here in
      let owns : Owns Lies c z s.homes id (x ∷ xs) = subst (λ (ys : List Member). Owns Lies c z s.homes id ys) seats mine.seats in
      let x_is = owns.0 in
      let low = index_low s.views id v here in
      let new = length s.views in
      let zz : Scene = record z { owner = updated z.owner x.number (new, 0) } in
      let all : length v.numbers ≡ c.rings = all_of c v x xs seats mine.rings in
      let others : IsView Lies c zz s.homes (slice_index s.words 0) id (others_of v) = record {
        seats =
            subst (λ (ys : List Member). Owns Lies c zz s.homes id (behind_first ys)) (sym seats)
            (split_owner_else c z s.homes x.number id id (length xs) x_is.owner xs owns.1 (λ b less is e. absurd (omega (arith, less, e))) (new, 0));
        rings = inr all;
        numbers = mine.numbers;
        last_gate = mine.last_gate;
      } in
      let first : IsView Lies c zz s.homes (slice_index s.words 0) new (first_of v) = record {
        seats =
            subst (λ (ys : List Member). Owns Lies c zz s.homes new (first_alone ys)) (sym seats) (
              record {
                low = x_is.low;
                owner = updated_here z.owner x.number (new, 0);
                part = x_is.part;
                gone = x_is.gone;
                brought =
                    x_is.brought;
              },
              tt,
            );
        rings = inr all;
        numbers = mine.numbers;
        last_gate = mine.last_gate;
      } in
      views_shown Lies c s zz.owner (slice_set s.views id (others_of v) ++ first_of v ∷ []) sh
      (λ j u e.
      elim (snoc_read (slice_set s.views id (others_of v)) (first_of v) u j e) [
        | inl old ↦
            elim (at_set s.views id j (others_of v) u old) [
              | inl at ↦ rw at.0 (subst (λ (k : Known). IsView Lies c zz s.homes (slice_index s.words 0) id k) at.1 others)
              | inr elsewhere ↦
                  let was = sh.views j u elsewhere.1 in
                  record {
                    seats = split_owner_else c z s.homes x.number id j (length xs) x_is.owner u.seats was.seats (λ b less is. absurd (elsewhere.0 is))
                        (new, 0);
                    rings = was.rings;
                    numbers = was.numbers;
                    last_gate = was.last_gate;
                  }
            ]
        | inr last ↦
            let is : j ≡ new = last.0 ∙ length-set s.views id (others_of v) in
            rw is (subst (λ (k : Known). IsView Lies c zz s.homes (slice_index s.words 0) new k) last.1 first)
      ])
      (λ k low. peeled_stands s.views id k v x xs seats here (sh.all_stand k low))
    where
      index_low : (l : List Known) (i : ℕ) (a : Known) → get_elem? l i ≡ some a → i < length l
      index_low [] i a e = absurd (some-ne-none a (sym e))
      index_low (y ∷ ys) zero a e = omega arith
      index_low (y ∷ ys) (suc i) a e = let low = index_low ys i a e in omega arith

      all_of : (c : Setup) (v : Known) (x : Member) (xs : List Member) → v.seats ≡ x ∷ xs → (v.seats ≡ []) ⊎ (length v.numbers ≡ c.rings)
          → length v.numbers ≡ c.rings
      all_of c v x xs is (inl empty) = let never : x ∷ xs ≡ [] = sym is ∙ empty in absurd (cc)
      all_of c v x xs is (inr all) = all

      snoc_read : (l : List Known) (a b : Known) (j : ℕ) → get_elem? (l ++ a ∷ []) j ≡ some b → (get_elem? l j ≡ some b) ⊎ ((j ≡ length l) × (a ≡ b))
      snoc_read [] a b zero e = inr (refl, some-injective a b e)
      snoc_read [] a b (suc j) e = absurd (some-ne-none b (sym e))
      snoc_read (y ∷ ys) a b zero e = inl e
      snoc_read (y ∷ ys) a b (suc j) e =
          elim (snoc_read ys a b j e) [ inl old ↦ inl old | inr last ↦ inr ((let same = last.0 in omega (arith, same)), last.1) ]
