-- What a seat keeps, after its slots were turned, and after an exchange of the buffer in the first.
use Rattle.std.proofs.Common.{◌≡◌, ℕ, ◌<◌, ◌≤◌, Bool, List, [], ◌∷◌, refl, sym, ◌∙◌, ap, subst, arith, eq-eqb}
use Rattle.std.specs.Prelude.{Some, Option}
use Rattle.atomic_table.specs.Seated.{TableId}
use Rattle.atomic_table.specs.Table.{Me, rest}
use Rattle.scq_word.specs.Exports.{n_of}
use Rattle.scq_law.specs.Exports.{times}
use Rattle.scq_band.specs.Exports.{Seen, changed, my, front_index, in_hand, with_buffer, IsAsGiven, indices_of, buffer_in, hand_of, standing_from}
use Rattle.scq_band.specs.Exports.{AllGiven, IsKept, IsRotation}
use Rattle.scq_band.specs.declared.numbers.Numbers.{Numbers}
use Rattle.scq_band.specs.Slots.{SlotStanding}
use Rattle.scq_band.specs.declared.rule.Key.{Key}
use Rattle.scq_band.specs.Known.{Known}
use Rattle.scq_band.specs.Standing.{Standing}
use Rattle.scq_band.proofs.Slots.{noted_once, noted_low, fronted, held_times, times-rotated, buffer-rotated, given-rotated, exchanged_hand}

module _ {B : Type 0} (IsSame : B → B → Type 0) where
  -- after a turn
  pub kept_turned : (key : Key B) (me : Me (SlotStanding B) Known) (v : Known) (ms : List (ℕ × SlotStanding B)) (notes : List Bool)
      (numbers : List Numbers) (spent : Option ℕ)
      → IsKept IsSame key me notes numbers spent → v ≡ me.0 → IsRotation me.1 ms → IsKept IsSame key (v, ms) notes numbers spent
  kept_turned key me v ms notes numbers spent kept same is =
      subst (λ (u : Known). IsKept IsSame key (u, ms) notes numbers spent) (sym same) (
      record {
        alone = kept.alone;
        idle = kept.idle;
        slots = λ i. times-rotated i me.1 ms is ∙ kept.slots i;
        each = kept.each;
        same = λ i. times-rotated i me.1 ms is ∙ kept.same i;
        numbers = kept.numbers;
        rings = kept.rings;
        small = kept.small;
        spent = kept.spent;
        given = given-rotated IsSame key.given.value.items me.1 ms is kept.given;
      })

  -- after an exchange of the buffer in the first slot
  pub kept_exchanged : (key : Key B) (v : Known) (i : ℕ) (x y : SlotStanding B) (others : List (ℕ × SlotStanding B)) (notes : List Bool)
      (numbers : List Numbers) (spent : Option ℕ)
      → IsKept IsSame key (v, (i, x) ∷ others) notes numbers spent → ((b : B) → y.buffer ≡ Some b → IsAsGiven IsSame key.given.value.items i b)
      → IsKept IsSame key (v, (i, y) ∷ others) notes numbers spent
  kept_exchanged key v i x y others notes numbers spent kept new =
      record {
        alone = kept.alone;
        idle = kept.idle;
        slots = kept.slots;
        each = kept.each;
        same = kept.same;
        numbers = kept.numbers;
        rings = kept.rings;
        small = kept.small;
        spent = kept.spent;
        given = (new, kept.given.1);
      }

  -- each index stands once among the slots
  pub kept_once : (key : Key B) (me : Me (SlotStanding B) Known) (notes : List Bool) (numbers : List Numbers) (spent : Option ℕ)
      → IsKept IsSame key me notes numbers spent → (i : ℕ) → times i (indices_of me.1) ≤ 1
  kept_once key me notes numbers spent kept i = let is = kept.slots i in let once = noted_once notes i in omega (arith, is, once)

  -- and is one of a ring
  pub kept_low : (key : Key B) (me : Me (SlotStanding B) Known) (notes : List Bool) (numbers : List Numbers) (spent : Option ℕ)
      → IsKept IsSame key me notes numbers spent → (i : ℕ) → 0 < times i (indices_of me.1) → i < n_of key.setup.order
  kept_low key me notes numbers spent kept i there =
      let is = kept.slots i in
      subst (λ n. i < n) kept.each (noted_low notes i (omega (arith, is, there)))

  -- an index in the hand stands among the slots
  pub held : (key : Key B) (me : Me (SlotStanding B) Known) (notes : List Bool) (numbers : List Numbers) (spent : Option ℕ) (i : ℕ) (o : Option B)
      → IsKept IsSame key me notes numbers spent → in_hand (hand_of me.1 (my me.0).part.hand) i ≡ Some o → 0 < times i (indices_of me.1)
  held key me notes numbers spent i o kept is =
      let some = (held_times me.1 (my me.0).part.hand i o is).0 in
      let same = kept.same i in
      omega (arith, some, same)

  -- the slot of an index in the hand, once it was turned to the front
  pub record Brought (me : Me (SlotStanding B) Known) (given : List B) (ms : List (ℕ × SlotStanding B)) (i : ℕ) (o : Option B) : Type 0 where
    pub slot : SlotStanding B
    pub others : List (ℕ × SlotStanding B)
    pub is : ms ≡ (i, slot) ∷ others
    pub has : slot.buffer ≡ o
    pub same : (j : ℕ) → buffer_in ms j ≡ buffer_in me.1 j
    pub given_so : (b : B) → slot.buffer ≡ Some b → IsAsGiven IsSame given i b

  pub brought : (key : Key B) (me : Me (SlotStanding B) Known) (ms : List (ℕ × SlotStanding B)) (notes : List Bool) (numbers : List Numbers)
      (spent : Option ℕ) (i : ℕ)
      (o : Option B)
      → IsKept IsSame key me notes numbers spent → IsRotation me.1 ms → front_index ms ≡ i → in_hand (hand_of me.1 (my me.0).part.hand) i ≡ Some o
      → Brought me key.given.value.items ms i o
  brought key me ms notes numbers spent i o kept turned first is =
      let there = held key me notes numbers spent i o kept is in
      let here : 0 < times i (indices_of ms) = let same = times-rotated i me.1 ms turned in omega (arith, same, there) in
      let front = fronted i ms here first in
      let same : (j : ℕ) → buffer_in ms j ≡ buffer_in me.1 j =
      λ j. buffer-rotated j me.1 ms turned (kept_once key me notes numbers spent kept j) in
      let alone : buffer_in ((i, front.slot) ∷ front.others) i ≡ front.slot.buffer = rw (eq-eqb i i refl) refl in
      record {
        slot = front.slot;
        others = front.others;
        is = front.is;
        has = sym alone ∙ ap (λ (l : List (ℕ × SlotStanding B)). buffer_in l i) (sym front.is) ∙ same i ∙ (held_times me.1 (my me.0).part.hand i o is).1;
        same = same;
        given_so =
            (subst (λ (l : List (ℕ × SlotStanding B)). AllGiven IsSame key.given.value.items l) front.is
            (given-rotated IsSame key.given.value.items me.1 ms turned kept.given)).0;
      }

  -- after a turn, and an exchange of the buffer in the first slot
  pub kept_lent : (key : Key B) (me me' : Me (SlotStanding B) Known) (v : Known) (ms : List (ℕ × SlotStanding B)) (notes : List Bool)
      (numbers : List Numbers) (spent : Option ℕ) (i : ℕ) (o : Option B) (y : SlotStanding B)
      → IsKept IsSame key me notes numbers spent → v ≡ me.0 → IsRotation me.1 ms
      → Brought me key.given.value.items ms i o → ((b : B) → y.buffer ≡ Some b → IsAsGiven IsSame key.given.value.items i b) → me' ≡ (v, (i, y) ∷ rest ms)
      → IsKept IsSame key me' notes numbers spent
  kept_lent key me me' v ms notes numbers spent i o y kept same turned b new now =
      let turned_so = kept_turned key me v ms notes numbers spent kept same turned in
      let front = subst (λ (l : List (ℕ × SlotStanding B)). IsKept IsSame key (v, l) notes numbers spent) b.is turned_so in
      let others : rest ms ≡ b.others = ap rest b.is in
      subst (λ (m : Me (SlotStanding B) Known). IsKept IsSame key m notes numbers spent) (sym (now ∙ ap (λ (l : List (ℕ × SlotStanding B)). (v, (i, y) ∷ l)) others))
      (kept_exchanged key v i b.slot y b.others notes numbers spent front new)

module _ {B : Type 0} where
  -- what contracts see of a seat in whose hand alone something changed
  pub hand_changed : (fs gs : Seen) (table later : TableId) (key : Key B) (me : Me (SlotStanding B) Known) (slots : List (ℕ × SlotStanding B))
      (hand : List (ℕ × Option B)) (s : Standing B)
      → standing_from fs table key me ≡ s → gs ≡ fs → later ≡ table → hand_of slots (my me.0).part.hand ≡ hand
      → standing_from gs later key (me.0, slots) ≡ record s { hand = hand }
  hand_changed fs gs table later key me slots hand s is seen same changed =
      ap (λ t. standing_from gs t key (me.0, slots)) same
      ∙ ap (λ (hs : Seen). standing_from hs table key (me.0, slots)) seen
      ∙ ap (λ (h : List (ℕ × Option B)). record (standing_from fs table key me) { hand = h }) changed
      ∙ ap (λ (z : Standing B). record z { hand = hand }) is

  abbrev first_slot : SlotStanding B → List (ℕ × SlotStanding B) → SlotStanding B
  first_slot d [] = d
  first_slot d (x ∷ xs) = x.1

  -- the slot in front is one
  pub same_slot : (i : ℕ) (s t : SlotStanding B) (os rs ms : List (ℕ × SlotStanding B)) → ms ≡ (i, s) ∷ os → ms ≡ (i, t) ∷ rs → s ≡ t
  same_slot i s t os rs ms one other = ap (first_slot s) (sym one ∙ other)

  -- what contracts see of a seat after an exchange of the buffer of an index
  pub lent_standing : (IsSame : B → B → Type 0) (fs gs : Seen) (table later : TableId) (key : Key B) (me me' : Me (SlotStanding B) Known) (v : Known)
      (ms : List (ℕ × SlotStanding B))
      (given : List B) (i : ℕ) (o : Option B) (y : SlotStanding B) (s : Standing B)
      → standing_from fs table key me ≡ s → gs ≡ fs → later ≡ table → v ≡ me.0 → Brought IsSame me given ms i o → me' ≡ (v, (i, y) ∷ rest ms)
      → standing_from gs later key me' ≡ record s { hand = with_buffer i y.buffer s.hand }
  lent_standing IsSame fs gs table later key me me' v ms given i o y s is seen same view b now =
      let others : rest ms ≡ b.others = ap rest b.is in
      let changed : hand_of ((i, y) ∷ b.others) (my me.0).part.hand ≡ with_buffer i y.buffer s.hand =
      exchanged_hand me.1 ms b.others i b.slot y b.same b.is (my me.0).part.hand ∙ ap (λ (z : Standing B). with_buffer i y.buffer z.hand) is in
      ap (standing_from gs later key) (now ∙ ap (λ (u : Known). (u, (i, y) ∷ rest ms)) view ∙ ap (λ (l : List (ℕ × SlotStanding B)). (me.0, (i, y) ∷ l)) others)
      ∙ hand_changed fs gs table later key me ((i, y) ∷ b.others) (with_buffer i y.buffer s.hand) s is seen same changed
