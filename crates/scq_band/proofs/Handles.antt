-- What a turn does with slots. A put's exchange that succeeds takes the slot of its index home, a get brings the slot of the
-- index that it takes, and no other turn moves one. So the slots at home stay those of the indices in entries.
use Rattle.std.proofs.Common.{◌≡◌, ◌≢◌, ◌⊎◌, ℕ, ◌<◌, true, false, ◌==◌, List, [], ◌∷◌, length, refl, sym, ◌∙◌, ap, subst, inl, inr, arith, eq-eqb, ne_eqb}
use Rattle.std.specs.Prelude.{slice_set}
use Rattle.std.proofs.lemmas.List.{length-set}
use Rattle.std.proofs.lemmas.Bool.{cases_eq, cases_Bool}
use mathlib.Core.Option.{some}
use mathlib.Core.Option as maybe
use Rattle.atomic_table.specs.Table.{Act, keeps, takes, gives, Valid, carried_after, homes_after}
use Rattle.atomic_table.proofs.Lists.{set_here, set_else}
use Rattle.scq_word.specs.declared.setup.Setup.{Setup}
use Rattle.scq_word.specs.Exports.{n_of, packed, index_in, cycle_in, safe_in, is_none_in}
use Rattle.scq_word.proofs.TicketLemmas.{slot_of_small}
use Rattle.scq_word.proofs.WordLemmas.{index_in-packed, index_in_small}
use Rattle.scq_core.specs.declared.phase.Phase.{Phase}
use Rattle.scq_core.specs.declared.phase.Phase.TheVariants.{AtE2, AtE4, AtD3, AtD4, AtD5}
use Rattle.scq_core.specs.Exports.{Cells, Entries, entry_of, read, beside, written, ring_slots, cycle, slot, passed, location_of, writes, stores}
use Rattle.scq_core.specs.Exports.{cells_after, Busy, word_at}
use Rattle.scq_core.specs.Machine.{Machine}
use Rattle.scq_core.proofs.UpdatedLemmas.{written_same, updated_entry_or}
use Rattle.scq_core.proofs.Entries.{some_slots, none_in-marked}
use Rattle.scq_law.specs.Exports.{times, hand_of, in_slot, OneHand}
use Rattle.scq_law.proofs.Places.HandLemmas.{seen_times}
use Rattle.scq_band.specs.Exports.{Has, Stored, Carries, SlotsAfter}

-- an entry that is written, told from all others
entry_either : (m : Cells) (r s x : ℕ) (y : List ℕ) (q z : ℕ)
    → ((q ≡ r) × (z ≡ s) × ((written m (entry_of r s) x y).entries.word q z ≡ x) × ((written m (entry_of r s) x y).entries.content q z ≡ y))
    ⊎ ((q ≡ r → z ≡ s → ⊥) × ((written m (entry_of r s) x y).entries.word q z ≡ m.entries.word q z)
    × ((written m (entry_of r s) x y).entries.content q z ≡ m.entries.content q z))
entry_either m r s x y q z =
    elim (updated_entry_or m.entries.word r s x q z) [
      | inl h ↦
          elim (updated_entry_or m.entries.content r s y q z) [
            | inl g ↦ inl (h.0, h.1, h.2, g.2)
            | inr g ↦ absurd (g.0 h.0 h.1)
          ]
      | inr h ↦
          elim (updated_entry_or m.entries.content r s y q z) [
            | inl g ↦ absurd (h.0 g.0 g.1)
            | inr g ↦ inr (h.0, h.1, g.1)
          ]
    ]

module _ {S : Type 0} (Lies : ℕ → S → List ℕ → Type 0) where
  pub record Handles (c : Setup) (m : Machine) (homes : List (maybe.Option S)) (slots : List (ℕ × S)) (k : ℕ) (t : Phase) : Type 0 where
    pub act : Act S
    pub valid : Valid homes slots act
    pub carried : SlotsAfter Lies c t (read m.cells (location_of c t)) (beside m.cells (location_of c t)) slots (carried_after slots act)
    pub room : length (homes_after homes slots act) ≡ length homes
    pub stored : Stored Lies c (cells_after c t m.cells).entries (homes_after homes slots act)
    pub stays : (i j : ℕ) (w : List ℕ) → j ≢ k → 0 < times i (m.part j).hand → Has Lies homes i w → Has Lies (homes_after homes slots act) i w

  -- a turn that leaves the entries moves no slot
  quiet : (c : Setup) (m : Machine) (homes : List (maybe.Option S)) (slots : List (ℕ × S)) (k : ℕ) (t : Phase) → Stored Lies c m.cells.entries homes
      → (cells_after c t m.cells).entries ≡ m.cells.entries
      → SlotsAfter Lies c t (read m.cells (location_of c t)) (beside m.cells (location_of c t)) slots slots → Handles c m homes slots k t
  quiet c m homes slots k t stored same carried =
      record {
        act = keeps;
        valid = tt;
        carried = carried;
        room = refl;
        stored = subst (λ (e : Entries). Stored Lies c e homes) (sym same) stored;
        stays = λ i j w apart seen has. has;
      }

  -- a slot whose value was left where it was
  pub has_else : (homes : List (maybe.Option S)) (i j : ℕ) (x : maybe.Option S) (w : List ℕ) → j ≢ i → Has Lies homes j w → Has Lies (slice_set homes i x) j w
  has_else homes i j x w apart has =
      record { value = has.value; here = set_else homes i j x apart ∙ has.here; lies = has.lies }

  -- two homes of one index are one
  pub in_hand_alone : (c : Setup) (m : Machine) (i k j : ℕ) → OneHand c m → i < n_of c.order → 0 < times i (m.part k).hand
      → 0 < times i (m.part j).hand → j ≢ k → ⊥
  in_hand_alone c m i k j one small here there apart =
      let same : hand_of j ≡ hand_of k = one.alone i (hand_of j) (hand_of k) small there here in apart (cc)

  pub hand_or_entry : (c : Setup) (m : Machine) (i k r s : ℕ) → OneHand c m → i < n_of c.order → 0 < times i (m.part k).hand → s < ring_slots c
      → index_in (ring_slots c) (m.cells.entries.word r s) ≡ i → ⊥
  hand_or_entry c m i k r s one small here low is =
      let same : hand_of k ≡ in_slot r s = one.alone i (hand_of k) (in_slot r s) small here (low, is) in absurd (cc)

  entries_apart : (c : Setup) (m : Machine) (i r s q z : ℕ) → OneHand c m → i < n_of c.order → s < ring_slots c
      → index_in (ring_slots c) (m.cells.entries.word r s) ≡ i
      → z < ring_slots c → index_in (ring_slots c) (m.cells.entries.word q z) ≡ i → (q ≡ r) × (z ≡ s)
  entries_apart c m i r s q z one small low is low' is' =
      let same : in_slot q z ≡ in_slot r s = one.alone i (in_slot q z) (in_slot r s) small (low', is') (low, is) in (cc, cc)

  -- a put's exchange that succeeds: the slot of its index goes home
  gives_home : (c : Setup) (m : Machine) (homes : List (maybe.Option S)) (x : ℕ × S) (xs : List (ℕ × S)) (k r i : ℕ) (w : List ℕ) (t e : ℕ) → OneHand c m
      → length homes ≡ n_of c.order
      → Stored Lies c m.cells.entries homes → Busy c m.cells (m.part k).hand (AtE4 r i w t e) → x.0 ≡ i → Lies i x.1 w → word_at c m.cells r t ≡ e
      → Handles c m homes (x ∷ xs) k (AtE4 r i w t e)
  gives_home c m homes x xs k r i w t e one room stored busy first lies hit =
      let small = busy.0.index in
      let mine = seen_times (m.part k).hand i busy.0.held in
      let test : (word_at c m.cells r t == e) ≡ true = eq-eqb _ _ hit in
      let put : Has Lies (slice_set homes i (some x.1)) i w = record { value = x.1; here = set_here homes i (some x.1) (omega arith); lies = lies } in
      record {
        act = gives;
        valid = tt;
        carried = rw test refl;
        room = length-set homes x.0 (some x.1);
        stored =
            λ q z low has.
            elim (entry_either m.cells r (slot c t) (writes c (AtE4 r i w t e) (word_at c m.cells r t))
            (stores (AtE4 r i w t e) (word_at c m.cells r t) (m.cells.entries.content r (slot c t))) q z) [
              | inl h ↦
                  let word : writes c (AtE4 r i w t e) (word_at c m.cells r t) ≡ packed (ring_slots c) (cycle c t) 1 i = rw test refl in
                  let content : stores (AtE4 r i w t e) (word_at c m.cells r t) (m.cells.entries.content r (slot c t)) ≡ w = rw test refl in
                  rw (h.2, h.3, word, content, first) (rw (index_in-packed (ring_slots c) (cycle c t) 1 i (omega arith)) put)
              | inr h ↦
                  let old = rw h.1 at has in
                  let apart : index_in (ring_slots c) (m.cells.entries.word q z) ≢ i =
                  λ is. hand_or_entry c m i k q z one small mine low is in
                  rw (h.1, h.2, first) (has_else homes i _ (some x.1) _ apart (stored q z low old))
            ];
        stays =
            λ j b v apart seen has.
            rw (first) (has_else homes i j (some x.1) v (λ is. in_hand_alone c m i k b one small mine (rw (← is) seen) apart) has);
      }

  -- a get takes the index, and brings its slot
  takes_out : (c : Setup) (m : Machine) (homes : List (maybe.Option S)) (slots : List (ℕ × S)) (k r h : ℕ) → OneHand c m → Stored Lies c m.cells.entries homes
      → is_none_in (ring_slots c) (word_at c m.cells r h) ≡ false → Handles c m homes slots k (AtD4 r h)
  takes_out c m homes slots k r h one stored stands =
      let s = slot c h in
      let low = slot_of_small c.order h in
      let i = index_in (ring_slots c) (word_at c m.cells r h) in
      let small = one.in_entries r s low stands in
      let has = stored r s low stands in
      record {
        act = takes i has.value;
        valid = has.here;
        carried = record { value = has.value; lies = has.lies; come = refl };
        room = length-set homes i maybe.none;
        stored =
            λ q z there full.
            elim (entry_either m.cells r s (writes c (AtD4 r h) (word_at c m.cells r h)) (m.cells.entries.content r s) q z) [
              | inl g ↦
                  let marked = none_in-marked (ring_slots c) (cycle_in (ring_slots c) (word_at c m.cells r h))
                  (safe_in (ring_slots c) (word_at c m.cells r h)) (some_slots c) in
                  let no = rw g.2 at full in absurd (cc)
              | inr g ↦
                  let old = rw g.1 at full in
                  let apart : index_in (ring_slots c) (m.cells.entries.word q z) ≢ i =
                  λ is. let both = entries_apart c m i r s q z one small low refl there is in g.0 both.0 both.1 in
                  rw (g.1, g.2) (has_else homes i _ maybe.none _ apart (stored q z there old))
            ];
        stays =
            λ j b v apart seen keeps_it.
            has_else homes i j maybe.none v (λ is. hand_or_entry c m i b r s one small (rw (← is) seen) low refl) keeps_it;
      }

  -- a get that passes an entry by leaves its index and its content, or had none there
  passes_by : (c : Setup) (m : Machine) (homes : List (maybe.Option S)) (slots : List (ℕ × S)) (k r h e : ℕ) → Stored Lies c m.cells.entries homes
      → word_at c m.cells r h ≡ e → Handles c m homes slots k (AtD5 r h e)
  passes_by c m homes slots k r h e stored hit =
      let s = slot c h in
      let low = slot_of_small c.order h in
      let test : (word_at c m.cells r h == e) ≡ true = eq-eqb _ _ hit in
      let word : writes c (AtD5 r h e) (word_at c m.cells r h) ≡ passed c h e = rw test refl in
      record {
        act = keeps;
        valid = tt;
        carried = refl;
        room = refl;
        stored =
            λ q z there full.
            elim (entry_either m.cells r s (writes c (AtD5 r h e) (word_at c m.cells r h)) (m.cells.entries.content r s) q z) [
              | inl g ↦
                  let now : is_none_in (ring_slots c) (passed c h e) ≡ false = rw (g.2, word) at full in
                  elim (cases_Bool (is_none_in (ring_slots c) e)) [
                    | inl none ↦
                        let marked = none_in-marked (ring_slots c) (cycle c h) (safe_in (ring_slots c) e) (some_slots c) in
                        let no = rw none at now in absurd (cc)
                    | inr index ↦
                        let is : index_in (ring_slots c) (passed c h e) ≡ index_in (ring_slots c) e =
                        rw index (index_in-packed (ring_slots c) (cycle_in (ring_slots c) e) 0 (index_in (ring_slots c) e)
                        (index_in_small (ring_slots c) e (some_slots c))) in
                        let old : is_none_in (ring_slots c) (m.cells.entries.word r s) ≡ false = rw hit index in
                        let st : Has Lies homes (index_in (ring_slots c) (word_at c m.cells r h)) (m.cells.entries.content r s) = stored r s low old in
                        let here : Has Lies homes (index_in (ring_slots c) e) (m.cells.entries.content r s) = rw hit at st in
                        rw (g.2, g.3, word, is) here
                  ]
              | inr g ↦ let old = rw g.1 at full in rw (g.1, g.2) (stored q z there old)
            ];
        stays = λ i j w apart seen has. has;
      }

module _ {S : Type 0} (Lies : ℕ → S → List ℕ → Type 0) where
  -- each turn that a seat may make
  pub handles : (c : Setup) (m : Machine) (homes : List (maybe.Option S)) (slots : List (ℕ × S)) (k : ℕ) (t : Phase) → OneHand c m
      → length homes ≡ n_of c.order → Stored Lies c m.cells.entries homes
      → Busy c m.cells (m.part k).hand t → Carries Lies t slots → ((r h : ℕ) → t ≡ AtD4 r h → is_none_in (ring_slots c) (word_at c m.cells r h) ≡ false)
      → Handles Lies c m homes slots k t
  handles c m homes slots k (AtE2 r i w t l) one room stored busy front stands =
      quiet Lies c m homes slots k (AtE2 r i w t l) stored (ap (λ (n : Cells). n.entries) (written_same m.cells (location_of c (AtE2 r i w t l)))) refl
  handles c m homes [] k (AtE4 r i w t e) one room stored busy front stands = absurd front
  handles c m homes (x ∷ xs) k (AtE4 r i w t e) one room stored busy front stands =
      elim (cases_eq (word_at c m.cells r t) e) [
        | inl hit ↦ gives_home Lies c m homes x xs k r i w t e one room stored busy front.0 front.1 hit
        | inr miss ↦
            let test : (word_at c m.cells r t == e) ≡ false = ne_eqb _ _ miss in
            quiet Lies c m homes (x ∷ xs) k (AtE4 r i w t e) stored
            (rw test (ap (λ (n : Cells). n.entries) (written_same m.cells (location_of c (AtE4 r i w t e))))) (rw test refl)
      ]
  handles c m homes slots k (AtD3 r h l) one room stored busy front stands =
      quiet Lies c m homes slots k (AtD3 r h l) stored (ap (λ (n : Cells). n.entries) (written_same m.cells (location_of c (AtD3 r h l)))) refl
  handles c m homes slots k (AtD4 r h) one room stored busy front stands =
      takes_out Lies c m homes slots k r h one stored (stands r h refl)
  handles c m homes slots k (AtD5 r h e) one room stored busy front stands =
      elim (cases_eq (word_at c m.cells r h) e) [
        | inl hit ↦ passes_by Lies c m homes slots k r h e stored hit
        | inr miss ↦
            let test : (word_at c m.cells r h == e) ≡ false = ne_eqb _ _ miss in
            quiet Lies c m homes slots k (AtD5 r h e) stored (rw test (ap (λ (n : Cells). n.entries) (written_same m.cells (location_of c (AtD5 r h e))))) refl
      ]
  handles c m homes slots k turn one room stored busy front stands = quiet Lies c m homes slots k turn stored refl refl
