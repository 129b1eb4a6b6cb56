-- The table at the start shows the start of the machine. Plan: each word is the one that the layout puts there; all seats stand in
-- the first view, idle; and the slot of an index in ring 0 has the opening content.
use Rattle.std.proofs.Common.{◌≡◌, ◌⊎◌, ℕ, zero, suc, ◌<◌, ◌≤◌, true, false, ◌==◌, List, [], ◌∷◌, ◌++◌, map, length, refl, sym, ◌∙◌, ap, subst, inl, inr, arith, eq-eqb, ne_eqb}
use Rattle.std.specs.Prelude.{Some, None, Option, slice_get, slice_index, slice_index_or}
use Rattle.std.proofs.lemmas.Bool.{cases_eq}
use Rattle.std.proofs.lemmas.List.{length-append}
use mathlib.Core.Option.{some, some-injective, some-ne-none}
use mathlib.Core.Option as maybe
use lib.ListN.{get_elem?}
use Rattle.atomic_table.specs.Table.{opening}
use Rattle.scq_word.specs.declared.setup.Setup.{Setup}
use Rattle.scq_word.specs.Exports.{n_of, index_in, is_none_in}
use Rattle.scq_word.proofs.WordLemmas.{index_in-packed}
use Rattle.scq_core.specs.Exports.{Location, tail_of, head_of, threshold_of, entry_of, read, ring_slots, unused, idle_part, start_cells, start_of}
use Rattle.scq_core.proofs.Entries.{some_indices, some_slots, none_in-marked}
use Rattle.scq_core.proofs.Starts.{fills}
use Rattle.scq_law.specs.Exports.{recorded_first}
use Rattle.scq_law.proofs.Replays.LongerRuns.{run_first}
use Rattle.scq_band.specs.declared.numbers.Numbers.{Numbers}
use Rattle.scq_band.specs.Exports.{gate_word, WordsAreOpened, first_numbers_of, first_numbers, IsTrue, Scene, Has, Owns, IsView, awake, first_members}
use Rattle.scq_band.specs.Exports.{first_view}
use Rattle.scq_band.specs.Known.{Known}
use Rattle.scq_band.proofs.StandingSeats.{opened_stands}
use Rattle.scq_band.specs.Shown.{Shown}

-- the words of the start are those of any opening contents
same_words : (c : Setup) (contents : List (List ℕ)) (l : Location) → read (start_cells c []) l ≡ read (start_cells c contents) l
same_words c contents (tail_of r) = refl
same_words c contents (head_of r) = refl
same_words c contents (threshold_of r) = refl
same_words c contents (entry_of r s) = refl

-- all seats are awake
awake_all : (n : ℕ) → awake (λ k. None) n ≡ n
awake_all zero = refl
awake_all (suc n) = let rest = awake_all n in omega arith

members_length : (n : ℕ) → length (first_members n) ≡ n
members_length zero = refl
members_length (suc n) = ap suc (members_length n)

pub numbers_length : (c : Setup) (n : ℕ) → length (first_numbers c n) ≡ n
numbers_length c zero = refl
numbers_length c (suc n) = length-append (first_numbers c n) (first_numbers_of c n ∷ []) ∙ (let rest = numbers_length c n in omega arith)

snoc_get : (xs : List Numbers) (a x : Numbers) (r : ℕ) → slice_get (xs ++ a ∷ []) r ≡ Some x → (slice_get xs r ≡ Some x) ⊎ ((r ≡ length xs) × (a ≡ x))
snoc_get [] a x zero e = inr (refl, cc)
snoc_get [] a x (suc r) e = absurd (cc)
snoc_get (y ∷ ys) a x zero e = inl e
snoc_get (y ∷ ys) a x (suc r) e =
    elim (snoc_get ys a x r e) [ inl old ↦ inl old | inr last ↦ inr ((let same = last.0 in omega (arith, same)), last.1) ]

-- what is known of the rings at the start
numbers_are : (c : Setup) (n r : ℕ) (x : Numbers) → slice_get (first_numbers c n) r ≡ Some x → x ≡ first_numbers_of c r
numbers_are c zero r x e = absurd (cc)
numbers_are c (suc n) r x e =
    elim (snoc_get (first_numbers c n) (first_numbers_of c n) x r e) [
      | inl old ↦ numbers_are c n r x old
      | inr last ↦ sym last.1 ∙ ap (first_numbers_of c) (sym (last.0 ∙ numbers_length c n))
    ]

first_true : (c : Setup) (contents : List (List ℕ)) (r : ℕ) → IsTrue c (start_of c contents) r (first_numbers_of c r)
first_true c contents r =
    elim (cases_eq r 0) [
      | inl zeroth ↦
          let test : (r == 0) ≡ true = eq-eqb r 0 zeroth in
          record { finished = inl refl; order = omega arith; seen = rw test (omega (arith, some_slots c)); head = omega arith }
      | inr other ↦
          let test : (r == 0) ≡ false = ne_eqb r 0 other in
          record { finished = inl refl; order = omega arith; seen = rw test (omega (arith, some_slots c)); head = omega arith }
    ]

module _ {S : Type 0} (Lies : ℕ → S → List ℕ → Type 0) where
  -- the seats below a number stand in the first view
  owns_first : (c : Setup) (z : Scene) (homes : List (maybe.Option S)) (n : ℕ) → n ≤ c.seats → z.owner ≡ (λ k. (0, k)) → z.gone ≡ (λ k. None)
      → ((k : ℕ) → z.state.part k ≡ idle_part)
      → Owns Lies c z homes 0 (first_members n)
  owns_first c z homes zero le owner gone part = tt
  owns_first c z homes (suc n) le owner gone part = (
    record {
      low = omega arith;
      owner = ap (λ (f : ℕ → ℕ × ℕ). f n) owner ∙ ap (λ b. (0, b)) (sym (members_length n));
      part = part n;
      gone = ap (λ (f : ℕ → Option ℕ). f n) gone;
      brought = λ b there. absurd (omega (arith, there.1));
    },
    owns_first c z homes n (omega arith) owner gone part,
  )

  -- the table at the start
  pub opens : (c : Setup) (ws : List ℕ) (xs : List S) (contents : List (List ℕ)) → WordsAreOpened c ws c.rings 0
      → length xs ≡ n_of c.order → length contents ≡ n_of c.order → ((j : ℕ) → j < n_of c.order → Has Lies (map some xs) j (slice_index_or contents j []))
      → Shown Lies contents c (λ k. None) [] (opening ws xs (first_view c))
  opens c ws xs contents opened many all has =
      let z : Scene = record { state = start_of c contents; gone = λ k. None; owner = λ k. (0, k) } in
      let gate : slice_index ws gate_word ≡ c.seats = opened.gate in
      record {
        scene = z;
        leads = record { recorded = recorded_first c contents; is_run = run_first c contents all; ends = refl };
        gone_is = refl;
        made = λ k n e. absurd (cc);
        words = record { count = opened.count; shows = λ l here. opened.shows l here (inl here.0) ∙ same_words c contents l };
        awake_seats = gate ∙ sym (awake_all c.seats);
        room = length_map xs ∙ many;
        views = λ j v e. only j v e (first_is z gate);
        stored = λ r s low full. stands r s low full;
        all_stand = opened_stands c;
      }
    where
      length_map : (ys : List S) → length (map some ys) ≡ length ys
      length_map [] = refl
      length_map (y ∷ ys) = ap suc (length_map ys)

      only : (j : ℕ) (v : Known) → get_elem? (first_view c ∷ []) j ≡ some v
          → IsView Lies c (record { state = start_of c contents; gone = λ k. None; owner = λ k. (0, k) }) (map some xs) (slice_index ws 0) 0 (first_view c)
          → IsView Lies c (record { state = start_of c contents; gone = λ k. None; owner = λ k. (0, k) }) (map some xs) (slice_index ws 0) j v
      only zero v e view =
          subst (λ (u : Known). IsView Lies c (record { state = start_of c contents; gone = λ k. None; owner = λ k. (0, k) }) (map some xs) (slice_index ws 0)
          0 u) (some-injective (first_view c) v e) view
      only (suc j) v e view = absurd (some-ne-none v (sym e))

      first_is : (z : Scene) → slice_index ws 0 ≡ c.seats
          → IsView Lies c (record { state = start_of c contents; gone = λ k. None; owner = λ k. (0, k) }) (map some xs) (slice_index ws 0) 0 (first_view c)
      first_is z gate =
          record {
            seats = owns_first c (record { state = start_of c contents; gone = λ k. None; owner = λ k. (0, k) }) (map some xs) c.seats (omega arith) refl refl
                (λ k. refl);
            rings = inr (numbers_length c c.rings);
            numbers = λ r x e. rw (numbers_are c c.rings r x e) (first_true c contents r);
            last_gate = λ n is. let same : c.seats ≡ n = cc in omega (arith, gate, same);
          }

      none_unused : is_none_in (ring_slots c) (unused (ring_slots c)) ≡ true
      none_unused = none_in-marked (ring_slots c) 0 1 (some_slots c)

      stands : (r s : ℕ) → s < ring_slots c → is_none_in (ring_slots c) ((start_cells c contents).entries.word r s) ≡ false
          → Has Lies (map some xs) (index_in (ring_slots c) ((start_cells c contents).entries.word r s)) ((start_cells c contents).entries.content r s)
      stands r s low full =
          elim (cases_eq r 0) [
            | inl zeroth ↦
                let test : (r == 0) ≡ true = eq-eqb r 0 zeroth in
                elim (fills c contents (n_of c.order) s) [
                  | inl f ↦
                      let small = f.low in
                      rw (test, f.word, f.content) (rw (index_in-packed (ring_slots c) 1 1 f.index (omega (arith, small, some_indices c))) (has f.index f.low))
                  | inr u ↦ let never : true ≡ false = sym none_unused ∙ (rw (test, u.word) at full) in absurd (cc)
                ]
            | inr other ↦
                let test : (r == 0) ≡ false = ne_eqb r 0 other in
                let never : true ≡ false = sym none_unused ∙ (rw test at full) in absurd (cc)
          ]
