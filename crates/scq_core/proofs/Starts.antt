-- The slots of the full ring at the start.
use Rattle.std.proofs.Common.{◌≡◌, ◌≢◌, ℕ, zero, suc, ◌+◌, ◌*◌, ◌<◌, List, [], refl, sym, ◌∙◌, ◌⊎◌, inl, inr, arith, eq-eqb, ne_eqb}
use Rattle.std.specs.Prelude.{slice_index_or}
use Rattle.std.proofs.lemmas.Bool.{cases_eq}
use Rattle.scq_word.specs.declared.setup.Setup.{Setup}
use Rattle.scq_word.specs.Exports.{packed, n_of}
use Rattle.scq_word.proofs.TicketLemmas.{cycle_of-row, same_ticket}
use Rattle.scq_core.specs.Exports.{ring_slots, cycle, slot, filled, filled_contents, unused, start_cells, StartsFull}

-- in a slot stands an index below the count at its place, with its content, or nothing, and it is the slot of no such place
pub record Filled (c : Setup) (opening : List (List ℕ)) (count s : ℕ) : Type 0 where
  pub index : ℕ
  pub low : index < count
  pub slot : s ≡ slot c (ring_slots c + index)
  pub word : filled c count s ≡ packed (ring_slots c) 1 1 index
  pub content : filled_contents c opening count s ≡ slice_index_or opening index []

pub record Unfilled (c : Setup) (count s : ℕ) : Type 0 where
  pub word : filled c count s ≡ unused (ring_slots c)
  pub other : (j : ℕ) → j < count → s ≢ slot c (ring_slots c + j)

pub fills : (c : Setup) (opening : List (List ℕ)) (count s : ℕ) → Filled c opening count s ⊎ Unfilled c count s
fills c opening zero s = inr (record { word = refl; other = λ j low. absurd (omega arith) })
fills c opening (suc count) s =
    elim (cases_eq s (slot c (ring_slots c + count))) [
      | inl same ↦
          let test = eq-eqb s (slot c (ring_slots c + count)) same in
          inl (record { index = count; low = omega arith; slot = same; word = rw test refl; content = rw test refl })
      | inr apart ↦
          let test = ne_eqb s (slot c (ring_slots c + count)) apart in
          elim (fills c opening count s) [
            | inl f ↦
                let low = f.low in
                inl
                (record { index = f.index; low = omega arith; slot = f.slot; word = rw test f.word; content = rw test f.content })
            | inr f ↦
                inr
                (record {
                  word = rw test f.word;
                  other =
                      λ j low.
                      elim (cases_eq j count) [
                        | inl last ↦ rw last apart
                        | inr before ↦ f.other j (omega arith)
                      ];
                })
          ]
    ]

-- the opening tickets are of cycle 1
pub opening_cycle : (c : Setup) (j : ℕ) → j < ring_slots c → cycle c (ring_slots c + j) ≡ 1
opening_cycle c j low =
    let row : cycle c (1 * ring_slots c + j) ≡ 1 = cycle_of-row (ring_slots c) 1 j low in
    let same : 1 * ring_slots c + j ≡ ring_slots c + j = omega arith in
    rw same at row

-- so each has a slot of its own
opening_apart : (c : Setup) (i j : ℕ) → i < n_of c.order → j < n_of c.order → slot c (ring_slots c + i) ≡ slot c (ring_slots c + j) → i ≡ j
opening_apart c i j low lower same =
    let one : ring_slots c + i ≡ ring_slots c + j =
    same_ticket c.order (ring_slots c + i) (ring_slots c + j) same (opening_cycle c i (omega arith) ∙ sym (opening_cycle c j (omega arith))) in
    omega arith

-- the index of an opening ticket stands in its slot, with its content
opened : (c : Setup) (opening : List (List ℕ)) (j : ℕ) → j < n_of c.order
    → Filled c opening (n_of c.order) (slot c (ring_slots c + j)) ⊎ Unfilled c (n_of c.order) (slot c (ring_slots c + j))
    → (filled c (n_of c.order) (slot c (ring_slots c + j)) ≡ packed (ring_slots c) 1 1 j)
    × (filled_contents c opening (n_of c.order) (slot c (ring_slots c + j)) ≡ slice_index_or opening j [])
opened c opening j low (inl f) =
    let same : f.index ≡ j = opening_apart c f.index j f.low low (sym f.slot) in
    (rw same at f.word, rw same at f.content)
opened c opening j low (inr f) = absurd (f.other j low refl)

unopened : (c : Setup) (opening : List (List ℕ)) (s : ℕ) → ((j : ℕ) → j < n_of c.order → s ≢ slot c (ring_slots c + j))
    → Filled c opening (n_of c.order) s ⊎ Unfilled c (n_of c.order) s → filled c (n_of c.order) s ≡ unused (ring_slots c)
unopened c opening s other (inl f) = absurd (other f.index f.low f.slot)
unopened c opening s other (inr f) = f.word

-- the entries of the start, by ticket
pub starts_full : (c : Setup) (opening : List (List ℕ)) → StartsFull c opening (start_cells c opening)
starts_full c opening =
    let n = n_of c.order in
    record {
      words = λ j low. (opened c opening j low (fills c opening n (slot c (ring_slots c + j)))).0;
      contents = λ j low. (opened c opening j low (fills c opening n (slot c (ring_slots c + j)))).1;
      others =
          λ r s other.
          elim (cases_eq r 0) [
            | inl first ↦ rw (eq-eqb r 0 first) (unopened c opening s (λ j low. other j low first) (fills c opening n s))
            | inr later ↦ rw (ne_eqb r 0 later) refl
          ];
    }
