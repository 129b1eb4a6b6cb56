-- The gate, word 0, is read and lowered: reading it changes one view's own two numbers, and a seat that retires lowers it by one.
use Rattle.std.proofs.Common.{◌≡◌, ◌≢◌, ◌⊎◌, ℕ, zero, suc, ◌+◌, ◌-◌, ◌%◌, ◌^◌, ◌<◌, ◌≤◌, Bool, true, false, List, [], ◌∷◌, ◌++◌, length, refl, sym, ◌∙◌, ap, subst, inl, inr, arith}
use Rattle.std.specs.Prelude.{Some, None, Option, is_none, unwrap_or, if◌then◌else◌, slice_set, slice_index, slice_index_or}
use Rattle.std.specs.List.{Contains}
use Rattle.std.proofs.lemmas.List.Elements.{Contains-append_left, Contains-append_right, Contains-append_cases}
use Rattle.scq_band.specs.Exports.{retired_ones, Member, Scene, Owns, IsView, StandsAmong, awake, IsReading, my, my_of, IsAlone, looked, retired_at}
use Rattle.std.proofs.lemmas.Bool.{cases_eq}
use Rattle.std.proofs.lemmas.List.{set-get_or, get_or-set_same}
use mathlib.Core.Option.{some}
use mathlib.Core.Option as maybe
use lib.ListN.{get_elem?}
use Rattle.atomic_table.specs.Table.{Me, State, Allows, stepped, keeps}
use Rattle.atomic_table.proofs.Lists.{at_set}
use Rattle.scq_word.specs.declared.setup.Setup.{Setup}
use Rattle.scq_core.specs.declared.step.Step.{Step}
use Rattle.scq_core.specs.Exports.{SeatPart, updated}
use Rattle.scq_core.proofs.UpdatedLemmas.{updated_here, updated_else}
use Rattle.scq_band.specs.Known.{Known}
use Rattle.scq_band.specs.Shown.{Shown}
use Rattle.scq_band.proofs.WordLemmas.{gate_shown}
use Rattle.scq_band.proofs.Operations.{less_one}
use Rattle.scq_band.proofs.StandingSeats.{seat_apart, set_stands}
use Rattle.scq_band.proofs.Views.{views_shown}

-- no more seats are awake than there are
pub awake_few : (gone : ℕ → Option ℕ) (n : ℕ) → awake gone n ≤ n
awake_few gone zero = omega arith
awake_few gone (suc n) =
    let rest = awake_few gone n in
    one_more (is_none (gone n)) (awake gone n) n rest
  where
    one_more : (b : _) (a m : ℕ) → a ≤ m → (if b then 1 else 0) + a ≤ suc m
    one_more true a m le = omega arith
    one_more false a m le = omega arith

-- one seat fewer is awake
awake_beyond : (gone : ℕ → Option ℕ) (k n : ℕ) (x : Option ℕ) → n ≤ k → awake (updated gone k x) n ≡ awake gone n
awake_beyond gone k zero x le = refl
awake_beyond gone k (suc n) x le =
    rw (updated_else gone k x n (λ e. omega (arith, e, le))) (ap (λ a. (if is_none (gone n) then 1 else 0) + a) (awake_beyond gone k n x (omega arith)))

pub awake_less : (gone : ℕ → Option ℕ) (k calls n : ℕ) → k < n → gone k ≡ None → awake (updated gone k (Some calls)) n + 1 ≡ awake gone n
awake_less gone k calls zero low none = absurd (omega arith)
awake_less gone k calls (suc n) low none =
    elim (cases_eq n k) [
      | inl same ↦
          let beyond : awake (updated gone k (Some calls)) n ≡ awake gone n = awake_beyond gone k n (Some calls) (omega arith) in
          let now : updated gone k (Some calls) n ≡ Some calls = rw same (updated_here gone k (Some calls)) in
          let was : gone n ≡ None = rw same none in
          rw (now, was, beyond) (omega arith)
      | inr other ↦
          let rest = awake_less gone k calls n (omega arith) none in
          rw (updated_else gone k (Some calls) n other) (omega arith)
    ]

-- fewer than all are awake where one has retired
pub awake_fewer : (gone : ℕ → Option ℕ) (k calls n : ℕ) → k < n → gone k ≡ Some calls → awake gone n < n
awake_fewer gone k calls zero low is_some = absurd (omega arith)
awake_fewer gone k calls (suc n) low is_some =
    elim (cases_eq n k) [
      | inl same ↦
          let is : gone n ≡ Some calls = ap gone same ∙ is_some in
          let few = awake_few gone n in
          rw is (omega (arith, few))
      | inr other ↦
          let rest = awake_fewer gone k calls n (omega arith) is_some in
          one_more (is_none (gone n)) (awake gone n) n rest
    ]
  where
    one_more : (b : _) (a m : ℕ) → a < m → (if b then 1 else 0) + a < suc m
    one_more true a m le = omega arith
    one_more false a m le = omega arith

-- where no seat is awake each has retired
pub none_awake : (gone : ℕ → Option ℕ) (n : ℕ) → awake gone n ≡ 0 → (k : ℕ) → k < n → (m : ℕ) × (gone k ≡ Some m)
none_awake gone zero none k low = absurd (omega arith)
none_awake gone (suc n) none k low =
    elim (cases_eq k n) [
      | inl same ↦ let last = is_gone (gone n) (awake gone n) none in (last.0, ap gone same ∙ last.1)
      | inr other ↦ none_awake gone n (rest_gone (is_none (gone n)) (awake gone n) none) k (omega arith)
    ]
  where
    is_gone : (x : Option ℕ) (a : ℕ) → (if is_none x then 1 else 0) + a ≡ 0 → (m : ℕ) × (x ≡ Some m)
    is_gone None a e = absurd (omega arith)
    is_gone (Some m) a e = (m, refl)

    rest_gone : (b : Bool) (a : ℕ) → (if b then 1 else 0) + a ≡ 0 → a ≡ 0
    rest_gone true a e = absurd (omega arith)
    rest_gone false a e = omega arith

-- where some are awake one has not retired
pub some_awake : (gone : ℕ → Option ℕ) (n : ℕ) → 0 < awake gone n → (k : ℕ) × (k < n) × (gone k ≡ None)
some_awake gone zero more = absurd (omega arith)
some_awake gone (suc n) more =
    elim (first_or_rest (gone n) (awake gone n) more) [
      | inl none ↦ (n, omega arith, none)
      | inr rest ↦ let below = some_awake gone n rest in (below.0, (let low = below.1 in omega (arith, low)), below.2)
    ]
  where
    first_or_rest : (x : Option ℕ) (a : ℕ) → 0 < (if is_none x then 1 else 0) + a → (x ≡ None) ⊎ (0 < a)
    first_or_rest None a e = inl refl
    first_or_rest (Some m) a e = inr (omega arith)

-- those that have retired are just these
pub ones_gone : (gone : ℕ → Option ℕ) (n : ℕ) (p : ℕ × ℕ) → Contains (retired_ones gone n) p → gone p.0 ≡ Some p.1
ones_gone gone zero p has = absurd (omega (arith, has.1))
ones_gone gone (suc n) p has =
    elim (Contains-append_cases (retired_ones gone n) (if is_none (gone n) then [] else (n, unwrap_or (gone n) 0) ∷ []) p has) [
      | inl before ↦ ones_gone gone n p before
      | inr last ↦ this (gone n) refl last
    ]
  where
    this : (x : Option ℕ) → gone n ≡ x → Contains (if is_none x then [] else (n, unwrap_or x 0) ∷ []) p → gone p.0 ≡ Some p.1
    this None is here = absurd (omega (arith, here.1))
    this (Some m) is here = one here.0 here.1 here.2
      where
        one : (k : ℕ) → k < 1 → slice_index_or ((n, m) ∷ []) k p ≡ p → gone p.0 ≡ Some p.1
        one zero low same = ap (λ (q : ℕ × ℕ). gone q.0) (sym same) ∙ is ∙ ap (λ (q : ℕ × ℕ). Some q.1) same
        one (suc k) low same = absurd (omega arith)

pub ones_low : (gone : ℕ → Option ℕ) (n : ℕ) (p : ℕ × ℕ) → Contains (retired_ones gone n) p → p.0 < n
ones_low gone zero p has = absurd (omega (arith, has.1))
ones_low gone (suc n) p has =
    elim (Contains-append_cases (retired_ones gone n) (if is_none (gone n) then [] else (n, unwrap_or (gone n) 0) ∷ []) p has) [
      | inl before ↦ let low = ones_low gone n p before in omega (arith, low)
      | inr last ↦ this (gone n) last
    ]
  where
    this : (x : Option ℕ) → Contains (if is_none x then [] else (n, unwrap_or x 0) ∷ []) p → p.0 < suc n
    this None here = absurd (omega (arith, here.1))
    this (Some m) here = one here.0 here.1 here.2
      where
        one : (k : ℕ) → k < 1 → slice_index_or ((n, m) ∷ []) k p ≡ p → p.0 < suc n
        one zero low same = let is = ap (λ (q : ℕ × ℕ). q.0) same in omega (arith, is)
        one (suc k) low same = absurd (omega arith)

pub gone_ones : (gone : ℕ → Option ℕ) (n k m : ℕ) → k < n → gone k ≡ Some m → Contains (retired_ones gone n) (k, m)
gone_ones gone zero k m low is = absurd (omega arith)
gone_ones gone (suc n) k m low is =
    let last : List (ℕ × ℕ) = if is_none (gone n) then [] else (n, unwrap_or (gone n) 0) ∷ [] in
    elim (cases_eq k n) [
      | inl same ↦
          let here : Contains last (n, m) = rw (ap gone (sym same) ∙ is) (0, omega arith, refl) in
          subst (λ (j : ℕ). Contains (retired_ones gone n ++ last) (j, m)) (sym same) (Contains-append_right (retired_ones gone n) last (n, m) here)
      | inr other ↦ Contains-append_left (retired_ones gone n) last (k, m) (gone_ones gone n k m (omega (arith, low, other)) is)
    ]

module _ {S : Type 0} (Lies : ℕ → S → List ℕ → Type 0) where
  -- what a reading of the gate tells a seat
  reading : {opening : List (List ℕ)} {gone : ℕ → Option ℕ} {run : List (ℕ × Step)} (c : Setup) (id : ℕ) (v : Known) (s : State S Known)
      → Shown Lies opening c gone run s → get_elem? s.views id ≡ some v
      → IsReading c.seats v.gate (my v).retired (slice_index s.words 0)
  reading c id v s sh here = record {
    fell = (sh.views id v here).last_gate;
    own = λ calls eq. rw sh.awake_seats (own v.seats (sh.views id v here).seats calls eq);
  }
    where
      own : (xs : List Member) → Owns Lies c sh.scene s.homes id xs → (calls : ℕ) → (my_of xs).retired ≡ Some calls → awake sh.scene.gone c.seats < c.seats
      own [] owns calls eq = absurd (cc)
      own (x ∷ xs) owns calls eq = awake_fewer sh.scene.gone x.number calls c.seats owns.0.low (owns.0.gone ∙ eq)

  -- the gate may be read
  pub looks : {opening : List (List ℕ)} {gone : ℕ → Option ℕ} {run : List (ℕ × Step)} (c : Setup) (slots id : ℕ) (me : Me S Known)
      → Allows (Shown Lies opening c gone run) slots id me 0 (λ n. n)
      (λ n later. (later.0 ≡ looked n me.0) × (later.1 ≡ me.1) × IsReading c.seats me.0.gate (my me.0).retired n)
  looks {opening} {gone} {run} c slots id me s sh many here small =
      let same : slice_set s.words 0 (slice_index s.words 0) ≡ s.words = set-get_or s.words 0 0 in
      let shown : Shown Lies opening c gone run (stepped s 0 (slice_index s.words 0) id me.1 (looked (slice_index s.words 0) me.0) keeps) =
      subst (λ (ws : List ℕ). Shown Lies opening c gone run (record {
        words = ws;
        homes = s.homes;
        views = slice_set s.views id (looked
            (slice_index s.words 0) me.0);
      }))
      (sym same)
      (views_shown Lies c s sh.scene.owner (slice_set s.views id (looked (slice_index s.words 0) me.0)) sh
      (λ j v e.
      elim (at_set s.views id j (looked (slice_index s.words 0) me.0) v e) [
        | inl at ↦
            let mine = sh.views id me.0 here in
            let view : IsView Lies c sh.scene s.homes (slice_index s.words 0) id (looked (slice_index s.words 0) me.0) = record {
              seats = mine.seats;
              rings = mine.rings;
              numbers = mine.numbers;
              last_gate = λ n is. let eq : slice_index s.words 0 ≡ n = cc in omega (arith, eq);
            } in
            rw at.0 (subst (λ (u : Known). IsView Lies c sh.scene s.homes (slice_index s.words 0) id u) at.1 view)
        | inr other ↦ sh.views j v other.1
      ])
      (λ k low. set_stands s.views id k me.0 (looked (slice_index s.words 0) me.0) here (λ a. a) (sh.all_stand k low))) in
      (looked (slice_index s.words 0) me.0, keeps, tt, shown, (refl, refl, reading c id me.0 s sh here))

  -- the seats of another view, after a seat has retired
  gone_else : (c : Setup) (z : Scene) (homes : List (maybe.Option S)) (id j k n : ℕ) → z.owner k ≡ (id, 0) → j ≢ id → (xs : List Member)
      → Owns Lies c z homes j xs
      → Owns Lies c (record z { gone = updated z.gone k (Some n) }) homes j xs
  gone_else c z homes id j k n mine apart [] owns = tt
  gone_else c z homes id j k n mine apart (x ∷ xs) owns =
      let x_is = owns.0 in
      let other = seat_apart z.owner x.number k j id x_is.owner mine apart in (
        record {
          low = x_is.low;
          owner = x_is.owner;
          part = x_is.part;
          gone = updated_else z.gone k (Some n) x.number other ∙ x_is.gone;
          brought = x_is.brought;
        },
        gone_else c z homes id j k n mine apart xs owns.1,
      )

  -- a seat that has not retired may retire
  pub retires : {opening : List (List ℕ)} {gone : ℕ → Option ℕ} {run : List (ℕ × Step)} (c : Setup) (id : ℕ) (me : Me S Known) → IsAlone me.0
      → (my me.0).retired ≡ None → (s : State S Known) → Shown Lies opening c gone run s → get_elem? s.views id ≡ some me.0
      → slice_index s.words 0 < 18446744073709551616
      → Shown Lies opening c (updated gone (my me.0).number (Some (length (my me.0).part.calls))) run
      (stepped s 0 ((slice_index s.words 0 + (2 ^ 64 - 1)) % 2 ^ 64) id me.1 (retired_at me.0) keeps)
      × (gone (my me.0).number ≡ None)
  retires {opening} {gone} {run} c id me alone stays s sh here small =
      let z = sh.scene in
      let x = my me.0 in
      let k = x.number in
      let calls = length x.part.calls in
      let mine = sh.views id me.0 here in
      let owns : Owns Lies c z s.homes id (x ∷ []) = subst (λ (xs : List Member). Owns Lies c z s.homes id xs) alone.seats mine.seats in
      let x_is = owns.0 in
      let less = awake_less z.gone k calls c.seats x_is.low (x_is.gone ∙ stays) in
      let word = slice_index s.words 0 in
      let is = sh.awake_seats in
      let wrote : (word + (2 ^ 64 - 1)) % 2 ^ 64 ≡ word - 1 = less_one word (omega (arith, less, is)) small in
      let few : 0 < length s.words = omega (arith, sh.words.count) in
      let gate : slice_index (slice_set s.words 0 (word - 1)) 0 ≡ word - 1 = get_or-set_same s.words 0 (word - 1) 0 few in
      let zz : Scene = record z { gone = updated z.gone k (Some calls) } in
      let now = updated gone k (Some calls) in
      let shown : Shown Lies opening c now run (stepped s 0 (word - 1) id me.1 (retired_at me.0) keeps) = record {
        scene = zz;
        leads = sh.leads;
        gone_is = ap (λ (f : ℕ → Option ℕ). updated f k (Some calls)) sh.gone_is;
        made =
            λ b n e.
            elim (cases_eq b k) [
              | inl same ↦
                  let is : Some calls ≡ Some n = sym (updated_here gone k (Some calls)) ∙ ap now (sym same) ∙ e in
                  let all : calls ≡ n = cc in
                  let part : length (z.state.part b).calls ≡ calls =
                  ap (λ j. length (z.state.part j).calls) same ∙ ap (λ (p : SeatPart). length p.calls) x_is.part in
                  omega (arith, all, part)
              | inr other ↦ sh.made b n (sym (updated_else gone k (Some calls) b other) ∙ e)
            ];
        words = gate_shown c s.words z.state.cells (word - 1) sh.words;
        awake_seats = gate ∙ omega (arith, less, is);
        room = sh.room;
        views =
            λ j v e.
            elim (at_set s.views id j (retired_at me.0) v e) [
              | inl at ↦
                  let view : IsView Lies c zz s.homes (word - 1) id (retired_at me.0) = record {
                    seats = (
                      record {
                        low = x_is.low;
                        owner = x_is.owner;
                        part = x_is.part;
                        gone = updated_here z.gone k (Some calls);
                        brought = x_is.brought;
                      },
                      tt,
                    );
                    rings = rings_of me.0 alone mine.rings;
                    numbers = mine.numbers;
                    last_gate = λ n eq. let le = mine.last_gate n eq in omega (arith, le);
                  } in
                  rw (gate, at.0) (subst (λ (u : Known). IsView Lies c zz s.homes (word - 1) id u) at.1 view)
              | inr other ↦
                  let old = sh.views j v other.1 in
                  rw gate (record {
                    seats = gone_else c z s.homes id j k calls x_is.owner other.0 v.seats old.seats;
                    rings = old.rings;
                    numbers = old.numbers;
                    last_gate = λ n eq. let le = old.last_gate n eq in omega (arith, le);
                  })
            ];
        stored = sh.stored;
        all_stand =
            λ j low.
            set_stands s.views id j me.0 (retired_at me.0) here
            (λ a. let one : (x.number ≡ j) ⊎ ⊥ = subst (StandsAmong j) alone.seats a in one)
            (sh.all_stand j low);
      } in (
        subst (λ (v : ℕ). Shown Lies opening c now run (stepped s 0 v id me.1 (retired_at me.0) keeps)) (sym wrote) shown,
        ap (λ (f : ℕ → Option ℕ). f k) (sym sh.gone_is) ∙ x_is.gone ∙ stays,
      )
    where
      rings_of : (v : Known) → IsAlone v → (v.seats ≡ []) ⊎ (length v.numbers ≡ c.rings)
          → ((retired_at v).seats ≡ []) ⊎ (length (retired_at v).numbers ≡ c.rings)
      rings_of v one (inl none) = let no : my v ∷ [] ≡ [] = sym one.seats ∙ none in absurd (cc)
      rings_of v one (inr all) = inr all
