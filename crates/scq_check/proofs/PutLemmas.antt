-- One event more, and the puts that start
use Rattle.std.proofs.Common.{◌≡◌, ℕ, zero, suc, ◌+◌, ◌≤◌, inl, inr, List, [], ◌∷◌, ◌++◌, Option, Some, None, length, length-append, slice_get, unwrap_or}
use Rattle.std.proofs.Common.{nat_eq, cond, if◌then◌else◌, MatchOption, sym, ◌∙◌, subst, ap, refl, arith, add-one}
use Rattle.std.proofs.lemmas.Bool.{cases_eq}
use Rattle.std.proofs.lemmas.Bool.Decides.{eqb_tells}
use Rattle.std.specs.Ordering.{nat_cmp}
use Rattle.std.specs.BTreeMap.{get}
use Rattle.scq_hist.specs.Exports.{puts_before, put_start, IsPut, NoPutBefore}
use Rattle.scq_hist.specs.declared.events.Call.TheVariants.{Put, Get}
use Rattle.scq_hist.specs.declared.events.Event.{Event}
use Rattle.scq_hist.specs.declared.events.Event.TheVariants.{Start, End}
use Rattle.scq_check.specs.Exports.{same_name, place_in, put_number, IsPutStart, StartsNoPut, StartsPut, IsPuts}
use Rattle.scq_check.specs.declared.puts.Puts.{Puts}
use Rattle.scq_check.proofs.Rows.{row_more}

put_start_few : (event : Option Event) (seat : ℕ) → put_start event seat ≤ 1
put_start_few (Some (Start k (Put q c))) seat = elim (eqb_tells k seat) [ inl e ↦ rw e.0 (omega arith) | inr e ↦ rw e.0 (omega arith) ]
put_start_few (Some (Start k (Get q))) seat = omega arith
put_start_few (Some (End k r)) seat = omega arith
put_start_few None seat = omega arith

-- a seat began at most as many puts as there are events
pub puts_few : (events : List Event) (seat m : ℕ) → puts_before events seat m ≤ m
puts_few events seat zero = omega arith
puts_few events seat (suc m) = let old = puts_few events seat m in let one = put_start_few (slice_get events m) seat in omega arith

counts_more : (events : List Event) (e seat q queue : ℕ) (content : List ℕ) → slice_get events e ≡ Some (Start seat (Put queue content))
    → cond (nat_eq seat q) (puts_before events q e + 1) (puts_before events q e) ≡ puts_before events q (e + 1)
counts_more events e seat q queue content at =
    rw (add-one e, at) (elim (eqb_tells seat q) [ inl t ↦ rw t.0 refl | inr t ↦ rw t.0 (omega arith) ])

-- where no put of this name starts at position e
none_more : (events : List Event) (e seat number : ℕ) → NoPutBefore events seat number e
    → ((queue : ℕ) (content : List ℕ) → ¬ IsPut events seat number queue content e) → NoPutBefore events seat number (e + 1)
none_more events e seat number n here = record {
  none = λ s queue content lt put. elim (cases_eq s e) [
    | inl is ↦ here queue content (subst (λ k. IsPut events seat number queue content k) is put)
    | inr ne ↦ n.none s queue content (omega arith) put
  ];
}

-- what is kept of a name whose put doesn't start at position e
not_here : (events : List Event) (e k n : ℕ) (before : Option ℕ) → ((queue : ℕ) (content : List ℕ) → ¬ IsPut events k n queue content e)
    → MatchOption before (NoPutBefore events k n e) (StartsPut events k n)
    → MatchOption before (NoPutBefore events k n (e + 1)) (StartsPut events k n)
not_here events e k n None other old = none_more events e k n old other
not_here events e k n (Some s) other old = old

-- another name than that of the put which starts there
apart : (events : List Event) (e k n seat number q queue : ℕ) (c content : List ℕ) → slice_get events e ≡ Some (Start seat (Put q c))
    → number ≡ suc (puts_before events seat e) → ((seat ≡ k) → (number ≡ n) → ⊥) → ¬ IsPut events k n queue content e
apart events e k n seat number q queue c content at counted differ put =
    let there = put.starts in let mine = put.counted in
    let seats : seat ≡ k = cc in
    differ seats (counted ∙ ap (λ z. suc (puts_before events z e)) seats ∙ sym mine)

starts_more : (events : List Event) (e k n seat number queue : ℕ) (content : List ℕ) (before after : Option ℕ)
    → slice_get events e ≡ Some (Start seat (Put queue content)) → number ≡ suc (puts_before events seat e)
    → MatchOption before (NoPutBefore events k n e) (StartsPut events k n)
    → after ≡ (if same_name (seat, number) (k, n) then Some e else before)
    → MatchOption after (NoPutBefore events k n (e + 1)) (StartsPut events k n)
starts_more events e k n seat number queue content before after at counted old new =
    let other : ((seat ≡ k) → (number ≡ n) → ⊥) → after ≡ before → MatchOption after (NoPutBefore events k n (e + 1)) (StartsPut events k n) =
    λ differ same. subst (λ o. MatchOption o (NoPutBefore events k n (e + 1)) (StartsPut events k n)) (sym same)
    (not_here events e k n before (λ q c. apart events e k n seat number queue q content c at counted differ) old) in
    elim (eqb_tells seat k) [
      | inl s ↦ elim (eqb_tells number n) [
        | inl t ↦ subst (λ o. MatchOption o (NoPutBefore events k n (e + 1)) (StartsPut events k n)) (sym (rw (s.0, t.0) at new)) (record {
          queue = queue;
          content = content;
          put = record { starts = (let same = s.1 in cc); counted = (let same = s.1 in let number_same = t.1 in cc) };
        })
        | inr t ↦ other (λ _ same. t.1 same) (rw (s.0, t.0) at new)
      ]
      | inr s ↦ other (λ same _. s.1 same) (rw s.0 at new)
    ]

starts_same : (events : List Event) (e k n : ℕ) (before : Option ℕ) → put_number events e (slice_get events e) ≡ 0
    → MatchOption before (NoPutBefore events k n e) (StartsPut events k n)
    → MatchOption before (NoPutBefore events k n (e + 1)) (StartsPut events k n)
starts_same events e k n None none old = none_more events e k n old (λ queue content put. let at = put.starts in absurd (not_put queue content at)) where
  not_put : (queue : ℕ) (content : List ℕ) → slice_get events e ≡ Some (Start k (Put queue content)) → ⊥
  not_put queue content at = let zero : suc (puts_before events k e) ≡ 0 = subst (λ event. put_number events e event ≡ 0) at none in absurd (omega arith)
starts_same events e k n (Some s) none old = old

pub puts_more_put : (events : List Event) (e seat number : ℕ) (old new : Puts) (event : Event) → slice_get events e ≡ Some event → IsPutStart event seat
    → IsPuts events e old → number ≡ unwrap_or (get nat_cmp old.counts seat) 0 + 1
    → new.numbers.items ≡ old.numbers.items ++ number ∷ []
    → ((q : ℕ) → get nat_cmp new.counts q ≡ cond (nat_eq seat q) (Some number) (get nat_cmp old.counts q))
    → ((k n : ℕ) → place_in new.starts k n ≡ (if same_name (seat, number) (k, n) then Some e else place_in old.starts k n))
    → IsPuts events (e + 1) new
puts_more_put events e seat number old new event there put is here numbers counts starts =
    let queue = put.queue in
    let content = put.content in
    let at : slice_get events e ≡ Some (Start seat (Put queue content)) = there ∙ ap Some put.is in
    let one_more = ap length numbers ∙ length-append old.numbers.items (number ∷ []) in
    let many = is.many in
    let before = is.counts seat in
    let counted : number ≡ suc (puts_before events seat e) = omega arith in
    record {
      many = omega arith;
      numbers = rw numbers (row_more old.numbers.items number e (λ k. put_number events k (slice_get events k)) is.many is.numbers (rw at counted));
      counts = λ q. elim (eqb_tells seat q) [
        | inl s ↦ (let now : get nat_cmp new.counts q ≡ Some number = rw s.0 at (counts q) in
            let more = rw s.0 at (counts_more events e seat q queue content at) in
            let mine : puts_before events seat e ≡ puts_before events q e = ap (λ z. puts_before events z e) s.1 in
            ap (λ o. unwrap_or o 0) now ∙ (omega arith))
        | inr s ↦ (let now : get nat_cmp new.counts q ≡ get nat_cmp old.counts q = rw s.0 at (counts q) in
            ap (λ o. unwrap_or o 0) now ∙ is.counts q ∙ rw s.0 at (counts_more events e seat q queue content at))
      ];
      starts = λ k n. starts_more events e k n seat number queue content (place_in old.starts k n) (place_in new.starts k n) at counted
          (is.starts k n) (starts k n);
    }

no_start : (events : List Event) (e q : ℕ) (event : Option Event) → put_number events e event ≡ 0 → put_start event q ≡ 0
no_start events e q (Some (Start k (Put a c))) none = absurd (omega arith)
no_start events e q (Some (Start k (Get a))) none = refl
no_start events e q (Some (End k r)) none = refl
no_start events e q None none = refl

counts_same : (events : List Event) (e q : ℕ) → put_number events e (slice_get events e) ≡ 0 → puts_before events q e ≡ puts_before events q (e + 1)
counts_same events e q none = let zero = no_start events e q (slice_get events e) none in rw (add-one e) (omega arith)

no_number : (events : List Event) (e : ℕ) (event : Event) → StartsNoPut event → put_number events e (Some event) ≡ 0
no_number events e (Start k (Put q c)) none = absurd (none.none k q c refl)
no_number events e (Start k (Get q)) none = refl
no_number events e (End k r) none = refl

pub puts_more_other : (events : List Event) (e : ℕ) (old new : Puts) (event : Event) → slice_get events e ≡ Some event → StartsNoPut event → IsPuts events e old
    → new.numbers.items ≡ old.numbers.items ++ 0 ∷ [] → new.counts ≡ old.counts → new.starts ≡ old.starts → IsPuts events (e + 1) new
puts_more_other events e old new event at no_put is numbers counts starts =
    let none : put_number events e (slice_get events e) ≡ 0 = ap (put_number events e) at ∙ no_number events e event no_put in
    let one_more = ap length numbers ∙ length-append old.numbers.items (0 ∷ []) in
    let many = is.many in
    record {
      many = omega arith;
      numbers = rw numbers (row_more old.numbers.items 0 e (λ k. put_number events k (slice_get events k)) is.many is.numbers (sym none));
      counts = λ q. rw counts (is.counts q ∙ counts_same events e q none);
      starts = λ k n. rw starts (starts_same events e k n (place_in old.starts k n) none (is.starts k n));
    }
