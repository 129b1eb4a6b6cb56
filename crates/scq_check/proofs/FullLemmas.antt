-- The places of queues, event by event, and the refusals that they tell to be right
use Rattle.std.proofs.Common.{◌≡◌, ℕ, suc, ◌+◌, ◌<◌, ◌≤◌, ◌⊎◌, ◌↔◌, ◌||◌, inl, inr, Bool, true, false, not, IsTrue, List, Option, Some, None, is_some, unwrap_or, nat_eq, cond}
use Rattle.std.proofs.Common.{slice_get, length, refl, sym, ◌∙◌, subst, ap, arith, MatchOption, replicate}
use Rattle.std.specs.Prelude.{slice_index_or, slice_set}
use Rattle.std.specs.Ordering.{nat_cmp}
use Rattle.std.specs.BTreeMap.{get}
use Rattle.std.proofs.lemmas.Bool.{cases_eq, cases_lt}
use Rattle.std.proofs.lemmas.Bool.Decides.{eqb_tells}
use Rattle.std.proofs.lemmas.List.{get_or-set_same, get_or-set_other, length-set, get_or-replicate, length-replicate}
use Rattle.std.proofs.lemmas.Option.{slice_get_within}
use Rattle.scq_hist.specs.Exports.{puts_before, IsCall, IsGetOf, IsCount, IsPending, IsLawful, IsLawfulAt, IsAnswer, SuitsCall, EndsNoGet, EndsDone, NoDoneAt}
use Rattle.scq_hist.specs.Exports.{put_reply, EndsPut, NoPutEnds, got_name}
use Rattle.scq_hist.specs.declared.ended.EndedPut.{EndedPut}
use Rattle.scq_hist.specs.declared.events.Call.{Call}
use Rattle.scq_hist.specs.declared.events.Call.TheVariants.{Put, Get}
use Rattle.scq_hist.specs.declared.events.Event.{Event}
use Rattle.scq_hist.specs.declared.events.Event.TheVariants.{Start, End}
use Rattle.scq_hist.specs.declared.events.PutName.{PutName}
use Rattle.scq_hist.specs.declared.events.PutName.TheVariants.{Opening, Of}
use Rattle.scq_hist.specs.declared.events.Reply.{Reply}
use Rattle.scq_hist.specs.declared.events.Reply.TheVariants.{Done, Got, Spent}
use Rattle.scq_hist.proofs.Counting.{count_none, count_more, count_same, count_unique}
use Rattle.scq_hist.proofs.NamesLemmas.{names_there}
use Rattle.scq_hist.proofs.UnderWay.{same_call}
use Rattle.scq_check.specs.Exports.{place_in, IsTaking, IsFreeing, HoldsBefore, held_at_start, MayBeFullAt, IsFullWithin, IsFullRightAt}
use Rattle.scq_check.specs.Exports.{IsUsedUp, one_more_if, NoPutAt, untouched, places_in, IsFullBy, ArePlacesOf, ArePlacesAt, put_number, IsRefused}
use Rattle.scq_check.specs.Exports.{IsRefusals, IsQueueOf, IsCallOf, IsFilling, IsGetting, IsEmptying, MayFitAt, KeepsRoomAt, NoGetAt, GetsBy, AreGetters, HasPlace}
use Rattle.scq_check.specs.declared.by_name.ByName.{ByName}
use Rattle.scq_check.specs.declared.full.Places.{Places}
use Rattle.scq_check.specs.declared.full.AllPlaces.{AllPlaces}
use Rattle.scq_check.proofs.EndedLemmas.{own_call}
use Rattle.scq_check.proofs.RefusedLemmas.{refused_by_names}

-- one position more
pub more_by : (P : ℕ → Type 0) (m c : ℕ) (b : Bool) → (IsTrue b ↔ P m) → IsCount (HoldsBefore P m) c → IsCount (HoldsBefore P (m + 1)) (one_more_if c b)
more_by P m c true test count =
    count_more (HoldsBefore P m) (HoldsBefore P (m + 1)) m c count (λ h. let lt = h.0 in absurd (omega arith)) (omega arith, test.0 refl)
    (λ i h. let lt = h.0 in (omega arith, h.1))
    (λ i h. elim (cases_eq m i) [ inl same ↦ inl same | inr ne ↦ (let lt = h.0 in inr (omega arith, h.1)) ])
more_by P m c false test count =
    count_same (HoldsBefore P m) (HoldsBefore P (m + 1)) c count
    (λ i h. let lt = h.0 in (omega arith, h.1))
    (λ i h. elim (cases_eq m i) [
      | inl same ↦ (let wrong = test.1 (subst P (sym same) h.1) in absurd cc)
      | inr ne ↦ (let lt = h.0 in (omega arith, h.1))
    ])

pub before_none : (P : ℕ → Type 0) (c : ℕ) → c ≡ 0 → IsCount (HoldsBefore P 0) c
before_none P c is = subst (IsCount (HoldsBefore P 0)) (sym is) (count_none (HoldsBefore P 0) (λ s h. let lt = h.0 in absurd (omega arith)))

pub before_all : (P : ℕ → Type 0) (n i c : ℕ) → n ≤ i → ((s : ℕ) → P s → s < n) → IsCount (HoldsBefore P i) c → IsCount P c
before_all P n i c reached within count =
    count_same (HoldsBefore P i) P c count (λ s h. h.1) (λ s p. let lt = within s p in (omega arith, p))

not_by : (P : ℕ → Type 0) (m c : ℕ) → ¬ P m → IsCount (HoldsBefore P m) c → IsCount (HoldsBefore P (m + 1)) c
not_by P m c not_here count = more_by P m c false (λ t. absurd cc, λ here. absurd (not_here here)) count

few_more : (n m : ℕ) (b : Bool) → n ≤ m → one_more_if n b ≤ m + 1
few_more n m true few = omega arith
few_more n m false few = omega arith

-- what the numbers of a queue tell
from_numbers : (room : ℕ) (opening : List (List ℕ)) (events : List Event) (queue m : ℕ) (places : Places)
    → IsCount (HoldsBefore (IsTaking events queue) m) places.taken → IsCount (HoldsBefore (IsFreeing events queue) m) places.freed
    → IsUsedUp room opening queue places → MayBeFullAt room opening events queue m
from_numbers room opening events queue m places takes frees full =
    record { taken = places.taken; freed = places.freed; takes = takes; frees = frees; full = full }

to_numbers : (room : ℕ) (opening : List (List ℕ)) (events : List Event) (queue m : ℕ) (places : Places)
    → IsCount (HoldsBefore (IsTaking events queue) m) places.taken → IsCount (HoldsBefore (IsFreeing events queue) m) places.freed
    → MayBeFullAt room opening events queue m → IsUsedUp room opening queue places
to_numbers room opening events queue m places takes frees is =
    let taken = count_unique (HoldsBefore (IsTaking events queue) m) is.taken places.taken is.takes takes in
    let freed = count_unique (HoldsBefore (IsFreeing events queue) m) is.freed places.freed is.frees frees in
    let full = is.full in omega arith

full_later : (room : ℕ) (opening : List (List ℕ)) (events : List Event) (queue m k : ℕ) → IsFullBy room opening events queue m k
    → IsFullBy room opening events queue (m + 1) k
full_later room opening events queue m k is = record { by = (let le = is.by in omega arith); full = is.full }

-- the last full moment, after one event more
last_more : (room : ℕ) (opening : List (List ℕ)) (events : List Event) (queue e : ℕ) (new : Places)
    → IsCount (HoldsBefore (IsTaking events queue) (e + 1)) new.taken → IsCount (HoldsBefore (IsFreeing events queue) (e + 1)) new.freed
    → ((k : ℕ) → k ≤ e → MayBeFullAt room opening events queue k → (k ≤ new.full_till) ⊎ IsUsedUp room opening queue new)
    → (k : ℕ) → k ≤ e + 1 → MayBeFullAt room opening events queue k → (k ≤ new.full_till) ⊎ IsUsedUp room opening queue new
last_more room opening events queue e new takes frees before k le full = elim (cases_eq k (e + 1)) [
  | inl is ↦ inr (to_numbers room opening events queue (e + 1) new takes frees (subst (λ m. MayBeFullAt room opening events queue m) is full))
  | inr ne ↦ before k (omega arith) full
]

-- a queue that the event changes nothing of
idle : (room : ℕ) (opening : List (List ℕ)) (events : List Event) (queue e : ℕ) (places : Places) → (¬ IsTaking events queue e) → (¬ IsFreeing events queue e)
    → (¬ IsFilling events queue e) → (¬ IsEmptying events queue e) → ArePlacesOf room opening events queue e places → ArePlacesOf room opening events queue (e + 1) places
idle room opening events queue e places no_put no_get no_done no_start is =
    let takes = not_by (IsTaking events queue) e places.taken no_put is.takes in
    let frees = not_by (IsFreeing events queue) e places.freed no_get is.frees in
    record {
      takes = takes;
      frees = frees;
      few_taken = (let few = is.few_taken in omega arith);
      few_freed = (let few = is.few_freed in omega arith);
      fills = not_by (IsFilling events queue) e places.done no_done is.fills;
      empties = not_by (IsEmptying events queue) e places.begun no_start is.empties;
      few_done = (let few = is.few_done in omega arith);
      few_begun = (let few = is.few_begun in omega arith);
      full = λ some. full_later room opening events queue e places.full_till (is.full some);
      last = last_more room opening events queue e places takes frees is.last;
    }

-- the queue of the event: what its numbers say just before the event is kept
pub places_more : (room : ℕ) (opening : List (List ℕ)) (events : List Event) (queue e : ℕ) (old new : Places) (b c d f : Bool)
    → (IsTrue b ↔ IsTaking events queue e) → (IsTrue c ↔ IsFreeing events queue e) → (IsTrue d ↔ IsFilling events queue e) → (IsTrue f ↔ IsEmptying events queue e)
    → new.taken ≡ one_more_if old.taken b → new.freed ≡ one_more_if old.freed c → new.done ≡ one_more_if old.done d → new.begun ≡ one_more_if old.begun f
    → (IsUsedUp room opening queue old → new.full_till ≡ e) → ((IsUsedUp room opening queue old → ⊥) → new.full_till ≡ old.full_till)
    → ArePlacesOf room opening events queue e old → ArePlacesOf room opening events queue (e + 1) new
places_more room opening events queue e old new b c d f takes_test frees_test fills_test empties_test taken freed done begun used left is =
    let takes : IsCount (HoldsBefore (IsTaking events queue) (e + 1)) new.taken =
    subst (λ n. IsCount (HoldsBefore (IsTaking events queue) (e + 1)) n) (sym taken) (more_by (IsTaking events queue) e old.taken b takes_test is.takes) in
    let frees : IsCount (HoldsBefore (IsFreeing events queue) (e + 1)) new.freed =
    subst (λ n. IsCount (HoldsBefore (IsFreeing events queue) (e + 1)) n) (sym freed) (more_by (IsFreeing events queue) e old.freed c frees_test is.frees) in
    let few_taken = few_more old.taken e b is.few_taken in
    let few_freed = few_more old.freed e c is.few_freed in
    let few_done = few_more old.done e d is.few_done in
    let few_begun = few_more old.begun e f is.few_begun in
    let by_case : (IsUsedUp room opening queue old) ⊎ (IsUsedUp room opening queue old → ⊥) =
    elim (cases_lt (held_at_start opening queue + old.taken) (room + old.freed)) [ inl lt ↦ inr (λ le. omega arith) | inr ge ↦ inl ge ] in
    record {
      takes = takes;
      frees = frees;
      few_taken = omega arith;
      few_freed = omega arith;
      fills = subst (λ n. IsCount (HoldsBefore (IsFilling events queue) (e + 1)) n) (sym done) (more_by (IsFilling events queue) e old.done d fills_test is.fills);
      empties = subst (λ n. IsCount (HoldsBefore (IsEmptying events queue) (e + 1)) n) (sym begun) (more_by (IsEmptying events queue) e old.begun f empties_test is.empties);
      few_done = omega arith;
      few_begun = omega arith;
      full = λ some. elim by_case [
        | inl now ↦ subst (λ k. IsFullBy room opening events queue (e + 1) k) (sym (used now)) (record {
          by = omega arith;
          full = from_numbers room opening events queue e old is.takes is.frees now;
        })
        | inr never ↦ subst (λ k. IsFullBy room opening events queue (e + 1) k) (sym (left never))
            (full_later room opening events queue e old.full_till (is.full (subst (λ k. 0 < k) (left never) some)))
      ];
      last = last_more room opening events queue e new takes frees (λ k le full. elim by_case [
        | inl now ↦ (let till = used now in inl (omega arith))
        | inr never ↦ elim (is.last k le full) [
          | inl before ↦ (let till = left never in inl (omega arith))
          | inr now ↦ absurd (never now)
        ]
      ]);
    }

-- one queue is kept, and the others as they were
kept_queue : (old new : AllPlaces) (number other : ℕ) (after : Places)
    → ((q : ℕ) → get nat_cmp new.known q ≡ cond (nat_eq number q) (Some after) (get nat_cmp old.known q))
    → ((number ≡ other) × (places_in new other ≡ after)) ⊎ ((other ≡ number → ⊥) × (places_in new other ≡ places_in old other))
kept_queue old new number other after known = elim (eqb_tells number other) [
  | inl s ↦ (let there : get nat_cmp new.known other ≡ Some after = rw s.0 at (known other) in
      inl (s.1, ap (λ o. unwrap_or o untouched) there))
  | inr s ↦ (let there : get nat_cmp new.known other ≡ get nat_cmp old.known other = rw s.0 at (known other) in
      inr (λ same. s.1 (sym same), ap (λ o. unwrap_or o untouched) there))
]

-- the event is of no get of another queue
not_emptying : (events : List Event) (number e q : ℕ) → IsQueueOf events e number → (q ≡ number → ⊥) → ¬ IsEmptying events q e
not_emptying events number e q of other (inl get) = other (of.starts get.seat q get.call.starts)
not_emptying events number e q of other (inr pending) = of.no_get q other pending

pub all_more : (room : ℕ) (opening : List (List ℕ)) (events : List Event) (number e : ℕ) (old new : AllPlaces) (after : Places) → IsQueueOf events e number
    → ((q : ℕ) → get nat_cmp new.known q ≡ cond (nat_eq number q) (Some after) (get nat_cmp old.known q))
    → ArePlacesOf room opening events number (e + 1) after
    → ArePlacesAt room opening events e old → ArePlacesAt room opening events (e + 1) new
all_more room opening events number e old new after of known now are = record {
  each = λ q. elim (kept_queue old new number q after known) [
    | inl here ↦ subst (λ z. ArePlacesOf room opening events q (e + 1) z) (sym here.1)
        (subst (λ z. ArePlacesOf room opening events z (e + 1) after) here.0 now)
    | inr other ↦ subst (λ z. ArePlacesOf room opening events q (e + 1) z) (sym other.1)
        (idle room opening events q e (places_in old q)
        (λ take. other.0 (of.put take.seat q take.content take.put.starts))
        (λ free. other.0 (of.get free.seat q free.s (Got free.name free.content) free.call))
        (λ fill. (of.no_done q other.0).none fill.seat fill.number fill.done)
        (not_emptying events number e q of other.0) (are.each q))
  ];
}

-- before any event
pub all_start : (room : ℕ) (opening : List (List ℕ)) (events : List Event) (all : AllPlaces) → ((q : ℕ) → places_in all q ≡ untouched)
    → ArePlacesAt room opening events 0 all
all_start room opening events all none = record {
  each = λ q. subst (λ z. ArePlacesOf room opening events q 0 z) (sym (none q)) (record {
    takes = count_none (HoldsBefore (IsTaking events q) 0) (λ i h. let lt = h.0 in absurd (omega arith));
    frees = count_none (HoldsBefore (IsFreeing events q) 0) (λ i h. let lt = h.0 in absurd (omega arith));
    few_taken = omega arith;
    few_freed = omega arith;
    fills = before_none (IsFilling events q) 0 refl;
    empties = before_none (IsEmptying events q) 0 refl;
    few_done = omega arith;
    few_begun = omega arith;
    full = λ some. absurd (omega arith);
    last = λ k le _. inl le;
  });
}

-- whether no place was free since position s
pub full_since : (room : ℕ) (opening : List (List ℕ)) (events : List Event) (queue s e : ℕ) (places : Places) (b : Bool) → s < e
    → ArePlacesOf room opening events queue e places → (IsTrue b ↔ (IsUsedUp room opening queue places ⊎ (s < places.full_till)))
    → IsTrue b ↔ IsFullWithin room opening events queue s e
full_since room opening events queue s e places b before is test = (
  λ t. elim (test.0 t) [
    | inl now ↦ (e, before, omega arith, from_numbers room opening events queue e places is.takes is.frees now)
    | inr till ↦ (let r = is.full (omega arith) in (places.full_till, till, r.by, r.full))
  ],
  λ within. test.1 (elim (is.last within.0 within.2 within.3) [
    | inl till ↦ (let after = within.1 in inr (omega arith))
    | inr now ↦ inl now
  ]),
)

-- the one put that ends there decides: it is refused, or answered Done
refusal_decides : (room : ℕ) (opening : List (List ℕ)) (events : List Event) (e s seat queue : ℕ) (content : List ℕ) (b : Bool)
    → IsCall events seat (Put queue content) s e Spent → (IsTrue b ↔ IsFullWithin room opening events queue s e) → IsTrue b ↔ IsFullRightAt room opening events e
refusal_decides room opening events e s seat queue content b here test = (
  λ t r k q other call.
      let same = same_call events seat k s r e (Put queue content) (Put q other) Spent Spent here call in
      let queues : queue ≡ q = (let calls = same.calls in cc) in
      subst (λ n. IsFullWithin room opening events n r e) queues (subst (λ n. IsFullWithin room opening events queue n e) same.starts (test.0 t)),
  λ h. test.1 (h s seat queue content here),
)

pub refused_decides : (room : ℕ) (opening : List (List ℕ)) (events : List Event) (e : ℕ) (put : EndedPut) (b : Bool) → EndsPut events e put → put.refused ≡ true
    → (IsTrue b ↔ IsFullWithin room opening events put.queue put.start e) → IsTrue b ↔ KeepsRoomAt room opening events e
refused_decides room opening events e put b ends refused test =
    let call : IsCall events put.seat (Put put.queue ends.content) put.start e Spent =
    subst (λ r. IsCall events put.seat (Put put.queue ends.content) put.start e (put_reply r)) refused ends.call in
    let iff = refusal_decides room opening events e put.start put.seat put.queue ends.content b call test in (
      λ t. record { full = iff.0 t; fits = λ q fill. (let a = fill.done.call.ends in let z = call.ends in absurd cc) },
      λ keeps. iff.1 keeps.full,
    )

-- what the numbers of a queue tell of a put more
fit_from_numbers : (room : ℕ) (opening : List (List ℕ)) (events : List Event) (queue e : ℕ) (places : Places) → IsFilling events queue e → (¬ IsEmptying events queue e)
    → ArePlacesOf room opening events queue e places → HasPlace room opening queue places → MayFitAt room opening events queue (e + 1)
fit_from_numbers room opening events queue e places fill not_start is fits = record {
  done = places.done + 1;
  begun = places.begun;
  fills = more_by (IsFilling events queue) e places.done true (λ t. fill, λ f. refl) is.fills;
  empties = not_by (IsEmptying events queue) e places.begun not_start is.empties;
  fits = omega arith;
}

numbers_from_fit : (room : ℕ) (opening : List (List ℕ)) (events : List Event) (queue e : ℕ) (places : Places) → IsFilling events queue e → (¬ IsEmptying events queue e)
    → ArePlacesOf room opening events queue e places → MayFitAt room opening events queue (e + 1) → HasPlace room opening queue places
numbers_from_fit room opening events queue e places fill not_start is may =
    let fills = more_by (IsFilling events queue) e places.done true (λ t. fill, λ f. refl) is.fills in
    let empties = not_by (IsEmptying events queue) e places.begun not_start is.empties in
    let done : may.done ≡ places.done + 1 = count_unique (HoldsBefore (IsFilling events queue) (e + 1)) may.done (places.done + 1) may.fills fills in
    let begun : may.begun ≡ places.begun = count_unique (HoldsBefore (IsEmptying events queue) (e + 1)) may.begun places.begun may.empties empties in
    let fits = may.fits in omega arith

-- no get starts at an End
at_end : (events : List Event) (queue e seat : ℕ) (reply : Reply) → slice_get events e ≡ Some (End seat reply) → ¬ IsEmptying events queue e
at_end events queue e seat reply at (inl get) = (let starts = get.call.starts in cc)
at_end events queue e seat reply at (inr pending) = (let starts = pending.starts in cc)

pub done_decides : (room : ℕ) (opening : List (List ℕ)) (events : List Event) (e : ℕ) (put : EndedPut) (places : Places) (b : Bool) → EndsPut events e put → put.refused ≡ false
    → ArePlacesOf room opening events put.queue e places → (IsTrue b ↔ HasPlace room opening put.queue places) → IsTrue b ↔ KeepsRoomAt room opening events e
done_decides room opening events e put places b ends refused is test =
    let call : IsCall events put.seat (Put put.queue ends.content) put.start e Done =
    subst (λ r. IsCall events put.seat (Put put.queue ends.content) put.start e (put_reply r)) refused ends.call in
    let fill : IsFilling events put.queue e = record {
      seat = put.seat;
      number = suc (puts_before events put.seat put.start);
      done = record { s = put.start; content = ends.content; put = record { starts = call.starts; counted = refl }; call = call };
    } in
    let not_start : ¬ IsEmptying events put.queue e = at_end events put.queue e put.seat Done call.ends in (
      λ t. record {
        full = λ r k q content spent. (let a = spent.ends in let z = call.ends in absurd cc);
        fits = λ q other.
            let same = same_call events put.seat other.seat put.start other.done.s e (Put put.queue ends.content) (Put q other.done.content) Done Done call other.done.call in
            let queues : put.queue ≡ q = (let calls = same.calls in cc) in
            subst (λ n. MayFitAt room opening events n (e + 1)) queues (fit_from_numbers room opening events put.queue e places fill not_start is (test.0 t));
      },
      λ keeps. test.1 (numbers_from_fit room opening events put.queue e places fill not_start is (keeps.fits put.queue fill)),
    )

-- no put ends there
pub none_decides : (room : ℕ) (opening : List (List ℕ)) (events : List Event) (e : ℕ) → NoPutEnds events e → KeepsRoomAt room opening events e
none_decides room opening events e none = record {
  full = λ s seat queue content call. absurd ((none.none true).none s seat queue content call);
  fits = λ q fill. absurd ((none.none false).none fill.done.s fill.seat q fill.done.content fill.done.call);
}

pub room_past : (room : ℕ) (opening : List (List ℕ)) (events : List Event) (e : ℕ) → length events ≤ e → KeepsRoomAt room opening events e
room_past room opening events e past = record {
  full = λ s seat queue content call. (let lt = slice_get_within events e (End seat Spent) call.ends in absurd (omega arith));
  fits = λ q fill. (let lt = slice_get_within events e (End fill.seat Done) fill.done.call.ends in absurd (omega arith));
}

-- whether the event starts a put of the queue that isn't refused
pub takes_there : (events : List Event) (s seat queue : ℕ) (content : List ℕ) (names : ByName) (number : ℕ) → slice_get events s ≡ Some (Start seat (Put queue content))
    → number ≡ put_number events s (slice_get events s) → IsRefusals events (length events) names
    → IsTrue (not (is_some (place_in names seat number))) ↔ IsTaking events queue s
takes_there events s seat queue content names number at counted refusals =
    let mine : number ≡ suc (puts_before events seat s) = counted ∙ ap (put_number events s) at in
    let test = refused_by_names events seat number names refusals in (
      λ t. record { seat = seat; number = number; content = content; put = record { starts = at; counted = mine }; accepted = test.0 t },
      λ take.
          let there = take.put.starts in let theirs = take.put.counted in
          let seats : seat ≡ take.seat = cc in
          let numbers : take.number ≡ number = theirs ∙ ap (λ z. suc (puts_before events z s)) (sym seats) ∙ sym mine in
          test.1 (subst (λ k. ¬ IsRefused events (Of k number)) (sym seats) (subst (λ n. ¬ IsRefused events (Of take.seat n)) numbers take.accepted)),
    )

pub takes_none : (events : List Event) (s queue : ℕ) → NoPutAt events queue s → ¬ IsTaking events queue s
takes_none events s queue none take = none.none take.seat take.content take.put.starts

-- whether the get that ends there is of the queue
pub frees_there : (events : List Event) (e s queue of : ℕ) (name : PutName) (b : Bool) → IsGetOf events name s e → IsQueueOf events e of → (IsTrue b ↔ (of ≡ queue))
    → IsTrue b ↔ IsFreeing events queue e
frees_there events e s queue of name b get is test =
    let same : get.queue ≡ of = is.get get.seat get.queue s (Got name get.content) get.call in (
      λ t.
          let here : get.queue ≡ queue = same ∙ test.0 t in
          record {
            seat = get.seat;
            s = s;
            name = name;
            content = get.content;
            call = subst (λ q. IsCall events get.seat (Get q) s e (Got name get.content)) here get.call;
            first = get.first;
          },
      λ free. test.1 (sym (is.get free.seat queue free.s (Got free.name free.content) free.call)),
    )

pub frees_none : (events : List Event) (e queue : ℕ) → EndsNoGet events e → ¬ IsFreeing events queue e
frees_none events e queue none free =
    none.none free.name free.s (record { seat = free.seat; queue = queue; content = free.content; call = free.call; first = free.first })

-- whether a put of the queue ends there with Done
pub fills_there : (events : List Event) (e queue : ℕ) (name : PutName) → EndsDone events queue e name → IsFilling events queue e
fills_there events e queue (Opening number) done = absurd done
fills_there events e queue (Of seat number) done = record { seat = seat; number = number; done = done }

pub fills_by : (events : List Event) (e queue : ℕ) (found : Option PutName) → MatchOption found (NoDoneAt events queue e) (EndsDone events queue e)
    → IsTrue (is_some found) ↔ IsFilling events queue e
fills_by events e queue None none = (λ t. absurd cc, λ fill. absurd (none.none fill.seat fill.number fill.done))
fills_by events e queue (Some name) done = (λ t. fills_there events e queue name done, λ fill. refl)

-- whether a get of the queue starts there that gets something or never ends
pub empties_none : (events : List Event) (s queue : ℕ) → NoGetAt events queue s → ¬ IsEmptying events queue s
empties_none events s queue none (inl get) = none.none get.seat get.call.starts
empties_none events s queue none (inr pending) = none.none pending.seat pending.starts

pub empties_marked : (events : List Event) (s seat queue : ℕ) (flags : List Bool) → slice_get events s ≡ Some (Start seat (Get queue))
    → s < length events → AreGetters events (length events) flags → slice_index_or flags s false ≡ true → IsTrue true ↔ IsEmptying events queue s
empties_marked events s seat queue flags at within are is =
    let by : GetsBy events (length events) s = (are.each s within).0 is in
    let starts = by.getting.call.starts in
    let queues : by.queue ≡ queue = cc in
    (λ t. inl (subst (λ q. IsGetting events q s) queues by.getting), λ e. refl)

pub empties_unmarked : (events : List Event) (s seat queue : ℕ) (flags : List Bool) (never : Bool) → slice_get events s ≡ Some (Start seat (Get queue))
    → s < length events → AreGetters events (length events) flags → slice_index_or flags s false ≡ false → (IsTrue never ↔ IsPending events queue (suc s) s)
    → IsTrue never ↔ IsEmptying events queue s
empties_unmarked events s seat queue flags never at within are is test = (
  λ t. inr (test.0 t),
  λ e. elim e [
    | inl get ↦ (let lt = slice_get_within events get.e (End get.seat (Got get.name get.content)) get.call.ends in
        let wrong = (are.each s within).1 (record { queue = queue; getting = get; before = lt }) in absurd cc)
    | inr pending ↦ test.1 pending
  ],
)

-- the marks, one End at a time
pub getters_none : (events : List Event) (flags : List Bool) (n : ℕ) → n ≡ length events → flags ≡ replicate n false → AreGetters events 0 flags
getters_none events flags n all none = record {
  many = ap length none ∙ length-replicate n false ∙ all;
  each = λ s within. (
    λ t. let no : slice_index_or flags s false ≡ false = ap (λ xs. slice_index_or xs s false) none ∙ get_or-replicate n s false false (omega arith) in absurd cc,
    λ by. let lt = by.before in absurd (omega arith),
  );
}

gets_later : (events : List Event) (m s : ℕ) → GetsBy events m s → GetsBy events (m + 1) s
gets_later events m s by = record { queue = by.queue; getting = by.getting; before = (let lt = by.before in omega arith) }

pub getters_same : (events : List Event) (e : ℕ) (event : Event) (flags : List Bool) → slice_get events e ≡ Some event → got_name event ≡ None
    → AreGetters events e flags → AreGetters events (e + 1) flags
getters_same events e event flags at none are = record {
  many = are.many;
  each = λ s within. (
    λ t. gets_later events e s ((are.each s within).0 t),
    λ by. elim (cases_eq by.getting.e e) [
      | inl is ↦ (let ends = subst (λ d. slice_get events d ≡ Some (End by.getting.seat (Got by.getting.name by.getting.content))) is by.getting.call.ends in
          let same : event ≡ End by.getting.seat (Got by.getting.name by.getting.content) = cc in
          let named = ap got_name same in absurd cc)
      | inr ne ↦ (are.each s within).1 (record { queue = by.queue; getting = by.getting; before = (let lt = by.before in omega arith) })
    ],
  );
}

pub getters_unless : (events : List Event) (e : ℕ) (event : Event) (found : Option PutName) (flags : List Bool) → slice_get events e ≡ Some event → found ≡ got_name event
    → is_some found ≡ false → AreGetters events e flags → AreGetters events (e + 1) flags
getters_unless events e event None flags at is none are = getters_same events e event flags at (sym is) are
getters_unless events e event (Some name) flags at is none are = absurd cc

-- a call that ends with Got is a get
got_call : (events : List Event) (e s seat : ℕ) (call : Call) (name : PutName) (content : List ℕ) → IsLawful events → IsCall events seat call s e (Got name content)
    → (queue : ℕ) × (call ≡ Get queue)
got_call events e s seat call name content lawful own =
    let answer : IsAnswer events seat e (Got name content) = subst (λ event. IsLawfulAt events e event) own.ends (lawful e) in
    let same = same_call events seat seat s answer.s e call answer.call (Got name content) (Got name content) own answer.is_call in
    suits call (subst (λ c. SuitsCall c (Got name content)) (sym same.calls) answer.suits) where
      suits : (call : Call) → SuitsCall call (Got name content) → (queue : ℕ) × (call ≡ Get queue)
      suits (Put q w) h = absurd h
      suits (Get q) h = (q, refl)

pub getters_more : (events : List Event) (e start : ℕ) (call : Call) (event : Event) (name : PutName) (old new : List Bool) → IsLawful events → slice_get events e ≡ Some event
    → got_name event ≡ Some name → IsCallOf events e start call → start < length events → new ≡ slice_set old start true
    → AreGetters events e old → AreGetters events (e + 1) new
getters_more events e start call event name old new lawful at named of start_within is are =
    let got = names_there events e event name at named in
    let own = own_call events e start got.seat call (Got name got.content) of got.ends in
    let get = got_call events e start got.seat call name got.content lawful own in
    let many = are.many in
    let fits : start < length old = omega arith in
    let now : GetsBy events (e + 1) start = record {
      queue = get.0;
      getting = record { seat = got.seat; e = e; name = name; content = got.content; call = subst (λ it. IsCall events got.seat it start e (Got name got.content)) get.1 own };
      before = omega arith;
    } in
    record {
      many = ap length is ∙ length-set old start true ∙ are.many;
      each = λ s within. elim (cases_eq s start) [
        | inl here ↦ (
          λ t. subst (λ z. GetsBy events (e + 1) z) (sym here) now,
          λ by. ap (λ xs. slice_index_or xs s false) is ∙ subst (λ z. slice_index_or (slice_set old start true) z false ≡ true) (sym here) (get_or-set_same old start true false fits),
        )
        | inr other ↦ (let kept : slice_index_or new s false ≡ slice_index_or old s false = ap (λ xs. slice_index_or xs s false) is ∙ get_or-set_other old start s true false other in (
          λ t. gets_later events e s ((are.each s within).0 (sym kept ∙ t)),
          λ by. kept ∙ elim (cases_eq by.getting.e e) [
            | inl is ↦ (let theirs = subst (λ d. IsCall events by.getting.seat (Get by.queue) s d (Got by.getting.name by.getting.content)) is by.getting.call in
                let same = same_call events got.seat by.getting.seat start s e call (Get by.queue) (Got name got.content) (Got by.getting.name by.getting.content) own theirs in
                absurd (other (sym same.starts)))
            | inr ne ↦ (are.each s within).1 (record { queue = by.queue; getting = by.getting; before = (let lt = by.before in omega arith) })
          ],
        ))
      ];
    }

pub getters_by : (events : List Event) (e start : ℕ) (call : Call) (event : Event) (found : Option PutName) (old : List Bool) → IsLawful events → slice_get events e ≡ Some event
    → found ≡ got_name event → is_some found ≡ true → IsCallOf events e start call → AreGetters events e old → AreGetters events (e + 1) (slice_set old start true)
getters_by events e start call event None old lawful at is some of are = absurd cc
getters_by events e start call event (Some name) old lawful at is some of are =
    getters_more events e start call event name old (slice_set old start true) lawful at (sym is) of (slice_get_within events start (Start of.seat call) of.starts) refl are
