-- Of each event the call that its seat began last. Plan: an event starts a call of the seat, which is then its last one, or leaves
-- the seat's numbers as they were
use Rattle.std.proofs.Common.{◌≡◌, ℕ, zero, suc, ◌+◌, ◌≤◌, ◌==◌, true, false, List, [], ◌∷◌, ◌++◌, Option, Some, None, slice_get, get_or, length, length-append, if◌then◌else◌, unwrap_or, inl, inr, refl, sym, ap, ◌∙◌, subst, arith, add-one}
use Rattle.std.proofs.Math.ListN.{get_or-append}
use Rattle.std.proofs.lemmas.Bool.{cases_eq}
use Rattle.std.proofs.lemmas.Bool.Decides.{eqb_tells}
use Rattle.std.proofs.lemmas.List.{get_or_push}
use Rattle.scq_hist.specs.Exports.{IsLawful, IsLawfulAt, IsAnswer, IsCall, under_way, under_way_after, puts_before, put_start}
use Rattle.scq_hist.specs.declared.events.Call.{Call}
use Rattle.scq_hist.specs.declared.events.Call.TheVariants.{Put, Get}
use Rattle.scq_hist.specs.declared.events.Event.{Event}
use Rattle.scq_hist.specs.declared.events.Event.TheVariants.{Start, End}
use Rattle.scq_hist.specs.declared.events.Reply.{Reply}
use Rattle.scq_judge.specs.OwnCalls.{seat_start, calls_before, put_with, no_call, last_of_seat, IsOwnCall, AreOwnCalls, NoCallEnds}
use Rattle.scq_judge.specs.declared.own_calls.OwnCall.{OwnCall}
use Rattle.scq_judge.specs.declared.own_calls.OwnCalls.{OwnCalls}

one_at_most : (event : Option Event) (seat : ℕ) → seat_start event seat ≤ 1
one_at_most (Some (Start k c)) seat = elim (eqb_tells k seat) [ inl e ↦ rw e.0 (omega arith) | inr e ↦ rw e.0 (omega arith) ]
one_at_most (Some (End k r)) seat = omega arith
one_at_most None seat = omega arith

one_put_at_most : (event : Option Event) (seat : ℕ) → put_start event seat ≤ 1
one_put_at_most (Some (Start k (Put q w))) seat = elim (eqb_tells k seat) [ inl e ↦ rw e.0 (omega arith) | inr e ↦ rw e.0 (omega arith) ]
one_put_at_most (Some (Start k (Get q))) seat = omega arith
one_put_at_most (Some (End k r)) seat = omega arith
one_put_at_most None seat = omega arith

pub few_calls : (events : List Event) (seat m : ℕ) → calls_before events seat m ≤ m
few_calls events seat zero = omega arith
few_calls events seat (suc m) = let rest = few_calls events seat m in let one = one_at_most (slice_get events m) seat in omega arith

pub few_puts : (events : List Event) (seat m : ℕ) → puts_before events seat m ≤ m
few_puts events seat zero = omega arith
few_puts events seat (suc m) = let rest = few_puts events seat m in let one = one_put_at_most (slice_get events m) seat in omega arith

-- what a Start of this seat adds, and of another
own_put : (k seat : ℕ) (call : Call) (n : ℕ) → (k == seat) ≡ true → n + put_start (Some (Start k call)) seat ≡ put_with n call
own_put k seat (Put q w) n is = rw is refl
own_put k seat (Get q) n is = omega arith

other_put : (k seat : ℕ) (call : Call) → (k == seat) ≡ false → put_start (Some (Start k call)) seat ≡ 0
other_put k seat (Put q w) is = rw is refl
other_put k seat (Get q) is = refl

-- the call under way at moment m is the last that its seat began
pub record Began (events : List Event) (seat m s : ℕ) : Type 0 where
  pub calls : calls_before events seat m ≡ suc (calls_before events seat s)
  pub puts : puts_before events seat m ≡ puts_before events seat s + put_start (slice_get events s) seat

same_numbers : (events : List Event) (seat m s : ℕ) (event : Option Event) → slice_get events m ≡ event → seat_start event seat ≡ 0 → put_start event seat ≡ 0
    → Began events seat m s → Began events seat (suc m) s
same_numbers events seat m s event at none no_put before =
    let a : seat_start (slice_get events m) seat ≡ 0 = ap (λ o. seat_start o seat) at ∙ none in
    let b : put_start (slice_get events m) seat ≡ 0 = ap (λ o. put_start o seat) at ∙ no_put in
    let c = before.calls in let p = before.puts in record { calls = omega arith; puts = omega arith }

began_by : (events : List Event) (seat m s : ℕ) (event : Option Event) → slice_get events m ≡ event
    → under_way_after event m seat (under_way events seat m) ≡ Some s → (under_way events seat m ≡ Some s → Began events seat m s)
    → Began events seat (suc m) s
began_by events seat m s (Some (Start k c)) at h before = elim (eqb_tells k seat) [
  | inl e ↦ (
      let h2 = rw e.0 at h in
      let same : s ≡ m = cc in
      let one : seat_start (Some (Start k c)) seat ≡ 1 = rw e.0 refl in
      let a : seat_start (slice_get events m) seat ≡ 1 = ap (λ o. seat_start o seat) at ∙ one in
      let b : calls_before events seat s ≡ calls_before events seat m = ap (calls_before events seat) same in
      record {
        calls = omega arith;
        puts = ap (λ z. puts_before events seat z + put_start (slice_get events z) seat) (sym same);
      })
  | inr e ↦ (
      let h2 = rw e.0 at h in
      let none : seat_start (Some (Start k c)) seat ≡ 0 = rw e.0 refl in
      same_numbers events seat m s (Some (Start k c)) at none (other_put k seat c e.0) (before h2))
]
began_by events seat m s (Some (End k r)) at h before = elim (eqb_tells k seat) [
  | inl e ↦ (let h2 = rw e.0 at h in absurd cc)
  | inr e ↦ (let h2 = rw e.0 at h in same_numbers events seat m s (Some (End k r)) at refl refl (before h2))
]
began_by events seat m s None at h before = same_numbers events seat m s None at refl refl (before h)

pub began : (events : List Event) (seat m s : ℕ) → under_way events seat m ≡ Some s → Began events seat m s
began events seat zero s h = absurd cc
began events seat (suc m) s h = began_by events seat m s (slice_get events m) refl h (began events seat m s)

-- one event more
abbrev pub last_after : Event → ℕ → ℕ → OwnCall → OwnCall
last_after (Start k c) e seat own =
    if k == seat then record { start = e; number = own.number + 1; put = put_with own.put c } else own
last_after (End k r) e seat own = own

own_after : (events : List Event) (e seat : ℕ) (event : Event) (own : OwnCall) → slice_get events e ≡ Some event → IsOwnCall events e seat own
    → IsOwnCall events (suc e) seat (last_after event e seat own)
own_after events e seat (Start k c) own at is = elim (eqb_tells k seat) [
  | inl q ↦ (
      let one : seat_start (Some (Start k c)) seat ≡ 1 = rw q.0 refl in
      let a : seat_start (slice_get events e) seat ≡ 1 = ap (λ o. seat_start o seat) at ∙ one in
      let n = is.number in
      rw q.0 (record {
        start = λ s h. let h2 = rw (at, q.0) at h in cc;
        number = omega arith;
        put = sym (ap (λ o. puts_before events seat e + put_start o seat) at ∙ own_put k seat c (puts_before events seat e) q.0
            ∙ ap (λ z. put_with z c) (sym is.put));
      }))
  | inr q ↦ (
      let none : seat_start (Some (Start k c)) seat ≡ 0 = rw q.0 refl in
      let a : seat_start (slice_get events e) seat ≡ 0 = ap (λ o. seat_start o seat) at ∙ none in
      let b : put_start (slice_get events e) seat ≡ 0 = ap (λ o. put_start o seat) at ∙ other_put k seat c q.0 in
      let n = is.number in let p = is.put in
      rw q.0 (record { start = λ s h. is.start s (rw (at, q.0) at h); number = omega arith; put = omega arith }))
]
own_after events e seat (End k r) own at is =
    let a : seat_start (slice_get events e) seat ≡ 0 = ap (λ o. seat_start o seat) at in
    let b : put_start (slice_get events e) seat ≡ 0 = ap (λ o. put_start o seat) at in
    let n = is.number in let p = is.put in
    record {
      start = λ s h. elim (eqb_tells k seat) [
        | inl q ↦ (let h2 = rw (at, q.0) at h in absurd cc)
        | inr q ↦ is.start s (rw (at, q.0) at h)
      ];
      number = omega arith;
      put = omega arith;
    }

pub own_more : (events : List Event) (e : ℕ) (event : Event) (before : OwnCall) (old new : OwnCalls) → slice_get events e ≡ Some event → AreOwnCalls events e old
    → new.calls.items ≡ old.calls.items ++ before ∷ []
    → ((seat : ℕ) (reply : Reply) → event ≡ End seat reply → before ≡ last_of_seat old.last seat)
    → ((seat : ℕ) → last_of_seat new.last seat ≡ last_after event e seat (last_of_seat old.last seat))
    → AreOwnCalls events (e + 1) new
own_more events e event before old new at is calls own last =
    let grown = ap length calls ∙ length-append old.calls.items (before ∷ []) in
    let many = is.many in
    record {
      many = omega arith;
      each = λ d seat reply lt there. elim (cases_eq d e) [
        | inl same ↦ (
            let here = get_or_push old.calls.items before no_call d (many ∙ sym same) in
            let ends : event ≡ End seat reply = (let x : slice_get events d ≡ slice_get events e = ap (slice_get events) same in cc) in
            subst (λ xs. IsOwnCall events d seat (get_or xs d no_call)) (sym calls)
            (subst (IsOwnCall events d seat) (sym (here ∙ own seat reply ends)) (subst (λ z. IsOwnCall events z seat (last_of_seat old.last seat)) (sym same) (is.last seat))))
        | inr ne ↦ subst (λ xs. IsOwnCall events d seat (get_or xs d no_call)) (sym calls)
            (subst (IsOwnCall events d seat) (sym (get_or-append old.calls.items (before ∷ []) no_call d (omega arith))) (is.each d seat reply (omega arith) there))
      ];
      last = λ seat. subst (IsOwnCall events (e + 1) seat) (sym (last seat))
          (subst (λ z. IsOwnCall events z seat (last_after event e seat (last_of_seat old.last seat))) (sym (add-one e))
          (own_after events e seat event (last_of_seat old.last seat) at (is.last seat)));
    }

-- the call that ends at position e
pub record EndsSo (events : List Event) (e seat : ℕ) (own : OwnCall) (call : Call) (reply : Reply) : Type 0 where
  pub is : IsCall events seat call own.start e reply
  pub number : own.number ≡ suc (calls_before events seat own.start)
  pub put : own.put ≡ put_with (puts_before events seat own.start) call

pub answered : (events : List Event) (e seat : ℕ) (reply : Reply) → IsLawful events → slice_get events e ≡ Some (End seat reply) → IsAnswer events seat e reply
answered events e seat reply lawful at = subst (IsLawfulAt events e) at (lawful e)

pub ends_so : (events : List Event) (e seat k : ℕ) (own : OwnCall) (call : Call) (reply : Reply) → IsLawful events → slice_get events e ≡ Some (End seat reply)
    → IsOwnCall events e seat own → slice_get events own.start ≡ Some (Start k call) → EndsSo events e seat own call reply
ends_so events e seat k own call reply lawful at is there =
    let a = answered events e seat reply lawful at in
    let start = is.start a.s a.is_call.under_way_till in
    let starts = a.is_call.starts in
    let there2 : slice_get events a.s ≡ Some (Start k call) = subst (λ z. slice_get events z ≡ Some (Start k call)) start there in
    let seats : k ≡ seat = cc in
    let calls : call ≡ a.call = cc in
    let of_seat : slice_get events own.start ≡ Some (Start seat call) = subst (λ z. slice_get events own.start ≡ Some (Start z call)) seats there in
    let till : under_way events seat e ≡ Some own.start = a.is_call.under_way_till ∙ ap Some (sym start) in
    let b = began events seat e own.start till in
    record {
      is = record { starts = of_seat; under_way_till = till; ends = at };
      number = is.number ∙ b.calls;
      put = is.put ∙ b.puts ∙ ap (λ o. puts_before events seat own.start + put_start o seat) of_seat
          ∙ own_put seat seat call (puts_before events seat own.start) (same_seat seat);
    }
  where
    same_seat : (n : ℕ) → (n == n) ≡ true
    same_seat n = elim (eqb_tells n n) [ inl q ↦ q.0 | inr q ↦ absurd (q.1 refl) ]

-- no call ends where there is no End
pub none_ends : (events : List Event) (e : ℕ) → ((seat : ℕ) (reply : Reply) → ¬ (slice_get events e ≡ Some (End seat reply))) → NoCallEnds events e
none_ends events e none = λ seat s call reply is. none seat reply is.ends

abbrev call_with : ℕ → ℕ → ℕ → OwnCall
call_with start number put = record { start = start; number = number; put = put }

-- what is kept of a seat after a Start
pub kept_last : (e k seat : ℕ) (call : Call) (before own : OwnCall) (last : Option OwnCall) → own.start ≡ e → own.number ≡ before.number + 1
    → own.put ≡ put_with before.put call → (k ≡ seat → before ≡ unwrap_or last no_call)
    → unwrap_or (if k == seat then Some own else last) no_call ≡ last_after (Start k call) e seat (unwrap_or last no_call)
kept_last e k seat call before own last start number put same = elim (eqb_tells k seat) [
  | inl q ↦ (let b = same q.1 in rw q.0 (made own e (unwrap_or last no_call) call start (number ∙ ap (λ (o : OwnCall). o.number + 1) b) (put ∙ ap (λ (o : OwnCall). put_with o.put call) b)))
  | inr q ↦ rw q.0 refl
]
  where
    made : (own : OwnCall) (e : ℕ) (old : OwnCall) (call : Call) → own.start ≡ e → own.number ≡ old.number + 1 → own.put ≡ put_with old.put call
        → own ≡ call_with e (old.number + 1) (put_with old.put call)
    made own e old call a b d =
        ap (λ z. call_with z own.number own.put) a ∙ ap (λ z. call_with e z own.put) b ∙ ap (call_with e (old.number + 1)) d
