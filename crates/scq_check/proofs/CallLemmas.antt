-- One event more, and where calls started
use Rattle.std.proofs.Common.{◌≡◌, ℕ, ◌+◌, ◌<◌, List, [], ◌∷◌, ◌++◌, Option, Some, None, length, length-append, slice_get, get_or, unwrap_or, refl, sym, subst, ◌∙◌, ap, arith, add-one}
use Rattle.std.specs.Ordering.{nat_cmp}
use Rattle.std.specs.BTreeMap.{get}
use Rattle.scq_hist.specs.Exports.{IsLawful, IsLawfulAt, under_way, under_way_after}
use Rattle.scq_hist.specs.declared.events.Call.{Call}
use Rattle.scq_hist.specs.declared.events.Event.{Event}
use Rattle.scq_hist.specs.declared.events.Event.TheVariants.{Start, End}
use Rattle.scq_hist.specs.declared.events.Reply.{Reply}
use Rattle.scq_hist.proofs.NamesLemmas.{read}
use Rattle.scq_hist.proofs.UnderWay.{started_within}
use Rattle.scq_check.specs.Exports.{own_start, IsCalls, IsOf, IsCallOf}
use Rattle.scq_check.specs.declared.calls.Calls.{Calls}
use Rattle.scq_check.proofs.Rows.{row_more}

last_more : (events : List Event) (e q : ℕ) (event : Event) → slice_get events e ≡ Some event
    → under_way_after (Some event) e q (under_way events q e) ≡ under_way events q (e + 1)
last_more events e q event at = rw (add-one e) (ap (λ o. under_way_after o e q (under_way events q e)) (sym at))

pub calls_more : (events : List Event) (e start : ℕ) (event : Event) (old new : Calls) → slice_get events e ≡ Some event
    → IsCalls events e old → start ≡ own_start events e (Some event)
    → new.starts.items ≡ old.starts.items ++ start ∷ []
    → ((q : ℕ) → get nat_cmp new.under_way q ≡ under_way_after (Some event) e q (get nat_cmp old.under_way q))
    → IsCalls events (e + 1) new
calls_more events e start event old new at is own starts last =
    let one_more = ap length starts ∙ length-append old.starts.items (start ∷ []) in
    let many = is.many in
    record {
      many = omega arith;
      starts = rw starts (row_more old.starts.items start e (λ k. own_start events k (slice_get events k)) is.many is.starts
          (own ∙ ap (own_start events e) (sym at)));
      last = λ q. last q ∙ ap (under_way_after (Some event) e q) (is.last q) ∙ last_more events e q event at;
    }

-- what stands where the call of an event of a lawful list started
pub record IsOwnStart (events : List Event) (e s : ℕ) (seen : Event) : Type 0 where
  pub seat : ℕ
  pub call : Call
  pub is : seen ≡ Start seat call
  pub own : IsOf events seat s e (slice_get events e)

own_seen : (events : List Event) (e s : ℕ) (seen : Event) (event : Option Event) → slice_get events e ≡ event → IsLawfulAt events e event
    → s ≡ own_start events e event → slice_get events s ≡ Some seen → IsOwnStart events e s seen
own_seen events e s seen (Some (Start k c)) at lawful is there =
    record { seat = k; call = c; is = cc; own = subst (λ o. IsOf events k s e o) (sym at) (refl, is) }
own_seen events e s seen (Some (End k r)) at answer is there =
    let till = answer.is_call.under_way_till in let starts = answer.is_call.starts in
    let start : s ≡ answer.s = is ∙ ap (λ o. unwrap_or o e) till in
    record { seat = k; call = answer.call; is = cc; own = subst (λ o. IsOf events k s e o) (sym at) (refl, till ∙ ap Some (sym start)) }
own_seen events e s seen None at lawful is there = absurd cc

within_seen : (events : List Event) (e s : ℕ) (event : Option Event) → IsLawfulAt events e event → s ≡ own_start events e event → e < length events
    → s < length events
within_seen events e s (Some (Start k c)) lawful is within = omega arith
within_seen events e s (Some (End k r)) answer is within =
    let till = answer.is_call.under_way_till in
    started_within events k e s (till ∙ ap Some (sym (is ∙ ap (λ o. unwrap_or o e) till)))
within_seen events e s None lawful is within = omega arith

pub own_within : (events : List Event) (e s : ℕ) → IsLawful events → e < length events → s ≡ own_start events e (slice_get events e) → s < length events
own_within events e s lawful within is = within_seen events e s (slice_get events e) (lawful e) is within

pub own_start_is : (events : List Event) (e s : ℕ) (seen : Event) → IsLawful events → e < length events → s ≡ own_start events e (slice_get events e)
    → seen ≡ get_or events s seen → IsOwnStart events e s seen
own_start_is events e s seen lawful within is there =
    own_seen events e s seen (slice_get events e) refl (lawful e) is (read events s seen seen (own_within events e s lawful within is) there refl)

pub call_there : (events : List Event) (e s seat : ℕ) (seen : Event) (call : Call) → IsLawful events → e < length events
    → s ≡ own_start events e (slice_get events e) → seen ≡ get_or events s seen → seen ≡ Start seat call → IsCallOf events e s call
call_there events e s seat seen call lawful within is there starts =
    let own = own_start_is events e s seen lawful within is there in let same = own.is in
    let at = read events s seen seen (own_within events e s lawful within is) there refl in
    record { seat = own.seat; starts = cc; own = own.own }

pub no_own_end : (events : List Event) (e s seat : ℕ) (seen : Event) (reply : Reply) → IsLawful events → e < length events
    → s ≡ own_start events e (slice_get events e) → seen ≡ get_or events s seen → seen ≡ End seat reply → ⊥
no_own_end events e s seat seen reply lawful within is there ends =
    let same = (own_start_is events e s seen lawful within is there).is in absurd cc
