-- The puts that end, by the tables
use Rattle.std.proofs.Common.{◌≡◌, ℕ, suc, List, Some, slice_get, ap, ◌∙◌, subst}
use Rattle.scq_hist.specs.Exports.{puts_before, IsCall, EndsPut}
use Rattle.scq_hist.specs.declared.ended.EndedPut.{EndedPut}
use Rattle.scq_hist.specs.declared.events.Call.{Call}
use Rattle.scq_hist.specs.declared.events.Event.{Event}
use Rattle.scq_hist.specs.declared.events.Event.TheVariants.{End}
use Rattle.scq_hist.specs.declared.events.Reply.{Reply}
use Rattle.scq_check.specs.Exports.{IsRefusalAt, put_number, IsSpentAt, IsOf, IsCallOf}

-- the call of an End
pub own_call : (events : List Event) (e s seat : ℕ) (call : Call) (reply : Reply) → IsCallOf events e s call → slice_get events e ≡ Some (End seat reply)
    → IsCall events seat call s e reply
own_call events e s seat call reply of at =
    let own : IsOf events of.seat s e (Some (End seat reply)) = subst (λ o. IsOf events of.seat s e o) at of.own in
    let same = own.0 in let till = own.1 in let starts = of.starts in
    record { starts = cc; under_way_till = cc; ends = at }

-- its number
pub counted : (events : List Event) (e number : ℕ) (put : EndedPut) → EndsPut events e put
    → number ≡ put_number events put.start (slice_get events put.start) → number ≡ suc (puts_before events put.seat put.start)
counted events e number put is number_is = number_is ∙ ap (put_number events put.start) is.call.starts

-- a put that ends with Spent
pub spent_there : (events : List Event) (e number : ℕ) (put : EndedPut) → IsRefusalAt events e put
    → number ≡ put_number events put.start (slice_get events put.start) → IsSpentAt events put.seat number e
spent_there events e number put is number_is = record {
  s = put.start;
  queue = put.queue;
  content = is.content;
  put = record { starts = is.call.starts; counted = number_is ∙ ap (put_number events put.start) is.call.starts };
  call = is.call;
}
