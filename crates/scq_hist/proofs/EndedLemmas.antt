-- The puts that end, and the gets that find nothing: by their Ends and the calls that the seats have under way there
use Rattle.std.proofs.Common.{◌≡◌, ℕ, suc, List, Bool, true, false, not, Some, None, slice_get, refl, subst}
use Rattle.scq_hist.specs.Exports.{under_way, puts_before, IsCall, IsDoneAt, put_reply, EndsNoPut, EndsPut, NoneEnds, NoPutEnds, FindsSomething}
use Rattle.scq_hist.specs.Exports.{HasUnderWay, NoDoneAt, IsEmptyAt, NoEmptyAt}
use Rattle.scq_hist.specs.declared.ended.EndedPut.{EndedPut}
use Rattle.scq_hist.specs.declared.events.Call.{Call}
use Rattle.scq_hist.specs.declared.events.Call.TheVariants.{Put, Get}
use Rattle.scq_hist.specs.declared.events.Event.{Event}
use Rattle.scq_hist.specs.declared.events.Event.TheVariants.{End}
use Rattle.scq_hist.specs.declared.events.Reply.{Reply}
use Rattle.scq_hist.specs.declared.events.Reply.TheVariants.{Nothing}
use Rattle.scq_hist.proofs.UnderWay.{same_call}

pub ends_put : (events : List Event) (e s seat queue : ℕ) (content : List ℕ) (refused : Bool) (call : Call)
    → IsCall events seat call s e (put_reply refused) → call ≡ Put queue content
    → EndsPut events e (record { seat = seat; start = s; queue = queue; refused = refused })
ends_put events e s seat queue content refused call is put =
    record { content = content; call = subst (λ it. IsCall events seat it s e (put_reply refused)) put is }

-- an event that ends no put, a seat that has no call under way, or the call of a get
pub no_end : (events : List Event) (e : ℕ) (event : Event) → slice_get events e ≡ Some event → EndsNoPut event → NoPutEnds events e
no_end events e event at ends = record {
  none = λ refused. record { none = λ s seat queue content call. ends.none seat refused (let x = call.ends in cc) };
}

pub no_call : (events : List Event) (e seat : ℕ) (reply : Reply) → slice_get events e ≡ Some (End seat reply) → under_way events seat e ≡ None
    → NoPutEnds events e
no_call events e seat reply at idle = record {
  none = λ refused. record { none = λ s k queue content call. let x = call.ends in let y = call.under_way_till in absurd cc };
}

pub no_put : (events : List Event) (e s seat queue : ℕ) (reply : Reply) (call : Call) → IsCall events seat call s e reply → call ≡ Get queue
    → NoPutEnds events e
no_put events e s seat queue reply call is get = record {
  none = λ other. record {
    none = λ r k q content put.
        let same = (same_call events seat k s r e call (Put q content) reply (put_reply other) is put).calls in absurd cc;
  };
}

pub under_way_ends : (events : List Event) (e s seat : ℕ) (call : Call) (reply : Reply) → HasUnderWay events seat e s call
    → slice_get events e ≡ Some (End seat reply) → IsCall events seat call s e reply
under_way_ends events e s seat call reply has at = record { starts = has.starts; under_way_till = has.is; ends = at }

reply_tells : (a b : Bool) → put_reply a ≡ put_reply b → a ≡ b
reply_tells true true same = refl
reply_tells false false same = refl
reply_tells true false same = absurd cc
reply_tells false true same = absurd cc

-- one put ends there
record SameEnd (put : EndedPut) (queue : ℕ) (refused : Bool) : Type 0 where
  queues : put.queue ≡ queue
  replies : put.refused ≡ refused

same_end : (events : List Event) (e : ℕ) (put : EndedPut) (s seat queue : ℕ) (content : List ℕ) (refused : Bool) → EndsPut events e put
    → IsCall events seat (Put queue content) s e (put_reply refused) → SameEnd put queue refused
same_end events e put s seat queue content refused is call =
    let same = same_call events put.seat seat put.start s e (Put put.queue is.content) (Put queue content) (put_reply put.refused) (put_reply refused) is.call call in
    let calls = same.calls in let a = is.call.ends in let b = call.ends in
    record { queues = cc; replies = reply_tells put.refused refused cc }

not_done : (events : List Event) (e : ℕ) (put : EndedPut) → EndsPut events e put → put.refused ≡ true → NoneEnds false events e
not_done events e put is was = record {
  none = λ s seat queue content call. let same = (same_end events e put s seat queue content false is call).replies in absurd cc;
}

pub not_spent : (events : List Event) (e : ℕ) (put : EndedPut) → EndsPut events e put → not put.refused ≡ true → NoneEnds true events e
not_spent events e put is was = record {
  none = λ s seat queue content call.
      let same = (same_end events e put s seat queue content true is call).replies in
      (let x : not true ≡ true = subst (λ r. not r ≡ true) same was in absurd cc);
}

was_refused : (refused : Bool) → not refused ≡ false → refused ≡ true
was_refused true is = refl
was_refused false is = absurd cc

pub spent_call : (events : List Event) (e : ℕ) (put : EndedPut) (is : EndsPut events e put) → not put.refused ≡ false
    → IsCall events put.seat (Put put.queue is.content) put.start e (put_reply true)
spent_call events e put is was =
    subst (λ r. IsCall events put.seat (Put put.queue is.content) put.start e (put_reply r)) (was_refused put.refused was) is.call

-- a put of the queue that ends with Done, and none
pub done_there : (events : List Event) (e queue number : ℕ) (put : EndedPut) → EndsPut events e put → put.refused ≡ false → put.queue ≡ queue
    → number ≡ suc (puts_before events put.seat put.start) → IsDoneAt events queue e put.seat number
done_there events e queue number put is was of counted =
    let call = subst (λ r. IsCall events put.seat (Put put.queue is.content) put.start e (put_reply r)) was is.call in
    subst (λ q. IsDoneAt events q e put.seat number) of
    (record { s = put.start; content = is.content; put = record { starts = call.starts; counted = counted }; call = call })

pub none_done : (events : List Event) (e queue : ℕ) → NoneEnds false events e → NoDoneAt events queue e
none_done events e queue ends = record { none = λ seat number done. ends.none done.s seat queue done.content done.call }

pub refused_here : (events : List Event) (e queue : ℕ) (put : EndedPut) → EndsPut events e put → put.refused ≡ true → NoDoneAt events queue e
refused_here events e queue put is was = none_done events e queue (not_done events e put is was)

pub done_elsewhere : (events : List Event) (e queue : ℕ) (put : EndedPut) → EndsPut events e put → ¬ (put.queue ≡ queue) → NoDoneAt events queue e
done_elsewhere events e queue put is differ = record {
  none = λ seat number done. differ (same_end events e put done.s seat queue done.content false is done.call).queues;
}

-- a get that finds nothing, and none
pub empty_there : (events : List Event) (e s seat queue : ℕ) (call : Call) → IsCall events seat call s e Nothing → call ≡ Get queue
    → IsEmptyAt events e queue s
empty_there events e s seat queue call is get = record { seat = seat; call = subst (λ it. IsCall events seat it s e Nothing) get is }

pub no_empty_end : (events : List Event) (e : ℕ) (event : Event) → slice_get events e ≡ Some event → FindsSomething event → NoEmptyAt events e
no_empty_end events e event at finds = record { none = λ s seat queue call. finds.none seat (let x = call.ends in cc) }

pub no_empty_call : (events : List Event) (e seat : ℕ) (reply : Reply) → slice_get events e ≡ Some (End seat reply) → under_way events seat e ≡ None
    → NoEmptyAt events e
no_empty_call events e seat reply at idle =
    record { none = λ s k queue call. let x = call.ends in let y = call.under_way_till in absurd cc }

pub no_empty_put : (events : List Event) (e s seat queue : ℕ) (content : List ℕ) (reply : Reply) (call : Call) → IsCall events seat call s e reply
    → call ≡ Put queue content → NoEmptyAt events e
no_empty_put events e s seat queue content reply call is put = record {
  none = λ r k q get. let same = (same_call events seat k s r e call (Get q) reply Nothing is get).calls in absurd cc;
}
