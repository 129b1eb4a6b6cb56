-- The line of a call that has ended
use Rattle.std.proofs.Common.{◌≡◌, ℕ, zero, suc, ◌+◌, List, [], ◌∷◌, ◌++◌, refl, sym, ap, ◌∙◌, inl, inr, add-one}
use Rattle.std.specs.Prelude.{Some, slice_get, codes, decimal}
use Rattle.scq_hist.specs.Exports.{puts_before, StandsIn}
use Rattle.scq_hist.specs.declared.events.Call.{Call}
use Rattle.scq_hist.specs.declared.events.Call.TheVariants.{Put, Get}
use Rattle.scq_hist.specs.declared.events.Event.{Event}
use Rattle.scq_hist.specs.declared.events.Event.TheVariants.{Start}
use Rattle.scq_hist.specs.declared.events.Reply.{Reply}
use Rattle.scq_hist.specs.declared.events.Reply.TheVariants.{Done, Got, Nothing, Spent}
use Rattle.scq_judge.specs.OrderText.{done_text, call_words, line_by, call_line}
use Rattle.scq_judge.specs.OwnCalls.{calls_before, put_with, IsEndedAt}
use Rattle.scq_judge.specs.declared.own_calls.EndedCall.{EndedCall}
use Rattle.scq_judge.proofs.WalkLemmas.{start_is}

same_done : (n put : ℕ) (call : Call) (reply : Reply) → put ≡ put_with n call → done_text (n + 1) call reply ≡ done_text put call reply
same_done n put (Put q w) reply is = ap (λ z. done_text z (Put q w) reply) (sym is)
same_done n put (Get q) Done is = refl
same_done n put (Get q) (Got name w) is = refl
same_done n put (Get q) Nothing is = refl
same_done n put (Get q) Spent is = refl

pub line_is : (events : List Event) (e : ℕ) (ended : EndedCall) → IsEndedAt events e ended
    → call_line events e ≡ call_words ended.seat ended.own.number ended.own.put ended.call.now ended.reply.now
line_is events e ended it =
    ap (λ s. line_by events s (slice_get events s) (slice_get events e)) (start_is events ended.seat ended.own.start e ended.call.now ended.reply.now it.is)
    ∙ ap (λ o. line_by events ended.own.start o (slice_get events e)) it.is.starts
    ∙ ap (λ o. line_by events ended.own.start (Some (Start ended.seat ended.call.now)) o) it.is.ends
    ∙ words ended.seat (calls_before events ended.seat ended.own.start) (puts_before events ended.seat ended.own.start) ended.own.number ended.own.put
    ended.call.now ended.reply.now it.number it.put
  where
    words : (seat calls puts number put : ℕ) (call : Call) (reply : Reply) → number ≡ suc calls → put ≡ put_with puts call
        → call_words seat (calls + 1) (puts + 1) call reply ≡ call_words seat number put call reply
    words seat calls puts number put call reply numbered is =
        ap (λ z. call_words seat z (puts + 1) call reply) (add-one calls ∙ sym numbered)
        ∙ ap (λ d. (((decimal seat ++ codes " ") ++ decimal number) ++ d) ++ codes "\n") (same_done puts put call reply is)

pub got_in : {X : Type 0} (xs : List X) (i : ℕ) (x : X) → slice_get xs i ≡ Some x → StandsIn xs x
got_in {X} [] i x is = absurd cc
got_in {X} (y ∷ ys) zero x is = inl cc
got_in {X} (y ∷ ys) (suc i) x is = inr (got_in ys i x is)
