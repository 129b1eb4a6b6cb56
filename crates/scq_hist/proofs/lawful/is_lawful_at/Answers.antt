use Rattle.std.proofs.Common.{◌↔◌, IsTrue, slice_get, ◌≡◌, ℕ, Bool, true, false, not, is_some, List, Option, Some, None, subst, ap, ◌∙◌, refl}
use Rattle.std.proofs.lemmas.Option.{slice_get_read}
use Rattle.scq_hist.specs.Exports.{under_way, SuitsCall, IsLawfulAt, HasUnderWay}
use Rattle.scq_hist.specs.declared.events.Call.{Call}
use Rattle.scq_hist.specs.declared.events.Event.{Event}
use Rattle.scq_hist.specs.declared.events.Event.TheVariants.{Start, End}
use Rattle.scq_hist.specs.declared.events.Reply.{Reply}
use Rattle.scq_hist.proofs.lawful.is_lawful_at.Goals as goal

none_iff : {A : Type 0} (o : Option A) (b : Bool) → is_some o ≡ not b → (IsTrue b → o ≡ None) × (o ≡ None → IsTrue b)
none_iff None true h = (λ _. refl, λ _. refl)
none_iff None false h = absurd cc
none_iff (Some x) true h = absurd cc
none_iff (Some x) false h = (λ e. absurd cc, λ e. absurd cc)

start_lawful_at : (events : List Event) (i seat : ℕ) (call : Call) (b : Bool) → slice_get events i ≡ Some (Start seat call)
    → (is_some (under_way events seat i) ≡ not b) → IsTrue b ↔ IsLawfulAt events i (slice_get events i)
start_lawful_at events i seat call b at h = rw at (none_iff _ b h)

end_lawful_at : (events : List Event) (i seat s : ℕ) (call : Call) (reply : Reply) (b : Bool) → slice_get events i ≡ Some (End seat reply)
    → HasUnderWay events seat i s call → (IsTrue b ↔ SuitsCall call reply)
    → IsTrue b ↔ IsLawfulAt events i (slice_get events i)
end_lawful_at events i seat s call reply b at w h = rw at (
  λ t. record { s = s; call = call; is_call = record { starts = w.starts; under_way_till = w.is; ends = at }; suits = h.0 t },
  λ a. let e = w.is in let e2 = a.is_call.under_way_till in let e3 = w.starts in let e4 = a.is_call.starts in
      h.1 (subst (λ z. SuitsCall z reply) (let same : a.call ≡ call = cc in same) a.suits),
)

nothing_lawful_at : (events : List Event) (i seat : ℕ) (reply : Reply) → slice_get events i ≡ Some (End seat reply)
    → under_way events seat i ≡ None → IsTrue false ↔ IsLawfulAt events i (slice_get events i)
nothing_lawful_at events i seat reply at w = rw at (λ t. absurd cc, λ a. let e = a.is_call.under_way_till in absurd cc)

pub returns-in-Start : goal.returns-in-Start
returns-in-Start c =
    start_lawful_at c.args.events.now c.args.i c.in-Start.seat c.in-Start.call c.is_none.result
    (slice_get_read _ _ _ _ refl c.requires c.index-events-i.is ∙ ap Some c.in-Start.is)
    (subst (λ z. is_some z ≡ not c.is_none.result) c.under_way.ensures c.is_none.ensures)

pub returns-in-None : goal.returns-in-None
returns-in-None c =
    nothing_lawful_at c.args.events.now c.args.i c.in-End.seat c.in-End.reply
    (slice_get_read _ _ _ _ refl c.requires c.index-events-i.is ∙ ap Some c.in-End.is) c.in-None.ensures

pub returns-in-Some : goal.returns-in-Some
returns-in-Some c =
    end_lawful_at c.args.events.now c.args.i c.in-End.seat _ _ c.in-End.reply c.suits.result
    (slice_get_read _ _ _ _ refl c.requires c.index-events-i.is ∙ ap Some c.in-End.is) c.in-Some.ensures c.suits.ensures
