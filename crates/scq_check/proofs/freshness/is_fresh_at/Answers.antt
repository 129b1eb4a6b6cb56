use Rattle.std.proofs.Common.{◌≡◌, ℕ, ◌↔◌, List, Bool, IsTrue, Some, slice_get, refl, sym, ap, ◌∙◌, subst}
use Rattle.scq_hist.specs.Exports.{IsCall, SuitsCall, IsAnswer, IsLawfulAt, IsLawful, IsBegun, IsFreshAt}
use Rattle.scq_hist.specs.declared.events.Call.{Call}
use Rattle.scq_hist.specs.declared.events.Call.TheVariants.{Put, Get}
use Rattle.scq_hist.specs.declared.events.Event.{Event}
use Rattle.scq_hist.specs.declared.events.Event.TheVariants.{End}
use Rattle.scq_hist.specs.declared.events.PutName.{PutName}
use Rattle.scq_hist.specs.declared.events.Reply.TheVariants.{Got}
use Rattle.scq_hist.proofs.NamesLemmas.{read}
use Rattle.scq_check.specs.Exports.{IsGotOf, IsNoGot, IsQueueOf}
use Rattle.scq_check.proofs.freshness.is_fresh_at.Goals as goal

-- a call that ends with Got is a get
a_get : (call : Call) (name : PutName) (content : List ℕ) → SuitsCall call (Got name content) → (queue : ℕ) × (call ≡ Get queue)
a_get (Put q c) name content suits = absurd suits
a_get (Get q) name content suits = (q, refl)

-- the one Got that stands there decides
decided : (opening : List (List ℕ)) (events : List Event) (e queue : ℕ) (event : Event) (name : PutName) (content : List ℕ) (b : Bool) → IsLawful events
    → slice_get events e ≡ Some event → IsGotOf event name content → IsQueueOf events e queue → (IsTrue b ↔ IsBegun opening events name queue content e)
    → IsTrue b ↔ IsFreshAt opening events e
decided opening events e queue event name content b lawful at got of test =
    let here : slice_get events e ≡ Some (End got.seat (Got name content)) = at ∙ ap Some got.is in (
      λ t s seat q n x call.
          let ends = call.ends in
          let names : name ≡ n = cc in
          let contents : content ≡ x = cc in
          let queues : q ≡ queue = of.get seat q s (Got n x) call in
          subst (λ z. IsBegun opening events z q x e) names
          (subst (λ z. IsBegun opening events name q z e) contents
          (subst (λ z. IsBegun opening events name z content e) (sym queues) (test.0 t))),
      λ h.
          let answer : IsAnswer events got.seat e (Got name content) = subst (λ event. IsLawfulAt events e event) here (lawful e) in
          let get = a_get answer.call name content answer.suits in
          let call : IsCall events got.seat (Get get.0) answer.s e (Got name content) =
          subst (λ z. IsCall events got.seat z answer.s e (Got name content)) get.1 answer.is_call in
          test.1 (subst (λ z. IsBegun opening events name z content e) (of.get got.seat get.0 answer.s (Got name content) call)
          (h answer.s got.seat get.0 name content call)),
    )

no_got : (opening : List (List ℕ)) (events : List Event) (e : ℕ) (event : Event) → slice_get events e ≡ Some event → IsNoGot event → IsFreshAt opening events e
no_got opening events e event at none s seat queue name content call = let ends = call.ends in absurd (none.none seat name content cc)

pub returns-in-Some : goal.returns-in-Some
returns-in-Some c =
    decided _ _ _ _ _ _ _ _ c.requires.lawful (read _ _ _ _ c.requires.within c.index-events-e.is refl) c.in-Some.ensures
    c.queue_of-queue.ensures c.is_begun.ensures

pub returns-in-None : goal.returns-in-None
returns-in-None c =
    (λ _. no_got _ _ _ _ (read _ _ _ _ c.requires.within c.index-events-e.is refl) c.in-None.ensures, λ _. refl)
