-- In order at one get. A get that ends at a position has got one put, which starts at one position, so what is decided for these
-- two positions is decided for all
use Rattle.std.proofs.Common.{Bool, ◌≡◌, ℕ, ◌↔◌, List, IsTrue, subst}
use Rattle.scq_hist.specs.Exports.{IsPut, IsFinishedAt, IsGetOf, AllClaimed, Precedes, IsInOrderAt, IsRightWithin, IsEmptyRightAt, IsPutGotAt}
use Rattle.scq_hist.specs.Exports.{NoPutGotAt, IsEmptyAt}
use Rattle.scq_hist.specs.declared.events.Call.TheVariants.{Get}
use Rattle.scq_hist.specs.declared.events.Event.{Event}
use Rattle.scq_hist.specs.declared.events.PutName.TheVariants.{Of}
use Rattle.scq_hist.specs.declared.events.Reply.TheVariants.{Nothing}
use Rattle.scq_hist.proofs.NamesLemmas.{same_name}
use Rattle.scq_hist.proofs.Puts.{SamePut, same_put}
use Rattle.scq_hist.proofs.TallyLemmas.{names_from_get}
use Rattle.scq_hist.proofs.UnderWay.{same_call}

-- a get that ends at position e has got one put, which starts at one position
same_got : (events : List Event) (e queue start s seat number r t : ℕ) (content : List ℕ) (put : IsPutGotAt events e queue start)
    → IsGetOf events (Of seat number) s e → IsPut events seat number r content t → SamePut queue r start t put.content content
same_got events e queue start s seat number r t content put get other =
    let same : Of put.seat put.number ≡ Of seat number = same_name events e (Of put.seat put.number) (Of seat number)
    (names_from_get events (Of put.seat put.number) put.s e put.get) (names_from_get events (Of seat number) s e get) in
    let seats : seat ≡ put.seat = cc in
    let numbers : number ≡ put.number = cc in
    same_put events put.seat put.number queue r start t put.content content put.put (record {
      starts = (let x = other.starts in cc);
      counted = (let x = other.counted in cc);
    })

in_order_from_claims : (opening : List (List ℕ)) (events : List Event) (e queue start : ℕ) → IsPutGotAt events e queue start
    → AllClaimed events queue e (Precedes opening events queue start) → IsInOrderAt opening events e
in_order_from_claims opening events e queue start put all s seat number r t content get other =
    let same = same_got events e queue start s seat number r t content put get other in
    subst (λ x. AllClaimed events x e (Precedes opening events x t)) same.queue
    (subst (λ x. AllClaimed events queue e (Precedes opening events queue x)) same.start all)

claims_from_in_order : (opening : List (List ℕ)) (events : List Event) (e queue start : ℕ) → IsPutGotAt events e queue start
    → IsInOrderAt opening events e → AllClaimed events queue e (Precedes opening events queue start)
claims_from_in_order opening events e queue start put h = h put.s put.seat put.number queue start put.content put.get put.put

pub claims_decide : (opening : List (List ℕ)) (events : List Event) (e queue start : ℕ) (b : Bool) → IsPutGotAt events e queue start
    → IsTrue b ↔ AllClaimed events queue e (IsFinishedAt opening events queue start) → IsTrue b ↔ IsInOrderAt opening events e
claims_decide opening events e queue start b put test = (
  λ h. in_order_from_claims opening events e queue start put (test.0 h),
  λ h. test.1 (claims_from_in_order opening events e queue start put h),
)

-- the one Empty that ends there decides
pub empty_decides : (opening : List (List ℕ)) (events : List Event) (e queue s : ℕ) (b : Bool) → IsEmptyAt events e queue s
    → (IsTrue b ↔ IsRightWithin opening events queue s e) → IsTrue b ↔ IsEmptyRightAt opening events e
empty_decides opening events e queue s b here test = (
  λ t r k q call.
      let same = same_call events here.seat k s r e (Get queue) (Get q) Nothing Nothing here.call call in
      let queues : queue ≡ q = (let calls = same.calls in cc) in
      subst (λ n. IsRightWithin opening events n r e) queues (subst (λ n. IsRightWithin opening events queue n e) same.starts (test.0 t)),
  λ h. test.1 (h s here.seat queue here.call),
)

pub no_put_in_order : (opening : List (List ℕ)) (events : List Event) (e : ℕ) → NoPutGotAt events e → IsInOrderAt opening events e
no_put_in_order opening events e free s seat number queue start content get put = absurd (free.none s seat number queue start content get put)
