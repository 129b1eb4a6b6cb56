-- How calls end, event by event
use Rattle.std.proofs.Common.{◌≡◌, ℕ, ◌<◌, ◌↔◌, Bool, true, false, IsTrue, List, Some, length, slice_get, subst, sym}
use Rattle.std.proofs.lemmas.Option.{slice_get_within}
use Rattle.scq_hist.specs.declared.events.Call.{Call}
use Rattle.scq_hist.specs.declared.events.Event.{Event}
use Rattle.scq_hist.specs.declared.events.Event.TheVariants.{Start, End}
use Rattle.scq_hist.specs.declared.events.Reply.{Reply}
use Rattle.scq_hist.proofs.UnderWay.{same_call}
use Rattle.scq_check.specs.Exports.{IsCallOf, EndsAs, EndsSo}
use Rattle.scq_check.specs.declared.endings.Ending.{Ending}
use Rattle.scq_check.proofs.EndedLemmas.{own_call}

-- no call ends at a Start
pub no_ending : (events : List Event) (ending : Ending) (e seat : ℕ) (call : Call) → slice_get events e ≡ Some (Start seat call) → IsTrue false ↔ EndsSo events ending e
no_ending events ending e seat call at = (λ t. absurd cc, λ ends. let there = ends.is_call.ends in absurd cc)

-- the one call that ends there decides
pub ending_there : (events : List Event) (ending : Ending) (e s seat : ℕ) (call : Call) (reply : Reply) (b : Bool) → IsCallOf events e s call
    → slice_get events e ≡ Some (End seat reply) → (IsTrue b ↔ EndsAs ending call reply) → IsTrue b ↔ EndsSo events ending e
ending_there events ending e s seat call reply b of at test =
    let is = own_call events e s seat call reply of at in (
      λ t. record { seat = seat; s = s; call = call; reply = reply; is_call = is; so = test.0 t },
      λ ends.
          let same = same_call events seat ends.seat s ends.s e call ends.call reply ends.reply is ends.is_call in
          let there = ends.is_call.ends in
          let replies : ends.reply ≡ reply = cc in
          test.1 (subst (λ c. EndsAs ending c reply) (sym same.calls) (subst (λ r. EndsAs ending ends.call r) replies ends.so)),
    )

pub ending_within : (events : List Event) (ending : Ending) (e : ℕ) → EndsSo events ending e → e < length events
ending_within events ending e ends = slice_get_within events e (End ends.seat ends.reply) ends.is_call.ends
