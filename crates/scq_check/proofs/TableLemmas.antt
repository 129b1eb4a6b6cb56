-- The get of a put, by what the tables say of it
use Rattle.std.proofs.Common.{◌≡◌, ℕ, List, Some, slice_get, unwrap_or, sym, ◌∙◌, subst, ap}
use Rattle.scq_hist.specs.Exports.{IsGetOf, IsLawful, IsLawfulAt, IsAnswer, call_start, IsFirstNamed}
use Rattle.scq_hist.specs.declared.events.Event.{Event}
use Rattle.scq_hist.specs.declared.events.PutName.{PutName}
use Rattle.scq_hist.specs.declared.events.Reply.TheVariants.{Got}
use Rattle.scq_hist.proofs.NamesLemmas.{get_from_first}
use Rattle.scq_check.specs.Exports.{own_start}

-- the get that has got the put, where the first Got that names it stands at position e
pub get_there : (events : List Event) (name : PutName) (s e : ℕ) → IsLawful events → IsFirstNamed events name e → s ≡ own_start events e (slice_get events e)
    → IsGetOf events name s e
get_there events name s e lawful first is =
    let n = first.names in
    let answer : IsAnswer events n.seat e (Got name n.content) = subst (λ event. IsLawfulAt events e event) n.ends (lawful e) in
    let till = answer.is_call.under_way_till in
    let start : s ≡ answer.s = is ∙ ap (own_start events e) n.ends ∙ ap (λ o. unwrap_or o e) till in
    get_from_first events name s e lawful first (ap Some start ∙ sym till ∙ sym (ap (call_start events e) n.ends))
