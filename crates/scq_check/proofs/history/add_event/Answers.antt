-- The event pushed last is lawful there, so the longer list is lawful.
use Rattle.std.proofs.Common.{◌≡◌, ℕ, List, [], ◌∷◌, ◌++◌, length, slice_get, sym, ◌∙◌, subst, refl}
use Rattle.scq_hist.specs.Exports.{IsLawful, IsLawfulAt}
use Rattle.scq_hist.specs.declared.events.Event.{Event}
use Rattle.scq_hist.proofs.Longer.{lawful_longer, last_event}
use Rattle.scq_check.proofs.history.add_event.Goals as goal

pushed : (events longer now : List Event) (event : Event) (last : ℕ) → IsLawful events → longer ≡ events ++ event ∷ [] → now ≡ longer → last ≡ length events
    → IsLawfulAt now last (slice_get now last) → IsLawful longer
pushed events longer now event last lawful long same at is =
    let here = subst (λ k. IsLawfulAt now k (slice_get now k)) at is in
    let there = subst (λ xs. IsLawfulAt xs (length events) (slice_get xs (length events))) (same ∙ long) here in
    subst IsLawful (sym long)
    (lawful_longer events event lawful (subst (λ o. IsLawfulAt (events ++ event ∷ []) (length events) o) (last_event events event) there))

pub returns-clause-lawful : goal.returns-clause-lawful
returns-clause-lawful c =
    pushed c.args.history.now.events.items c.push.new.self.items c.deref.result.now c.args.event c.len-last.result c.requires
    c.in_ok-push.ensures.items c.deref.ensures.value (c.len-last.ensures ∙ c.args.history.now.events.ok.0) (c.if-not-is_lawful_at.ensures.0 refl)
