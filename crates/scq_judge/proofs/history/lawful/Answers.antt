use Rattle.std.proofs.Common.{◌<◌, inr, length, refl, subst, slice_get, arith}
use Rattle.std.specs.Prelude.{IfSome}
use Rattle.std.proofs.lemmas.Option.{slice_get_read}
use Rattle.scq_hist.specs.Exports.{IsLawfulAt, IsFirstFailing}
use Rattle.scq_judge.proofs.history.lawful.Goals as goal

pub returns-in-None-clause-lawful : goal.returns-in-None-clause-lawful
returns-in-None-clause-lawful c =
    subst (IsFirstFailing (λ d. IsLawfulAt c.args.merged.events.items d (slice_get c.args.merged.events.items d))) c.in-None.is
    (rw c.as_slice.ensures.value at c.in_ok-first.ensures.first)

pub returns-in-Some-clause-refused : goal.returns-in-Some-clause-refused
returns-in-Some-clause-refused c =
    let first = subst (IsFirstFailing (λ d. IsLawfulAt c.args.merged.events.items d (slice_get c.args.merged.events.items d))) c.in-Some.is
    (rw c.as_slice.ensures.value at c.in_ok-first.ensures.first) in
    let within = subst (λ o. IfSome o (λ e. e < length c.args.merged.events.items)) c.in-Some.is
    (rw c.as_slice.ensures.value at c.in_ok-first.ensures.within) in
    let there : c.in-Some.e < length c.args.merged.places.items = omega arith in
    inr (c.in-Some.e, first, slice_get_read c.args.merged.places.items (length c.args.merged.places.items) c.in-Some.e c.index.result.now refl there c.index.ensures)
