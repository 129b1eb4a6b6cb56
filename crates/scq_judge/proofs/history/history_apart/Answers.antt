use Rattle.std.proofs.Common.{ap, Err}
use Rattle.std.proofs.lemmas.Result.{IfErr-weaker}
use Rattle.scq_judge.specs.Exports.{IsCauseIn}
use Rattle.scq_judge.proofs.JudgeLemmas.{as_many, cause_of_history, cause_of_merging, lawful_made}
use Rattle.scq_judge.proofs.history.history_apart.Goals as goal

pub lawful-requires : goal.lawful-requires
lawful-requires c = as_many _ _ _ c.in-Ok.ensures.merged

pub returns-in-Ok-clause-history : goal.returns-in-Ok-clause-history
returns-in-Ok-clause-history c =
    lawful_made c.args.recorded c.in-Ok.merged c.lawful.result c.requires.runs c.requires.seats c.in-Ok.ensures.opening c.in-Ok.ensures.merged
    c.lawful.ensures.same c.lawful.ensures.lawful

pub returns-in-Ok-clause-refused : goal.returns-in-Ok-clause-refused
returns-in-Ok-clause-refused c =
    IfErr-weaker c.lawful.result _ (IsCauseIn c.args.recorded)
    (cause_of_history c.args.recorded c.in-Ok.merged.opening.items c.in-Ok.merged.events.items c.in-Ok.merged.places.items
    (record { opens = c.in-Ok.ensures.opening; merged = c.in-Ok.ensures.merged })) c.lawful.ensures.refused

pub returns-in-Err-clause-refused : goal.returns-in-Err-clause-refused
returns-in-Err-clause-refused c = rw c.from.ensures (cause_of_merging _ _ (λ place other is. c.in-Err.ensures.same_stamp place other (ap Err is)))
