use Rattle.std.proofs.Common.{◌≡◌, ◌∙◌, ◌⊎◌, inl, inr, sym, ap, subst, Bool, true, map, List, ℕ, Option, Some, None, Result, Ok, Err}
use Rattle.std.specs.Prelude.{string_bytes, OnOk, OnErr}
use Rattle.scq_work.specs.declared.worked.Worked.{Worked}
use Rattle.scq_service.specs.declared.fault.Fault.{Fault}
use Rattle.scq_outside.specs.Exports.{Rose}
use Rattle.scq_service.specs.Exports.{caused_lines, workers_report, reported, written_with, WrotePart}
use Rattle.scq_service.proofs.worker_report.report_run.Goals as goal
use Rattle.scq_service.proofs.worker_report.report_run.Goals.{After-report_workers}

either : {X E : Type 0} (r : Result X E) (P Q : Type 0) → OnOk r P → OnErr r Q → Q ⊎ P
either (Ok x) P Q whole rose = inr whole
either (Err e) P Q whole rose = inl rose

-- without a fault, where they are asked for, the workers' lines are reported
lines : (asks : Bool) (behind : Fault → List ℕ) (fault : Option Fault) (worked : Option Worked) (w : Worked) → fault ≡ None → worked ≡ Some w → asks ≡ true
    → reported asks behind fault worked ≡ workers_report w.counts.items w.answered.items
lines asks behind fault worked w none some yes_ =
    ap (λ f. reported asks behind f worked) none ∙ ap (λ o. reported asks behind None o) some ∙ ap (λ b. reported b behind None (Some w)) yes_

-- the lines behind a fault's line
abbrev behind-at : (g : _) (c : After-report_workers g) → Fault → List ℕ
behind-at g c = caused_lines c.args.run_alone (map string_bytes c.args.words.now) (map string_bytes c.args.names.now) c.args.cause

-- what was asked to be reported is what the workers' lines say
text-at : (g : _) (c : After-report_workers g)
    → workers_report c.as_slice.result.now c.as_slice-lists.result.now ≡ reported c.args.asks (behind-at g c) c.args.fault.now c.args.worked.now
text-at g c =
    (λ i. workers_report (c.as_slice.ensures.value i) (c.as_slice-lists.ensures.value i))
    ∙ sym (lines c.args.asks (behind-at g c) c.args.fault.now c.args.worked.now c.in-Some-worked.worked c.in_default.is c.in-Some-worked.is c.if-asks.true)

pub returns-then-asks-clause-reported : goal.returns-then-asks-clause-reported
returns-then-asks-clause-reported g c =
    subst (λ (t : List ℕ). Rose (g.K.Sink.faults c.args.sink.now) (g.K.Sink.faults c.report_workers.new.sink)
    ⊎ (g.K.Sink.written c.report_workers.new.sink ≡ written_with (g.K.Sink.written c.args.sink.now) t))
    (text-at g (goal.at.returns-then-asks-clause-reported g c).After-report_workers)
    (either c.report_workers.result _ _ c.report_workers.ensures.whole c.report_workers.ensures.rose)

pub returns-then-asks-clause-front : goal.returns-then-asks-clause-front
returns-then-asks-clause-front g c =
    subst (λ (t : List ℕ). WrotePart (g.K.Sink.written c.args.sink.now) (g.K.Sink.written c.report_workers.new.sink) t)
    (text-at g (goal.at.returns-then-asks-clause-front g c).After-report_workers) c.report_workers.ensures.part
