use Rattle.std.proofs.Common.{◌≡◌, ap, subst, refl, Option, Result, Some, map, string_bytes, IfErr}
use Rattle.scq_judge.specs.declared.judging.Judged.{Judged}
use Rattle.scq_outside.specs.declared.cause.Cause.{Cause}
use Rattle.scq_service.specs.Exports.{EndsUntold, cause_told, inputs_of, wrote_of}
use Rattle.scq_service.specs.declared.fault.Fault.{Fault}
use Rattle.scq_service.proofs.Judging.{report-ends, untold-ends}
use Rattle.scq_service.proofs.Told.{written-cause}
use Rattle.scq_service.proofs.commands.judge.run_judge.Goals as goal

pub returns-in-Ok-clause-ends : goal.returns-in-Ok-clause-ends
returns-in-Ok-clause-ends g c =
    let had = c.report_on-report.result in
    let its = c.report_on-report.ensures in
    let after = c.ended.ensures in
    rw (after.read, ap (λ v. v.items) after.got, ap (λ v. v.items) after.sources, after.fault)
    (report-ends g.F.Files g.F.Src.Source (map string_bytes c.args.names.now) c.args.room c.args.files.now c.report_on-report.new.files had.got.items
    had.sources.items had.report c.in-Ok.judged c.in-Ok.is its.all its.whole c.args.order its.judged its.holds c.args.strict
    (wrote_of g.K.Sink c.args.out.now c.write_report-end.new.out) c.write_report-end.result c.write_report-end.ensures)

pub returns-in-Err-clause-ends : goal.returns-in-Err-clause-ends
returns-in-Err-clause-ends g c =
    let names = map string_bytes c.args.names.now in
    let had = c.report_on-report.result in
    let r = inputs_of g.F.Files c.args.files.now c.report_on-report.new.files had.sources.items 0 in
    let J : Result Judged Fault → Type 0 = λ x. IfErr x (EndsUntold g.F.Src.Source c.args.order names had.got.items r) in
    let after = c.ended-in-Err.ensures in
    rw (after.read, ap (λ v. v.items) after.got, ap (λ v. v.items) after.sources, after.fault)
    (untold-ends g.F.Src.Source c.args.room c.args.strict names had.got.items r (wrote_of g.K.Sink c.args.out.now c.args.out.now) c.args.order c.in-Err.fault
    (subst J c.in-Err.is c.report_on-report.ensures.refused) (refl, refl))

-- what the sink says where a write failed, and else nothing
pub returns-in-Ok-clause-caused : goal.returns-in-Ok-clause-caused
returns-in-Ok-clause-caused g c =
    let had = c.report_on-report.result in
    let after = c.ended.ensures in
    rw (after.cause, ap (λ v. v.items) after.sources, after.fault, c.of_write-cause.ensures, c.cause.ensures)
    (written-cause g.F.Src.Source.cause (g.F.Files.cause c.report_on-report.new.files) (g.K.Sink.cause c.write_report-end.new.out) had.sources.items c.args.strict c.in-Ok.judged
    (wrote_of g.K.Sink c.args.out.now c.write_report-end.new.out) c.write_report-end.result c.write_report-end.ensures)

pub returns-in-Err-clause-caused : goal.returns-in-Err-clause-caused
returns-in-Err-clause-caused g c =
    let had = c.report_on-report.result in
    let J : Result Judged Fault → Type 0 =
    λ x. IfErr x (λ fault. (sink : Option Cause)
    → had.cause ≡ cause_told g.F.Src.Source.cause had.sources.items (g.F.Files.cause c.report_on-report.new.files) sink (Some fault)) in
    let told = subst J c.in-Err.is c.report_on-report.ensures.caused in
    let after = c.ended-in-Err.ensures in
    rw (after.cause, ap (λ v. v.items) after.sources, after.fault) (told (g.K.Sink.cause c.args.out.now))
