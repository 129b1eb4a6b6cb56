use Rattle.std.proofs.Common.{◌≡◌, sym, subst, false, map, string_bytes, ℕ, List}
use Rattle.std.specs.Prelude.{IfSome}
use Rattle.scq_words.specs.Exports.{asked}
use Rattle.scq_service.specs.Exports.{asks_report, caused_lines, fault_lines, files_asked, inputs_of, lines_behind, wrote_of, HasReported}
use Rattle.scq_service.proofs.Completeness.{calmly}
use Rattle.scq_service.proofs.Named.{caused-as, reported-as}
use Rattle.scq_service.proofs.serving.serve.Goals as goal

pub returns-clause-outcome : goal.returns-clause-outcome
returns-clause-outcome g c =
    let its = c.run-outcome.ensures in
    record { status = its.status; end = its.end; worked = its.worked; left = its.left; seen = its.seen; same = its.same }

pub returns-clause-complete : goal.returns-clause-complete
returns-clause-complete g c =
    let o = c.run-outcome.result.outcome in
    calmly g.F.Src.Source _ (inputs_of g.F.Files c.args.files.now c.run-outcome.new.files o.sources.items o.read) (wrote_of g.K.Sink c.args.out.now c.run-outcome.new.out) o
    c.run-outcome.ensures.end

-- what is reported by the names that are kept is so by those that are asked for
pub returns-clause-reported : goal.returns-clause-reported
returns-clause-reported g c =
    let ran = c.run-outcome.result in
    let words = map string_bytes c.args.words.now in
    let asks = asked words in
    let names = map string_bytes c.as_slice.result.now in
    let named : IfSome ran.outcome.fault (λ fault. fault_lines false words names fault ≡ fault_lines false words (files_asked asks) fault) =
    subst (λ (its : List (List ℕ)). IfSome ran.outcome.fault (λ fault. fault_lines false words its fault ≡ fault_lines false words (files_asked asks) fault))
    (sym c.as_slice.ensures) c.run-outcome.ensures.named in
    subst (HasReported (wrote_of g.K.Sink c.args.err.now c.report_run.new.sink))
    (reported-as ran.report (asks_report asks) (caused_lines false words names ran.outcome.cause) (lines_behind false words asks ran.outcome.cause) ran.outcome.fault ran.outcome.worked
    c.run-outcome.ensures.report (caused-as false words asks names ran.outcome.cause ran.outcome.fault named))
    (record { whole = c.report_run.ensures.reported; front = c.report_run.ensures.front })
