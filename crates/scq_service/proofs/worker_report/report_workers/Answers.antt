use Rattle.std.proofs.Common.{◌≡◌, ◌∙◌, ℕ, ◌+◌, List, ◌++◌, append_assoc, arith, ap, sym, subst, codes, get_or, Option}
use Rattle.std.specs.Prelude.{sum_by}
use Rattle.std.specs.List.{zip}
use Rattle.std.proofs.lemmas.Slice.Zip.{get_or-zip, length-zip}
use Rattle.scq_collect.specs.declared.answered.Answered.{Answered}
use Rattle.scq_queue.specs.declared.counts.Counts.{Counts}
use Rattle.scq_stages.proofs.Runs.{on-then}
use Rattle.scq_service.specs.Exports.{all_line, counts_line, directs_in, worker_line, worker_lines, written_with, WrotePart}
use Rattle.scq_service.proofs.ReportLines.{part-worker, whole-worker, whole-workers}
use Rattle.scq_service.proofs.Writings.{part-first, part-second, written-then}
use Rattle.scq_service.proofs.worker_report.report_workers.Goals as goal
use Rattle.scq_service.proofs.worker_report.report_workers.Goals.{After-write_worker}

-- each worker's counts and list
abbrev no_counts : Counts
no_counts = record { sent = 0; taken = 0; full = 0 }

pair-here : (g : _) (c : After-write_worker g) → (get_or c.args.counts.now c.workers.at no_counts, c.index-lists-at.result)
    ≡ get_or (zip c.args.counts.now c.args.lists.now) c.workers.at (no_counts, c.index-lists-at.result)
pair-here g c =
    let counts = c.args.counts.now in
    let list = c.index-lists-at.result in
    ap (λ (l : List Answered). (get_or counts c.workers.at no_counts, l)) c.index-lists-at.is
    ∙ sym (get_or-zip counts c.args.lists.now c.workers.at (no_counts, list) (omega (arith, c.workers-test.true, c.min-at-end.ensures))
    (omega (arith, c.workers-test.true, c.min-at-end.ensures)))

pub returns-in_err-write_worker-clause-part : goal.returns-in_err-write_worker-clause-part
returns-in_err-write_worker-clause-part g c =
    let counts = c.args.counts.now in
    let lists = c.args.lists.now in
    let at = c.workers.at in
    let list = c.index-lists-at.result in
    let is = pair-here g (goal.at.returns-in_err-write_worker-clause-part g c).After-write_worker in
    part-worker _ _ _ (all_line counts lists) (zip counts lists) at (at + 1) (no_counts, list)
    (omega (arith, c.workers-test.true, c.min-at-end.ensures, length-zip counts lists)) (omega arith) c.workers.invariant.lines
    (subst (λ w. WrotePart (g.K.Sink.written c.workers.sink) (g.K.Sink.written c.write_worker.new.sink) (worker_line (at + 1) w)) is
    c.write_worker.ensures.part)

pub workers-preserved : goal.workers-preserved
workers-preserved g c =
    let counts = c.args.counts.now in
    let lists = c.args.lists.now in
    let at = c.workers.at in
    let list = c.index-lists-at.result in
    let is = pair-here g (goal.at.workers-preserved g c).After-write_worker in
    record {
      lines = whole-worker _ _ _ (zip counts lists) at (at + 1) (no_counts, list)
          (omega (arith, c.workers-test.true, c.min-at-end.ensures, length-zip counts lists)) (omega arith) c.workers.invariant.lines
          (subst (λ w. g.K.Sink.written c.write_worker.new.sink ≡ written_with (g.K.Sink.written c.workers.sink) (worker_line (at + 1) w)) is
          c.in_ok-write_worker.ensures.whole);
      kept = c.in_ok-write_worker.ensures.kept ∙ c.workers.invariant.kept;
    }

pub returns-in_err-write_all-clause-part : goal.returns-in_err-write_all-clause-part
returns-in_err-write_all-clause-part g c =
    let counts = c.args.counts.now in
    let lists = c.args.lists.now in
    let line = counts_line (sum_by (λ c. c.sent) counts) (sum_by (λ c. c.taken) counts) (sum_by directs_in lists) in
    let written = whole-workers _ _ (zip counts lists) c.workers.at
    (omega (arith, c.workers-test.false, c.min-at-end.ensures, length-zip counts lists)) c.workers.invariant.lines in
    part-second _ _ _ (worker_lines 1 (zip counts lists)) (all_line counts lists) written (part-first _ _ (codes "all") line c.write_all.ensures.part)

pub returns-clause-whole : goal.returns-clause-whole
returns-clause-whole g c =
    let counts = c.args.counts.now in
    let lists = c.args.lists.now in
    let said = c.sums_of-sums.ensures in
    let old = g.K.Sink.written c.args.sink.now in
    let lines = worker_lines 1 (zip counts lists) in
    let line = counts_line (sum_by (λ c. c.sent) counts) (sum_by (λ c. c.taken) counts) (sum_by directs_in lists) in
    let same : counts_line c.sums_of-sums.result.sent c.sums_of-sums.result.taken c.directs_of.result ≡ line =
    λ i. counts_line (said.sent i) (said.taken i) (c.directs_of.ensures i) in
    let written = whole-workers _ _ (zip counts lists) c.workers.at
    (omega (arith, c.workers-test.false, c.min-at-end.ensures, length-zip counts lists)) c.workers.invariant.lines in
    on-then c.write_counts.result (λ is.
    is ∙ ap (written_with (g.K.Sink.written c.write_all.new.sink)) same
    ∙ ap (λ (w : Option (List ℕ)). written_with w line)
    (c.in_ok-write_all.ensures.whole ∙ ap (λ (w : Option (List ℕ)). written_with w (codes "all")) written
    ∙ written-then old lines (codes "all"))
    ∙ written-then old (lines ++ codes "all") line ∙ ap (written_with old) (append_assoc lines (codes "all") line)) c.write_counts.ensures.whole

pub returns-clause-part : goal.returns-clause-part
returns-clause-part g c =
    let counts = c.args.counts.now in
    let lists = c.args.lists.now in
    let said = c.sums_of-sums.ensures in
    let line = counts_line (sum_by (λ c. c.sent) counts) (sum_by (λ c. c.taken) counts) (sum_by directs_in lists) in
    let same : counts_line c.sums_of-sums.result.sent c.sums_of-sums.result.taken c.directs_of.result ≡ line =
    λ i. counts_line (said.sent i) (said.taken i) (c.directs_of.ensures i) in
    let Q : List ℕ → Type 0 = λ bytes. WrotePart (g.K.Sink.written c.write_all.new.sink) (g.K.Sink.written c.write_counts.new.sink) bytes in
    let written = whole-workers _ _ (zip counts lists) c.workers.at
    (omega (arith, c.workers-test.false, c.min-at-end.ensures, length-zip counts lists)) c.workers.invariant.lines in
    part-second _ _ _ (worker_lines 1 (zip counts lists)) (all_line counts lists) written
    (part-second _ _ _ (codes "all") line c.in_ok-write_all.ensures.whole (subst Q same c.write_counts.ensures.part))
