use Rattle.std.proofs.Common.{◌≡◌, ℕ, List, ◌++◌, subst, codes, decimal}
use Rattle.scq_service.specs.Exports.{counts_line, directs_in, written_with, WrotePart}
use Rattle.scq_service.proofs.Writings.{part-first, part-second}
use Rattle.scq_service.proofs.worker_report.write_worker.Goals as goal

pub returns-in_err-write_named-clause-part : goal.returns-in_err-write_named-clause-part
returns-in_err-write_named-clause-part g c =
    let counts = c.args.counts.now in
    let directs = directs_in c.args.list.now in
    let P : ℕ → Type 0 = λ n. WrotePart (g.K.Sink.written c.args.sink.now) (g.K.Sink.written c.write_named.new.sink) (codes "worker " ++ decimal n) in
    part-first _ _ (codes "worker " ++ decimal c.args.number) (counts_line counts.sent counts.taken directs)
    (subst P c.wide.ensures.same c.write_named.ensures.part)

pub returns-clause-part : goal.returns-clause-part
returns-clause-part g c =
    let counts = c.args.counts.now in
    let directs = directs_in c.args.list.now in
    let P : ℕ → Type 0 = λ n. g.K.Sink.written c.write_named.new.sink ≡ written_with (g.K.Sink.written c.args.sink.now) (codes "worker " ++ decimal n) in
    let Q : List ℕ → Type 0 = λ bytes. WrotePart (g.K.Sink.written c.write_named.new.sink) (g.K.Sink.written c.write_counts.new.sink) bytes in
    let same : counts_line c.wide-2.result c.wide-3.result c.direct_in.result ≡ counts_line counts.sent counts.taken directs =
    λ i. counts_line (c.wide-2.ensures.same i) (c.wide-3.ensures.same i) (c.direct_in.ensures.same i) in
    part-second _ _ _ (codes "worker " ++ decimal c.args.number) (counts_line counts.sent counts.taken directs)
    (subst P c.wide.ensures.same c.in_ok-write_named.ensures.whole) (subst Q same c.write_counts.ensures.part)
