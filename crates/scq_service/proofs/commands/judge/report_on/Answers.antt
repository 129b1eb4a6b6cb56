use Rattle.std.proofs.Common.{◌∙◌, refl, arith, Some}
use Rattle.std.specs.Prelude.{string_bytes}
use Rattle.std.proofs.lemmas.List.{length-map}
use Rattle.std.proofs.lemmas.Result.{IfOk-weaker, IfErr-weaker}
use Rattle.scq_service.specs.Exports.{fault_of_judge}
use Rattle.scq_service.proofs.Coming.{SourceIsGot, IsMissed, next-name}
use Rattle.scq_service.proofs.Judging.{all-got, all-read, all-there, all-untold, missed-ends, missed-got, one-more, stopped-ends, stopped-got, to-write}
use Rattle.scq_service.proofs.Told.{stopped-cause, told-over, untold-cause}
use Rattle.scq_service.proofs.commands.judge.report_on.Goals as goal

pub files-preserved : goal.files-preserved
files-preserved g c =
    let so = c.files.invariant in
    let next = next-name string_bytes c.args.names.now c.files.got.items c.files.name-index c.name-item.result c.as_str.result.now so.count c.files-test.true c.as_str.ensures.value c.name-item.is in
    let said = c.in-Ok.ensures in
    let got : SourceIsGot g.F.Files g.F.Src.Source c.as_str.result.now c.files.files c.source.new.self c.in-Ok.source =
    record { given = said.given; fresh = said.fresh; content = said.content; kept = said.counted.0.kept (λ e. cc) } in
    rw (c.with-got.ensures, c.and-sources.ensures) (one-more so c.read-read.new.source next got c.in-Ok-read.ensures.lone (c.in-Ok-read.ensures.read c.files.got.items c.files.sources.items so.read))

pub returns-in-Err-clause-got : goal.returns-in-Err-clause-got
returns-in-Err-clause-got g c =
    let so = c.files.invariant in
    let next = next-name string_bytes c.args.names.now c.files.got.items c.files.name-index c.name-item.result c.as_str.result.now so.count c.files-test.true c.as_str.ensures.value c.name-item.is in
    let said = c.in-Err.ensures in
    let miss : IsMissed g.F.Files c.as_str.result.now c.files.files c.source.new.self = record { unchanged = said.unchanged; missing = said.missing; rose = said.counted.0.rose refl } in
    missed-got so next miss

pub returns-in-Err-clause-refused : goal.returns-in-Err-clause-refused
returns-in-Err-clause-refused g c =
    let so = c.files.invariant in
    let next = next-name string_bytes c.args.names.now c.files.got.items c.files.name-index c.name-item.result c.as_str.result.now so.count c.files-test.true c.as_str.ensures.value c.name-item.is in
    let said = c.in-Err.ensures in
    let miss : IsMissed g.F.Files c.as_str.result.now c.files.files c.source.new.self = record { unchanged = said.unchanged; missing = said.missing; rose = said.counted.0.rose refl } in
    missed-ends so c.args.order next miss

pub returns-in-Err-read-clause-got : goal.returns-in-Err-read-clause-got
returns-in-Err-read-clause-got g c =
    let so = c.files.invariant in
    let next = next-name string_bytes c.args.names.now c.files.got.items c.files.name-index c.name-item.result c.as_str.result.now so.count c.files-test.true c.as_str.ensures.value c.name-item.is in
    let said = c.in-Ok.ensures in
    let got : SourceIsGot g.F.Files g.F.Src.Source c.as_str.result.now c.files.files c.source.new.self c.in-Ok.source =
    record { given = said.given; fresh = said.fresh; content = said.content; kept = said.counted.0.kept (λ e. cc) } in
    stopped-got so c.read-read.new.source next got (c.in-Err-read.ensures.stopped c.files.got.items c.files.sources.items so.read) _ _ c.with-got.ensures c.and-sources.ensures

pub returns-in-Err-read-clause-refused : goal.returns-in-Err-read-clause-refused
returns-in-Err-read-clause-refused g c =
    let so = c.files.invariant in
    let next = next-name string_bytes c.args.names.now c.files.got.items c.files.name-index c.name-item.result c.as_str.result.now so.count c.files-test.true c.as_str.ensures.value c.name-item.is in
    let said = c.in-Ok.ensures in
    let got : SourceIsGot g.F.Files g.F.Src.Source c.as_str.result.now c.files.files c.source.new.self c.in-Ok.source =
    record { given = said.given; fresh = said.fresh; content = said.content; kept = said.counted.0.kept (λ e. cc) } in
    stopped-ends so c.args.order c.read-read.new.source next got (c.in-Err-read.ensures.stopped c.files.got.items c.files.sources.items so.read) _ _ _ c.with-got.ensures
    c.and-sources.ensures c.from.ensures

pub returns-clause-got : goal.returns-clause-got
returns-clause-got g c = all-got c.files.invariant

pub returns-clause-all : goal.returns-clause-all
returns-clause-all g c =
    let so = c.files.invariant in
    IfOk-weaker c.tell.result _ _
    (λ told is. all-there so (omega (arith, c.files-test.false, so.count, so.come.within, length-map c.args.names.now string_bytes))) c.tell.ensures.told

pub returns-clause-whole : goal.returns-clause-whole
returns-clause-whole g c =
    let so = c.files.invariant in
    IfOk-weaker c.tell.result _ _
    (λ told is. all-read so (omega (arith, c.files-test.false, so.count, so.come.within, length-map c.args.names.now string_bytes))) c.tell.ensures.told

pub returns-clause-judged : goal.returns-clause-judged
returns-clause-judged g c = IfOk-weaker c.tell.result _ _ (to-write c.files.invariant c.args.room c.args.order) c.tell.ensures.told

pub returns-clause-refused : goal.returns-clause-refused
returns-clause-refused g c =
    let so = c.files.invariant in
    IfErr-weaker c.tell.result _ _
    (λ fault is. all-untold so c.args.order fault
    (omega (arith, c.files-test.false, so.count, so.come.within, length-map c.args.names.now string_bytes)) is) c.tell.ensures.untold

-- what the source says that was read last
pub returns-in-Err-read-clause-caused : goal.returns-in-Err-read-clause-caused
returns-in-Err-read-clause-caused g c = λ sink.
    let src = g.F.Src.Source in
    let stop = c.in-Err-read.ensures.stopped c.files.got.items c.files.sources.items c.files.invariant.read in
    rw (c.of_read.ensures, c.cause-cause.ensures, c.from.ensures)
    (stopped-cause src.cause _ sink src.faults src.ends src.left _ _ _ c.read-read.new.source _ stop
    ∙ told-over src.cause (g.F.Files.cause c.source.new.self) sink _ _ (Some (fault_of_judge c.in-Err-read.fault)) c.and-sources.ensures)

pub returns-clause-caused : goal.returns-clause-caused
returns-clause-caused g c =
    IfErr-weaker c.tell.result _ _
    (λ fault is sink. untold-cause g.F.Src.Source.cause (g.F.Files.cause c.files.files) sink c.files.reader.recorded c.files.sources.items c.args.order fault is)
    c.tell.ensures.untold
