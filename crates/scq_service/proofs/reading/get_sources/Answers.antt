use Rattle.std.proofs.Common.{◌∙◌, refl, ap, arith, ◌+◌, [], ◌∷◌, length-append}
use Rattle.std.specs.Prelude.{string_bytes}
use Rattle.scq_service.proofs.Coming.{SourceIsGot, IsMissed, come-got, has-missed, next-name}
use Rattle.scq_service.proofs.reading.get_sources.Goals as goal

pub files-preserved : goal.files-preserved
files-preserved g c =
    let sources = c.files.sources.items in
    let was = c.files.invariant in
    let said = c.in-Ok.ensures in
    let next = next-name string_bytes c.args.names.now sources c.files.name-index c.name-item.result c.as_str.result.now was.count c.files-test.true c.as_str.ensures.value c.name-item.is in
    let got : SourceIsGot g.F.Files g.F.Src.Source c.as_str.result.now c.files.files c.source.new.self c.in-Ok.source =
    record { given = said.given; fresh = said.fresh; content = said.content; kept = said.counted.0.kept (λ e. cc) } in
    rw (c.push_reserved.ensures.items) (record {
      count = length-append sources (c.in-Ok.source ∷ []) ∙ ap (λ n. n + 1) was.count;
      len = c.push_reserved.ensures.len ∙ ap (λ n. n + 1) was.len;
      room = omega (arith, was.room, c.push_reserved.ensures.capacity);
      kept = said.counted.0.kept (λ e. cc) ∙ was.kept;
      come = come-got c.args.files.now next got was.come;
    })

pub returns-in-Err-clause-all : goal.returns-in-Err-clause-all
returns-in-Err-clause-all g c =
    let was = c.files.invariant in
    let said = c.in-Err.ensures in
    let next = next-name string_bytes c.args.names.now c.files.sources.items c.files.name-index c.name-item.result c.as_str.result.now was.count c.files-test.true c.as_str.ensures.value c.name-item.is in
    let miss : IsMissed g.F.Files c.as_str.result.now c.files.files c.source.new.self = record { unchanged = said.unchanged; missing = said.missing; rose = said.counted.0.rose refl } in
    (next.more, has-missed c.args.files.now next miss was.come was.kept)
