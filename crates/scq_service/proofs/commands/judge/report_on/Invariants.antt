use Rattle.std.proofs.Common.{map}
use Rattle.std.specs.Prelude.{string_bytes}
use Rattle.scq_service.proofs.Judging.{IsSoFar}
use Rattle.scq_service.proofs.commands.judge.report_on.Given as goal

-- the sources so far have come, and were read
abbrev pub invariant-files : goal.invariant-files
invariant-files g l =
    IsSoFar g.F.Files g.F.Src.Source (map string_bytes l.names) l.fn.files l.files l.got.items l.sources.items l.name-index l.file l.reader
