use Rattle.std.proofs.Common.{◌≡◌, ◌≤◌, length, map}
use Rattle.std.specs.Prelude.{string_bytes, vec_len, vec_capacity}
use Rattle.scq_service.specs.Exports.{HaveCome, inputs_of}
use Rattle.scq_service.proofs.reading.get_sources.Given as goal

-- the sources so far have come
abbrev pub invariant-files : goal.invariant-files
invariant-files g l = record {
  count : length l.sources.items ≡ l.name-index;
  len : vec_len l.sources ≡ l.name-index;
  room : length l.names ≤ vec_capacity l.sources;
  kept : g.F.Files.faults l.files ≡ g.F.Files.faults l.fn.files;
  come : HaveCome g.F.Src.Source (map string_bytes l.names) (inputs_of g.F.Files l.fn.files l.files l.sources.items 0);
}
