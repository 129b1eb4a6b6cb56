use Rattle.std.proofs.Common.{◌≡◌, ◌+◌, ◌≤◌, length, take, drop}
use Rattle.std.specs.Prelude.{vec_len, vec_capacity}
use Rattle.std.specs.List.{All}
use Rattle.scq_files.specs.Exports.{AreDealt, workers_at, IsNew}
use Rattle.scq_files.proofs.dealing.deal.Given as goal

-- the files behind those that are left are dealt
abbrev pub invariant-sources : goal.invariant-sources
invariant-sources g l = record {
  long : length l.desks ≡ length l.fn.desks;
  few : vec_len l.sources ≤ vec_len l.fn.sources;
  front : l.sources.items ≡ take (vec_len l.sources) l.fn.sources.items;
  capacity : vec_capacity l.sources ≡ vec_capacity l.fn.sources;
  dealt : AreDealt (vec_len l.sources + 1) (drop (vec_len l.sources) l.fn.sources.items) l.desks;
  unread : All (λ d. All IsNew d.files.items) l.desks;
  same : workers_at l.desks ≡ workers_at l.fn.desks;
  room : All (λ d. vec_len d.files + vec_len l.sources ≤ vec_capacity d.files) l.desks;
}

abbrev pub decreases-sources : goal.decreases-sources
decreases-sources g l = vec_len l.sources
