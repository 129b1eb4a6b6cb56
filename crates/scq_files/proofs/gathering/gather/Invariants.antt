use Rattle.std.proofs.Common.{◌≡◌, ◌+◌, ℕ, None, length, map, drop}
use Rattle.std.specs.Prelude.{vec_len, vec_capacity}
use Rattle.scq_files.specs.Exports.{AllEnded, AllStop, AllWhole, AreDealt, workers_at}
use Rattle.scq_files.proofs.InTurn.{InTurn}
use Rattle.scq_files.proofs.SoFar.{SoFar}
use Rattle.scq_files.proofs.gathering.gather.Given as goal

-- the first files are gathered, and the desks have the others
abbrev pub invariant-files : goal.invariant-files
invariant-files g l =
    let src = g.S.Source in
    record {
      long : length l.desks ≡ length l.fn.desks;
      dealt : AreDealt (l.at + 1) (drop l.at l.was.value.items) l.desks;
      ended : (size : ℕ) → AllEnded size src l.fn.desks → AllEnded size src l.desks;
      count : vec_len l.gathered.sources ≡ l.at;
      capacity : vec_capacity l.gathered.sources ≡ vec_capacity l.fn.gathered.sources;
      so_far : (size : ℕ) → AllEnded size src l.fn.desks → SoFar size src l.was.value.items l.at l.gathered.sources.items l.gathered.fault l.gathered.starved;
      in_turn : (size : ℕ) → AllEnded size src l.fn.desks → AllStop l.fn.desks
          → InTurn (length l.fn.desks) size src l.was.value.items l.at l.gathered.sources.items (map (λ d. d.files.items) l.desks);
      whole : l.gathered.fault ≡ None → AllWhole l.desks → AllWhole l.fn.desks;
      same : workers_at l.desks ≡ workers_at l.fn.desks;
    }
