use Rattle.std.proofs.Common.{◌≡◌, ◌<◌, ◌≤◌, ℕ, false, length}
use Rattle.std.specs.Prelude.{slice_index_or}
use Rattle.scq_files.specs.Exports.{IsNew, ids_of, all_given, AreRead}
use Rattle.scq_files.specs.declared.own_file.FileEnd.TheVariants.{Stopped}
use Rattle.scq_files.proofs.reading.read_files.Given as goal

-- the files in front of this place are unread, those behind it have no fault, and what is known of each is what was read of it
abbrev pub invariant-files : goal.invariant-files
invariant-files g l = record {
  within : l.at ≤ length l.files;
  unread : (k : ℕ) (d : _) → k < l.at → IsNew (slice_index_or l.files k d);
  sound : (k : ℕ) (d : _) (fault : _) → l.at ≤ k → k < length l.files → (slice_index_or l.files k d).end ≡ Stopped fault → ⊥;
  same : ids_of l.files ≡ ids_of l.fn.files;
  read : AreRead l.topics l.longest g.S.Source l.files;
  ready : g.H.Handler.ready l.with l.beside l.handler;
  handled : g.H.Handler.handled l.with (all_given l.files) l.fn.beside l.fn.handler l.beside l.handler;
  fed : g.H.Handler.wanted l.fn.handler ≡ false → g.H.Handler.wanted l.handler ≡ false;
}

abbrev pub decreases-files : goal.decreases-files
decreases-files g l = l.at
