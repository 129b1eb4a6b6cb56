-- Where a window's bytes stand in its room.
use Rattle.std.specs.Prelude.{◌≤◌, length}
use Rattle.scq_frames.specs.Lines.{HasNoLineFeed}
use Rattle.scq_frames.specs.declared.window.Window.TheInside.{Inside}

-- the bytes from start to end are held, and those up to searched are no line feeds
pub record HasBounds (w : Inside) : Type 0 where
  pub start : w.start ≤ w.searched
  pub searched : w.searched ≤ w.end
  pub end : w.end ≤ length w.room.items
  pub clear : HasNoLineFeed w.room.items w.start w.searched
