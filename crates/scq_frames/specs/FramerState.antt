-- What holds of every framer. Each line takes at least one byte of what was read, and each message
-- at least its weight, but for the line that no LF ends. Of a line that has not ended 34 bytes more
-- than a payload may have are held, which are a topic that is longer than any name and the space
-- behind it, and what one read gives.
use Rattle.std.specs.Prelude.{◌≡◌, ◌^◌, ◌+◌, ◌<◌, ◌≤◌, false, length}
use Rattle.scq_frames.specs.Framing.{Framing}
use Rattle.scq_frames.specs.declared.framer.Framer.TheInside.{Inside}

pub record IsFramerState (f : Framing) : Type 0 where
  pub most : f.most ≤ 2 ^ 30
  pub read : f.read ≤ f.most + 1
  pub lines : f.line + length f.held ≤ f.read
  pub weight : f.weight + length f.held ≤ f.read + 1
  pub holding : 0 < length f.held → f.weight + length f.held ≤ f.read
  pub within : f.failed ≡ false → f.read ≤ f.most
  pub short : length f.held ≤ f.size + 4130
  pub reading : f.ended ≡ false → f.weight + length f.held ≤ f.read

-- a framer's fields as contracts see them
abbrev pub framing : Inside → Framing
framing f = record {
  file = f.file;
  size = f.size;
  most = f.most;
  line = f.line;
  held = f.window;
  read = f.read;
  ended = f.ended;
  failed = f.failed;
  weight = f.weight;
}
