-- A part that a stage was done to.
use Rattle.std.specs.Prelude.{ℕ, List}
use Rattle.scq_frames.specs.Exports.{Part}

-- the same part, with what the stage makes of its bytes
abbrev pub after_stage : (List ℕ → List ℕ) → Part → Part
after_stage stage p = record p { payload = stage p.payload }
