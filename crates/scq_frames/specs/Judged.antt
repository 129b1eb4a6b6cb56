-- What a fault of a file, or none, says of the bytes that its source gave.
use Rattle.std.specs.Prelude.{◌≡◌, ℕ, ◌^◌, Bool, true, false, List, ◌++◌, Option, Some, None}
use Rattle.std.specs.Prelude.{IfSome}
use Rattle.std.specs.Option.{option_map}
use Rattle.scq_frames.specs.Trouble.{Trouble, LongPayload, ManyBytes, trouble_of}
use Rattle.scq_frames.specs.declared.fault.FrameFault.{FrameFault}
use Rattle.scq_frames.specs.declared.fault.FrameFault.TheVariants.{ReadFault, TooLong, TooLarge}
use Rattle.scq_frames.specs.declared.fault.FrameFault.TheVariants.{NoMemory}

-- the trouble of a file's bytes, to its end or before a read failed, where a payload may have so
-- many
abbrev pub file_trouble : ℕ → Bool → List ℕ → Option Trouble
file_trouble size failed bytes = trouble_of size (2 ^ 30) failed bytes

-- what a fault, or none, says of the bytes that were given, and of them with the rest behind them
abbrev pub Judges : ℕ → List ℕ → List ℕ → Option FrameFault → Type 0
Judges size bytes rest None = file_trouble size false bytes ≡ None
Judges size bytes rest (Some ReadFault) = file_trouble size true bytes ≡ None
Judges size bytes rest (Some (TooLong line len)) =
    (file_trouble size false bytes ≡ Some (LongPayload line len))
    × (file_trouble size false (bytes ++ rest) ≡ Some (LongPayload line len))
Judges size bytes rest (Some (TooLarge count)) =
    (file_trouble size false bytes ≡ Some ManyBytes)
    × (file_trouble size false (bytes ++ rest) ≡ Some ManyBytes)
Judges size bytes rest (Some NoMemory) = Unit {0}

-- a source that had this left and has that now gave bytes; where these are visible the fault, or
-- none, is said of them
pub record Judged (size : ℕ) (before after : Option (List ℕ))
    (fault : Option FrameFault) : Type 0 where
  pub bytes : List ℕ
  pub moved : before ≡ option_map (λ rest. bytes ++ rest) after
  pub judges : IfSome after (λ rest. Judges size bytes rest fault)
