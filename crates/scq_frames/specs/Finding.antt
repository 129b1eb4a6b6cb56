-- What trouble a framer finds, in the bytes that it holds and those that its source gives.
use Rattle.std.specs.Prelude.{◌≡◌, ℕ, ◌+◌, ◌-◌, ◌<◌, Bool, true, false, IsTrue, Option, Some, None}
use Rattle.std.specs.Prelude.{Result, Ok, Err, List, [], ◌++◌, length}
use Rattle.scq_frames.specs.declared.message.Message.{Message}
use Rattle.scq_frames.specs.declared.fault.FrameFault.{FrameFault}
use Rattle.scq_frames.specs.declared.fault.FrameFault.TheVariants.{ReadFault, TooLong, TooLarge}
use Rattle.scq_frames.specs.declared.fault.FrameFault.TheVariants.{NoMemory}
use Rattle.scq_frames.specs.Text.{payload_of}
use Rattle.scq_frames.specs.Trouble.{Trouble, LongPayload, ManyBytes, trouble_after}
use Rattle.scq_frames.specs.Framing.{Framing}

-- how many bytes the limit leaves for those held and those to come
abbrev pub limit_left : Framing → ℕ
limit_left f = f.most + length f.held - f.read

-- the trouble ahead of a framer where these bytes came, and then the end or a failed read
abbrev pub trouble_ahead : Framing → Bool → List ℕ → Option Trouble
trouble_ahead f failed bytes = trouble_after f.size (limit_left f) failed f.line (f.held ++ bytes)

-- these bytes, and then the end or a failed read, may follow: nothing does once the end was read
abbrev pub MayFollow : Framing → Bool → List ℕ → Type 0
MayFollow f failed bytes = IsTrue f.ended → (bytes ≡ []) × (failed ≡ false)

-- what was ahead, these bytes of the source with it, is what is ahead now
abbrev pub SameTrouble : Framing → Framing → List ℕ → Type 0
SameTrouble old new bytes = (failed : Bool) (more : List ℕ) → MayFollow new failed more
    → trouble_ahead old failed (bytes ++ more) ≡ trouble_ahead new failed more

-- what an answer says of the trouble, where the source gave these bytes in the call
abbrev pub Finds : Framing → Framing → List ℕ → Result (Option Message) FrameFault → Type 0
Finds old new bytes (Ok (Some m)) = SameTrouble old new bytes
Finds old new bytes (Ok None) = trouble_ahead old false bytes ≡ None
Finds old new bytes (Err ReadFault) = trouble_ahead old true bytes ≡ None
Finds old new bytes (Err (TooLong line len)) =
    trouble_ahead old false bytes ≡ Some (LongPayload line len)
Finds old new bytes (Err (TooLarge count)) = trouble_ahead old false bytes ≡ Some ManyBytes
Finds old new bytes (Err NoMemory) = Unit {0}

-- the line of this number has these bytes, and a payload of so many, which are too many
pub record IsTooLong (size at : ℕ) (bytes : List ℕ) (line len : ℕ) : Type 0 where
  pub number : line ≡ at
  pub count : len ≡ length (payload_of bytes)
  pub above : size < len
