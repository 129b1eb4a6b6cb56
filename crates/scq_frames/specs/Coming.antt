-- What comes first in the bytes that a framer holds and those that its source gives, and what a
-- call found in all.
use Rattle.std.specs.Prelude.{◌≡◌, ◌≢◌, ℕ, ◌+◌, ◌≤◌, Bool, true, false, IsTrue, Option, Some, None}
use Rattle.std.specs.Prelude.{Result, Ok, Err, List, [], ◌∷◌, ◌++◌, length}
use Rattle.std.specs.Option.{option_map}
use Rattle.scq_frames.specs.declared.message.Message.{Message}
use Rattle.scq_frames.specs.declared.fault.FrameFault.{FrameFault}
use Rattle.scq_frames.specs.declared.fault.FrameFault.TheVariants.{ReadFault, TooLong, TooLarge}
use Rattle.scq_frames.specs.declared.fault.FrameFault.TheVariants.{NoMemory}
use Rattle.scq_frames.specs.Text.{Framed, messages_after}
use Rattle.scq_frames.specs.Trouble.{counted_bytes}
use Rattle.scq_frames.specs.Framing.{Framing}
use Rattle.scq_frames.specs.Finding.{limit_left, MayFollow, Finds}

-- the messages ahead of a framer, of lines that count, where these bytes came, and then the end or
-- a failed read
abbrev pub counted_ahead : Framing → Bool → List ℕ → List Framed
counted_ahead f failed bytes =
    messages_after f.line (counted_bytes (limit_left f) failed (f.held ++ bytes))

-- the first message is of this line, and its payload has so many bytes
abbrev pub BeginsWithLong : ℕ → ℕ → List Framed → Type 0
BeginsWithLong line len [] = ⊥
BeginsWithLong line len (m ∷ ms) = (m.line ≡ line) × (length m.payload ≡ len)

-- what an answer says of these messages: the one that is too long is the first of them, whatever
-- follows, and in front of another fault and of the end there is none
abbrev pub Comes : Framing → Framing → List ℕ → Result (Option Message) FrameFault → Type 0
Comes old new bytes (Ok (Some m)) = Unit {0}
Comes old new bytes (Ok None) = counted_ahead old false bytes ≡ []
Comes old new bytes (Err ReadFault) = counted_ahead old true bytes ≡ []
Comes old new bytes (Err (TooLong line len)) =
    (failed : Bool) (more : List ℕ) → MayFollow new failed more
    → BeginsWithLong line len (counted_ahead old failed (bytes ++ more))
Comes old new bytes (Err (TooLarge count)) = counted_ahead old false bytes ≡ []
Comes old new bytes (Err NoMemory) = Unit {0}

-- each of these bytes was needed, but for those of the last read: no message was whole before it
pub record IsNeeded (old : Framing) (bytes : List ℕ) : Type 0 where
  pub early : List ℕ
  pub last : List ℕ
  pub parts : bytes ≡ early ++ last
  pub most : length last ≤ 4096
  pub none : bytes ≢ [] → counted_ahead old true early ≡ []

-- in a call the source gave some bytes: as many as the framer counts, none where the end was read
-- before it, and each needed. The answer says what trouble they are, and what comes first in them
pub record Found (old new : Framing) (before after : Option (List ℕ))
    (result : Result (Option Message) FrameFault) : Type 0 where
  pub bytes : List ℕ
  pub count : new.read ≡ old.read + length bytes
  pub moved : before ≡ option_map (λ rest. bytes ++ rest) after
  pub idle : IsTrue old.ended → bytes ≡ []
  pub needed : IsNeeded old bytes
  pub finds : Finds old new bytes result
  pub comes : Comes old new bytes result
