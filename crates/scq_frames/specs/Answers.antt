-- What each answer of a framer says: what it gives, and what became of the framer and its source.
use Rattle.std.specs.Prelude.{◌≡◌, ℕ, ◌+◌, ◌<◌, ◌≤◌, IsTrue, false, List, [], ◌++◌, length}
use Rattle.std.specs.Prelude.{Option, None, IfNone, Result, Ok, OnOk, is_err, sum_by}
use Rattle.std.specs.Option.{option_map, option_to_list}
use Rattle.scq_outside.specs.Exports.{RoseWhere}
use Rattle.scq_outside.specs.declared.source.Source.{Ghosts as SourceOf}
use Rattle.scq_frames.specs.declared.message.Message.{Message}
use Rattle.scq_frames.specs.declared.fault.FrameFault.{FrameFault}
use Rattle.scq_frames.specs.declared.fault.FrameFault.TheVariants.{TooLong, TooLarge}
use Rattle.scq_frames.specs.Framing.{EndsOnce, Framing, NothingLeft, visible_ahead, visible_size}
use Rattle.scq_frames.specs.Framing.{given_by, weight_of}

-- the message given, if any, is the first of those ahead, and those ahead now are the rest. None
-- comes exactly where none is ahead, behind the end and with nothing held
pub record GivesFirst (number : List ℕ → ℕ) (old new : Framing) (before after : Option (List ℕ))
    (given : Option Message) : Type 0 where
  pub gives : visible_ahead number old before
      ≡ option_map (λ rest. option_to_list given ++ rest) (visible_ahead number new after)
  pub none : IfNone given (visible_ahead number old before ≡ option_map (λ _. []) before)
  pub over : IfNone given (IsTrue new.ended × (new.held ≡ []))

-- the line of a payload that is too long lies behind those passed, and too many bytes are one more
-- than the limit
pub record HasFault (old new : Framing) (fault : FrameFault) : Type 0 where
  pub too_long : (line len : ℕ) → fault ≡ TooLong line len → (old.line < line) × (old.size < len)
  pub too_large : (bytes : ℕ) → fault ≡ TooLarge bytes
      → (bytes ≡ new.most + 1) × (new.read ≡ bytes)

-- what became of the source: once its end was read it stays as it is, and nothing is left of it.
-- The end is answered just once, and no byte is lost. A read failed only where this says so
pub record ReadsFrom {S : Type 0} (src : SourceOf S) (failed : Type 0) (old new : Framing)
    (before after : S) : Type 0 where
  pub end : (IsTrue old.ended → NothingLeft (src.left before)) → IsTrue new.ended
      → NothingLeft (src.left after)
  pub stays : IsTrue old.ended → (after ≡ before) × IsTrue new.ended
  pub once : EndsOnce old.ended new.ended (src.ends before) (src.ends after)
  pub size : visible_size new (src.left after) ≡ visible_size old (src.left before)
  pub faults : RoseWhere failed (src.faults before) (src.faults after)
  pub never_falls : src.faults before ≤ src.faults after
  pub going : failed → old.ended ≡ false

-- what became of the framer: it has failed where the answer is a fault, and its limits stay. Lines
-- rise, and each message adds its weight: together they are at most one more than the limit. Held
-- are at most the bytes of a payload, those of a topic that is longer than any name with its space,
-- and what one read gives: the others of a line are counted
pub record GoesOn (old new : Framing) (result : Result (Option Message) FrameFault) : Type 0 where
  pub file : new.file ≡ old.file
  pub payload : new.size ≡ old.size
  pub most : new.most ≡ old.most
  pub failed : new.failed ≡ is_err result
  pub rises : old.line ≤ new.line
  pub weight : new.weight ≡ old.weight + sum_by weight_of (given_by result)
  pub bounded : new.weight ≤ new.most + 1
  pub read : OnOk result (new.read ≤ new.most)
  pub held : length new.held ≤ new.size + 4130
  pub over : IsTrue old.ended → old.held ≡ [] → result ≡ Ok None
