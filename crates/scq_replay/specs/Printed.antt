-- How a step of a schedule is printed: the words of its call's ring after it, and the reply where
-- it ends the call
use Rattle.std.specs.Prelude.{ℕ, zero, suc, ℤ, pos, ◌-ℤ◌, List, [], ◌++◌, Option, Some, None}
use Rattle.std.specs.Prelude.{unwrap_or, codes, decimal}
use Rattle.std.specs.Fmt.{signed_decimal}
use Rattle.std.specs.Option.{option_or}
use Rattle.scq_word.specs.declared.setup.Setup.{Setup}
use Rattle.scq_core.specs.declared.ended.Ended.{Ended}
use Rattle.scq_core.specs.declared.ended.Ended.TheVariants.{Done, Got, Nothing, Spent}
use Rattle.scq_core.specs.declared.phase.Phase.{Phase}
use Rattle.scq_core.specs.declared.step.Step.{Step}
use Rattle.scq_core.specs.declared.step.Step.TheVariants.{E1, E1Again, E2, E3, E4, E5, E6, D1, D2}
use Rattle.scq_core.specs.declared.step.Step.TheVariants.{D3, D4, D5, D6, D7, D8, D9, D10}
use Rattle.scq_core.specs.Exports.{Cells, ring_slots, zero_level, ring_under_way}
use Rattle.scq_core.specs.Machine.{Machine}
use Rattle.scq_law.specs.Exports.{ended_in}
use Rattle.scq_lines.specs.Exports.{content_text}

-- the name of a step: a put's first ticket and its later ones are drawn by E1
abbrev pub step_name : Step → List ℕ
step_name (E1 ring index content) = codes "E1"
step_name E1Again = codes "E1"
step_name E2 = codes "E2"
step_name E3 = codes "E3"
step_name E4 = codes "E4"
step_name E5 = codes "E5"
step_name E6 = codes "E6"
step_name (D1 ring) = codes "D1"
step_name D2 = codes "D2"
step_name D3 = codes "D3"
step_name D4 = codes "D4"
step_name D5 = codes "D5"
step_name D6 = codes "D6"
step_name D7 = codes "D7"
step_name D8 = codes "D8"
step_name D9 = codes "D9"
step_name D10 = codes "D10"

-- the ring on which a step begins a call, if it begins one
abbrev pub begins_on : Step → Option ℕ
begins_on (E1 ring index content) = Some ring
begins_on (D1 ring) = Some ring
begins_on step = None

-- the ring of a step's call: of the one that it begins, or of the one that its seat is in the
-- middle of before it
abbrev pub call_ring : Step → Phase → ℕ
call_ring step phase = unwrap_or (option_or (begins_on step) (ring_under_way phase)) 0

-- the words of the first entries of a ring, each after a space
abbrev pub entry_words : (ℕ → ℕ) → ℕ → List ℕ
entry_words word zero = []
entry_words word (suc slot) = entry_words word slot ++ codes " " ++ decimal (word slot)

-- the value of the word of Threshold
abbrev pub threshold_value : ℕ → ℤ
threshold_value word = pos word -ℤ pos zero_level

-- the words of a ring
abbrev pub counter_words : ℕ → ℕ → ℕ → List ℕ
counter_words ring head tail =
    codes " ring " ++ decimal ring ++ codes " head " ++ decimal head ++ codes " tail "
    ++ decimal tail

abbrev pub threshold_words : ℕ → List ℕ
threshold_words word = codes " threshold " ++ signed_decimal (threshold_value word)

abbrev pub printed_ring : Setup → Cells → ℕ → List ℕ
printed_ring c m ring =
    counter_words ring (m.head ring) (m.tail ring) ++ threshold_words (m.threshold ring)
    ++ codes " entries"
    ++ entry_words (m.entries.word ring) (ring_slots c)

-- the reply of a call that has ended
abbrev pub reply_words : Option Ended → List ℕ
reply_words None = []
reply_words (Some (Done ring place content)) = codes " done " ++ decimal place
reply_words (Some (Got ring place content)) =
    codes " got " ++ decimal place ++ codes " " ++ content_text content
reply_words (Some (Nothing ring)) = codes " nothing"
reply_words (Some (Spent ring ticket is_put)) = codes " spent " ++ decimal ticket

-- which step of which seat it is
abbrev pub head_words : ℕ → ℕ → Step → List ℕ
head_words number seat step =
    decimal number ++ codes " " ++ decimal seat ++ codes " " ++ step_name step

-- the line of a step of this number, seat and ring, from the state after it
abbrev pub step_line : Setup → ℕ → ℕ → Step → ℕ → Machine → List ℕ
step_line c number seat step ring m =
    head_words number seat step ++ printed_ring c m.cells ring
    ++ reply_words (ended_in (m.part seat).phase (m.part seat).calls) ++ codes "\n"
