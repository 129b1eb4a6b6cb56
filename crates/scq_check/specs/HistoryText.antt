-- What the lines of a text say of a history, and the first line with a fault
use Rattle.std.specs.Prelude.{◌≡◌, ℕ, ◌+◌, Bool, true, false, ◌&&◌, ◌==◌, nat_lt, List, [], ◌∷◌}
use Rattle.std.specs.Prelude.{◌++◌, Option, Some, None, length}
use Rattle.std.specs.List.{filter_map}
use Rattle.scq_hist.specs.Exports.{IsLawful}
use Rattle.scq_hist.specs.declared.events.Event.{Event}
use Rattle.scq_check.specs.Line.{line_of}
use Rattle.scq_check.specs.declared.line.Line.{Line}
use Rattle.scq_check.specs.declared.line.Line.TheVariants.{Opening, Happens}

-- the opening token of a line, and its event
abbrev pub token_of : Option Line → Option (List ℕ)
token_of (Some (Opening content)) = Some content
token_of _ = None

abbrev pub said_event : Option Line → Option Event
said_event (Some (Happens event)) = Some event
said_event _ = None

-- the opening tokens and the events of lines, in order
abbrev pub tokens_in : List (List ℕ) → List (List ℕ)
tokens_in lines = filter_map (λ line. token_of (line_of line)) lines

abbrev pub events_in : List (List ℕ) → List Event
events_in lines = filter_map (λ line. said_event (line_of line)) lines

-- whether a line may follow where these tokens and events came before: it is of the form, and an
-- opening token comes before all events and has at most 4,095 others before it, an event at most
-- 999
abbrev pub may_follow : List (List ℕ) → List Event → Option Line → Bool
may_follow tokens events (Some (Opening content)) =
    (length events == 0) && nat_lt (length tokens) 4096
may_follow tokens events (Some (Happens event)) = nat_lt (length events) 1000
may_follow tokens events None = false

-- whether it may after these lines
abbrev pub may_stand_next : List (List ℕ) → List ℕ → Bool
may_stand_next before line = may_follow (tokens_in before) (events_in before) (line_of line)

-- lines of a history: each may follow those before it, and the events up to it are lawful
pub data IsHistory : List (List ℕ) → Type 0 where
  empty : IsHistory []
  one_more : (before : List (List ℕ)) (line : List ℕ) → IsHistory before
      → may_stand_next before line ≡ true
      → IsLawful (events_in (before ++ line ∷ [])) → IsHistory (before ++ line ∷ [])

-- the line of this number, from 1, stands behind those of a history
pub record StandsBehind (before lines : List (List ℕ)) (line : List ℕ) (number : ℕ) : Type 0 where
  pub after : List (List ℕ)
  pub stands : lines ≡ before ++ line ∷ after
  pub numbered : number ≡ length before + 1
  pub history : IsHistory before

-- so does this one, and it may not follow them
pub record IsBadLine (lines : List (List ℕ)) (number : ℕ) : Type 0 where
  pub before : List (List ℕ)
  pub line : List ℕ
  pub behind : StandsBehind before lines line number
  pub bad : may_stand_next before line ≡ false

-- so does this one, it may follow them, and the events up to it aren't lawful
pub record IsUnlawfulLine (lines : List (List ℕ)) (number : ℕ) : Type 0 where
  pub before : List (List ℕ)
  pub line : List ℕ
  pub behind : StandsBehind before lines line number
  pub next : may_stand_next before line ≡ true
  pub unlawful : ¬ IsLawful (events_in (before ++ line ∷ []))
