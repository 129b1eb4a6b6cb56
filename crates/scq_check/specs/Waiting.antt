-- Puts that wait: they were finished, and no get that had started by then has got them
use Rattle.std.specs.Prelude.{◌≡◌, ℕ, ◌+◌, ◌<◌, ◌^◌, List, Option, Some, None, IfSome, MatchOption}
use Rattle.scq_hist.specs.Exports.{IsFinishedAt, IsGot, IsGotBefore, IsFirstFailing, EndsDone}
use Rattle.scq_hist.specs.Exports.{IsFirstNamed}
use Rattle.scq_hist.specs.declared.events.Event.{Event}
use Rattle.scq_hist.specs.declared.events.PutName.{PutName}
use Rattle.scq_hist.specs.declared.events.PutName.TheVariants.{Opening}
use Rattle.scq_check.specs.Failures.{AreFailures}
use Rattle.scq_check.specs.declared.waiting.Waiting.{Waiting}
use Rattle.scq_check.specs.declared.waiting.Sought.{Sought}
use Rattle.scq_check.specs.declared.waiting.Sought.TheVariants.{Every, GotLater}

-- the put isn't one that is sought: a get that started before position e has got it; or, where
-- those are sought that a later one has got, none has
abbrev pub IsLeftOut : Sought → List Event → ℕ → PutName → Type 0
IsLeftOut Every events e name = IsGotBefore events e name
IsLeftOut GotLater events e name = IsGot events name → IsGotBefore events e name

-- so of the opening token of this number, if it stands in the queue. (A Got names tokens by numbers
-- below 2^32)
abbrev pub IsTokenLeftOut : Sought → List (List ℕ) → List Event → ℕ → ℕ → ℕ → Type 0
IsTokenLeftOut sought opening events queue e number =
    number < 2 ^ 32 → IsFinishedAt opening events queue 0 (Opening number)
    → IsLeftOut sought events e (Opening number)

-- so of the put of the queue that ends with Done at position d, if one does and that is before
-- moment m
abbrev pub IsPutLeftOut : Sought → List Event → ℕ → ℕ → ℕ → ℕ → Type 0
IsPutLeftOut sought events queue m e d =
    (name : PutName) → d < m → EndsDone events queue d name → IsLeftOut sought events e name

-- the one that is told, as a token's number or as the position of an End: the first that a later
-- get has got, tokens before others; where there is none, the first that waits
abbrev pub told_of : Option ℕ → Option ℕ → Option ℕ → Option ℕ → Option ℕ × Option ℕ
told_of (Some number) late token put = (Some number, None)
told_of None (Some d) token put = (None, Some d)
told_of None None token put = (token, put)

pub record IsToldOf (opening : List (List ℕ)) (events : List Event) (queue m e : ℕ)
    (waiting : Waiting) : Type 0 where
  pub late_token : Option ℕ
  pub late_put : Option ℕ
  pub tokens : IsFirstFailing (IsTokenLeftOut GotLater opening events queue e) late_token
  pub puts : IsFirstFailing (IsPutLeftOut GotLater events queue m e) late_put
  pub told : (waiting.token, waiting.put)
      ≡ told_of late_token late_put waiting.tokens.first waiting.puts.first

-- the put of this name: the opening token of this number, or else the put that ends with Done at
-- this position
abbrev pub IsToldPut : List Event → ℕ → Option ℕ → Option ℕ → PutName → Type 0
IsToldPut events queue (Some number) put name = name ≡ Opening number
IsToldPut events queue None (Some d) name = EndsDone events queue d name
IsToldPut events queue None None name = ⊥

-- of the queue's puts that are finished at moment m those that no get which started before position
-- e has got: the opening tokens by their numbers, the others by the positions of their Ends, which
-- of them is told, and of that one the position of the first Got that names it
pub record AreWaiting (opening : List (List ℕ)) (events : List Event) (queue m e : ℕ)
    (waiting : Waiting) : Type 0 where
  pub tokens : AreFailures (IsTokenLeftOut Every opening events queue e) waiting.tokens
  pub puts : AreFailures (IsPutLeftOut Every events queue m e) waiting.puts
  pub told : IsToldOf opening events queue m e waiting
  pub got : (name : PutName) → IsToldPut events queue waiting.token waiting.put name
      → MatchOption waiting.got (¬ IsGot events name) (IsFirstNamed events name)

-- what is told of them stands below position m, and their number fits a word
pub record IsToldWithin (m : ℕ) (waiting : Waiting) : Type 0 where
  pub first : IfSome waiting.puts.first (λ d. d < m)
  pub put : IfSome waiting.put (λ d. d < m)
  pub got : IfSome waiting.got (λ d. d < m)
  pub first_token : IfSome waiting.tokens.first (λ number. number < 2 ^ 32)
  pub token : IfSome waiting.token (λ number. number < 2 ^ 32)
  pub few : waiting.tokens.count + waiting.puts.count < 2 ^ 64
