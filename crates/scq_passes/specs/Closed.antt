-- What is known of the passes of a queue once it is closed.
use Rattle.std.specs.Prelude.{ℕ, List, map}
use Rattle.scq_word.specs.declared.setup.Setup.{Setup}
use Rattle.scq_band.specs.Exports.{opening_of, AreTheSame, IsOneRunToTheEnd}
use Rattle.scq_queue.specs.Exports.{SentAndTook, NoneIsKeptWithinTheLimit, IsAllThere, all_held}
use Rattle.scq_queue.specs.Exports.{callers_of, records_of, PassStanding, HeldStanding}

-- what `close` says of the passes of a queue that was given these buffers, and gives those back
pub record HasClosed {B : Type 0} (contents : B → List ℕ) (IsSameBuffer : B → B
    → Type 0) (c : Setup)
    (given : List B) (passes : List (PassStanding B)) (held : List (HeldStanding B))
    (buffers : List B) (left : List ℕ) : Type 0 where
  pub run : IsOneRunToTheEnd c (opening_of contents given) (callers_of passes) (records_of passes)
      (all_held passes) (map contents buffers)
  pub back : AreTheSame IsSameBuffer given buffers
  pub sent : SentAndTook c passes left
  pub limits : NoneIsKeptWithinTheLimit c passes
  pub all_there : IsAllThere c held left
