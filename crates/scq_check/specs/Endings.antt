-- How calls end, as they are counted
use Rattle.std.specs.Prelude.{ℕ, List}
use Rattle.scq_hist.specs.Exports.{IsCall, IsCount}
use Rattle.scq_hist.specs.declared.events.Call.{Call}
use Rattle.scq_hist.specs.declared.events.Call.TheVariants.{Put, Get}
use Rattle.scq_hist.specs.declared.events.Event.{Event}
use Rattle.scq_hist.specs.declared.events.PutName.TheVariants.{Opening}
use Rattle.scq_hist.specs.declared.events.Reply.{Reply}
use Rattle.scq_hist.specs.declared.events.Reply.TheVariants as reply
use Rattle.scq_check.specs.declared.endings.Ending.{Ending}
use Rattle.scq_check.specs.declared.endings.Ending.TheVariants.{Got, Token, Nothing, Refused, Spent}
use Rattle.scq_check.specs.declared.endings.Endings.{Endings}

-- a call with this reply ends so: a get that got something, one that got an opening token, one that
-- found nothing, a put that was refused, a get that was
abbrev pub EndsAs : Ending → Call → Reply → Type 0
EndsAs Got (Get queue) (reply.Got name content) = Unit {0}
EndsAs Token (Get queue) (reply.Got (Opening number) content) = Unit {0}
EndsAs Nothing (Get queue) reply.Nothing = Unit {0}
EndsAs Refused (Put queue content) reply.Spent = Unit {0}
EndsAs Spent (Get queue) reply.Spent = Unit {0}
EndsAs _ _ _ = ⊥

-- the call that ends at position e ends so
pub record EndsSo (events : List Event) (ending : Ending) (e : ℕ) : Type 0 where
  pub seat : ℕ
  pub s : ℕ
  pub call : Call
  pub reply : Reply
  pub is_call : IsCall events seat call s e reply
  pub so : EndsAs ending call reply

-- how many calls end so
pub record AreEndings (events : List Event) (endings : Endings) : Type 0 where
  pub got : IsCount (EndsSo events Got) endings.got
  pub tokens : IsCount (EndsSo events Token) endings.tokens
  pub nothing : IsCount (EndsSo events Nothing) endings.nothing
  pub refused : IsCount (EndsSo events Refused) endings.refused
  pub spent : IsCount (EndsSo events Spent) endings.spent
