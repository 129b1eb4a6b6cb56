-- What one thread tells the other may be sent.
use denote.RattleType.{RattleType}
use denote.Param.Send.{IsSend}
use denote.Param.SendFields.{declared_send}
use Rattle.std.specs.contracts.marker.PhantomData as phantom
use Rattle.scq_queue.proofs.PassesSent.{note_sent}
use Rattle.example_queue.specs.declared.rounds.Home.{Ghosts}
use Rattle.example_queue.specs.contracts.rounds.Told as told

phantom_sent : (H : RattleType) → IsSend (phantom.the_row H)
phantom_sent H = declared_send (phantom.the_type H) tt

pub told_sent : (H : RattleType) (home : Ghosts H.Denot) → IsSend (told.the_row H home)
told_sent H home = declared_send (told.the_type H home) (note_sent, (phantom_sent H, tt))
