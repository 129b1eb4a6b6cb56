-- The two ends of a channel may be sent to another thread where its messages may.
use denote.RattleType.{RattleType}
use denote.Param.Send.{IsSend, sendable}
use Rattle.std.proofs.Crossing.{crosses}
use Rattle.std.specs.contracts.alloc.Global as alloc
use Rattle.std.specs.contracts.impls.GlobalAllocator.TheImpl.{ghosts}
use Rattle.crossbeam_channel.specs.contracts.channel.Sender as sender
use Rattle.crossbeam_channel.specs.contracts.channel.Receiver as receiver

pub sender_sent : (T : RattleType) → IsSend T → IsSend (sender.the_row T alloc.the_row ghosts)
sender_sent T sends = search (sendable, crosses) depth 60

pub receiver_sent : (T : RattleType) → IsSend T → IsSend (receiver.the_row T alloc.the_row ghosts)
receiver_sent T sends = search (sendable, crosses) depth 60
