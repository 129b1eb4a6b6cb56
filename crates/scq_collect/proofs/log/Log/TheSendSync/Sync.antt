-- A log owns nothing, so any thread may share it.
use denote.Param.Send.{IsSync, part_keyless}
use Rattle.scq_collect.specs.contracts.log.Log.{the_row}
use Rattle.scq_collect.proofs.log.Log.TheSendSync.Send.{send}

pub sync : IsSync the_row
sync = record { shared = λ d b o κ q. part_keyless the_row send q d b o }
