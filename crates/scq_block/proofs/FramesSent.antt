-- A frame may be sent to another thread, and shared: it owns its bytes, or lends them, and the vector in which it has them frees none.
use denote.Builtin.{u8}
use denote.Param.Send.{IsSend, IsSync, sendable}
use denote.Param.SendFields.{declared_send, declared_sync}
use Rattle.std_alloc.proofs.SendSync.{FreesAnywhere, Vec-send, Vec-sync}
use Rattle.std_alloc.specs.contracts.vec.lodged.Lodged as lodged
use Rattle.std_alloc.specs.contracts.vec.lodged.LodgedAllocator.TheImpl.{ghosts}
use Rattle.scq_block.specs.contracts.frame.Frame as frame

lodged_sent : IsSend lodged.the_row
lodged_sent = search sendable

lodged_shared : IsSync lodged.the_row
lodged_shared = search sendable

frees : FreesAnywhere (lodged.the_row).Denot ghosts
frees = record { frees = λ a τ p. tt }

pub frame_sent : IsSend frame.the_row
frame_sent = declared_send frame.the_type (Vec-send u8 lodged.the_row ghosts (search sendable) lodged_sent frees, (search sendable, tt))

pub frame_shared : IsSync frame.the_row
frame_shared = declared_sync frame.the_type (Vec-sync u8 lodged.the_row ghosts (search sendable) lodged_shared, (search sendable, tt))
