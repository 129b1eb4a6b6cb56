-- A stand may be sent to another thread, and a crew may be shared.
use denote.RattleType.{RattleType}
use denote.Builtin.{u32, u64, unit}
use denote.Param.Send.{IsSend, IsSync, sendable, view_send, view_sync, part_keyless}
use denote.Param.SendFields.{declared_send, declared_sync}
use Rattle.std.proofs.Crossing as crossing
use Rattle.std.proofs.vec.Vec.TheSendSync as heaped
use Rattle.std.proofs.alloc.Global.TheSendSync as heap
use Rattle.std.specs.contracts.vec.Vec as vec
use Rattle.std.specs.contracts.alloc.Global as alloc
use Rattle.std.specs.contracts.impls.GlobalAllocator.TheImpl.{ghosts}
use Rattle.atomic_table.proofs.shared.Seat.TheSendSync as token
use Rattle.atomic_table.specs.contracts.shared.Seat as token_type
use Rattle.crossbeam_utils.proofs.sync.parker.RuledParker.TheSendSync as parker_crosses
use Rattle.crossbeam_utils.proofs.sync.parker.RuledUnparker.TheSendSync as unparker_crosses
use Rattle.crossbeam_utils.specs.contracts.sync.parker.RuledParker as parker
use Rattle.crossbeam_utils.specs.contracts.sync.parker.RuledUnparker as unparker
use Rattle.scq_park.specs.contracts.rule.View as view
use Rattle.scq_park.specs.contracts.rule.ParkerRule as rule
use Rattle.scq_park.specs.contracts.rule.ParkerRuleProtocolBoolView.TheImpl as rules
use Rattle.scq_park.specs.contracts.passes.WakePass as wake_pass
use Rattle.scq_park.specs.contracts.passes.WakePass.TheInside as wake_inside
use Rattle.scq_park.specs.contracts.passes.RestPass as rest_pass
use Rattle.scq_park.specs.contracts.passes.RestPass.TheInside as rest_inside
use Rattle.scq_park.specs.contracts.rested.Rested as rested
use Rattle.scq_park.specs.contracts.waker.Waker as waker
use Rattle.scq_park.specs.contracts.waker.Waker.TheInside as waker_inside
use Rattle.scq_park.specs.contracts.waker.Sleeper as sleeper
use Rattle.scq_park.specs.contracts.waker.Sleeper.TheInside as sleeper_inside
use Rattle.scq_park.specs.contracts.stand.Stand as stand
use Rattle.scq_park.specs.contracts.stand.Stand.TheInside as stand_inside
use Rattle.scq_park.specs.contracts.crew.Crew as crew
use Rattle.scq_park.specs.contracts.crew.Crew.TheInside as crew_inside

unit_sent : IsSend unit
unit_sent = search sendable

u32_sent : IsSend u32
u32_sent = search sendable

u64_sent : IsSend u64
u64_sent = search sendable

u64_sync : IsSync u64
u64_sync = search sendable

vec_sent : (T : RattleType) → IsSend T → IsSend (vec.the_row T alloc.the_row ghosts)
vec_sent T sends = heaped.the_send T alloc.the_row ghosts sends heap.the_send crossing.frees

vec_sync : (T : RattleType) → IsSync T → IsSync (vec.the_row T alloc.the_row ghosts)
vec_sync T shares = heaped.the_sync T alloc.the_row ghosts shares heap.the_sync

-- a pass of a parker, and who shares it reads what it has, as who holds it does
token_sent : IsSend (token_type.the_row unit view.the_row)
token_sent = token.the_send unit view.the_row unit_sent

token_sync : IsSync (token_type.the_row unit view.the_row)
token_sync = record { shared = λ d b o ν q. part_keyless (token_type.the_row unit view.the_row) token_sent q d b o }

wake_pass_sent : IsSend wake_pass.the_row
wake_pass_sent = view_send wake_inside.the_row _ _ _ _ (declared_send wake_inside.the_type (token_sent, (u64_sent, tt)))

wake_pass_sync : IsSync wake_pass.the_row
wake_pass_sync = view_sync wake_inside.the_row _ _ _ _ (declared_sync wake_inside.the_type (token_sync, (u64_sync, tt)))

rest_pass_sent : IsSend rest_pass.the_row
rest_pass_sent = view_send rest_inside.the_row _ _ _ _ (declared_send rest_inside.the_type (token_sent, (u64_sent, tt)))

rest_pass_sync : IsSync rest_pass.the_row
rest_pass_sync = view_sync rest_inside.the_row _ _ _ _ (declared_sync rest_inside.the_type (token_sync, (u64_sync, tt)))

rested_sync : IsSync rested.the_row
rested_sync = declared_sync rested.the_type (u64_sync, (u64_sync, tt))

-- what a worker rests on, and what it is woken by
parker_sent : IsSend (parker.the_row view.the_row rule.the_row alloc.the_row rules.ghosts ghosts)
parker_sent = parker_crosses.the_send view.the_row rule.the_row alloc.the_row rules.ghosts ghosts heap.the_send heap.the_sync crossing.frees

unparker_sync : IsSync (unparker.the_row view.the_row rule.the_row alloc.the_row rules.ghosts ghosts)
unparker_sync = unparker_crosses.the_sync view.the_row rule.the_row alloc.the_row rules.ghosts ghosts heap.the_send heap.the_sync crossing.frees

sleeper_sent : IsSend sleeper.the_row
sleeper_sent = view_send sleeper_inside.the_row _ _ _ _ (declared_send sleeper_inside.the_type (parker_sent, (rest_pass_sent, tt)))

waker_sync : IsSync waker.the_row
waker_sync = view_sync waker_inside.the_row _ _ _ _ (declared_sync waker_inside.the_type (unparker_sync, (wake_pass_sync, tt)))

pub stand_sent : IsSend stand.the_row
stand_sent =
    view_send stand_inside.the_row _ _ _ _
    (declared_send stand_inside.the_type (u32_sent, (sleeper_sent, (vec_sent wake_pass.the_row wake_pass_sent, tt))))

pub crew_sync : IsSync crew.the_row
crew_sync =
    view_sync crew_inside.the_row _ _ _ _
    (declared_sync crew_inside.the_type (
      vec_sync waker.the_row waker_sync,
      (vec_sync rest_pass.the_row rest_pass_sync, (vec_sync rested.the_row rested_sync, tt)),
    ))
