-- A band may be shared by threads where its buffers may be sent and shared; and a seat, whose token only its holder steps with.
use denote.RattleType.{RattleType}
use denote.Enum.Enum.{Enum}
use denote.Enum.Declared.{shape}
use denote.Builtin.{bool, u64, usize}
use denote.Param.Send.{IsSend, IsSync, sendable, recorded_sync, enum_sync, view_sync, part_keyless}
use denote.Param.SendFields.{declared_sync}
use Rattle.scq_word.specs.declared.buffer.Buffer.{Ghosts}
use Rattle.scq_word.specs.contracts.setup.Setup as setup
use Rattle.std.proofs.Crossing as crossing
use Rattle.std.proofs.vec.Vec.TheSendSync as heaped
use Rattle.std.proofs.alloc.Global.TheSendSync as heap
use Rattle.std.specs.contracts.vec.Vec as vec
use Rattle.std.specs.contracts.alloc.Global as alloc
use Rattle.std.specs.contracts.impls.GlobalAllocator.TheImpl.{ghosts}
use Rattle.std.specs.contracts.snapshot.Snapshot as snapshot
use Rattle.std.specs.contracts.option.Option as option
use Rattle.atomic_table.proofs.shared.Seat.TheSendSync as token
use Rattle.atomic_table.proofs.shared.Shared.TheSendSync as words
use Rattle.atomic_table.proofs.send_lease.SendLease.TheSendSync as lease
use Rattle.atomic_table.specs.contracts.shared.Seat as token_type
use Rattle.atomic_table.specs.contracts.owned.Table as table
use Rattle.scq_band.specs.contracts.rule.Key as key
use Rattle.scq_band.specs.contracts.rule.Rule as rule
use Rattle.scq_band.specs.contracts.rule.RuleTableRuleSlotViewKey.TheImpl as rules
use Rattle.scq_band.specs.contracts.slot.Slot as slot
use Rattle.scq_band.specs.contracts.view.View as view
use Rattle.scq_band.proofs.SeatsSent.{slot_sent}
use Rattle.scq_band.specs.contracts.numbers.Numbers as numbers
use Rattle.scq_band.specs.contracts.ring.Ring as ring
use Rattle.scq_band.specs.contracts.seat.Seat as seat
use Rattle.scq_band.specs.contracts.seat.Seat.TheInside as seat_inside
use Rattle.scq_band.specs.contracts.band.Band as band
use Rattle.scq_band.specs.contracts.band.Band.TheInside as band_inside

bool_sync : IsSync bool
bool_sync = search sendable

u64_sync : IsSync u64
u64_sync = search sendable

usize_sync : IsSync usize
usize_sync = search sendable

pub vec_sync : (T : RattleType) → IsSync T → IsSync (vec.the_row T alloc.the_row ghosts)
vec_sync T shares = heaped.the_sync T alloc.the_row ghosts shares heap.the_sync

option_sync : (B : RattleType) → IsSync B → IsSync (option.the_row B)
option_sync B shares =
    let T = option.the_type B in
    recorded_sync (Enum (shape T)) T.D T.to T.to_one (enum_sync (shape T) (tt, ((shares, tt), tt)))

numbers_sync : IsSync numbers.the_row
numbers_sync = declared_sync numbers.the_type (u64_sync, (u64_sync, (u64_sync, tt)))

snapshot_sync : (Y : RattleType) → IsSync (snapshot.the_row Y)
snapshot_sync Y = search (sendable, crossing.crosses)

-- who shares a seat reads what it has, as who holds it does
token_sync : (S V : RattleType) → IsSend S → IsSync (token_type.the_row S V)
token_sync S V sends = record { shared = λ d b o ν q. part_keyless (token_type.the_row S V) (token.the_send S V sends) q d b o }

pub seat_sync : (B P : RattleType) (buffer : Ghosts B.Denot P.Denot) → IsSend P → IsSync (seat.the_row B P buffer)
seat_sync B P buffer sends =
    view_sync (seat_inside.the_row B P buffer) _ _ _ _
    (declared_sync (seat_inside.the_type B P buffer) (
      token_sync (slot.the_row B P buffer) view.the_row (slot_sent B P buffer sends),
      (
        snapshot_sync (key.the_row B),
        (
          vec_sync bool bool_sync,
          (vec_sync numbers.the_row numbers_sync, (option_sync u64 u64_sync, tt)),
        ),
      ),
    ))

setup_sync : IsSync setup.the_row
setup_sync = search (sendable, crossing.crosses) depth 20

ring_sync : IsSync ring.the_row
ring_sync = search (sendable, crossing.crosses) depth 20

abbrev table_row : (B P : RattleType) → Ghosts B.Denot P.Denot → RattleType
table_row B P buffer =
    table.the_row (slot.the_row B P buffer) view.the_row (key.the_row B) rule.the_row alloc.the_row (rules.ghosts B P buffer rules.no_dict) ghosts

table_sync : (B P : RattleType) (buffer : Ghosts B.Denot P.Denot) → IsSend P → IsSync (table_row B P buffer)
table_sync B P buffer sends =
    declared_sync (table.the_type (slot.the_row B P buffer) view.the_row (key.the_row B) rule.the_row alloc.the_row (rules.ghosts B P buffer rules.no_dict) ghosts) (
      words.the_sync (slot.the_row B P buffer) view.the_row (key.the_row B) rule.the_row (rules.ghosts B P buffer rules.no_dict) (slot_sent B P buffer sends),
      (
        usize_sync,
        (
          usize_sync,
          (
            lease.the_sync u64 alloc.the_row ghosts heap.the_send crossing.frees,
            (lease.the_sync (slot.the_row B P buffer) alloc.the_row ghosts heap.the_send crossing.frees, (heap.the_sync, tt)),
          ),
        ),
      ),
    )

pub band_sync : (B P : RattleType) (buffer : Ghosts B.Denot P.Denot) → IsSend P → IsSync B → IsSync (band.the_row B P buffer)
band_sync B P buffer sends shares =
    view_sync (band_inside.the_row B P buffer) _ _ _ _
    (declared_sync (band_inside.the_type B P buffer) (
      table_sync B P buffer sends,
      (setup_sync, (vec_sync ring.the_row ring_sync, (vec_sync B shares, (vec_sync u64 u64_sync, tt)))),
    ))
