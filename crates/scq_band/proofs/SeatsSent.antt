-- A seat may be sent to another thread where its buffers may.
use denote.RattleType.{RattleType}
use denote.Enum.Enum.{Enum}
use denote.Enum.Declared.{shape}
use denote.Param.Send.{IsSend, sendable, recorded_send, enum_send, view_send}
use denote.Param.SendFields.{as_row_send, declared_send}
use denote.Struct.Field.{row_field}
use Rattle.scq_word.specs.declared.buffer.Buffer.{Ghosts}
use denote.Builtin.{bool, u32, u64}
use Rattle.std.proofs.Crossing as crossing
use Rattle.std.proofs.vec.Vec.TheSendSync as heaped
use Rattle.std.specs.contracts.vec.Vec as vec
use Rattle.std.specs.contracts.alloc.Global as alloc
use Rattle.std.specs.contracts.impls.GlobalAllocator.TheImpl.{ghosts}
use Rattle.scq_band.specs.contracts.rule.Key as key
use Rattle.std.proofs.alloc.Global.TheSendSync as heap
use Rattle.std.specs.contracts.snapshot.Snapshot as snapshot
use Rattle.std.specs.contracts.option.Option as option
use Rattle.atomic_table.proofs.shared.Seat.TheSendSync as token
use Rattle.scq_band.specs.contracts.slot.Slot as slot
use Rattle.scq_band.specs.contracts.slot.Slot.TheInside as slot_inside
use Rattle.scq_band.specs.contracts.numbers.Numbers as numbers
use Rattle.scq_band.specs.contracts.seat.Seat as seat
use Rattle.scq_band.specs.contracts.seat.Seat.TheInside as inside
use Rattle.scq_band.specs.contracts.view.View as view

-- a snapshot owns nothing
pub snapshot_sent : (Y : RattleType) → IsSend (snapshot.the_row Y)
snapshot_sent Y = record { owned = λ d vs. ((λ vss. (tt, ((λ uss. (tt, tt)), tt))), tt); leaving = λ k f vs. tt }

-- an option may, where its value may
pub option_sent : (B : RattleType) → IsSend B → IsSend (option.the_row B)
option_sent B sends =
    let T = option.the_type B in
    recorded_send (Enum (shape T)) T.D T.to T.to_one (enum_send (shape T) (tt, ((sends, tt), tt)))

pub slot_sent : (B P : RattleType) (buffer : Ghosts B.Denot P.Denot) → IsSend P → IsSend (slot.the_row B P buffer)
slot_sent B P buffer sends = view_send (slot_inside.the_row B P buffer) _ _ _ _ (declared_send (slot_inside.the_type B P buffer) (as_row_send (row_field P) sends, tt))

-- a number may
pub u32_sent : IsSend u32
u32_sent = search sendable

bool_sent : IsSend bool
bool_sent = search sendable

pub u64_sent : IsSend u64
u64_sent = search sendable

numbers_sent : IsSend numbers.the_row
numbers_sent = declared_send numbers.the_type (u64_sent, (u64_sent, (u64_sent, tt)))

-- a list on the heap may, where its elements may
pub vec_sent : (T : RattleType) → IsSend T → IsSend (vec.the_row T alloc.the_row ghosts)
vec_sent T sends = heaped.the_send T alloc.the_row ghosts sends heap.the_send crossing.frees

-- what a seat keeps, and the seat
inside_sent : (B P : RattleType) (buffer : Ghosts B.Denot P.Denot) → IsSend P → IsSend (inside.the_row B P buffer)
inside_sent B P buffer sends =
    declared_send (inside.the_type B P buffer) (
      token.the_send (slot.the_row B P buffer) view.the_row (slot_sent B P buffer sends),
      (
        snapshot_sent (key.the_row B),
        (
          vec_sent bool bool_sent,
          (vec_sent numbers.the_row numbers_sent, (option_sent u64 u64_sent, tt)),
        ),
      ),
    )

pub seat_sent : (B P : RattleType) (buffer : Ghosts B.Denot P.Denot) → IsSend P → IsSend (seat.the_row B P buffer)
seat_sent B P buffer sends = view_send (inside.the_row B P buffer) _ _ _ _ (inside_sent B P buffer sends)
