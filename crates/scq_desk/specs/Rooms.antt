-- Room that is taken before work begins, and what waits on its end.
use Rattle.std.specs.Prelude.{◌≡◌, ℕ, ◌≤◌, [], vec_len, vec_capacity, All}
use Rattle.scq_desk.specs.declared.clearing.LeftBehind.{LeftBehind}
use Rattle.scq_desk.specs.declared.laying.LaidOut.{LaidOut}
use Rattle.scq_desk.specs.declared.laying.Room.{Room}

-- nothing was left behind yet, and there is room for what so many workers leave
pub record IsClean {L : Type 0} (workers : ℕ) (left : LeftBehind L) : Type 0 where
  pub passes : (left.passes.items ≡ []) × (workers ≤ vec_capacity left.passes)
  pub held : (left.held.items ≡ []) × (workers ≤ vec_capacity left.held)
  pub lists : (left.lists.items ≡ []) × (workers ≤ vec_capacity left.lists)

-- room for so many workers, each with so many files at most
pub record IsRoomFor {L W S : Type 0} (workers files : ℕ) (room : Room L W S) : Type 0 where
  pub lists : vec_len room.files ≡ workers
  pub each : All (λ list.
      (list.items ≡ []) × (vec_len list ≡ 0) × (files ≤ vec_capacity list)) room.files.items
  pub desks : (room.desks.items ≡ []) × (workers ≤ vec_capacity room.desks)
  pub left : IsClean workers room.left

-- the files of so many workers are dealt: the sources' list is empty, with room for all, of which
-- there are at most 64
pub record IsLaid {L S : Type 0} (workers : ℕ) (laid : LaidOut L S) : Type 0 where
  pub few : vec_len laid.was.value ≤ 64
  pub count : laid.count ≡ vec_len laid.was.value
  pub sources : (laid.sources.items ≡ []) × (vec_len laid.sources ≡ 0)
      × (vec_len laid.was.value ≤ vec_capacity laid.sources)
  pub left : IsClean workers laid.left
