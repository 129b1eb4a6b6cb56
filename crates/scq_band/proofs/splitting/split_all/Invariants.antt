use Rattle.std.proofs.Common.{◌≡◌, ◌+◌, ◌≤◌, ◌++◌, All, reverse}
use Rattle.std.specs.Prelude.{vec_len, vec_capacity}
use Rattle.scq_band.specs.Exports.{first_standings, identity_of, IsRoom, sight_below}
use Rattle.scq_band.proofs.splitting.split_all.Given as goal

abbrev pub invariant-loop-room : goal.invariant-loop-room
invariant-loop-room g l =
    (l.rest.table_id ≡ l.words.table_id) × (l.rest.me.0 ≡ sight_below l.key.setup (vec_len l.rooms)) × All (IsRoom l.key.setup) l.rooms.items
    × (vec_len l.seats + vec_len l.rooms ≤ vec_capacity l.seats)
    × (first_standings (identity_of l.words.table_id l.key) (vec_len l.rooms) ++ reverse l.seats.items
    ≡ first_standings (identity_of l.words.table_id l.key) l.key.setup.seats)

abbrev pub decreases-loop-room : goal.decreases-loop-room
decreases-loop-room g l = vec_len l.rooms
