use Rattle.std.proofs.Common.{◌≡◌, ℕ, ◌+◌, map}
use Rattle.std.specs.Prelude.{IsTrue}
use Rattle.scq_law.specs.Exports.{times}
use Rattle.scq_band.specs.Exports.{known_me, indices_of, times_lifted, WentHome, MayLeave, AreHoles}
use Rattle.scq_band.proofs.GoingHome.{AreLeft}
use Rattle.scq_band.proofs.closing.bring_all.Given as goal

abbrev pub invariant-loop-index : goal.invariant-loop-index
invariant-loop-index g l =
    (l.token.table_id ≡ l.fn.token.table_id) × (l.token.id ≡ l.fn.token.id)
    × MayLeave g.B.Buffer.IsSameBuffer l.words.key.given.value.items (known_me l.token.me) (map g.T.Lifted.pair l.out.items)
    × WentHome g.B.Buffer.contents (known_me l.fn.token.me) (map g.T.Lifted.pair l.fn.out.items) (known_me l.token.me) (map g.T.Lifted.pair l.out.items)
    × ((i : ℕ) → times i (indices_of (map g.T.Lifted.pair l.out.items)) + times_lifted i l.fn.token.me.1
    ≡ times i (indices_of (map g.T.Lifted.pair l.fn.out.items)) + times_lifted i l.token.me.1)
    × (l.token.me.0.seen ≡ l.fn.token.me.0.seen)
    × (IsTrue g.L.Looks.all → AreHoles l.token.me.1)
    × AreLeft l.held.items l.index l.token.me.1
