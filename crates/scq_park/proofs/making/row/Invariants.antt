use Rattle.std.proofs.Common.{◌≡◌}
use Rattle.std.specs.Prelude.{vec_len, vec_capacity}
use Rattle.scq_park.specs.Exports.{cut_below}
use Rattle.scq_park.proofs.Rows.{links_below}
use Rattle.scq_park.proofs.making.row.Given as goal

abbrev pub invariant-loop-worker : goal.invariant-loop-worker
invariant-loop-worker l =
    (l.wakers.items ≡ cut_below l.worker l.fn.wakers.items) × (l.links.items ≡ links_below l.worker l.fn.wakers.items)
    × (vec_len l.links ≡ l.worker) × (vec_capacity l.links ≡ vec_capacity l.initial.links)
