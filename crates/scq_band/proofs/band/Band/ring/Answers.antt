use Rattle.std.proofs.Common.{◌<◌, length, ap, subst, arith}
use Rattle.scq_word.specs.declared.setup.Setup.{Setup}
use Rattle.scq_band.specs.Exports.{IsRing, Identity}
use Rattle.scq_band.proofs.RingLists.{ring_read}
use Rattle.scq_band.proofs.band.Band.ring.Goals as goal

pub returns-clause-number : goal.returns-clause-number
returns-clause-number g c =
    let key = c.self.inside.table.shared.key in
    let same = ap (λ (i : Identity g.row.B.Denot). i.setup.rings) c.self.view_is in
    let are = c.self.invariant.each in
    let count = are.count in
    let below = c.requires in
    let low : c.args.number < length c.self.inside.rings.items = omega arith in
    let is = (ring_read key.setup 0 c.self.inside.rings.items c.args.number c.index.result.now are.each low c.index.ensures).0 in
    omega arith

pub returns-clause-ring : goal.returns-clause-ring
returns-clause-ring g c =
    let key = c.self.inside.table.shared.key in
    let setup = ap (λ (i : Identity g.row.B.Denot). i.setup) c.self.view_is in
    let same = ap (λ (i : Identity g.row.B.Denot). i.setup.rings) c.self.view_is in
    let are = c.self.invariant.each in
    let count = are.count in
    let below = c.requires in
    let low : c.args.number < length c.self.inside.rings.items = omega arith in
    subst (λ (k : Setup). IsRing k c.index.result.now) setup
    (ring_read key.setup 0 c.self.inside.rings.items c.args.number c.index.result.now are.each low c.index.ensures).1
