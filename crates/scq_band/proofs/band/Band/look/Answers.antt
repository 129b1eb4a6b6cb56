use Rattle.scq_band.proofs.Keeping.{moment_seen}
use Rattle.scq_band.proofs.band.Band.look.Goals as goal

pub returns-clause-moment : goal.returns-clause-moment
returns-clause-moment g c =
    let shared = c.self.inside.table.shared in
    moment_seen g.B.Buffer.contents c.seat.inside.token.table_id c.find-not_retired.new.token.table_id shared.table_id c.seat.inside.key.value shared.key c.args.self.now
    c.args.seat.now c.seat.inside.token.me c.find-not_retired.new.token.me c.seat.view_is c.requires.seat c.self.view_is c.seat.invariant.alone c.seat.invariant.idle
    c.find-not_retired.ensures.known c.find-not_retired.ensures.found.shown
