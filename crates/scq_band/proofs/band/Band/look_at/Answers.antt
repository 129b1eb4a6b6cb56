use Rattle.scq_band.proofs.Keeping.{found_seen}
use Rattle.scq_band.proofs.band.Band.look_at.Goals as goal

pub returns-clause-found : goal.returns-clause-found
returns-clause-found g c l low is =
    let shared = c.self.inside.table.shared in
    found_seen g.B.Buffer.contents c.seat.inside.token.table_id c.find.new.token.table_id shared.table_id c.seat.inside.key.value shared.key c.args.self.now
    c.args.seat.now c.seat.inside.token.me c.find.new.token.me c.args.word c.find.result c.seat.view_is c.requires.seat c.self.view_is
    c.seat.invariant.alone c.seat.invariant.idle c.find.ensures.known c.find.ensures.found l low is
