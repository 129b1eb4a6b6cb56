use Rattle.std.proofs.Common.{◌≡◌, ℕ, ap, subst, eq-eqb}
use Rattle.scq_band.specs.Exports.{opening_of, IsReadingInRun, caller_of, standing_of}
use Rattle.scq_band.specs.Known.{Known}
use Rattle.scq_band.proofs.Keeping.{reading_seen, all_told}
use Rattle.scq_band.proofs.band.Band.gate_closed.Goals as goal

pub returns-clause-in_run : goal.returns-clause-in_run
returns-clause-in_run g c found is =
    let contents = g.B.Buffer.contents in
    let shared = c.self.inside.table.shared in
    let key = c.seat.inside.key.value in
    let me = c.seat.inside.token.me in
    let later = c.read_gate.new.token.me in
    let table = c.read_gate.new.token.table_id in
    let read : c.read_gate.result ≡ found = let same = ap (λ (u : Known). u.gate) c.read_gate.ensures.looked in cc in
    subst (λ (n : ℕ). IsReadingInRun c.args.self.now.setup (opening_of contents c.args.self.now.given) c.args.seat.now.retired (caller_of c.args.seat.now)
    (caller_of (standing_of table key later)) n) read
    (reading_seen contents c.seat.inside.token.table_id table shared.table_id key shared.key c.args.self.now c.args.seat.now me later c.read_gate.result
    c.seat.view_is c.requires.seat c.self.view_is c.seat.invariant.alone c.seat.invariant.idle c.read_gate.ensures.looked c.read_gate.ensures.in_run)

pub returns-clause-told : goal.returns-clause-told
returns-clause-told g c all =
    let contents = g.B.Buffer.contents in
    let shared = c.self.inside.table.shared in
    let key = c.seat.inside.key.value in
    let later = c.read_gate.new.token.me in
    let table = c.read_gate.new.token.table_id in
    eq-eqb c.read_gate.result 0
    (all_told c.args.self.now.setup (opening_of contents c.args.self.now.given) c.args.seat.now.retired (caller_of c.args.seat.now)
    (caller_of (standing_of table key later)) c.read_gate.result
    (reading_seen contents c.seat.inside.token.table_id table shared.table_id key shared.key c.args.self.now c.args.seat.now c.seat.inside.token.me later c.read_gate.result
    c.seat.view_is c.requires.seat c.self.view_is c.seat.invariant.alone c.seat.invariant.idle c.read_gate.ensures.looked c.read_gate.ensures.in_run) all)
