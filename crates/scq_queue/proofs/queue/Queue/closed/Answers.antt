use Rattle.std.proofs.Common.{List, subst, sym}
use Rattle.scq_band.specs.Exports.{opening_of, Caller, IsReadingInRun, AllWereSeenRetired, Identity}
use Rattle.scq_band.specs.Standing as band
use Rattle.scq_queue.specs.Exports.{PassStanding, caller_of}
use Rattle.scq_queue.proofs.queue.Queue.closed.Goals as goal

pub returns-clause-in_run : goal.returns-clause-in_run
returns-clause-in_run g c found is =
    let opening = λ (given : List g.row.B.Denot). opening_of g.B.Buffer.contents given in
    let of = c.self.inside.band in
    let later : Caller = band.caller_of c.gate_closed-closed.new.seat in
    subst (λ (q : Identity g.row.B.Denot). IsReadingInRun q.setup (opening q.given) c.args.pass.now.retired
    (caller_of c.args.pass.now) later found) c.self.view_is
    (subst (λ (p : PassStanding g.row.B.Denot). IsReadingInRun of.setup (opening of.given) p.retired (caller_of p) later found) c.pass.view_is
    (c.gate_closed-closed.ensures.in_run found is))

pub returns-clause-told : goal.returns-clause-told
returns-clause-told g c all =
    c.gate_closed-closed.ensures.told
    (subst (λ (q : Identity g.row.B.Denot). AllWereSeenRetired q.setup c.pass.inside.seat.seen) (sym c.self.view_is)
    (subst (λ (p : PassStanding g.row.B.Denot). AllWereSeenRetired c.args.self.now.setup p.seen) (sym c.pass.view_is) all))
