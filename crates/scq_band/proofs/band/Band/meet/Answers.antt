use Rattle.std.proofs.Common.{sym, ◌∙◌, ap, subst}
use Rattle.scq_band.specs.Exports.{opening_of, Seen, both_seen, IsMomentInRun, caller_of}
use Rattle.scq_band.specs.Standing.{Standing}
use Rattle.scq_band.proofs.Meeting.{met, met_comparable}
use Rattle.scq_band.proofs.band.Band.meet.Goals as goal

pub returns-clause-met : goal.returns-clause-met
returns-clause-met g c =
    let one = c.args.one.now in
    let other = c.args.other.now in
    let setup = c.args.self.now.setup in
    let opening = opening_of g.B.Buffer.contents c.args.self.now.given in
    let heeding = c.heed.new.seat in
    let last = c.mark-both.new.seat in
    let looked : IsMomentInRun setup opening (caller_of heeding) (caller_of last) =
    subst (λ (s : Standing g.row.B.Denot). IsMomentInRun setup opening (caller_of heeding) (caller_of s)) (sym c.mark-both.ensures.same) c.look.ensures.moment in
    met setup opening (caller_of one) (caller_of other) (caller_of heeding) (caller_of last) (caller_of c.heed-2.new.seat)
    (ap (λ (s : Standing g.row.B.Denot). s.seen) c.heed.ensures ∙ ap (λ (s : Seen). both_seen one.seen s) c.mark-theirs.ensures.mark.1)
    (ap (λ (s : Standing g.row.B.Denot). s.number) c.heed.ensures)
    looked
    (ap (λ (s : Standing g.row.B.Denot). s.calls) c.mark-both.ensures.same ∙ ap (λ (s : Standing g.row.B.Denot). s.calls) c.look.ensures.same
    ∙ ap (λ (s : Standing g.row.B.Denot). s.calls) c.heed.ensures)
    (ap (λ (s : Standing g.row.B.Denot). s.seen) c.heed-2.ensures
    ∙ ap (λ (s : Seen). both_seen c.mark-theirs.new.seat.seen s)
    (c.mark-both.ensures.mark.1 ∙ ap (λ (s : Standing g.row.B.Denot). s.seen) (sym c.mark-both.ensures.same))
    ∙ ap (λ (s : Standing g.row.B.Denot). both_seen s.seen last.seen) c.mark-theirs.ensures.same)

pub returns-clause-comparable : goal.returns-clause-comparable
returns-clause-comparable g c = met_comparable _ _ _ _ _ _ (returns-clause-met g c)
