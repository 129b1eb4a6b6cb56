use Rattle.std.proofs.Common.{◌+◌, ℕ, false, refl, ap, add-one}
use mathlib.Core.Path.{transport}
use Rattle.scq_core.specs.declared.ended.Ended.TheVariants.{Nothing}
use Rattle.scq_queue.specs.Exports.{PassStanding, CameOff, FoundRingEmpty, GetWasSpent, pass_over, heads_of, was_full}
use Rattle.scq_queue.proofs.PassSteps.{keeps_same, keeps_taken, keeps_spent, in_run_seen}
use Rattle.scq_queue.proofs.queue.Queue.take.Goals as goal

pub invariant_of-pass : goal.invariant_of-pass
invariant_of-pass g c =
    let found = c.in-Err-Empty.ensures.empty c.in-Err-Empty.head (cc) (heads_of c.pass.inside.fulls.value) in
    let none = ap (λ (r : ℕ). was_full (Nothing r)) (add-one c.args.topic) in
    keeps_same c.pass.invariant c.in-Err-Empty.ensures.stays (Nothing (c.args.topic + 1)) none
    (ap (λ (p : PassStanding g.row.B.Denot). p.calls) found.found.pass) found.lists

pub returns-in-Err-Empty-clause-empty : goal.returns-in-Err-Empty-clause-empty
returns-in-Err-Empty-clause-empty g c head is =
    let heads = heads_of c.pass.inside.fulls.value in
    let later = pass_over c.get.new.seat heads in
    transport (λ i. FoundRingEmpty g.B.Buffer.contents (c.self.view_is i) (add-one c.args.topic i) head (c.pass.view_is i) later)
    (c.in-Err-Empty.ensures.empty head (cc) heads)

pub returns-in-Err-Empty-clause-run : goal.returns-in-Err-Empty-clause-run
returns-in-Err-Empty-clause-run g c = in_run_seen _ c.self.view_is c.pass.view_is c.in-Err-Empty.ensures.run

pub invariant_of-pass-in-Err-Spent : goal.invariant_of-pass-in-Err-Spent
invariant_of-pass-in-Err-Spent g c =
    let e = c.in-Err-Spent.ensures in
    keeps_spent c.pass.invariant e.stays (c.args.topic + 1) false (e.spent c.in-Err-Spent.ticket (cc) _) refl e.kept

pub returns-in-Err-Spent-clause-spent : goal.returns-in-Err-Spent-clause-spent
returns-in-Err-Spent-clause-spent g c ticket is =
    let heads = heads_of c.pass.inside.fulls.value in
    transport (λ i. GetWasSpent (c.self.view_is i) (add-one c.args.topic i) ticket (c.pass.view_is i) (pass_over c.get.new.seat heads))
    (c.in-Err-Spent.ensures.spent ticket (cc) heads)

pub returns-in-Err-Spent-clause-run : goal.returns-in-Err-Spent-clause-run
returns-in-Err-Spent-clause-run g c = in_run_seen _ c.self.view_is c.pass.view_is c.in-Err-Spent.ensures.run

pub invariant_of-pass-2 : goal.invariant_of-pass-2
invariant_of-pass-2 g c = keeps_taken c.pass.invariant c.in-Ok.ensures.stays c.args.topic (c.in-Ok.ensures.got _) c.count.ensures

pub returns-clause-took : goal.returns-clause-took
returns-clause-took g c =
    let later = pass_over c.get.new.seat (heads_of c.pass.inside.fulls.value) in
    let got = c.in-Ok.got in
    transport (λ i.
    CameOff g.B.Buffer.contents g.B.Buffer.IsSameBuffer (c.self.view_is i) (add-one c.args.topic i) got.0 (c.pass.view_is i) later got.1)
    (c.in-Ok.ensures.got (heads_of c.pass.inside.fulls.value))

pub returns-clause-run : goal.returns-clause-run
returns-clause-run g c = in_run_seen _ c.self.view_is c.pass.view_is c.in-Ok.ensures.run
