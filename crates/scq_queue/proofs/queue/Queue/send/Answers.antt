use Rattle.std.proofs.Common.{◌+◌, true, refl, add-one}
use mathlib.Core.Path.{transport}
use Rattle.scq_queue.specs.Exports.{WasPutOn, PutWasSpent, pass_over, heads_of}
use Rattle.scq_queue.proofs.PassSteps.{keeps_sent, keeps_spent, in_run_seen}
use Rattle.scq_queue.proofs.queue.Queue.send.Goals as goal

pub invariant_of-pass : goal.invariant_of-pass
invariant_of-pass g c = keeps_sent c.pass.invariant c.in-Ok.ensures.stays c.args.topic (c.in-Ok.ensures.put _) c.count.ensures

pub returns-in-Ok-clause-sent : goal.returns-in-Ok-clause-sent
returns-in-Ok-clause-sent g c =
    let later = pass_over c.put.new.seat (heads_of c.pass.inside.fulls.value) in
    let w = g.B.Buffer.contents c.args.held.buffer in
    transport (λ i. WasPutOn (c.self.view_is i) (add-one c.args.topic i) c.in-Ok.place c.args.held.index w (c.pass.view_is i) later)
    (c.in-Ok.ensures.put (heads_of c.pass.inside.fulls.value))

pub returns-in-Ok-clause-run : goal.returns-in-Ok-clause-run
returns-in-Ok-clause-run g c = in_run_seen _ c.self.view_is c.pass.view_is c.in-Ok.ensures.run

pub invariant_of-pass-in-Err : goal.invariant_of-pass-in-Err
invariant_of-pass-in-Err g c =
    keeps_spent c.pass.invariant c.in-Err.ensures.stays (c.args.topic + 1) true (c.in-Err.ensures.spent _) refl c.in-Err.ensures.kept

pub returns-in-Err-clause-spent : goal.returns-in-Err-clause-spent
returns-in-Err-clause-spent g c =
    let later = pass_over c.put.new.seat (heads_of c.pass.inside.fulls.value) in
    transport (λ i. PutWasSpent (c.self.view_is i) (add-one c.args.topic i) c.in-Err.refused.1.ticket (c.pass.view_is i) later)
    (c.in-Err.ensures.spent (heads_of c.pass.inside.fulls.value))

pub returns-in-Err-clause-run : goal.returns-in-Err-clause-run
returns-in-Err-clause-run g c = in_run_seen _ c.self.view_is c.pass.view_is c.in-Err.ensures.run
