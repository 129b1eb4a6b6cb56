use Rattle.std.proofs.Common.{true, refl, ap}
use mathlib.Core.Path.{transport}
use Rattle.scq_core.specs.declared.ended.Ended.TheVariants.{Done}
use Rattle.scq_queue.specs.Exports.{PassStanding, PutWasSpent, pass_over, heads_of}
use Rattle.scq_queue.proofs.PassSteps.{keeps_same, keeps_spent, in_run_seen, given_seen}
use Rattle.scq_queue.proofs.queue.Queue.give_back.Goals as goal

pub invariant_of-pass : goal.invariant_of-pass
invariant_of-pass g c = keeps_spent c.pass.invariant c.in-Err.ensures.stays 0 true (c.in-Err.ensures.spent _) refl c.in-Err.ensures.kept

pub returns-in-Err-clause-spent : goal.returns-in-Err-clause-spent
returns-in-Err-clause-spent g c =
    let later = pass_over c.put.new.seat (heads_of c.pass.inside.fulls.value) in
    transport (λ i. PutWasSpent (c.self.view_is i) 0 c.in-Err.refused.1.ticket (c.pass.view_is i) later)
    (c.in-Err.ensures.spent (heads_of c.pass.inside.fulls.value))

pub returns-in-Err-clause-run : goal.returns-in-Err-clause-run
returns-in-Err-clause-run g c = in_run_seen _ c.self.view_is c.pass.view_is c.in-Err.ensures.run

pub invariant_of-pass-2 : goal.invariant_of-pass-2
invariant_of-pass-2 g c =
    let put = c.in-Ok.ensures.put (heads_of c.pass.inside.fulls.value) in
    keeps_same c.pass.invariant c.in-Ok.ensures.stays (Done 0 c.in-Ok.place (g.B.Buffer.contents c.args.held.buffer)) refl
    (ap (λ (p : PassStanding g.row.B.Denot). p.calls) put.pass) put.lists

pub returns-clause-given : goal.returns-clause-given
returns-clause-given g c = given_seen c.self.view_is c.pass.view_is c.requires.pass (c.in-Ok.ensures.put _)

pub returns-clause-run : goal.returns-clause-run
returns-clause-run g c = in_run_seen _ c.self.view_is c.pass.view_is c.in-Ok.ensures.run
