use Rattle.std.proofs.Common.{◌≡◌, false, [], ◌∷◌, ◌++◌, refl, sym, ap}
use mathlib.Core.Path.{transport}
use Rattle.scq_core.specs.declared.ended.Ended.TheVariants.{Got}
use Rattle.scq_queue.specs.Exports.{PassStanding, FoundNoneFree, GetWasSpent, pass_over, heads_of}
use Rattle.scq_queue.proofs.PassSteps.{keeps_same, keeps_full, keeps_spent, in_run_seen, lent_seen}
use Rattle.scq_queue.proofs.queue.Queue.lend.Goals as goal

pub invariant_of-pass : goal.invariant_of-pass
invariant_of-pass g c =
    let came = c.in-Ok.ensures.got (heads_of c.pass.inside.fulls.value) in
    keeps_same c.pass.invariant c.in-Ok.ensures.stays (Got 0 c.in-Ok.field-0-0 (g.B.Buffer.contents c.in-Ok.held.buffer)) refl
    (ap (λ (p : PassStanding g.row.B.Denot). p.calls) came.got.pass) came.lists

pub returns-in-Ok-clause-lent : goal.returns-in-Ok-clause-lent
returns-in-Ok-clause-lent g c = lent_seen c.self.view_is c.pass.view_is c.requires.pass (c.in-Ok.ensures.got _)

pub returns-in-Ok-clause-run : goal.returns-in-Ok-clause-run
returns-in-Ok-clause-run g c = in_run_seen _ c.self.view_is c.pass.view_is c.in-Ok.ensures.run

pub invariant_of-pass-in-Empty : goal.invariant_of-pass-in-Empty
invariant_of-pass-in-Empty g c =
    keeps_full c.pass.invariant c.in-Err.ensures.stays c.once_more.ensures (c.in-Err.ensures.empty c.in-Empty.head (cc) _) c.count.ensures

pub returns-in-Empty-clause-full : goal.returns-in-Empty-clause-full
returns-in-Empty-clause-full g c head is =
    let same : c.in-Empty.head ≡ head = cc in
    let grown = sym c.once_more.ensures in
    transport (λ i. FoundNoneFree g.B.Buffer.contents (c.self.view_is i) (same i) (c.pass.view_is i) (pass_over c.get.new.seat (grown i)))
    (c.in-Err.ensures.empty c.in-Empty.head (cc) (heads_of c.pass.inside.fulls.value ++ c.in-Empty.head ∷ []))

pub returns-in-Empty-clause-run : goal.returns-in-Empty-clause-run
returns-in-Empty-clause-run g c = in_run_seen _ c.self.view_is c.pass.view_is c.in-Err.ensures.run

pub invariant_of-pass-in-Spent : goal.invariant_of-pass-in-Spent
invariant_of-pass-in-Spent g c =
    keeps_spent c.pass.invariant c.in-Err.ensures.stays 0 false (c.in-Err.ensures.spent c.in-Spent.ticket (cc) _) refl c.in-Err.ensures.kept

pub returns-in-Spent-clause-spent : goal.returns-in-Spent-clause-spent
returns-in-Spent-clause-spent g c ticket is =
    let heads = heads_of c.pass.inside.fulls.value in
    transport (λ i. GetWasSpent (c.self.view_is i) 0 ticket (c.pass.view_is i) (pass_over c.get.new.seat heads))
    (c.in-Err.ensures.spent ticket (cc) heads)

pub returns-in-Spent-clause-run : goal.returns-in-Spent-clause-run
returns-in-Spent-clause-run g c = in_run_seen _ c.self.view_is c.pass.view_is c.in-Err.ensures.run
