use Rattle.std.proofs.Common.{◌≡◌, ℕ, rules, arith, ap, sym, ◌∙◌, subst, Err}
use Rattle.scq_word.specs.declared.setup.Setup.{Setup}
use Rattle.scq_law.specs.Exports.{StopsAt, run_of}
use Rattle.scq_law.proofs.Order.MarkedRuns.{marking_first, marking_stops, marking_next, marking_last}
use Rattle.scq_law.proofs.ordering.marked.Goals as goal

pub loop-at-init : goal.loop-at-init
loop-at-init c =
    marking_first (run_of c.args.setup c.args.opening.items c.args.steps.now) c.args.ring c.in_ok-marking.marking
    (sym c.args.opening.ok.0 ∙ c.requires.opening) c.in_ok-marking.ensures.setup c.in_ok-marking.ensures.machine c.in_ok-marking.ensures.marks

pub returns-in-Err-NotEnabled-clause-not_enabled : goal.returns-in-Err-NotEnabled-clause-not_enabled
returns-in-Err-NotEnabled-clause-not_enabled c =
    λ at is.
    let same : c.loop-at.at ≡ at = cc in
    let none = c.in-Err-NotEnabled.ensures.not_enabled (ap (λ fault. Err fault) c.in-Err-NotEnabled.field-0-is) in
    subst (λ (i : ℕ). StopsAt c.args.setup c.args.opening.items c.args.steps.now i) same
    (marking_stops (run_of c.args.setup c.args.opening.items c.args.steps.now) c.args.ring c.loop-at.at c.index-steps-at.result.0 c.index-steps-at.result.1
    c.loop-at.marking c.loop-at.invariant c.loop-at-test.true c.index-steps-at.is none)

pub loop-at-preserved : goal.loop-at-preserved
loop-at-preserved c =
    marking_next (run_of c.args.setup c.args.opening.items c.args.steps.now) c.args.ring c.loop-at.at c.index-steps-at.result.0 c.index-steps-at.result.1
    c.loop-at.marking c.loop-at.invariant c.loop-at-test.true c.index-steps-at.is c.make.new.self c.requires.seats c.in-Ok.ensures.step c.in-Ok.ensures.setup
    c.in-Ok.ensures.marks

pub returns-clause-run : goal.returns-clause-run
returns-clause-run c =
    marking_last (run_of c.args.setup c.args.opening.items c.args.steps.now) c.args.ring c.loop-at.at c.loop-at.marking (search rules) (search rules)
    c.loop-at.invariant

pub make-requires-clause-ring : goal.make-requires-clause-ring
make-requires-clause-ring c =
    let is = c.loop-at.invariant in
    omega (arith, is.ring, ap (λ (setup : Setup). setup.rings) is.setup, c.requires.ring)

pub make-requires-clause-calls : goal.make-requires-clause-calls
make-requires-clause-calls c =
    let is = c.loop-at.invariant in
    omega (arith, is.size, c.loop-at.marking.marks.calls.ok, ap (λ (setup : Setup). setup.seats) is.setup)
