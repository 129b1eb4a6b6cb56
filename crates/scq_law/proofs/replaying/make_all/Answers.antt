use Rattle.std.proofs.Common.{◌≡◌, ℕ, List, rules, ap, arith, subst, Err}
use Rattle.std.proofs.lemmas.List.{take_all}
use Rattle.scq_core.specs.declared.step.Step.{Step}
use Rattle.scq_law.specs.Exports.{IsRecording, StopsAt}
use Rattle.scq_law.proofs.Replays.StepsRecorded.{run_room, one_more, stops}
use Rattle.scq_law.proofs.Replays.RunLaws.{run_reaches}
use Rattle.scq_law.proofs.replaying.make_all.Goals as goal

pub loop-at-init : goal.loop-at-init
loop-at-init c = λ opening first. first

pub make-requires-clause-room : goal.make-requires-clause-room
make-requires-clause-room c =
    let first = c.requires.first in
    run_room c.args.setup.now first.0 c.args.steps.now c.loop-at.at c.loop-at.recording c.loop-at-test.true (search rules) (c.loop-at.invariant first.0 first.1)

pub make-requires-clause-shown : goal.make-requires-clause-shown
make-requires-clause-shown c =
    let first = c.requires.first in
    let is = c.loop-at.invariant first.0 first.1 in
    (is.recorded, is.shows, run_reaches c.args.setup.now first.0 _ is.recorded is.run)

pub returns-in-Err-NotEnabled-clause-not_enabled : goal.returns-in-Err-NotEnabled-clause-not_enabled
returns-in-Err-NotEnabled-clause-not_enabled c =
    λ opening at first e.
    let setup = c.args.setup.now in
    let steps = c.args.steps.now in
    let is = c.loop-at.invariant opening first in
    let same : c.loop-at.at ≡ at = cc in
    let none = c.in-Err-NotEnabled.ensures.not_enabled is.recorded is.shows (ap (λ fault. Err fault) c.in-Err-NotEnabled.field-0-is) in
    subst (λ (i : ℕ). StopsAt setup opening steps i) same
    (stops setup opening steps c.loop-at.at c.index-steps-at.result c.loop-at.recording c.loop-at-test.true c.index-steps-at.is is none)

pub loop-at-preserved : goal.loop-at-preserved
loop-at-preserved c =
    λ opening first.
    let is = c.loop-at.invariant opening first in
    one_more c.args.setup.now opening c.args.steps.now c.loop-at.at c.index-steps-at.result c.loop-at.recording c.make.new.self c.loop-at-test.true
    c.index-steps-at.is c.requires.seats is (c.in-Ok.ensures.ok is.recorded is.shows)

pub returns-clause-made : goal.returns-clause-made
returns-clause-made c =
    λ opening first.
    let steps = c.args.steps.now in
    subst (λ (made : List (ℕ × Step)). IsRecording c.args.setup.now opening made c.loop-at.recording)
    (take_all c.loop-at.at steps (omega (arith, c.loop-at-test.false))) (c.loop-at.invariant opening first)
