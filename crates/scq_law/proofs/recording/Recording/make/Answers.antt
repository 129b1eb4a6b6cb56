-- The ring of the act is that of the seat's phase, which every reachable state has in range; and what the turn adds is recorded.
use Rattle.std.proofs.Common.{ℕ, ◌∙◌, sym, subst}
use Rattle.scq_core.specs.Machine.{Machine}
use Rattle.scq_core.specs.Exports.{IsReachable}
use Rattle.scq_law.specs.Exports.{IsOnRing}
use Rattle.scq_law.proofs.Replays.TurnRecording.{acts_within, made}
use Rattle.scq_law.proofs.recording.Recording.make.Goals as goal

pub add_turn-requires-clause-names : goal.add_turn-requires-clause-names
add_turn-requires-clause-names c =
    let within = acts_within c.args.setup.now c.args.seat c.args.step.now c.requires.shown.0 c.args.self.now c.in_ok-act.act c.phase.result.now
    c.requires.shown.1 c.requires.shown.2 c.phase.ensures c.in_ok-act.ensures in
    subst (λ (n : ℕ). IsOnRing n c.in_ok-act.act) (sym (c.args.self.now.names.ok.0 ∙ c.requires.shown.1.rings)) within

pub add_turn-requires-clause-resets : goal.add_turn-requires-clause-resets
add_turn-requires-clause-resets c =
    let within = acts_within c.args.setup.now c.args.seat c.args.step.now c.requires.shown.0 c.args.self.now c.in_ok-act.act c.phase.result.now
    c.requires.shown.1 c.requires.shown.2 c.phase.ensures c.in_ok-act.ensures in
    subst (λ (n : ℕ). IsOnRing n c.in_ok-act.act) (sym (c.args.self.now.resets.ok.0 ∙ c.requires.shown.1.resets.size)) within

pub add_turn-requires-clause-fails : goal.add_turn-requires-clause-fails
add_turn-requires-clause-fails c =
    let within = acts_within c.args.setup.now c.args.seat c.args.step.now c.requires.shown.0 c.args.self.now c.in_ok-act.act c.phase.result.now
    c.requires.shown.1 c.requires.shown.2 c.phase.ensures c.in_ok-act.ensures in
    subst (λ (n : ℕ). IsOnRing n c.in_ok-act.act) (sym (c.args.self.now.fails.ok.0 ∙ c.requires.shown.1.fails.size)) within

pub returns-clause-ok : goal.returns-clause-ok
returns-clause-ok c =
    λ recorded shows.
    made c.args.setup.now c.args.seat c.args.step.now recorded c.args.self.now c.apply.new.self c.add_turn.new.self c.in_ok-act.act c.phase.result.now
    c.requires.seat shows (subst (λ (m : Machine). IsReachable c.args.setup.now m) (sym c.requires.shown.1.state ∙ shows.state) c.requires.shown.2)
    c.in_ok-apply.ensures.setup c.in_ok-apply.ensures.ok c.phase.ensures c.in_ok-act.ensures c.in_ok-add_turn.ensures
