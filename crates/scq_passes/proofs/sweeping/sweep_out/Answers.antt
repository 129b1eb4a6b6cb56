use Rattle.std.proofs.Common.{rules, ◌≡◌, ◌<◌, ◌∙◌, ap, sym, subst, arith, inl, inr, true, false, Ok}
use Rattle.std.specs.Prelude.{IfErr, Result, Err}
use Rattle.std.proofs.lemmas.Bool.{eqb-true}
use Rattle.scq_passes.specs.Exports.{AreSweeps, IsSweep, no_sweep, and_some, and_idle, HasTakenFollowed}
use Rattle.scq_passes.proofs.PassLemmas.{suits-taken, taken-nothing, taken-along, left-falls, looked}
use Rattle.scq_passes.proofs.Sweeps.{sweep-of, some-left, took-nothing, took-some}
use Rattle.scq_passes.proofs.sweeping.sweep_out.Goals as goal
use Rattle.scq_passes.proofs.sweeping.sweep_out.Goals.{After-closed-over, In_ok-some, then-some, else-some}

-- it asked whether all had retired
asked : (g : _) (c : After-closed-over g) → HasTakenFollowed g.T.Taker.follows (g.T.Taker.pass c.args.taker.now) (g.T.Taker.pass c.closed-over.new.self)
asked g c = taken-along _ _ _ c.sweeps.invariant.taken (looked _ _ _ c.closed-over.ensures.looked.1)

made-asked : (g : _) (c : After-closed-over g) → g.T.Taker.made c.args.with.now c.args.taker.now c.closed-over.new.self
made-asked g c = g.met.T.Taker.made_along _ _ _ _ c.sweeps.invariant.taken (looked _ _ _ c.closed-over.ensures.looked.1) c.sweeps.invariant.made c.closed-over.ensures.made

-- and then swept
swept-once : (g : _) (c : In_ok-some g) → IsSweep g.B.Buffer.contents (g.T.Taker.queue c.args.with.now) g.T.Taker.follows c.args.topics
    c.closed-over.ensures.looked.0 (g.T.Taker.pass c.sweeps.taker) (g.T.Taker.pass c.sweep.new.taker)
swept-once g c =
    let pass = g.T.Taker.pass in
    let said = c.closed-over.ensures.looked in
    let its = c.in_ok-some.ensures in
    sweep-of c.args.topics said.0 (pass c.sweeps.taker) (pass c.closed-over.new.self) (pass c.sweep.new.taker) said.1
    c.closed-over.ensures.in_run its.taken its.emptied.1 its.emptied.0

pub sweeps-init : goal.sweeps-init
sweeps-init g c =
    let p = g.T.Taker.pass c.args.taker.now in
    record { taken = taken-nothing p; made = g.met.T.Taker.made_none c.args.with.now c.args.taker.now; idle = omega arith; sweeps = no_sweep p }

pub closed-over-requires : goal.closed-over-requires
closed-over-requires g c = suits-taken _ _ _ _ c.requires.suits c.sweeps.invariant.taken

pub sweep-requires-clause-suits : goal.sweep-requires-clause-suits
sweep-requires-clause-suits g c κs within =
    suits-taken _ _ _ _ c.requires.suits (asked g (goal.at.sweep-requires-clause-suits g c).After-closed-over)

pub returns-in_err-some-clause-left : goal.returns-in_err-some-clause-left
returns-in_err-some-clause-left g c =
    let at = (goal.at.returns-in_err-some-clause-left g c).After-closed-over in
    let is : c.from_residual.result ≡ Err c.in_err-some.field-0.0 = search rules in
    subst (λ (r : Result _ _). IfErr r (λ l. g.T.Taker.left c.args.with.now c.args.taker.now c.sweep.new.taker l.held)) (sym is)
    (g.met.T.Taker.left_along _ _ _ _ _ (asked g at) (made-asked g at) c.in_err-some.ensures.left)

pub sweeps-smaller : goal.sweeps-smaller
sweeps-smaller g c =
    let pass = g.T.Taker.pass in
    let limit = (g.T.Taker.queue c.args.with.now).setup.limit in
    let first = left-falls limit c.args.topics (pass c.sweeps.taker) (pass c.closed-over.new.self)
    (looked {By = g.T.Taker.follows} _ _ _ c.closed-over.ensures.looked.1).knows in
    let rest = left-falls limit c.args.topics (pass c.closed-over.new.self) (pass c.sweep.new.taker) c.in_ok-some.ensures.taken.knows in
    elim c.if-some.branch [
      | then-some w ↦
          let full : c.in_ok-some.some ≡ true = w.if-some.true in
          let falls = (c.in_ok-some.ensures.some (ap Ok full)).1 in
          omega arith
      | else-some w ↦ omega arith
    ]

pub sweeps-preserved : goal.sweeps-preserved
sweeps-preserved g c =
    let pass = g.T.Taker.pass in
    let p = pass c.args.taker.now in
    let at = pass c.sweeps.taker in
    let asks = pass c.closed-over.new.self in
    let now = pass c.sweep.new.taker in
    let inv = c.sweeps.invariant in
    let said = c.closed-over.ensures.looked in
    let contents = g.B.Buffer.contents in
    let queue = g.T.Taker.queue c.args.with.now in
    let at_look = (goal.at.sweeps-preserved g c).After-closed-over in
    let sweep = swept-once g (goal.at.sweeps-preserved g c).In_ok-some in
    let going : c.closed-over.result ≡ false = c.if-over.false in
    let its = c.in_ok-some.ensures in
    record {
      taken = taken-along p asks now (asked g at_look) its.taken;
      made = g.met.T.Taker.made_along _ _ _ _ (asked g at_look) its.taken (made-asked g at_look) its.made;
      idle = elim c.if-some.branch [ then-some w ↦ omega arith | else-some w ↦ omega arith ];
      sweeps = elim c.if-some.branch [
        | then-some w ↦ subst (λ n. AreSweeps contents queue g.T.Taker.follows c.args.topics (λ k. k < 64) n p now) (sym w.idle-is)
            (and_some said.0 inv.sweeps sweep (some-left said.0 (sym said.2 ∙ going))
            (took-some said.0 at asks now said.1 (its.some (ap Ok w.if-some.true)).0))
        | else-some w ↦ subst (λ n. AreSweeps contents queue g.T.Taker.follows c.args.topics (λ k. k < 64) n p now) (sym w.idle-is)
            (and_idle said.0 inv.sweeps sweep (some-left said.0 (sym said.2 ∙ going))
            (took-nothing said.0 at asks now said.1 (its.nothing (ap Ok w.if-some.false))) (omega arith))
      ];
    }

pub returns-clause-taken : goal.returns-clause-taken
returns-clause-taken g c =
    taken-along _ _ _ (asked g (goal.at.returns-clause-taken g c).After-closed-over) c.in_ok-some.ensures.taken

pub returns-clause-made : goal.returns-clause-made
returns-clause-made g c =
    let at = (goal.at.returns-clause-made g c).After-closed-over in
    let its = c.in_ok-some.ensures in
    g.met.T.Taker.made_along _ _ _ _ (asked g at) its.taken (made-asked g at) its.made

pub returns-clause-past : goal.returns-clause-past
returns-clause-past g c = c.in_ok-some.ensures.emptied.0.past

pub returns-clause-swept : goal.returns-clause-swept
returns-clause-swept g c =
    let pass = g.T.Taker.pass in
    let at = pass c.sweeps.taker in
    let asks = pass c.closed-over.new.self in
    let now = pass c.sweep.new.taker in
    let said = c.closed-over.ensures.looked in
    record {
      idle = c.sweeps.idle;
      begun = at;
      before = c.sweeps.invariant.sweeps;
      found = said.0;
      sweep = swept-once g (goal.at.returns-clause-swept g c).In_ok-some;
      why = elim c.then-over.either [
        | inl over ↦ inl (eqb-true said.0 0 (sym said.2 ∙ over))
        | inr (going, full) ↦ inr (elim c.if-some.branch [
          | then-some w ↦ let none : c.if-some.idle ≡ 0 = w.idle-is in absurd (omega (arith, none, full))
          | else-some w ↦ (
            sym w.idle-is ∙ full,
            took-nothing said.0 at asks now said.1 (c.in_ok-some.ensures.nothing (ap Ok w.if-some.false)),
          )
        ])
      ];
    }
