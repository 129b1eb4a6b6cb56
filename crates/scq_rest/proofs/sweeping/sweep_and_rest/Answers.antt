use Rattle.std.proofs.Common.{rules, ◌≡◌, ◌⊎◌, ◌≤◌, ◌<◌, ◌+◌, ◌==◌, ◌&&◌, ◌∙◌, ap, sym, subst, arith, refl, inl, inr, Bool, true, false, ℕ, length, Ok, Some}
use Rattle.std.proofs.lemmas.Bool.{eqb-true}
use Rattle.std.proofs.lemmas.Bool.Decides.{eqb_tells}
use Rattle.scq_park.specs.Exports.{Post}
use Rattle.scq_queue.specs.Exports.{takes_of, PassStanding}
use Rattle.scq_passes.specs.Exports.{SweepsInVain, IsSweep, no_sweep, and_some, and_idle, HasTakenFollowed}
use Rattle.scq_passes.proofs.PassLemmas.{suits-taken, taken-nothing, taken-along, looked}
use Rattle.scq_passes.proofs.Sweeps.{sweep-of, some-left, took-nothing, took-some}
use Rattle.scq_passes.proofs.Vain.{vain-swept, sends-rise, takes-rise}
use Rattle.scq_worker.specs.Exports.{others_more_where}
use Rattle.scq_rest.specs.Exports.{idle_sweeps}
use Rattle.scq_files.proofs.Results.{err-of}
use Rattle.scq_rest.proofs.sweeping.sweep_and_rest.Goals as goal
use Rattle.scq_rest.proofs.sweeping.sweep_and_rest.Goals.{After-closed-over, In_ok-some}

told-so : (over first : Bool) → over ≡ true → first ≡ true → (over && first) ≡ true
told-so over first a b = rw a (rw b refl)

told-not : (over first : Bool) → first ≡ false → (over && first) ≡ false
told-not true first b = b
told-not false first b = refl

eq-same : (n m : ℕ) → n ≡ m → (n == m) ≡ true
eq-same n m is = grind (arith, is)

eq-not : (n m : ℕ) → (n ≡ m → ⊥) → (n == m) ≡ false
eq-not n m no_ = elim (eqb_tells n m) [ inl same ↦ absurd (no_ same.1) | inr other ↦ other.0 ]

-- it asked whether all had retired
asked : (g : _) (c : After-closed-over g) → HasTakenFollowed g.T.Taker.follows (g.T.Taker.pass c.args.taker.now) (g.T.Taker.pass c.closed-over.new.self)
asked g c = taken-along _ _ _ c.sweeps.invariant.taken (looked _ _ _ c.closed-over.ensures.looked.1)

made-asked : (g : _) (c : After-closed-over g) → g.T.Taker.made c.args.with.now c.args.taker.now c.closed-over.new.self
made-asked g c = g.met.T.Taker.made_along _ _ _ _ c.sweeps.invariant.taken (looked _ _ _ c.closed-over.ensures.looked.1) c.sweeps.invariant.made c.closed-over.ensures.made

-- and then swept
swept-once : (g : _) (c : In_ok-some g) → IsSweep g.B.Buffer.contents (g.T.Taker.queue c.args.with.now) g.T.Taker.follows c.args.topics
    c.closed-over.ensures.looked.0 (g.T.Taker.pass c.sweeps.taker) (g.T.Taker.pass c.sweep.new.taker)
swept-once g c =
    let pass = g.T.Taker.pass in
    let said = c.closed-over.ensures.looked in
    let its = c.in_ok-some.ensures in
    sweep-of c.args.topics said.0 (pass c.sweeps.taker) (pass c.closed-over.new.self) (pass c.sweep.new.taker) said.1
    c.closed-over.ensures.in_run its.taken its.emptied.1 its.emptied.0

-- it has asked once more
asked-more : (g : _) (c : In_ok-some g) → (g.T.Taker.pass c.sweep.new.taker).gates ≡ (g.T.Taker.pass c.sweeps.taker).gates + 1
asked-more g c = c.in_ok-some.ensures.emptied.1.gates ∙ ap (λ (x : PassStanding _). x.gates) c.closed-over.ensures.looked.1

asked-again : (g : _) (c : In_ok-some g)
    → (((g.T.Taker.pass c.sweep.new.taker).gates ≡ (g.T.Taker.pass c.args.taker.now).gates) × (false ≡ true))
    ⊎ (((g.T.Taker.pass c.args.taker.now).gates < (g.T.Taker.pass c.sweep.new.taker).gates) × (false ≡ false))
asked-again g c =
    let one = asked-more g c in
    inr (elim c.sweeps.invariant.first [ inl now ↦ omega (arith, one, now.0) | inr late ↦ omega (arith, one, late.0) ], refl)

-- its stand is as it was, but for whom it woke
still-rests : (g : _) (c : In_ok-some g) → c.wake_at_first.new.stand.rests ≡ c.sweeps.stand.rests
still-rests g c = ap (λ (s : Post). s.rests) c.wake_at_first.ensures.kept

-- where it wasn't told, it woke nobody
untold : (g : _) (c : In_ok-some g) → c.closed-over.result ≡ false → c.wake_at_first.new.stand.wakes ≡ c.sweeps.stand.wakes
untold g c unclosed =
    c.wake_at_first.ensures.rung
    ∙ ap (λ b. others_more_where (b && c.sweeps.first) c.sweeps.stand.worker c.args.workers c.sweeps.stand.wakes) unclosed

-- what it took and how often it rested pay for what it took in vain
paid-at : (g : _) (c : In_ok-some g) (behind last rests : ℕ)
    → c.sweeps.stand.rests + length (takes_of (g.T.Taker.pass c.closed-over.new.self).calls) + 1
    ≤ last + rests + length (takes_of (g.T.Taker.pass c.sweep.new.taker).calls)
    → SweepsInVain c.args.topics behind 0 c.sweeps.stand.rests (g.T.Taker.pass c.sweeps.taker)
    → SweepsInVain c.args.topics behind last rests (g.T.Taker.pass c.sweep.new.taker)
paid-at g c behind last rests paid was =
    let pass = g.T.Taker.pass in
    let asks = pass c.closed-over.new.self in
    let is = c.closed-over.ensures.looked.1 in
    let calls = ap (λ (x : PassStanding _). x.calls) is in
    let same = ap (λ l. length (takes_of l)) calls in
    let its = c.in_ok-some.ensures in
    vain-swept c.args.topics behind 0 c.sweeps.stand.rests last rests (pass c.sweeps.taker) asks (pass c.sweep.new.taker) calls
    (ap (λ (x : PassStanding _). x.fulls) is) (ap (λ (x : PassStanding _). x.fulls) its.taken.pass) its.emptied.0.vain (sends-rise asks _ its.taken)
    (omega (arith, paid, same)) was

pub sweeps-init : goal.sweeps-init
sweeps-init g c =
    let p = g.T.Taker.pass c.args.taker.now in
    record {
      next = tt;
      finite = tt;
      taken = taken-nothing p;
      made = g.met.T.Taker.made_none c.args.with.now c.args.taker.now;
      vain = λ behind was. was;
      sweeps = (0, no_sweep p, omega arith);
      crew = refl;
      worker = refl;
      wakes = refl;
      first = inl (refl, refl);
    }

pub closed-over-requires : goal.closed-over-requires
closed-over-requires g c = suits-taken _ _ _ _ c.requires.suits c.sweeps.invariant.taken

pub sweep-requires-clause-suits : goal.sweep-requires-clause-suits
sweep-requires-clause-suits g c κs within =
    suits-taken _ _ _ _ c.requires.suits (asked g (goal.at.sweep-requires-clause-suits g c).After-closed-over)

pub returns-in_err-some-clause-left : goal.returns-in_err-some-clause-left
returns-in_err-some-clause-left g c =
    let at = (goal.at.returns-in_err-some-clause-left g c).After-closed-over in
    err-of _ c.from_residual.result c.in_err-some.field-0.0 (search rules)
    (g.met.T.Taker.left_along _ _ _ _ _ (asked g at) (made-asked g at) c.in_err-some.ensures.left)

pub returns-then-over-clause-taken : goal.returns-then-over-clause-taken
returns-then-over-clause-taken g c =
    taken-along _ _ _ (asked g (goal.at.returns-then-over-clause-taken g c).After-closed-over) c.in_ok-some.ensures.taken

pub returns-then-over-clause-made : goal.returns-then-over-clause-made
returns-then-over-clause-made g c =
    let at = (goal.at.returns-then-over-clause-made g c).After-closed-over in
    let its = c.in_ok-some.ensures in
    g.met.T.Taker.made_along _ _ _ _ (asked g at) its.taken (made-asked g at) its.made

pub returns-then-over-clause-swept : goal.returns-then-over-clause-swept
returns-then-over-clause-swept g c =
    let pass = g.T.Taker.pass in
    let said = c.closed-over.ensures.looked in
    let none : said.0 ≡ 0 = eqb-true said.0 0 (sym said.2 ∙ c.if-over.true) in (
      idle_sweeps c.sweeps.invariant.sweeps.1,
      still-rests g (goal.at.returns-then-over-clause-swept g c).In_ok-some ∙ c.sweeps.invariant.sweeps.2,
      record {
        idle = c.sweeps.invariant.sweeps.0;
        begun = pass c.sweeps.taker;
        before = c.sweeps.invariant.sweeps.1;
        rested = refl;
        sweep = subst (λ n. IsSweep g.B.Buffer.contents (g.T.Taker.queue c.args.with.now) g.T.Taker.follows c.args.topics n (pass c.sweeps.taker)
            (pass c.sweep.new.taker)) none (swept-once g (goal.at.returns-then-over-clause-swept g c).In_ok-some);
      },
    )

pub returns-then-over-clause-out : goal.returns-then-over-clause-out
returns-then-over-clause-out g c =
    let said = c.closed-over.ensures.looked in
    let none : said.0 ≡ 0 = eqb-true said.0 0 (sym said.2 ∙ c.if-over.true) in
    let rise = takes-rise (g.T.Taker.pass c.closed-over.new.self) (g.T.Taker.pass c.sweep.new.taker) c.in_ok-some.ensures.taken in
    let at_some = (goal.at.returns-then-over-clause-out g c).In_ok-some in
    let same = still-rests g at_some in
    record {
      told = c.in_ok-some.ensures.emptied.1.gate ∙ ap (λ (x : PassStanding _). x.gate) said.1 ∙ ap Some none;
      past = c.in_ok-some.ensures.emptied.0.past;
      vain = λ behind was. paid-at g at_some behind 1 c.wake_at_first.new.stand.rests (omega (arith, rise, same))
          (c.sweeps.invariant.vain behind was);
    }

pub returns-then-over-clause-stand : goal.returns-then-over-clause-stand
returns-then-over-clause-stand g c = (
  ap (λ (s : Post). s.crew) c.wake_at_first.ensures.kept ∙ c.sweeps.invariant.crew,
  ap (λ (s : Post). s.worker) c.wake_at_first.ensures.kept ∙ c.sweeps.invariant.worker,
)

pub returns-in_err-some-clause-stand : goal.returns-in_err-some-clause-stand
returns-in_err-some-clause-stand g c = (
  ap (λ (s : Post). s.crew) c.wake_at_first.ensures.kept ∙ c.sweeps.invariant.crew,
  ap (λ (s : Post). s.worker) c.wake_at_first.ensures.kept ∙ c.sweeps.invariant.worker,
)

-- it woke all others where it was told by its first question
pub returns-then-over-clause-rung : goal.returns-then-over-clause-rung
returns-then-over-clause-rung g c =
    let inv = c.sweeps.invariant in
    let was = (g.T.Taker.pass c.args.taker.now).gates in
    let now = (g.T.Taker.pass c.sweep.new.taker).gates in
    let one = asked-more g (goal.at.returns-then-over-clause-rung g c).In_ok-some in
    let told : (c.closed-over.result && c.sweeps.first) ≡ (now == was + 1) =
    elim inv.first [
      | inl first ↦ told-so c.closed-over.result c.sweeps.first c.if-over.true first.1 ∙ sym (eq-same now (was + 1) (omega (arith, one, first.0)))
      | inr late ↦ told-not c.closed-over.result c.sweeps.first late.1 ∙ sym (eq-not now (was + 1) (λ is. omega (arith, is, one, late.0)))
    ] in
    c.wake_at_first.ensures.rung
    ∙ ap (λ b. others_more_where b c.sweeps.stand.worker c.args.workers c.sweeps.stand.wakes) told
    ∙ ap (λ n. others_more_where (now == was + 1) n c.args.workers c.sweeps.stand.wakes) inv.worker
    ∙ ap (λ ns. others_more_where (now == was + 1) c.args.stand.now.worker c.args.workers ns) inv.wakes

-- it took nothing, and rested
pub sweeps-preserved-then-not-some : goal.sweeps-preserved-then-not-some
sweeps-preserved-then-not-some g c =
    let pass = g.T.Taker.pass in
    let at = pass c.sweeps.taker in
    let asks = pass c.closed-over.new.self in
    let now = pass c.sweep.new.taker in
    let inv = c.sweeps.invariant in
    let said = c.closed-over.ensures.looked in
    let its = c.in_ok-some.ensures in
    let rise = takes-rise asks now its.taken in
    let rested : c.rest.new.stand.rests ≡ c.sweeps.stand.rests + 1 =
    ap (λ (s : Post). s.rests) c.rest.ensures ∙ ap (λ (s : Post). s.rests + 1) c.wake_at_first.ensures.kept in
    let at_look = (goal.at.sweeps-preserved-then-not-some g c).After-closed-over in
    let at_some = (goal.at.sweeps-preserved-then-not-some g c).In_ok-some in
    record {
      next = tt;
      finite = tt;
      taken = taken-along _ _ _ (asked g at_look) its.taken;
      made = g.met.T.Taker.made_along _ _ _ _ (asked g at_look) its.taken (made-asked g at_look) its.made;
      vain = λ behind was. paid-at g at_some behind 0 c.rest.new.stand.rests (omega (arith, rise, rested)) (inv.vain behind was);
      sweeps = (
        inv.sweeps.0 + 1,
        and_idle said.0 inv.sweeps.1 (swept-once g at_some) (some-left said.0 (sym said.2 ∙ c.if-over.false))
            (took-nothing said.0 at asks now said.1 (its.nothing (ap Ok c.if-not-some.true))) tt,
        omega (arith, rested, inv.sweeps.2),
      );
      crew = ap (λ (s : Post). s.crew) c.rest.ensures ∙ ap (λ (s : Post). s.crew) c.wake_at_first.ensures.kept ∙ inv.crew;
      worker = ap (λ (s : Post). s.worker) c.rest.ensures ∙ ap (λ (s : Post). s.worker) c.wake_at_first.ensures.kept ∙ inv.worker;
      wakes = ap (λ (s : Post). s.wakes) c.rest.ensures ∙ untold g at_some c.if-over.false ∙ inv.wakes;
      first = asked-again g at_some;
    }

-- it took something
pub sweeps-preserved : goal.sweeps-preserved
sweeps-preserved g c =
    let pass = g.T.Taker.pass in
    let at = pass c.sweeps.taker in
    let asks = pass c.closed-over.new.self in
    let now = pass c.sweep.new.taker in
    let inv = c.sweeps.invariant in
    let said = c.closed-over.ensures.looked in
    let its = c.in_ok-some.ensures in
    let full : c.in_ok-some.some ≡ true = c.if-not-some.false in
    let more = (its.some (ap Ok full)).0 in
    let same = still-rests g (goal.at.sweeps-preserved g c).In_ok-some in
    let at_look = (goal.at.sweeps-preserved g c).After-closed-over in
    let at_some = (goal.at.sweeps-preserved g c).In_ok-some in
    record {
      next = tt;
      finite = tt;
      taken = taken-along _ _ _ (asked g at_look) its.taken;
      made = g.met.T.Taker.made_along _ _ _ _ (asked g at_look) its.taken (made-asked g at_look) its.made;
      vain = λ behind was. paid-at g at_some behind 0 c.wake_at_first.new.stand.rests (omega (arith, more, same)) (inv.vain behind was);
      sweeps = (
        0,
        and_some said.0 inv.sweeps.1 (swept-once g at_some) (some-left said.0 (sym said.2 ∙ c.if-over.false)) (took-some said.0 at asks now said.1 more),
        same ∙ inv.sweeps.2,
      );
      crew = ap (λ (s : Post). s.crew) c.wake_at_first.ensures.kept ∙ inv.crew;
      worker = ap (λ (s : Post). s.worker) c.wake_at_first.ensures.kept ∙ inv.worker;
      wakes = untold g at_some c.if-over.false ∙ inv.wakes;
      first = asked-again g at_some;
    }
