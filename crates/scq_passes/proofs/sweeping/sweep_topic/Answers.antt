use Rattle.std.proofs.Common.{rules, ◌≡◌, ◌∙◌, ap, sym, subst, arith, refl, inl, inr, length}
use Rattle.std.specs.Prelude.{IfErr, Result, Err}
use Rattle.scq_queue.specs.Exports.{PassStanding}
use Rattle.scq_passes.proofs.InRun.{only-from}
use Rattle.scq_passes.proofs.PassLemmas.{suits-taken, taken-nothing, taken-along}
use Rattle.scq_passes.proofs.Sweeps.{found-earlier}
use Rattle.scq_passes.proofs.sweeping.sweep_topic.Goals as goal
use Rattle.scq_passes.proofs.sweeping.sweep_topic.Goals.{In_ok-more}

pub takes-init : goal.takes-init
takes-init g c = record {
  taken = taken-nothing (g.T.Taker.pass c.args.taker.now);
  made = g.met.T.Taker.made_none c.args.with.now c.args.taker.now;
  some = λ h. absurd (cc);
  nothing = λ none. refl;
  vain = omega arith;
  long = omega arith;
  only = inl refl;
}

pub take_once-requires-clause-suits : goal.take_once-requires-clause-suits
take_once-requires-clause-suits g c = suits-taken _ _ _ _ c.requires.suits c.takes.invariant.taken

-- with the last take
made : (g : _) (c : In_ok-more g) → g.T.Taker.made c.args.with.now c.args.taker.now c.take_once.new.self
made g c =
    g.met.T.Taker.made_along _ _ _ _ c.takes.invariant.taken c.in_ok-more.ensures.taken c.takes.invariant.made c.in_ok-more.ensures.made

pub takes-preserved : goal.takes-preserved
takes-preserved g c =
    let pass = g.T.Taker.pass in
    let p = pass c.args.taker.now in
    let q = pass c.takes.taker in
    let r = pass c.take_once.new.self in
    let inv = c.takes.invariant in
    let head = inv.taken.knows.head c.args.topic in
    let got = c.take_once.ensures.some (cc) in
    record {
      taken = taken-along p q r inv.taken c.in_ok-more.ensures.taken;
      made = made g (goal.at.takes-preserved g c).In_ok-more;
      some = λ h. record {
        rises = let rises = got.0.rises in omega arith;
        below = let below = got.0.below in omega arith;
        more = omega (arith, inv.long, got.0.more);
      };
      nothing = λ none. absurd (cc);
      vain = omega (arith, inv.vain, got.1);
      long = omega (arith, inv.long, got.0.more);
      only = inr (only-from p q r (ap (λ (x : PassStanding _). x.number) inv.taken.pass) inv.only c.in_ok-more.ensures.only);
    }

pub takes-smaller : goal.takes-smaller
takes-smaller g c =
    let got = (c.take_once.ensures.some (cc)).0 in
    let rises = got.rises in
    let below = got.below in
    omega arith

pub returns-else-more-clause-taken : goal.returns-else-more-clause-taken
returns-else-more-clause-taken g c =
    taken-along _ _ _ c.takes.invariant.taken c.in_ok-more.ensures.taken

pub returns-else-more-clause-made : goal.returns-else-more-clause-made
returns-else-more-clause-made g c = made g (goal.at.returns-else-more-clause-made g c).In_ok-more

pub returns-else-more-clause-only : goal.returns-else-more-clause-only
returns-else-more-clause-only g c =
    let inv = c.takes.invariant in
    only-from _ _ _ (ap (λ (x : PassStanding _). x.number) inv.taken.pass) inv.only c.in_ok-more.ensures.only

pub returns-else-more-clause-emptied : goal.returns-else-more-clause-emptied
returns-else-more-clause-emptied g c =
    let none_ = (c.take_once.ensures.none (cc)).0 in
    record {
      past = none_.past;
      found = found-earlier c.args.topic _ _ _ c.takes.invariant.taken none_.found;
      vain = omega (arith, c.takes.invariant.vain, none_.vain);
      last = none_.last;
    }

pub returns-else-more-clause-some : goal.returns-else-more-clause-some
returns-else-more-clause-some g c is =
    let was = c.takes.invariant.some (cc) in
    let none_ = (c.take_once.ensures.none (cc)).1 in
    let head = c.in_ok-more.ensures.taken.knows.head c.args.topic in
    record {
      rises = let rises = was.rises in omega arith;
      below = was.below;
      more = omega (arith, was.more, ap length none_);
    }

pub returns-else-more-clause-nothing : goal.returns-else-more-clause-nothing
returns-else-more-clause-nothing g c is = (c.take_once.ensures.none (cc)).1 ∙ c.takes.invariant.nothing (cc)

pub returns-in_err-more-clause-left : goal.returns-in_err-more-clause-left
returns-in_err-more-clause-left g c =
    let is : c.from_residual.result ≡ Err c.in_err-more.field-0.0 = search rules in
    subst (λ (r : Result _ _). IfErr r (λ l. g.T.Taker.left c.args.with.now c.args.taker.now c.take_once.new.self l.held)) (sym is)
    (g.met.T.Taker.left_along _ _ _ _ _ c.takes.invariant.taken c.takes.invariant.made c.in_err-more.ensures.left)
