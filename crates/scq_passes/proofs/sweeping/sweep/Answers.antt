use Rattle.std.proofs.Common.{rules, ◌≡◌, ◌∙◌, ap, sym, subst, arith, refl, inl, inr, true, false, length, Ok}
use Rattle.std.proofs.lemmas.Bool.{cases_lt, cases_Bool}
use Rattle.std.specs.Prelude.{IfErr, Result, Err}
use Rattle.scq_queue.specs.Exports.{PassStanding}
use Rattle.scq_passes.specs.Exports.{EndsAtEmpty, HasEmptiedAll, MetTopicEmpty}
use Rattle.scq_passes.proofs.InRun.{only-from, only-found}
use Rattle.scq_passes.proofs.PassLemmas.{suits-taken, taken-nothing, taken-along, left-falls, left-falls-at, empty-more}
use Rattle.scq_passes.proofs.Sweeps.{found-earlier, found-later}
use Rattle.scq_passes.proofs.sweeping.sweep.Goals as goal
use Rattle.scq_passes.proofs.sweeping.sweep.Goals.{then-some, else-some}

pub swept-init : goal.swept-init
swept-init g c = record {
  taken = taken-nothing (g.T.Taker.pass c.args.taker.now);
  made = g.met.T.Taker.made_none c.args.with.now c.args.taker.now;
  emptied = record {
    past = λ t low. absurd (omega arith);
    found = λ t low. absurd (omega arith);
    vain = omega arith;
    last = λ t is. absurd (omega (arith, is));
  };
  fewer = λ h. absurd (cc);
  nothing = λ none. refl;
  more = λ h. absurd (cc);
  long = omega arith;
  only = inl refl;
}

pub sweep_topic-requires-clause-suits : goal.sweep_topic-requires-clause-suits
sweep_topic-requires-clause-suits g c κs within = suits-taken _ _ _ _ c.requires.suits c.swept.invariant.taken

pub swept-preserved : goal.swept-preserved
swept-preserved g c =
    let pass = g.T.Taker.pass in
    let p = pass c.args.taker.now in
    let q = pass c.swept.taker in
    let r = pass c.sweep_topic.new.taker in
    let inv = c.swept.invariant in
    let limit = (g.T.Taker.queue c.args.with.now).setup.limit in
    let all = c.args.topics in
    let its = c.in_ok-more.ensures in
    let more = its.taken in
    record {
      taken = taken-along p q r inv.taken more;
      made = g.met.T.Taker.made_along _ _ _ _ inv.taken more inv.made its.made;
      emptied = record {
        past = empty-more g.met.T.Taker.gives_back c.swept.topic q r more inv.emptied.past its.emptied.past;
        found = λ t low. elim (cases_lt t c.swept.topic) [
          | inl before ↦ found-later t p q r (inv.emptied.found t before) more
          | inr from ↦
              let same : c.swept.topic ≡ t = omega (arith, low, from) in
              subst (λ u. MetTopicEmpty u p r) same (found-earlier c.swept.topic p q r inv.taken its.emptied.found)
        ];
        vain = omega (arith, inv.emptied.vain, its.emptied.vain);
        last = λ t is. subst (λ u. EndsAtEmpty u r) (omega (arith, is)) its.emptied.last;
      };
      fewer = λ h.
          elim c.if-some.branch [
            | then-some w ↦
                let was = inv.fewer w.if-some.true in
                let rest = left-falls limit all q r more.knows in
                omega arith
            | else-some w ↦
                let full : c.in_ok-more.more ≡ true = cc in
                let said = its.some (ap Ok full) in
                let rest = left-falls limit all p q inv.taken.knows in
                let falls = left-falls-at limit all c.swept.topic q r more.knows (omega arith) said.rises said.below in
                omega arith
          ];
      nothing = λ none. elim c.if-some.branch [
        | then-some w ↦ absurd (cc)
        | else-some w ↦
            let idle : c.in_ok-more.more ≡ false = cc in
            its.nothing (ap Ok idle) ∙ inv.nothing w.if-some.false
      ];
      more = λ h. elim (cases_Bool c.in_ok-more.more) [
        | inl full ↦ let some_ = (its.some (ap Ok full)).more in omega (arith, inv.long, some_)
        | inr idle ↦ elim c.if-some.branch [
          | then-some w ↦ let was = inv.more w.if-some.true in omega (arith, was, ap length (its.nothing (ap Ok idle)))
          | else-some w ↦ absurd (cc)
        ]
      ];
      long = elim (cases_Bool c.in_ok-more.more) [
        | inl full ↦ let some_ = (its.some (ap Ok full)).more in omega (arith, inv.long, some_)
        | inr idle ↦ omega (arith, inv.long, ap length (its.nothing (ap Ok idle)))
      ];
      only = inr (only-from p q r (ap (λ (x : PassStanding _). x.number) inv.taken.pass) inv.only its.only);
    }

pub returns-in_err-more-clause-left : goal.returns-in_err-more-clause-left
returns-in_err-more-clause-left g c =
    let is : c.from_residual.result ≡ Err c.in_err-more.field-0.0 = search rules in
    subst (λ (r : Result _ _). IfErr r (λ l. g.T.Taker.left c.args.with.now c.args.taker.now c.sweep_topic.new.taker l.held)) (sym is)
    (g.met.T.Taker.left_along _ _ _ _ _ c.swept.invariant.taken c.swept.invariant.made c.in_err-more.ensures.left)

-- each topic was found empty, so some call was made
pub returns-clause-emptied : goal.returns-clause-emptied
returns-clause-emptied g c =
    let inv = c.swept.invariant in
    let emptied : HasEmptiedAll c.args.topics (g.T.Taker.pass c.args.taker.now) (g.T.Taker.pass c.swept.taker) = search rules in
    (emptied, only-found 0 _ _ (inv.emptied.found 0 (omega arith)) inv.only)

pub returns-clause-some : goal.returns-clause-some
returns-clause-some g c is =
    let inv = c.swept.invariant in
    let some : c.swept.some ≡ true = cc in
    (inv.more some, inv.fewer some)
