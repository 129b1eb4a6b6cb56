use Rattle.std.proofs.Common.{arith, ◌+◌, refl, subst, inl, inr}
use Rattle.std.proofs.lemmas.Bool.{cases_eq, iff_false}
use Rattle.scq_hist.specs.Exports.{IsFinishedAt, AllClaimed}
use Rattle.scq_hist.proofs.Claims.{claims_iff}
use Rattle.scq_hist.proofs.emptiness.is_right_within.Goals as goal

pub loop-i-init : goal.loop-i-init
loop-i-init c = record {
  few = (let few = c.finished_tally-tally.ensures.few in omega arith);
  few_gets = c.pending_gets-pending.ensures.few;
  tally = c.finished_tally-tally.ensures.tally;
  gets = c.pending_gets-pending.ensures.count;
  not_yet = λ opening t. record { none = λ m after until. absurd (omega arith) };
}

pub loop-i-preserved : goal.loop-i-preserved
loop-i-preserved c =
    let old = c.loop-i.invariant in
    record {
      few = (let few = c.tally_after-tally.ensures.few in let was = old.few in omega arith);
      few_gets = (let few = c.pending_after-pending.ensures.few in let was = old.few_gets in omega arith);
      tally = λ opening t. c.tally_after-tally.ensures.tally opening (old.tally opening t);
      gets = c.pending_after-pending.ensures.count old.gets;
      not_yet = λ opening t. record {
        none = λ m after until all. elim (cases_eq m (c.loop-i.i + 1)) [
          | inl here ↦ iff_false
              (claims_iff c.args.events.now c.args.queue (c.loop-i.i + 1) _ _ _ (IsFinishedAt opening c.args.events.now c.args.queue (c.loop-i.i + 1)) _
              c.requires.lawful (c.tally_after-tally.ensures.tally opening (old.tally opening t)) (c.pending_after-pending.ensures.count old.gets)
              c.are_claimed.ensures)
              c.if-are_claimed.false (subst (λ x. AllClaimed c.args.events.now c.args.queue x (IsFinishedAt opening c.args.events.now c.args.queue x)) here all)
          | inr ne ↦ (old.not_yet opening t).none m after (omega arith) all
        ];
      };
    }

pub returns-then-are_claimed : goal.returns-then-are_claimed
returns-then-are_claimed c = λ opening t.
    let old = c.loop-i.invariant in
    let from = c.loop-i.auto.i in let before = c.loop-i-test.true in (
      λ _. (
        c.loop-i.i + 1,
        omega arith,
        omega arith,
        (claims_iff c.args.events.now c.args.queue (c.loop-i.i + 1) _ _ _ (IsFinishedAt opening c.args.events.now c.args.queue (c.loop-i.i + 1)) _
            c.requires.lawful (c.tally_after-tally.ensures.tally opening (old.tally opening t)) (c.pending_after-pending.ensures.count old.gets)
            c.are_claimed.ensures).0 c.if-are_claimed.true,
      ),
      λ _. refl,
    )

pub returns : goal.returns
returns c = λ opening t.
    let past = c.loop-i-test.false in
    (λ h. absurd cc, λ r. (let last = r.2 in absurd ((c.loop-i.invariant.not_yet opening t).none r.0 r.1 (omega arith) r.3)))
