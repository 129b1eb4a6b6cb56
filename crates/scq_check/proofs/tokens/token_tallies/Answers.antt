use Rattle.std.proofs.Common.{refl, arith}
use Rattle.scq_hist.specs.declared.events.PutName.TheVariants.{Opening}
use Rattle.scq_check.proofs.TokenLemmas.{tally_none, tally_next, tallies_none, tallies_next}
use Rattle.scq_check.proofs.tokens.token_tallies.Goals as goal

pub loop-number-init : goal.loop-number-init
loop-number-init c = record { few = omega arith; tally = tally_none _ _ _ refl refl; tallies = tallies_none _ _ c.in_ok-tallies.ensures.items }

pub loop-number-preserved : goal.loop-number-preserved
loop-number-preserved c =
    let old = c.loop-number.invariant in
    record {
      few = (let few = c.with_put-tally.ensures.few in let was = old.few in omega arith);
      tally = tally_next _ _ _ _ _ _ (c.with_put-tally.ensures.adds c.args.events.now (Opening c.loop-number.number) c.get_of.ensures) old.tally;
      tallies = tallies_next _ _ _ _ _ c.in_ok-push.ensures.items old.tally old.tallies;
    }
