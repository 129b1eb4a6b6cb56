use Rattle.std.proofs.Common.{◌<◌, length, refl, sym, subst, arith}
use Rattle.std.proofs.lemmas.Option.{slice_get-get_or}
use Rattle.scq_hist.specs.Exports.{IsPending, IsCount}
use Rattle.scq_hist.proofs.Claims.{claims_iff}
use Rattle.scq_check.specs.declared.queues.Queue.{Queue}
use Rattle.scq_check.proofs.TokenLemmas.{no_token, token_decides}
use Rattle.scq_check.proofs.tokens.is_token_in_order_at.Goals as goal

pub returns-in-None : goal.returns-in-None
returns-in-None c = λ at. (λ _. no_token _ _ _ c.in-None.ensures, λ _. refl)

pub returns-in-Some : goal.returns-in-Some
returns-in-Some c = λ at.
    let within : c.in-Some.number < length c.args.tallies.now = (let token = c.in-Some.ensures.token in let many = c.requires.tallies.many in omega arith) in
    token_decides _ _ _ _ _ c.in-Some.ensures
    (claims_iff _ _ _ _ _ _ _ _ c.requires.event.lawful
    (c.requires.tallies.below _ _ (slice_get-get_or c.args.tallies.now c.in-Some.number (record { ungot = 0; claimed_from = 0 }) within))
    (subst (λ (q : Queue). IsCount (IsPending c.args.events.now 0 c.args.e) q.pending) (sym c.get.ensures) (at.each 0).pending)
    c.is_claimed.ensures)
