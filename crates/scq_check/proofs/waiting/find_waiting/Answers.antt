use Rattle.std.proofs.Common.{ℕ, ◌<◌, ◌^◌, Option, length, subst, sym}
use Rattle.std.specs.Prelude.{IfSome}
use Rattle.scq_check.specs.declared.waiting.Sought.TheVariants.{Every, GotLater}
use Rattle.scq_check.proofs.WaitingLemmas.{tokens_small, told_token_within, told_put_within}
use Rattle.scq_check.proofs.waiting.find_waiting.Goals as goal

pub got_of_told-got-requires-clause-token : goal.got_of_told-got-requires-clause-token
got_of_told-got-requires-clause-token c =
    subst (λ (told : Option ℕ × Option ℕ). IfSome told.0 (λ number. number < 2 ^ 32)) (sym c.told_of-told.ensures)
    (told_token_within _ _ _ _ _ (tokens_small GotLater c.args.opening.now c.args.events.now c.args.queue c.args.e _ c.waiting_tokens-late_tokens.ensures.failures.first)
    (tokens_small Every c.args.opening.now c.args.events.now c.args.queue c.args.e _ c.waiting_tokens-tokens.ensures.failures.first))

pub got_of_told-got-requires-clause-put : goal.got_of_told-got-requires-clause-put
got_of_told-got-requires-clause-put c =
    subst (λ (told : Option ℕ × Option ℕ). IfSome told.1 (λ d. d < length c.args.events.now)) (sym c.told_of-told.ensures)
    (told_put_within _ _ _ _ _ c.waiting_puts-late_puts.ensures.within c.waiting_puts-puts.ensures.within)

pub returns-clause-waiting : goal.returns-clause-waiting
returns-clause-waiting c = record {
  tokens = c.waiting_tokens-tokens.ensures.failures;
  puts = c.waiting_puts-puts.ensures.failures;
  told = record {
    late_token = _;
    late_put = _;
    tokens = c.waiting_tokens-late_tokens.ensures.failures.first;
    puts = c.waiting_puts-late_puts.ensures.failures.first;
    told = c.told_of-told.ensures;
  };
  got = c.got_of_told-got.ensures.got;
}
