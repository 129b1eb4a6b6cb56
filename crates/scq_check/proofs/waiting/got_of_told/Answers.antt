use Rattle.scq_check.proofs.WaitingLemmas.{first_within, told_token, told_put, told_undone, told_nothing}
use Rattle.scq_check.proofs.waiting.got_of_told.Goals as goal

pub returns-in-Some-default-clause-got : goal.returns-in-Some-default-clause-got
returns-in-Some-default-clause-got c name told =
    told_token c.args.events.now c.args.queue c.args.token c.args.put c.in-Some-default.number name _ c.in-Some-default.is-0 c.first_named.ensures told

pub returns-in-Some-default-clause-within : goal.returns-in-Some-default-clause-within
returns-in-Some-default-clause-within c = first_within _ _ _ c.first_named.ensures

pub returns-in_ok-name-in-None-Some-clause-got : goal.returns-in_ok-name-in-None-Some-clause-got
returns-in_ok-name-in-None-Some-clause-got c name told =
    told_put c.args.events.now c.args.queue c.args.token c.args.put c.in-None-Some.d c.in_ok-name-in-None-Some.name name _ c.in-None-Some.is-0
    c.in-None-Some.is-1 c.in_ok-name-in-None-Some.ensures c.first_named-in-None-Some.ensures told

pub returns-in_ok-name-in-None-Some-clause-within : goal.returns-in_ok-name-in-None-Some-clause-within
returns-in_ok-name-in-None-Some-clause-within c = first_within _ _ _ c.first_named-in-None-Some.ensures

pub returns-in_err-name-in-None-Some-clause-got : goal.returns-in_err-name-in-None-Some-clause-got
returns-in_err-name-in-None-Some-clause-got c name told =
    told_undone c.args.events.now c.args.queue c.args.token c.args.put c.in-None-Some.d name _ c.in-None-Some.is-0 c.in-None-Some.is-1
    c.in_err-name-in-None-Some.ensures c.from_residual.ensures told

pub returns-in-None-None-clause-got : goal.returns-in-None-None-clause-got
returns-in-None-None-clause-got c name told got =
    told_nothing c.args.events.now c.args.queue c.args.token c.args.put name c.in-None-None.is-0 c.in-None-None.is-1 told
