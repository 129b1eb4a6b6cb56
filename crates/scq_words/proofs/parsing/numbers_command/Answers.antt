use Rattle.scq_words.proofs.parsing.numbers_command.Goals as goal

pub returns : goal.returns
returns c =
    let workers = c.with-workers.ensures _ _ c.option.ensures.local c.plain_command.ensures c.option.ensures.rule in
    let order = c.with-order.ensures _ _ c.option-2.ensures.local workers c.option-2.ensures.rule in
    c.with.ensures _ _ c.option-3.ensures.local order c.option-3.ensures.rule
