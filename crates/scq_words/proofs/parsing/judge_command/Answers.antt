use Rattle.scq_words.proofs.parsing.judge_command.Goals as goal

pub returns : goal.returns
returns c =
    let room = c.with-room.ensures _ _ c.option.ensures.local c.plain_command.ensures c.option.ensures.rule in
    let strict = c.with-strict.ensures _ _ c.flag.ensures.local room c.flag.ensures.rule in
    let order = c.with-order.ensures _ _ c.flag-2.ensures.local strict c.flag-2.ensures.rule in
    c.with.ensures _ _ c.files.ensures.local order c.files.ensures.rule
