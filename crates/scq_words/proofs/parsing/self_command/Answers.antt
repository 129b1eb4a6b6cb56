use Rattle.scq_words.proofs.parsing.self_command.Goals as goal

pub returns : goal.returns
returns c =
    let seed = c.with-seed.ensures _ _ c.required_option.ensures.local c.plain_command.ensures c.required_option.ensures.rule in
    let lines = c.with-lines.ensures _ _ c.required_option-2.ensures.local seed c.required_option-2.ensures.rule in
    c.with.ensures _ _ c.option.ensures.local lines c.option.ensures.rule
