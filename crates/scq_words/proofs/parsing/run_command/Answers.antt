use Rattle.scq_words.proofs.parsing.run_command.Goals as goal

pub returns : goal.returns
returns c =
    let topics = c.with-topics.ensures _ _ c.option.ensures.local c.numbers_command-numbers.ensures c.option.ensures.rule in
    let batch = c.with-batch.ensures _ _ c.flag.ensures.local topics c.flag.ensures.rule in
    let report = c.with-report.ensures _ _ c.flag-2.ensures.local batch c.flag-2.ensures.rule in
    c.with.ensures _ _ c.files.ensures.local report c.files.ensures.rule
