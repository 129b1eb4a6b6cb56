use Rattle.scq_words.proofs.parsing.stages_command.Goals as goal

pub returns : goal.returns
returns c = c.with.ensures _ _ c.files.ensures.local c.numbers_command.ensures c.files.ensures.rule
