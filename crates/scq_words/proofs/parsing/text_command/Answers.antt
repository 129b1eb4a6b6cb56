use Rattle.scq_words.proofs.parsing.text_command.Goals as goal

pub returns : goal.returns
returns c = c.with.ensures _ _ c.file.ensures.local c.named_command.ensures c.file.ensures.rule
