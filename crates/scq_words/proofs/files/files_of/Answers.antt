use Rattle.scq_words.proofs.InRange.{all-named}
use Rattle.scq_words.proofs.files.files_of.Goals as goal

pub returns-clause-named : goal.returns-clause-named
returns-clause-named c = all-named c.args.files.now (λ name. name.now) _ c.in_ok-own.ensures.names c.in_ok-named_files.ensures.named
