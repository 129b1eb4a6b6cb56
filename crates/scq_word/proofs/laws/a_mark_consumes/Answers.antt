use Rattle.scq_word.proofs.WordLemmas.{bit_or-mark}
use Rattle.scq_word.proofs.EntryLemmas.{bit_or-mark_of}
use Rattle.scq_word.proofs.laws.a_mark_consumes.Goals as goal

pub returns : goal.returns
returns c = record { every_size = bit_or-mark; every_order = bit_or-mark_of }
