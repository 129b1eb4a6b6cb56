use Rattle.scq_word.proofs.TicketLemmas.{slot_of_small, same_rest, same_slot, slot_of-onto}
use Rattle.scq_word.proofs.laws.slots_are_one_to_one.Goals as goal

pub returns : goal.returns
returns c = record { small = slot_of_small; same = λ order t u. (same_rest order t u, same_slot order t u); onto = slot_of-onto }
