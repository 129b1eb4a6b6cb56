-- Rows of the fault lines, worked out by hand.
use Rattle.std.proofs.Common.{◌≡◌, refl}
use Rattle.std.specs.Prelude.{codes}
use Rattle.std.specs.Fmt.{digits}
use Rattle.scq_topics.specs.declared.topics.TopicFault.TheVariants.{TooMany, BadName}
use Rattle.scq_words.specs.declared.fault.WordsFault.TheVariants.{NotUnderstood, Topics, NoName}
use Rattle.scq_service.specs.Exports.{fault_line}
use Rattle.scq_service.specs.declared.fault.Fault.TheVariants.{Words, OpenFault, ReadFault, TooLong, TooLarge}

row-words : fault_line (Words NotUnderstood) ≡ codes "words not understood\n"
row-words = refl

row-entry : fault_line (Words (Topics (TooMany 17))) ≡ codes "topics entry 17: too many\n"
unfolding digits
row-entry = refl

row-name : fault_line (Words (Topics (BadName 2))) ≡ codes "topics entry 2: bad name\n"
unfolding digits
row-name = refl

row-nameless : fault_line (Words (NoName 64)) ≡ codes "file 64 has no name\n"
unfolding digits
row-nameless = refl

row-missing : fault_line (OpenFault 1) ≡ codes "file 1: cannot open\n"
unfolding digits
row-missing = refl

row-failed : fault_line (ReadFault 12) ≡ codes "file 12: read fault\n"
unfolding digits
row-failed = refl

row-long : fault_line (TooLong 1 1 1048577 1048576) ≡ codes "file 1 line 1: payload of 1048577 bytes, limit 1048576\n"
unfolding digits
row-long = refl

row-large : fault_line (TooLarge 1 1073741824) ≡ codes "file 1: more than 1073741824 bytes\n"
unfolding digits
row-large = refl
