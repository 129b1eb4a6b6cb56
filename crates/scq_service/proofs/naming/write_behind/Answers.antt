use Rattle.std.proofs.Common.{map, string_bytes}
use Rattle.scq_service.specs.Exports.{fault_lines}
use Rattle.scq_service.proofs.Writings.{same-line, written-none}
use Rattle.scq_service.proofs.naming.write_behind.Goals as goal

pub returns-in-Words : goal.returns-in-Words
returns-in-Words g c = same-line (fault_lines c.args.run_alone (map string_bytes c.args.words.now) (map string_bytes c.args.names.now)) c.in-Words.is c.write_words.ensures

pub returns-in-OpenFault : goal.returns-in-OpenFault
returns-in-OpenFault g c = same-line (fault_lines c.args.run_alone (map string_bytes c.args.words.now) (map string_bytes c.args.names.now)) c.in-OpenFault.is c.write_name.ensures

pub returns-in-ReadFault : goal.returns-in-ReadFault
returns-in-ReadFault g c = same-line (fault_lines c.args.run_alone (map string_bytes c.args.words.now) (map string_bytes c.args.names.now)) c.in-ReadFault.is c.write_name-in-ReadFault.ensures

pub returns-in-TooLong : goal.returns-in-TooLong
returns-in-TooLong g c = same-line (fault_lines c.args.run_alone (map string_bytes c.args.words.now) (map string_bytes c.args.names.now)) c.in-TooLong.is c.write_name-in-TooLong.ensures

pub returns-in-TooLarge : goal.returns-in-TooLarge
returns-in-TooLarge g c = same-line (fault_lines c.args.run_alone (map string_bytes c.args.words.now) (map string_bytes c.args.names.now)) c.in-TooLarge.is c.write_name-in-TooLarge.ensures

pub returns-in-WriteFault : goal.returns-in-WriteFault
returns-in-WriteFault g c = same-line (fault_lines c.args.run_alone (map string_bytes c.args.words.now) (map string_bytes c.args.names.now)) c.in-WriteFault.is written-none

pub returns-in-BadLine : goal.returns-in-BadLine
returns-in-BadLine g c = same-line (fault_lines c.args.run_alone (map string_bytes c.args.words.now) (map string_bytes c.args.names.now)) c.in-BadLine.is written-none

pub returns-in-NotEnabled : goal.returns-in-NotEnabled
returns-in-NotEnabled g c = same-line (fault_lines c.args.run_alone (map string_bytes c.args.words.now) (map string_bytes c.args.names.now)) c.in-NotEnabled.is written-none

pub returns-in-Unlawful : goal.returns-in-Unlawful
returns-in-Unlawful g c = same-line (fault_lines c.args.run_alone (map string_bytes c.args.words.now) (map string_bytes c.args.names.now)) c.in-Unlawful.is written-none

pub returns-in-Unfinished : goal.returns-in-Unfinished
returns-in-Unfinished g c = same-line (fault_lines c.args.run_alone (map string_bytes c.args.words.now) (map string_bytes c.args.names.now)) c.in-Unfinished.is written-none

pub returns-in-BadLineOf : goal.returns-in-BadLineOf
returns-in-BadLineOf g c = same-line (fault_lines c.args.run_alone (map string_bytes c.args.words.now) (map string_bytes c.args.names.now)) c.in-BadLineOf.is c.write_name-in-BadLineOf.ensures

pub returns-in-SharedOf : goal.returns-in-SharedOf
returns-in-SharedOf g c = same-line (fault_lines c.args.run_alone (map string_bytes c.args.words.now) (map string_bytes c.args.names.now)) c.in-SharedOf.is c.write_both.ensures

pub returns-in-TwoRunsOf : goal.returns-in-TwoRunsOf
returns-in-TwoRunsOf g c = same-line (fault_lines c.args.run_alone (map string_bytes c.args.words.now) (map string_bytes c.args.names.now)) c.in-TwoRunsOf.is c.write_both-in-TwoRunsOf.ensures

pub returns-in-UnlawfulOf : goal.returns-in-UnlawfulOf
returns-in-UnlawfulOf g c = same-line (fault_lines c.args.run_alone (map string_bytes c.args.words.now) (map string_bytes c.args.names.now)) c.in-UnlawfulOf.is c.write_name-in-UnlawfulOf.ensures

pub returns-in-AspectFails : goal.returns-in-AspectFails
returns-in-AspectFails g c = same-line (fault_lines c.args.run_alone (map string_bytes c.args.words.now) (map string_bytes c.args.names.now)) c.in-AspectFails.is written-none

pub returns-in-NotTested : goal.returns-in-NotTested
returns-in-NotTested g c = same-line (fault_lines c.args.run_alone (map string_bytes c.args.words.now) (map string_bytes c.args.names.now)) c.in-NotTested.is written-none

pub returns-in-NotLinearizable : goal.returns-in-NotLinearizable
returns-in-NotLinearizable g c = same-line (fault_lines c.args.run_alone (map string_bytes c.args.words.now) (map string_bytes c.args.names.now)) c.in-NotLinearizable.is written-none

pub returns-in-NeverEnded : goal.returns-in-NeverEnded
returns-in-NeverEnded g c = same-line (fault_lines c.args.run_alone (map string_bytes c.args.words.now) (map string_bytes c.args.names.now)) c.in-NeverEnded.is written-none

pub returns-in-NotFound : goal.returns-in-NotFound
returns-in-NotFound g c = same-line (fault_lines c.args.run_alone (map string_bytes c.args.words.now) (map string_bytes c.args.names.now)) c.in-NotFound.is written-none

pub returns-in-NoMemory : goal.returns-in-NoMemory
returns-in-NoMemory g c = same-line (fault_lines c.args.run_alone (map string_bytes c.args.words.now) (map string_bytes c.args.names.now)) c.in-NoMemory.is written-none
