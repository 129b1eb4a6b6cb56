use Rattle.scq_service.specs.Exports.{fault_line}
use Rattle.scq_service.proofs.Writings.{same-line}
use Rattle.scq_service.proofs.reporting.write_fault.Goals as goal

pub returns-in-Words : goal.returns-in-Words
returns-in-Words g c = same-line fault_line c.in-Words.is c.write_words.ensures

pub returns-in-OpenFault : goal.returns-in-OpenFault
returns-in-OpenFault g c = same-line fault_line c.in-OpenFault.is c.write_about.ensures

pub returns-in-ReadFault : goal.returns-in-ReadFault
returns-in-ReadFault g c = same-line fault_line c.in-ReadFault.is c.write_about-in-ReadFault.ensures

pub returns-in-TooLong : goal.returns-in-TooLong
returns-in-TooLong g c = same-line fault_line c.in-TooLong.is c.write_too_long.ensures

pub returns-in-TooLarge : goal.returns-in-TooLarge
returns-in-TooLarge g c = same-line fault_line c.in-TooLarge.is c.write_too_large.ensures

pub returns-in-WriteFault : goal.returns-in-WriteFault
returns-in-WriteFault g c = same-line fault_line c.in-WriteFault.is c.write_part.ensures

pub returns-in-BadLine : goal.returns-in-BadLine
returns-in-BadLine g c = same-line fault_line c.in-BadLine.is c.write_of_line.ensures

pub returns-in-NotEnabled : goal.returns-in-NotEnabled
returns-in-NotEnabled g c = same-line fault_line c.in-NotEnabled.is c.write_of_line-in-NotEnabled.ensures

pub returns-in-Unlawful : goal.returns-in-Unlawful
returns-in-Unlawful g c = same-line fault_line c.in-Unlawful.is c.write_of_line-in-Unlawful.ensures

pub returns-in-Unfinished : goal.returns-in-Unfinished
returns-in-Unfinished g c = same-line fault_line c.in-Unfinished.is c.write_of_seat.ensures

pub returns-in-BadLineOf : goal.returns-in-BadLineOf
returns-in-BadLineOf g c = same-line fault_line c.in-BadLineOf.is c.write_of_place.ensures

pub returns-in-SharedOf : goal.returns-in-SharedOf
returns-in-SharedOf g c = same-line fault_line c.in-SharedOf.is c.write_of_shared.ensures

pub returns-in-TwoRunsOf : goal.returns-in-TwoRunsOf
returns-in-TwoRunsOf g c = same-line fault_line c.in-TwoRunsOf.is c.write_of_runs.ensures

pub returns-in-UnlawfulOf : goal.returns-in-UnlawfulOf
returns-in-UnlawfulOf g c = same-line fault_line c.in-UnlawfulOf.is c.write_of_place-in-UnlawfulOf.ensures

pub returns-in-AspectFails : goal.returns-in-AspectFails
returns-in-AspectFails g c = same-line fault_line c.in-AspectFails.is c.write_part-in-AspectFails.ensures

pub returns-in-NotTested : goal.returns-in-NotTested
returns-in-NotTested g c = same-line fault_line c.in-NotTested.is c.write_part-in-NotTested.ensures

pub returns-in-NotLinearizable : goal.returns-in-NotLinearizable
returns-in-NotLinearizable g c = same-line fault_line c.in-NotLinearizable.is c.write_part-in-NotLinearizable.ensures

pub returns-in-NeverEnded : goal.returns-in-NeverEnded
returns-in-NeverEnded g c = same-line fault_line c.in-NeverEnded.is c.write_part-in-NeverEnded.ensures

pub returns-in-NotFound : goal.returns-in-NotFound
returns-in-NotFound g c = same-line fault_line c.in-NotFound.is c.write_part-in-NotFound.ensures

pub returns-in-NoMemory : goal.returns-in-NoMemory
returns-in-NoMemory g c = same-line fault_line c.in-NoMemory.is c.write_part-in-NoMemory.ensures
