use Rattle.scq_service.specs.Exports.{words_line}
use Rattle.scq_service.proofs.Writings.{same-line}
use Rattle.scq_service.proofs.reporting.write_words.Goals as goal

pub returns-in-NotUnderstood : goal.returns-in-NotUnderstood
returns-in-NotUnderstood g c = same-line words_line c.in-NotUnderstood.is c.write_part.ensures

pub returns-in-Workers : goal.returns-in-Workers
returns-in-Workers g c = same-line words_line c.in-Workers.is c.write_part-in-Workers.ensures

pub returns-in-Order : goal.returns-in-Order
returns-in-Order g c = same-line words_line c.in-Order.is c.write_part-in-Order.ensures

pub returns-in-Size : goal.returns-in-Size
returns-in-Size g c = same-line words_line c.in-Size.is c.write_part-in-Size.ensures

pub returns-in-Topics : goal.returns-in-Topics
returns-in-Topics g c = same-line words_line c.in-Topics.is c.write_topics.ensures

pub returns-in-TooManyFiles : goal.returns-in-TooManyFiles
returns-in-TooManyFiles g c = same-line words_line c.in-TooManyFiles.is c.write_part-in-TooManyFiles.ensures

pub returns-in-TooManyRecordings : goal.returns-in-TooManyRecordings
returns-in-TooManyRecordings g c = same-line words_line c.in-TooManyRecordings.is c.write_part-in-TooManyRecordings.ensures

pub returns-in-NoName : goal.returns-in-NoName
returns-in-NoName g c = same-line words_line c.in-NoName.is c.write_about.ensures

pub returns-in-Seed : goal.returns-in-Seed
returns-in-Seed g c = same-line words_line c.in-Seed.is c.write_part-in-Seed.ensures

pub returns-in-Lines : goal.returns-in-Lines
returns-in-Lines g c = same-line words_line c.in-Lines.is c.write_part-in-Lines.ensures

pub returns-in-Room : goal.returns-in-Room
returns-in-Room g c = same-line words_line c.in-Room.is c.write_part-in-Room.ensures
