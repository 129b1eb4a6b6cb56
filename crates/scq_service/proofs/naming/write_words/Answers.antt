use Rattle.std.proofs.Common.{map, string_bytes}
use Rattle.scq_service.specs.Exports.{words_lines}
use Rattle.scq_service.proofs.Writings.{same-line, written-none}
use Rattle.scq_service.proofs.naming.write_words.Goals as goal

pub returns-in-NotUnderstood : goal.returns-in-NotUnderstood
returns-in-NotUnderstood g c = same-line (words_lines c.args.run_alone (map string_bytes c.args.words.now)) c.in-NotUnderstood.is c.write_command.ensures

pub returns-in-Workers : goal.returns-in-Workers
returns-in-Workers g c = same-line (words_lines c.args.run_alone (map string_bytes c.args.words.now)) c.in-Workers.is c.write_option.ensures

pub returns-in-Order : goal.returns-in-Order
returns-in-Order g c = same-line (words_lines c.args.run_alone (map string_bytes c.args.words.now)) c.in-Order.is c.write_option-in-Order.ensures

pub returns-in-Size : goal.returns-in-Size
returns-in-Size g c = same-line (words_lines c.args.run_alone (map string_bytes c.args.words.now)) c.in-Size.is c.write_option-in-Size.ensures

pub returns-in-Topics : goal.returns-in-Topics
returns-in-Topics g c = same-line (words_lines c.args.run_alone (map string_bytes c.args.words.now)) c.in-Topics.is c.write_option-in-Topics.ensures

pub returns-in-Seed : goal.returns-in-Seed
returns-in-Seed g c = same-line (words_lines c.args.run_alone (map string_bytes c.args.words.now)) c.in-Seed.is c.write_option-in-Seed.ensures

pub returns-in-Lines : goal.returns-in-Lines
returns-in-Lines g c = same-line (words_lines c.args.run_alone (map string_bytes c.args.words.now)) c.in-Lines.is c.write_option-in-Lines.ensures

pub returns-in-Room : goal.returns-in-Room
returns-in-Room g c = same-line (words_lines c.args.run_alone (map string_bytes c.args.words.now)) c.in-Room.is c.write_option-in-Room.ensures

pub returns-in-TooManyFiles : goal.returns-in-TooManyFiles
returns-in-TooManyFiles g c = same-line (words_lines c.args.run_alone (map string_bytes c.args.words.now)) c.in-TooManyFiles.is written-none

pub returns-in-TooManyRecordings : goal.returns-in-TooManyRecordings
returns-in-TooManyRecordings g c = same-line (words_lines c.args.run_alone (map string_bytes c.args.words.now)) c.in-TooManyRecordings.is written-none

pub returns-in-NoName : goal.returns-in-NoName
returns-in-NoName g c = same-line (words_lines c.args.run_alone (map string_bytes c.args.words.now)) c.in-NoName.is written-none
