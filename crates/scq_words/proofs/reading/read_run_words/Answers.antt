use Rattle.std.proofs.Common.{codes}
use Rattle.std.specs.Prelude.{string_bytes}
use Rattle.scq_words.specs.Exports.{asked_for_run, asked_run, run, is_taken_for_run}
use Rattle.scq_words.specs.declared.request.RunRequest.{RunRequest}
use Rattle.scq_words.proofs.Answered.{answered-first}
use Rattle.scq_words.proofs.reading.read_run_words.Goals as goal

pub returns-in-run : goal.returns-in-run
returns-in-run c =
    let all = answered-first string_bytes (λ (request : RunRequest). run (asked_run request)) asked_for_run is_taken_for_run
    c.args.words.now c.command-item.result c.as_str.result.now (codes "run") c.read_run.result c.in-len1-up.len_at_least c.command-item.is
    c.as_str.ensures.value c.in-run.is c.read_run.ensures in
    record { request = all.request; refused = all.refused; taken = all.taken; ranges = all.ranges }
