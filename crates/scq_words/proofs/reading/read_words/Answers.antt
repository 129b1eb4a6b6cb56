use Rattle.std.proofs.Common.{codes}
use Rattle.std.specs.Prelude.{string_bytes}
use Rattle.scq_words.specs.Exports.{asked, asked_by, is_accepted}
use Rattle.scq_words.specs.declared.request.Request.TheVariants.{Run, SelfRun, Judge, Text, Stages}
use Rattle.scq_words.proofs.Answered.{answered, answered-first}
use Rattle.scq_words.proofs.reading.read_words.Goals as goal

pub returns-in-run : goal.returns-in-run
returns-in-run c =
    let all = answered-first string_bytes asked_by asked is_accepted _ _ _ (codes "run") _ c.in-len1-up.len_at_least c.command-item.is
    c.as_str.ensures.value c.in-run.is (answered Run _ _ c.read_run.result _ c.map.ensures.cases c.read_run.ensures) in
    record { request = all.request; refused = all.refused; taken = all.taken; ranges = all.ranges }

pub returns-in-self : goal.returns-in-self
returns-in-self c =
    let all = answered-first string_bytes asked_by asked is_accepted _ _ _ (codes "self") _ c.in-len1-up.len_at_least c.command-item.is
    c.as_str.ensures.value c.in-self.is (answered SelfRun _ _ c.read_self.result _ c.map-in-self.ensures.cases c.read_self.ensures) in
    record { request = all.request; refused = all.refused; taken = all.taken; ranges = all.ranges }

pub returns-in-judge : goal.returns-in-judge
returns-in-judge c =
    let all = answered-first string_bytes asked_by asked is_accepted _ _ _ (codes "judge") _ c.in-len1-up.len_at_least c.command-item.is
    c.as_str.ensures.value c.in-judge.is (answered Judge _ _ c.read_judge.result _ c.map-in-judge.ensures.cases c.read_judge.ensures) in
    record { request = all.request; refused = all.refused; taken = all.taken; ranges = all.ranges }

pub returns-in-check : goal.returns-in-check
returns-in-check c =
    let all = answered-first string_bytes asked_by asked is_accepted _ _ _ (codes "check") _ c.in-len1-up.len_at_least c.command-item.is
    c.as_str.ensures.value c.in-check.is (answered Text _ _ c.read_text.result _ c.map-in-check.ensures.cases c.read_text.ensures) in
    record { request = all.request; refused = all.refused; taken = all.taken; ranges = all.ranges }

pub returns-in-replay : goal.returns-in-replay
returns-in-replay c =
    let all = answered-first string_bytes asked_by asked is_accepted _ _ _ (codes "replay") _ c.in-len1-up.len_at_least c.command-item.is
    c.as_str.ensures.value c.in-replay.is (answered Text _ _ c.read_text-in-replay.result _ c.map-in-replay.ensures.cases c.read_text-in-replay.ensures) in
    record { request = all.request; refused = all.refused; taken = all.taken; ranges = all.ranges }

pub returns-in-stages : goal.returns-in-stages
returns-in-stages c =
    let all = answered-first string_bytes asked_by asked is_accepted _ _ _ (codes "stages") _ c.in-len1-up.len_at_least c.command-item.is
    c.as_str.ensures.value c.in-stages.is (answered Stages _ _ c.read_stages.result _ c.map-in-stages.ensures.cases c.read_stages.ensures) in
    record { request = all.request; refused = all.refused; taken = all.taken; ranges = all.ranges }
