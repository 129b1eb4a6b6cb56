use Rattle.std.proofs.Common.{refl}
use Rattle.scq_frames.specs.Exports.{part_at, part_of_view}
use Rattle.scq_frames.proofs.EncodedLemmas.{begins-room}
use Rattle.scq_stages.specs.Exports.{stages_left}
use Rattle.scq_stages.proofs.Handlings.{left-over}
use Rattle.scq_stages.proofs.handling.finish_part.Goals as goal

pub finish_behind-left-requires : goal.finish_behind-left-requires
finish_behind-left-requires c = (begins-room c.args.bytes.now (part_of_view c.in-Some.view) c.in-Some.ensures.found).0

pub returns-clause-finished : goal.returns-clause-finished
returns-clause-finished c =
    let bytes = c.args.bytes.now in
    let view = c.in-Some.view in
    let done = c.finish_behind-left in
    left-over (stages_left c.args.topic) bytes done.new.bytes (part_of_view view) (part_at bytes)
    (record { file = view.file; line = view.line; len = done.result })
    c.in-Some.ensures.found c.in-Some.ensures.part refl refl done.ensures.within done.ensures.left
