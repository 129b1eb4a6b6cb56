-- The view that is written is the part.
use Rattle.std.proofs.Common.{◌∙◌, ap, ◌-◌, ◌*◌, ◌++◌, ◌+◌, arith, length, drop, length-drop}
use Rattle.std.proofs.lemmas.List.{length-take}
use Rattle.scq_frames.specs.Exports.{Part, message_bytes}
use Rattle.scq_frames.proofs.encoded.encode.Goals as goal

pub write_part-requires-clause-short : goal.write_part-requires-clause-short
write_part-requires-clause-short c =
    let payload = c.args.message.now.payload in
    let start = (c.args.part - 1) * c.args.size in
    let same = ap (λ (p : Part). length p.payload) c.view_of.ensures in
    omega (arith, same, c.requires.short, length-take c.args.size (drop start payload), length-drop start payload)

pub write_part-requires-clause-room : goal.write_part-requires-clause-room
write_part-requires-clause-room c =
    let same = ap (λ (p : Part). length p.payload) c.view_of.ensures in
    omega (arith, same, c.requires.room)

pub returns : goal.returns
returns c =
    c.write_part.ensures ∙ ap (λ (p : Part). message_bytes p ++ drop (24 + length p.payload) c.args.into.now) c.view_of.ensures
