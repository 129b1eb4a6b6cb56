use Rattle.std.proofs.Common.{◌∙◌}
use Rattle.scq_band.proofs.Keeping.{set_same, same_head}
use Rattle.scq_band.proofs.calls.note_head.Goals as goal

pub returns-else-later-known : goal.returns-else-later-known
returns-else-later-known c =
    let same = same_head c.args.known c.args.later c.requires.rises c.if-later-known.false in
    set_same c.args.numbers.now.items c.args.ring c.args.later (same ∙ c.requires.known) c.requires.low
