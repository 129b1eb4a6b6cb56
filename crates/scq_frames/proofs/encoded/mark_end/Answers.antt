-- What begins at the zeros is no part.
use Rattle.std.proofs.Common.{rules, ◌≡◌, ◌-◌, length}
use Rattle.std.specs.Prelude.{min}
use Rattle.scq_frames.proofs.BatchLemmas.{zeros-end}
use Rattle.scq_frames.proofs.encoded.mark_end.Goals as goal

pub returns-clause-ended : goal.returns-clause-ended
returns-clause-ended c =
    let count : c.min.result ≡ min 24 (length c.args.into.now - c.args.at) = search rules in
    zeros-end c.args.into.now c.write_zeros.new.into c.args.at c.min.result c.requires count c.write_zeros.ensures
