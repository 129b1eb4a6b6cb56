use Rattle.std.proofs.Common.{◌++◌, sym, decimal}
use Rattle.scq_service.proofs.Writings.{same-line}
use Rattle.scq_service.proofs.reporting.write_number.Goals as goal

pub returns : goal.returns
returns g c = same-line (λ n. decimal n ++ c.args.what.now) (sym c.from.ensures) c.write_count.ensures
