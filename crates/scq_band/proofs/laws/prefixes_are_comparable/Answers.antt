use Rattle.scq_band.proofs.ComparablePrefixes.{two_prefixes}
use Rattle.scq_band.proofs.laws.prefixes_are_comparable.Goals as goal

pub returns : goal.returns
returns c = two_prefixes
