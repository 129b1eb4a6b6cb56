use Rattle.scq_core.proofs.Fits.{catch_up_lags}
use Rattle.scq_core.proofs.laws.catch_ups_lag.Goals as goal

pub returns : goal.returns
returns c = λ setup m reach. catch_up_lags setup m reach
