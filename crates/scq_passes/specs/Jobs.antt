-- What a job of workers may ask for, whatever they do.
use Rattle.std.specs.Prelude.{ℕ, ◌<◌, ◌≤◌}
use Rattle.scq_word.specs.Exports.{most_run_order}

-- an order, a size and a number of workers, each within its own limits
pub record IsJob (order size workers : ℕ) : Type 0 where
  pub some_order : 0 < order
  pub order_fits : order ≤ most_run_order
  pub some_size : 0 < size
  pub size_fits : size ≤ 65536
  pub some_workers : 0 < workers
  pub workers_fit : workers ≤ 4096
