use Rattle.std.specs.Prelude.{Some}
use Rattle.example_queue.proofs.main.Given as goal

abbrev pub ghosts-make_rounds : goal.ghosts-make_rounds
ghosts-make_rounds c a = record { table = Some a.made.queue.table }
