-- In which ways a worker came to its answers.
use Rattle.std.specs.Prelude.{Bool, true, false, not}
use Rattle.scq_collect.specs.declared.answered.Answered.{Answered}
use Rattle.scq_collect.specs.declared.answered.Way.{Way}
use Rattle.scq_collect.specs.declared.answered.Way.TheVariants.{Taken, Direct}

-- whether a member of a list was taken, or answered directly
abbrev pub is_way_taken : Way → Bool
is_way_taken (Taken place number) = true
is_way_taken (Direct head) = false

abbrev pub is_taken : Answered → Bool
is_taken a = is_way_taken a.way

abbrev pub is_direct : Answered → Bool
is_direct a = not (is_way_taken a.way)
