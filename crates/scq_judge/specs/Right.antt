-- For private calls: whether all aspects hold that make a complete history linearizable
use Rattle.std.specs.Prelude.{ℕ, Bool, true, false, ◌&&◌, Option, Some, None}
use Rattle.scq_check.specs.declared.verdicts.Breaches.{Breaches}

-- no event breaks the aspect
abbrev pub none_breaks : Option ℕ → Bool
none_breaks None = true
none_breaks (Some e) = false

abbrev pub all_hold : Breaches → Bool
all_hold b =
    none_breaks b.fresh.first && none_breaks b.once.first && none_breaks b.in_order.first
    && none_breaks b.empty_right.first && none_breaks b.accepted.first
    && none_breaks b.opening.first
