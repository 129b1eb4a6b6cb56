-- For private calls: positions by the names of seats' puts
use Rattle.std.specs.Prelude.{ℕ, Bool, ◌==◌, ◌&&◌, Option}
use Rattle.std.specs.BTreeMap.{get}
use Rattle.std.specs.declared.cmp.Ordering.{Ordering}
use Rattle.std.specs.Ordering.{nat_cmp, ordering_then}
use Rattle.scq_check.specs.declared.by_name.ByName.{ByName}

-- two names of seats' puts are the same: a seat and a number each
abbrev pub same_name : ℕ × ℕ → ℕ × ℕ → Bool
same_name a b = (a.0 == b.0) && (a.1 == b.1)

-- names stand in the order of their seats, and then of their numbers
abbrev pub name_order : ℕ × ℕ → ℕ × ℕ → Ordering
name_order a b = ordering_then (nat_cmp a.0 b.0) (nat_cmp a.1 b.1)

-- the position of a name
abbrev pub place_in : ByName → ℕ → ℕ → Option ℕ
place_in names seat number = get name_order names.places (seat, number)
