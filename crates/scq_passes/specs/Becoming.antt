-- What became of what a worker took.
use Rattle.std.specs.Prelude.{List, [], ◌∷◌, ◌++◌}

-- what was taken so far became something: each take has its own, but for those that were passed
-- over, and there are no others
pub data BecomeSoFar {T M : Type 0} (Over : T → Type 0) (Becomes : T → M → Type 0) : List T → List M
    → Type 0 where
  none : BecomeSoFar Over Becomes [] []
  and_became : {takes : List T} {members : List M} (take : T) (m : M)
      → BecomeSoFar Over Becomes takes members → Becomes take m
      → BecomeSoFar Over Becomes (takes ++ take ∷ []) (members ++ m ∷ [])
  and_passed_over : {takes : List T} {members : List M} (take : T)
      → BecomeSoFar Over Becomes takes members → Over take
      → BecomeSoFar Over Becomes (takes ++ take ∷ []) members
