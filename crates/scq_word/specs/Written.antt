-- What a vector has once it was written through a loan of all its elements, for a buffer that is
-- made of one.
use Rattle.std.proofs.Common.{◌≡◌, ℕ, ◌∙◌, sym, List, ◌++◌, length, take, drop}
use Rattle.std.proofs.Math.Seq.{take-append_seam}

-- as many elements as there were take the place of all
pub rewritten : (old new : List ℕ) (len : ℕ) → len ≡ length old → length new ≡ length old
    → take len (new ++ drop (length new) old) ≡ new
rewritten old new len full same =
    rw (full ∙ sym same) (take-append_seam new (drop (length new) old))
