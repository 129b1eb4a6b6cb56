-- Runs counted from the left, by the byte at which each begins.
use Rattle.std.proofs.Common.{◌≡◌, ℕ, suc, ◌+◌, Bool, true, false, not, ◌&&◌, cond, List, [], ◌∷◌, length, drop, arith, refl}
use Rattle.std.specs.Prelude.{filter}
use Rattle.std.specs.List.{slice_split, onto_first}
use Rattle.scq_topics.specs.Exports.{runs, has_bytes}

-- 1 where a run begins at the byte, and else 0
abbrev pub begins : (ℕ → Bool) → Bool → ℕ → ℕ
begins ends in_run byte = cond (not (ends byte) && not in_run) 1 0

-- how many runs begin in the bytes, which follow a byte of a run or another
abbrev pub begun : (ℕ → Bool) → Bool → List ℕ → ℕ
begun ends in_run [] = 0
begun ends in_run (byte ∷ bytes) = begins ends in_run byte + begun ends (not (ends byte)) bytes

-- how many parts have bytes
abbrev filled : List (List ℕ) → ℕ
filled parts = length (filter has_bytes parts)

-- what is true of the counts of the bytes, of which a run's last bytes may be the first part
record Counts (ends : ℕ → Bool) (bytes : List ℕ) (parts : List (List ℕ)) : Type 0 where
  outside : begun ends false bytes ≡ filled parts
  inside : begun ends true bytes ≡ filled (drop 1 parts)

-- a byte of a run is put before the first part
filled-onto_first : (byte : ℕ) (parts : List (List ℕ)) → filled (onto_first byte parts) ≡ suc (filled (drop 1 parts))
filled-onto_first byte [] = refl
filled-onto_first byte (part ∷ parts) = refl

drop-onto_first : (byte : ℕ) (parts : List (List ℕ)) → drop 1 (onto_first byte parts) ≡ drop 1 parts
drop-onto_first byte [] = refl
drop-onto_first byte (part ∷ parts) = refl

one_more : (ends : ℕ → Bool) (byte : ℕ) (bytes : List ℕ) (parts : List (List ℕ)) (b : Bool) → ends byte ≡ b
    → Counts ends bytes parts → Counts ends (byte ∷ bytes) (cond b ([] ∷ parts) (onto_first byte parts))
one_more ends byte bytes parts true e counts = record {
  outside = rw e (omega (arith, counts.outside));
  inside = rw e (omega (arith, counts.outside));
}
one_more ends byte bytes parts false e counts = record {
  outside = rw (e, filled-onto_first byte parts) (omega (arith, counts.inside));
  inside = rw (e, drop-onto_first byte parts) (omega (arith, counts.inside));
}

counts_of : (ends : ℕ → Bool) (bytes : List ℕ) → Counts ends bytes (slice_split ends bytes)
counts_of ends [] = record { outside = refl; inside = refl }
counts_of ends (byte ∷ bytes) =
    one_more ends byte bytes (slice_split ends bytes) (ends byte) refl (counts_of ends bytes)

-- as many runs begin as there are
pub begun-runs : (ends : ℕ → Bool) (bytes : List ℕ) → begun ends false bytes ≡ length (runs ends bytes)
begun-runs ends bytes = (counts_of ends bytes).outside
