-- What is wrong with files, and what is said of it. A file's bytes are those that its source gave:
-- the ones that are visible of it, without those that the source has left. A payload may have
-- `size` bytes.
use Rattle.std.specs.Prelude.{◌≡◌, ℕ, ◌+◌, ◌-◌, ◌^◌, ◌++◌, Bool, false, nat_lt, List, [], ◌∷◌}
use Rattle.std.specs.Prelude.{length, take, Option, Some, None, IsSomeAnd, unwrap_or, slice_get}
use Rattle.std.specs.Prelude.{if◌then◌else◌}
use Rattle.std.specs.Option.{option_or}
use Rattle.scq_frames.specs.Exports.{LongPayload, ManyBytes, file_trouble}
use Rattle.scq_frames.specs.Trouble.{Trouble}
use Rattle.scq_service.specs.Members.{SourceOf}
use Rattle.scq_service.specs.declared.fault.Fault.{Fault}
use Rattle.scq_service.specs.declared.fault.Fault.TheVariants.{ReadFault, TooLong, TooLarge}

-- the bytes that were given of a content of which these are left
abbrev pub given_bytes : List ℕ → List ℕ → List ℕ
given_bytes content rest = take (length content - length rest) content

-- the fault of a file: its trouble, or else a read that failed
abbrev pub file_fault : ℕ → ℕ → Bool → Option Trouble → Option Fault
file_fault size file failed (Some (LongPayload line len)) = Some (TooLong file line len size)
file_fault size file failed (Some ManyBytes) = Some (TooLarge file (2 ^ 30))
file_fault size file failed None = if failed then Some (ReadFault file) else None

-- the first fault of files with these contents, of which the first has this number. Sources have a
-- count of faults, and what they have left may be visible.
abbrev pub first_file_fault : {S : Type 0} → ℕ → SourceOf S → ℕ → List (List ℕ) → List S
    → Option Fault
first_file_fault size src file (content ∷ contents) (source ∷ sources) =
    let failed = nat_lt 0 (src.faults source) in
    option_or (file_fault size file failed
    (file_trouble size failed (given_bytes content (unwrap_or (src.left source) []))))
    (first_file_fault size src (file + 1) contents sources)
first_file_fault size src file _ _ = None

-- a file's whole content has this trouble
abbrev pub IsTroubled : ℕ → List (List ℕ) → ℕ → Trouble → Type 0
IsTroubled size contents file trouble =
    IsSomeAnd (slice_get contents (file - 1)) (λ content.
    file_trouble size false content ≡ Some trouble)

-- each source has left what follows the bytes that it gave
abbrev pub HaveRest : {S : Type 0} → (S → Option (List ℕ)) → List (List ℕ) → List S → Type 0
HaveRest left (content ∷ contents) (source ∷ sources) =
    IsSomeAnd (left source) (λ rest. content ≡ given_bytes content rest ++ rest)
    × HaveRest left contents sources
HaveRest left [] [] = Unit {0}
HaveRest left _ _ = ⊥
