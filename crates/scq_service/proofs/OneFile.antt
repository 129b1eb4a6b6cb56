-- What the reading of one file says of its fault.
use Rattle.std.proofs.Common.{◌≡◌, ◌≢◌, ◌∙◌, refl, sym, ap, subst, arith, true, false, ℕ, ◌-◌, ◌<◌, ◌^◌, Bool, List, [], ◌++◌, length, take, length-append, Option, Some, None, IfSome}
use Rattle.std.specs.Prelude.{nat_lt, unwrap_or}
use Rattle.std.specs.Option.{option_map}
use Rattle.std.proofs.Math.Seq.{take-append_seam}
use Rattle.std.proofs.lemmas.Bool.{lt-ltb}
use Rattle.scq_frames.specs.Exports.{LongPayload, ManyBytes, file_trouble, Judges}
use Rattle.scq_frames.specs.Trouble.{Trouble}
use Rattle.scq_frames.specs.declared.fault.FrameFault.{FrameFault}
use Rattle.scq_frames.specs.declared.fault.FrameFault.TheVariants as frame
use Rattle.scq_outside.specs.Exports.{Rose}
use Rattle.scq_files.specs.Reading as reading
use Rattle.scq_service.specs.Exports.{SourceOf, given_bytes, file_fault}
use Rattle.scq_service.specs.declared.fault.Fault.{Fault}
use Rattle.scq_service.specs.declared.fault.Fault.TheVariants.{ReadFault, TooLong, TooLarge, NoMemory}

-- a framer's fault as one of the file that it read
abbrev pub fault_of_file : ℕ → ℕ → FrameFault → Fault
fault_of_file size file frame.ReadFault = ReadFault file
fault_of_file size file (frame.TooLong line len) = TooLong file line len size
fault_of_file size file (frame.TooLarge bytes) = TooLarge file (2 ^ 30)
fault_of_file size file frame.NoMemory = NoMemory

-- a count that rose is above 0
pub rose-above : (old new : ℕ) → Rose old new → 0 < new
rose-above old new rose = omega (arith, rose)

-- what was visible before a source gave these bytes is they and what is left
pub split-visible : (content bytes : List ℕ) (after : Option (List ℕ)) → Some content ≡ option_map (λ rest. bytes ++ rest) after
    → (rest : List ℕ) × (after ≡ Some rest) × (content ≡ bytes ++ rest)
split-visible content bytes None e = absurd (cc)
split-visible content bytes (Some rest) e = (rest, refl, cc)

pub given-is : (content bytes rest : List ℕ) → content ≡ bytes ++ rest → given_bytes content rest ≡ bytes
given-is content bytes rest e =
    let count : length content - length rest ≡ length bytes = omega (arith, ap length e, length-append bytes rest) in
    ap (λ n. take n content) count ∙ ap (take (length bytes)) e ∙ take-append_seam bytes rest

-- what a fault says of a content, by the bytes that were given and the rest
pub record FaultTells (size : ℕ) (content bytes : List ℕ) (after : Option (List ℕ)) (fault : FrameFault) : Type 0 where
  pub rest : List ℕ
  pub left : after ≡ Some rest
  pub whole : content ≡ bytes ++ rest
  pub judges : Judges size bytes rest (Some fault)

module _ {S : Type 0} (size : ℕ) (src : SourceOf S) where
  -- the fault of one source
  abbrev pub fault_of_one : ℕ → List ℕ → S → Option Fault
  fault_of_one file content source = let failed = nat_lt 0 (src.faults source) in
      file_fault size file failed (file_trouble size failed (given_bytes content (unwrap_or (src.left source) [])))

  -- the fault of one source, by the bytes that it gave
  one-fault : (file : ℕ) (content bytes rest : List ℕ) (source : S) (failed : Bool) (trouble : Option Trouble) → nat_lt 0 (src.faults source) ≡ failed
      → src.left source ≡ Some rest → content ≡ bytes ++ rest → file_trouble size failed bytes ≡ trouble
      → fault_of_one file content source ≡ file_fault size file failed trouble
  one-fault file content bytes rest source failed trouble flag is e found =
      ap (λ b. file_fault size file b (file_trouble size b (given_bytes content (unwrap_or (src.left source) [])))) flag
      ∙ ap (λ o. file_fault size file failed (file_trouble size failed (given_bytes content (unwrap_or o [])))) is
      ∙ ap (λ given. file_fault size file failed (file_trouble size failed given)) (given-is content bytes rest e)
      ∙ ap (file_fault size file failed) found

  calm : (source : S) → src.faults source ≡ 0 → nat_lt 0 (src.faults source) ≡ false
  calm source none = ap (λ n. nat_lt 0 n) none

  -- a source that was read to its end has no fault
  pub one-whole : (file : ℕ) (content : List ℕ) (old new : S) → src.left old ≡ Some content → src.faults old ≡ 0 → reading.IsWhole size src old new
      → fault_of_one file content new ≡ None
  one-whole file content old new is fresh whole =
      let judged = whole.judged in
      let split = split-visible content judged.bytes (src.left new) (sym is ∙ judged.moved) in
      let J : Option (List ℕ) → Type 0 = λ o. IfSome o (λ rest. Judges size judged.bytes rest None) in
      one-fault file content judged.bytes split.0 new false None (calm new (whole.kept ∙ fresh)) split.1 split.2 (subst J split.1 judged.judges)

  -- what is said of the whole content, where the reading stopped at a fault
  pub told : (content : List ℕ) (old new : S) (fault : FrameFault) → src.left old ≡ Some content → (stop : reading.IsStopped size src old new fault)
      → FaultTells size content stop.judged.bytes (src.left new) fault
  told content old new fault is stop =
      let judged = stop.judged in
      let split = split-visible content judged.bytes (src.left new) (sym is ∙ judged.moved) in
      let J : Option (List ℕ) → Type 0 = λ o. IfSome o (λ rest. Judges size judged.bytes rest (Some fault)) in
      record { rest = split.0; left = split.1; whole = split.2; judges = subst J split.1 judged.judges }

  -- a source whose reading stopped at a fault has that fault
  pub one-stopped : (file : ℕ) (content : List ℕ) (old new : S) (fault : FrameFault) → fault ≢ frame.NoMemory → src.left old ≡ Some content → src.faults old ≡ 0
      → reading.IsStopped size src old new fault → fault_of_one file content new ≡ Some (fault_of_file size file fault)
  one-stopped file content old new frame.ReadFault other is fresh stop =
      let t = told content old new frame.ReadFault is stop in
      one-fault file content stop.judged.bytes t.rest new true None (lt-ltb 0 (src.faults new) (rose-above _ _ (stop.rose refl))) t.left t.whole t.judges
  one-stopped file content old new (frame.TooLong line len) other is fresh stop =
      let t = told content old new (frame.TooLong line len) is stop in
      one-fault file content stop.judged.bytes t.rest new false (Some (LongPayload line len)) (calm new (stop.kept (λ h. cc) ∙ fresh)) t.left t.whole t.judges.0
  one-stopped file content old new (frame.TooLarge bytes) other is fresh stop =
      let t = told content old new (frame.TooLarge bytes) is stop in
      one-fault file content stop.judged.bytes t.rest new false (Some ManyBytes) (calm new (stop.kept (λ h. cc) ∙ fresh)) t.left t.whole t.judges.0
  one-stopped file content old new frame.NoMemory other is fresh stop = absurd (other refl)

  pub long-of : (content : List ℕ) (old new : S) (line len : ℕ) → src.left old ≡ Some content → reading.IsStopped size src old new (frame.TooLong line len)
      → file_trouble size false content ≡ Some (LongPayload line len)
  long-of content old new line len is stop = let t = told content old new (frame.TooLong line len) is stop in ap (file_trouble size false) t.whole ∙ t.judges.1

  pub large-of : (content : List ℕ) (old new : S) (bytes : ℕ) → src.left old ≡ Some content → reading.IsStopped size src old new (frame.TooLarge bytes)
      → file_trouble size false content ≡ Some ManyBytes
  large-of content old new bytes is stop = let t = told content old new (frame.TooLarge bytes) is stop in ap (file_trouble size false) t.whole ∙ t.judges.1
