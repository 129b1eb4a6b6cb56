-- The fault of several workers: its cause, and that want of memory comes first.
use Rattle.std.proofs.Common.{◌≡◌, ◌≢◌, refl, subst, true, false, ℕ, Bool, List, Option, Some, None}
use Rattle.scq_frames.specs.declared.fault.FrameFault.{FrameFault}
use Rattle.scq_frames.specs.declared.fault.FrameFault.TheVariants as frame
use Rattle.scq_files.specs.Exports.{AllEndFed, ReadingStopsAt, SourceOf}
use Rattle.scq_desk.specs.Exports.{fault_of_workers, HasCause, NoneStarved}
use Rattle.scq_desk.specs.declared.fault.EndFault.{EndFault}
use Rattle.scq_desk.specs.declared.fault.EndFault.TheVariants.{Read, TooLong, TooLarge, NoMemory}

-- a fault has the cause of the first file's
pub caused : {S : Type 0} (size : ℕ) (src : SourceOf S) (olds news : List S) (starved : Bool) (first : Option (ℕ × FrameFault)) (fault : EndFault)
    → fault_of_workers starved first ≡ Some fault
    → ((file : ℕ) (f : FrameFault) → first ≡ Some (file, f) → f ≢ frame.NoMemory → ReadingStopsAt size src olds news file f) → HasCause size src olds news fault
caused size src olds news true first fault e cause =
    let is : NoMemory ≡ fault = cc in
    subst (HasCause size src olds news) is tt
caused size src olds news false None fault e cause = absurd (cc)
caused size src olds news false (Some (file, frame.ReadFault)) fault e cause =
    let is : Read file ≡ fault = cc in
    subst (HasCause size src olds news) is (cause file frame.ReadFault refl (λ h. absurd (cc)))
caused size src olds news false (Some (file, frame.TooLong line len)) fault e cause =
    let is : TooLong file line len ≡ fault = cc in
    subst (HasCause size src olds news) is (cause file (frame.TooLong line len) refl (λ h. absurd (cc)))
caused size src olds news false (Some (file, frame.TooLarge bytes)) fault e cause =
    let is : TooLarge file bytes ≡ fault = cc in
    subst (HasCause size src olds news) is (cause file (frame.TooLarge bytes) refl (λ h. absurd (cc)))
caused size src olds news false (Some (file, frame.NoMemory)) fault e cause =
    let is : NoMemory ≡ fault = cc in
    subst (HasCause size src olds news) is tt

-- want of memory comes first
pub memory-first : {S : Type 0} (size : ℕ) (src : SourceOf S) (olds news : List S) (starved : Bool) (first : Option (ℕ × FrameFault)) (fault : EndFault)
    → fault_of_workers starved first ≡ Some fault → (starved ≡ false → AllEndFed size src olds news) → NoneStarved size src olds news fault
memory-first {S} size src olds news true first fault e fed =
    let is : NoMemory ≡ fault = cc in
    subst (λ f. NoneStarved size src olds news f) is tt
memory-first {S} size src olds news false first fault e fed = by fault where
  by : (f : EndFault) → NoneStarved size src olds news f
  by (Read file) = fed refl
  by (TooLong file line len) = fed refl
  by (TooLarge file bytes) = fed refl
  by NoMemory = tt
