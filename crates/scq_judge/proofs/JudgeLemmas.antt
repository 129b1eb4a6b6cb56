-- What is at fault, as it is handed on
use Rattle.std.proofs.Common.{◌≡◌, ◌∙◌, ◌⊎◌, inl, inr, ℕ, zero, suc, ◌+◌, ◌-◌, Bool, List, [], ◌∷◌, ◌++◌, length, map, take, refl, sym, ap, subst, arith, Option, Some, Ok, Err, slice_get, get_or, All}
use Rattle.std.specs.Prelude.{Result, IfOk}
use Rattle.std.proofs.Math.Seq.{take-append_seam, take-length}
use Rattle.std.proofs.lemmas.List.{length-map}
use Rattle.std.proofs.lemmas.Option.{slice_get_within, slice_get-get_or}
use Rattle.std.proofs.lemmas.List.Sorted.{All-permutation}
use Rattle.scq_hist.specs.Exports.{IsLawful}
use Rattle.scq_hist.specs.declared.events.Event.{Event}
use Rattle.scq_judge.specs.Exports.{NoneIsLarge, IsFile, IsHistoryOf, IsFirstUnlawful, IsCause, IsCauseIn, IsSharing, AreSoundBefore, IsUnlawfulAt}
use Rattle.scq_judge.specs.Exports.{fault_of_merging, IsMergeOf, HasEqual, HasStampOfAnother, EventIsAt, AreQuiet, AreReadUntil, AreReadWhole}
use Rattle.scq_judge.specs.Exports.{EventsAreOfFiles, AllAreOfFiles, recording_of, AreOfOneRun, EachSeatInOneFile}
use Rattle.scq_judge.specs.Judged.{IsLawfulHistory}
use Rattle.scq_judge.specs.Recording.{Recording}
use Rattle.scq_judge.specs.declared.judging.JudgeFault.{JudgeFault}
use Rattle.scq_judge.specs.declared.judging.JudgeFault.TheVariants.{BadLine, Shared as SharedBy, TwoRuns, Unlawful, ReadFault, TooLarge, NoMemory}
use Rattle.scq_judge.specs.declared.judging.Shared.{Shared}
use Rattle.scq_judge.specs.declared.judging.Shared.TheVariants.{Stamp, Seat}
use Rattle.scq_judge.specs.declared.merging.MergeFault.{MergeFault}
use Rattle.scq_judge.specs.declared.merging.Merged.{Merged}
use Rattle.scq_judge.specs.declared.merging.MergeFault.TheVariants as merging
use Rattle.scq_judge.specs.declared.recorded.Place.{Place}
use Rattle.scq_judge.specs.declared.recorded.RunOf.{RunOf}
use Rattle.scq_judge.specs.declared.recorded.Stamped.{Stamped}

-- there are as many places as events
pub as_many : (stamped : List Stamped) (events : List Event) (places : List Place) → IsMergeOf stamped events places → length places ≡ length events
as_many stamped events places is =
    ap length is.places_are ∙ length-map is.merged (λ s. s.place) ∙ sym (ap length is.events_are ∙ length-map is.merged (λ s. s.event))

-- an event out of place
pub cause_of_history : (recorded : Recording) (opening : List (List ℕ)) (events : List Event) (places : List Place) → IsHistoryOf recorded opening events places
    → (fault : JudgeFault) → (fault ≡ NoMemory) ⊎ IsUnlawfulAt events places fault → IsCauseIn recorded fault
cause_of_history recorded opening events places history (BadLine file line) (inl is) = absurd cc
cause_of_history recorded opening events places history (BadLine file line) (inr h) = absurd h
cause_of_history recorded opening events places history (SharedBy what file line g m) (inl is) = absurd cc
cause_of_history recorded opening events places history (SharedBy what file line g m) (inr h) = absurd h
cause_of_history recorded opening events places history (TwoRuns file run g s) (inl is) = absurd cc
cause_of_history recorded opening events places history (TwoRuns file run g s) (inr h) = absurd h
cause_of_history recorded opening events places history (Unlawful file line) (inl is) = absurd cc
cause_of_history recorded opening events places history (Unlawful file line) (inr h) = record {
  opening = opening;
  events = events;
  places = places;
  history = history;
  e = h.0;
  first = h.1;
  stands = h.2;
}
cause_of_history recorded opening events places history (ReadFault file) (inl is) = absurd cc
cause_of_history recorded opening events places history (ReadFault file) (inr h) = absurd h
cause_of_history recorded opening events places history (TooLarge file) (inl is) = absurd cc
cause_of_history recorded opening events places history (TooLarge file) (inr h) = absurd h
cause_of_history recorded opening events places history NoMemory h = tt

-- a stamp that stands twice
pub cause_of_merging : (recorded : Recording) (refused : MergeFault)
    → ((place other : Place) → refused ≡ merging.SameStamp place other → HasStampOfAnother recorded.events place other) → IsCauseIn recorded (fault_of_merging refused)
cause_of_merging recorded (merging.SameStamp place other) same = same place other refl
cause_of_merging recorded merging.NoMemory same = tt

-- what was read is at fault
pub cause_of_recorded : (lone : Bool) (contents : List (List ℕ)) (recorded : Recording) → NoneIsLarge contents → recording_of lone contents ≡ Ok recorded
    → (fault : JudgeFault) → IsCauseIn recorded fault → IsCause lone contents fault
cause_of_recorded lone contents recorded small read (BadLine file line) h = absurd h
cause_of_recorded lone contents recorded small read (SharedBy what file line g m) h = record { small = small; recorded = recorded; read = read; cause = h }
cause_of_recorded lone contents recorded small read (TwoRuns file run g s) h = record { small = small; recorded = recorded; read = read; cause = h }
cause_of_recorded lone contents recorded small read (Unlawful file line) h = record { small = small; recorded = recorded; read = read; cause = h }
cause_of_recorded lone contents recorded small read (ReadFault file) h = absurd h
cause_of_recorded lone contents recorded small read (TooLarge file) h = absurd h
cause_of_recorded lone contents recorded small read NoMemory h = tt

-- the last file is at fault, and nothing is before it
pub sound_before : (lone : Bool) (front : List (List ℕ)) (content : List ℕ) (recorded : Recording) → NoneIsLarge front → recording_of lone front ≡ Ok recorded
    → AreSoundBefore lone (front ++ content ∷ []) (length front + 1)
sound_before lone front content recorded small read =
    let at : length front + 1 - 1 ≡ length front = omega arith in
    let same : take (length front + 1 - 1) (front ++ content ∷ []) ≡ front =
    ap (λ n. take n (front ++ content ∷ [])) at ∙ take-append_seam front (content ∷ []) in
    record {
      small = subst NoneIsLarge (sym same) small;
      recorded = recorded;
      read = ap (recording_of lone) same ∙ read;
    }

-- nothing is at fault in those that were read
pub sound_all : (lone : Bool) (contents : List (List ℕ)) (file : ℕ) (recorded : Recording) → NoneIsLarge contents → recording_of lone contents ≡ Ok recorded
    → file ≡ length contents + 1 → AreSoundBefore lone contents file
sound_all lone contents file recorded small read next =
    let at : file - 1 ≡ length contents = omega (arith, next) in
    let same : take (file - 1) contents ≡ contents = ap (λ n. take n contents) at ∙ take-length contents in
    record {
      small = subst NoneIsLarge (sym same) small;
      recorded = recorded;
      read = ap (recording_of lone) same ∙ read;
    }

-- Each event that was read is of one of so many files. So is that of a place which is told.
file_of_equal : (count : ℕ) (events : List Stamped) (place other : Place) → EventsAreOfFiles count events → HasStampOfAnother events place other
    → IsFile count place.file × IsFile count other.file
file_of_equal count events place other all h =
    at h.merged h.equal (All-permutation (λ s. IsFile count s.place.file) events h.merged h.same all) where
      at : (merged : List Stamped) → HasEqual merged place other → All (λ s. IsFile count s.place.file) merged
          → IsFile count place.file × IsFile count other.file
      at [] equal each = absurd (let within = equal.within in omega arith)
      at (d ∷ ds) equal each = (
        subst (λ (z : Place). IsFile count z.file) (equal.stands d) (each (equal.i + 1) d equal.within),
        subst (λ (z : Place). IsFile count z.file) (equal.before d) (each equal.i d (let lt = equal.within in omega arith)),
      )

file_of_at : (count : ℕ) (events : List Stamped) (i seat : ℕ) (place : Place) → EventsAreOfFiles count events → EventIsAt events i seat place → IsFile count place.file
file_of_at count events i seat place all at =
    let within = slice_get_within events i at.event at.stands in
    let here : get_or events i at.event ≡ at.event = (let read = slice_get-get_or events i at.event within in let there = at.stands in cc) in
    subst (λ (z : Place). IsFile count z.file) (ap (λ (s : Stamped). s.place) here ∙ sym at.place_is) (all i at.event within)

files_of_shared : (count : ℕ) (events : List Stamped) (what : Shared) (place other : Place) → EventsAreOfFiles count events → IsSharing events what place other
    → IsFile count place.file × IsFile count other.file
files_of_shared count events Stamp place other all h = file_of_equal count events place other all h
files_of_shared count events Seat place other all h =
    let at = h.1 in (file_of_at count events h.0 at.seat place all at.here, file_of_at count events at.k at.seat other all at.there)

file_at : (count : ℕ) (merged : List Stamped) (e : ℕ) (place : Place) → All (λ s. IsFile count s.place.file) merged
    → slice_get (map (λ s. s.place) merged) e ≡ Some place → IsFile count place.file
file_at count [] e place all is = absurd cc
file_at count (s ∷ ss) zero place all is =
    (let same : s.place ≡ place = cc in subst (λ (z : Place). IsFile count z.file) same (all 0 s (omega arith)))
file_at count (s ∷ ss) (suc e) place all is = file_at count ss e place (λ k d lt. all (suc k) d (omega arith)) is

file_of_place : (count : ℕ) (recorded : Recording) (place : Place) → EventsAreOfFiles count recorded.events → IsFirstUnlawful recorded place → IsFile count place.file
file_of_place count recorded place all h =
    let merged = h.history.merged in
    file_at count merged.merged h.e place
    (All-permutation (λ s. IsFile count s.place.file) recorded.events merged.merged merged.is_merged.same all)
    (subst (λ ps. slice_get ps h.e ≡ Some place) merged.places_are h.stands)

file_of_run : (count : ℕ) (runs : List RunOf) (i : ℕ) (run : RunOf) → All (λ run. IsFile count run.file) runs → slice_get runs i ≡ Some run → IsFile count run.file
file_of_run count runs i run all is =
    let within = slice_get_within runs i run is in
    let here : get_or runs i run ≡ run = (let read = slice_get-get_or runs i run within in cc) in
    subst (λ (z : RunOf). IsFile count z.file) here (all i run within)

-- all were read where what was read is at fault
pub until_recorded : {S : Type 0} (faults end_count : S → ℕ) (left : S → Option (List ℕ)) (olds news : List S) (recorded : Recording)
    → AllAreOfFiles (length olds) recorded → AreReadWhole faults end_count left (length olds) olds news → (fault : JudgeFault) → IsCauseIn recorded fault
    → AreReadUntil faults end_count left olds news fault
until_recorded {S} faults end_count left olds news recorded all whole fault h = by fault h where
  quiet : AreQuiet faults olds news
  quiet = λ k d lt. (whole k d lt).kept

  by : (fault : JudgeFault) → IsCauseIn recorded fault → AreReadUntil faults end_count left olds news fault
  by (BadLine file line) h = absurd h
  by (SharedBy what file line g m) h =
      let files = files_of_shared (length olds) recorded.events what (record { file = file; line = line }) (record { file = g; line = m }) all.events h in
      (files.0, files.1, whole)
  by (TwoRuns file run g s) h = (
    file_of_run (length olds) recorded.runs h.i (record { file = file; number = run }) all.runs h.here,
    file_of_run (length olds) recorded.runs h.k (record { file = g; number = s }) all.runs h.there,
    whole,
  )
  by (Unlawful file line) h = (file_of_place (length olds) recorded (record { file = file; line = line }) all.events h, whole)
  by (ReadFault file) h = absurd h
  by (TooLarge file) h = absurd h
  by NoMemory h = quiet

-- want of memory is a cause of its own
pub cause_of_memory : (recorded : Recording) (fault : JudgeFault) → fault ≡ NoMemory → IsCauseIn recorded fault
cause_of_memory recorded fault is = subst (IsCauseIn recorded) (sym is) tt

-- the merged history, where it is lawful
pub lawful_made : (recorded : Recording) (merged : Merged) (result : Result Merged JudgeFault) → AreOfOneRun recorded.runs → EachSeatInOneFile recorded.events
    → merged.opening.items ≡ recorded.opening → IsMergeOf recorded.events merged.events.items merged.places.items
    → IfOk result (λ history. history ≡ merged) → IfOk result (λ history. IsLawful merged.events.items)
    → IfOk result (λ history. IsLawfulHistory recorded history.opening.items history.events.items history.places.items)
lawful_made recorded merged (Err fault) runs seats opens made same lawful = tt
lawful_made recorded merged (Ok history) runs seats opens made same lawful =
    subst (λ (m : Merged). IsLawfulHistory recorded m.opening.items m.events.items m.places.items) (sym same) (record {
      runs = runs;
      seats = seats;
      history = record { opens = opens; merged = made };
      many = as_many recorded.events merged.events.items merged.places.items made;
      lawful = lawful;
    })
