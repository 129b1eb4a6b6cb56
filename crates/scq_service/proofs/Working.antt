-- How the reading of files ends, from what the workers left of the sources that had come.
use Rattle.std.proofs.Common.{◌≡◌, ◌≢◌, ◌∙◌, refl, sym, ap, subst, arith, zero, ℕ, suc, ◌+◌, ◌-◌, ◌<◌, ◌≤◌, Bool, List, [], ◌∷◌, ◌++◌, length, take, Option, Some, None, Result, Ok, Err, IfSome, false, true}
use Rattle.std.specs.Prelude.{IfErr, IfOk, IsSomeAnd, OnOk, slice_get, slice_index_or}
use Rattle.std.specs.List.{All}
use Rattle.std.specs.Option.{option_map, option_or}
use Rattle.std.proofs.lemmas.List.{get_or-take, length-take-le}
use Rattle.std.proofs.lemmas.Option.{slice_get-get_or}
use Rattle.scq_frames.specs.Exports.{NothingLeft}
use Rattle.scq_frames.specs.declared.fault.FrameFault.{FrameFault}
use Rattle.scq_frames.specs.declared.fault.FrameFault.TheVariants as frame
use Rattle.scq_outside.specs.Table.{Table}
use Rattle.scq_files.specs.Exports.{HasMoved, ReadingStopsAt, all_left}
use Rattle.scq_desk.specs.Exports.{EndsReading, HasCause}
use Rattle.scq_desk.specs.declared.end.End.{End}
use Rattle.scq_files.specs.Reading as reading
use Rattle.scq_desk.specs.declared.fault.EndFault.{EndFault}
use Rattle.scq_desk.specs.declared.fault.EndFault.TheVariants as work
use Rattle.scq_service.specs.Exports.{SourceOf, HaveAllCome, HaveCome, given_bytes, first_file_fault, HaveRest, IfVisible, IsMissing, without_names}
use Rattle.scq_service.specs.Exports.{Change, Inputs, HasGotSources, HasMissed, IfTold, FileIsRefused, IsUnchanged, ReadsOver, bytes_of_large, fault_of_work}
use Rattle.scq_service.specs.declared.fault.Fault.{Fault}
use Rattle.scq_service.specs.declared.fault.Fault.TheVariants.{OpenFault}
use Rattle.scq_service.proofs.Files.{no-contents, parts}
use Rattle.scq_service.proofs.OneFile.{fault_of_file, given-is, large-of, long-of, one-stopped, one-whole, rose-above, split-visible}

-- what is so of each value that an option may have is so of the one that it has
if-some : {X : Type 0} (o : Option X) (P : X → Type 0) → ((x : X) → o ≡ Some x → P x) → IfSome o P
if-some None P more = tt
if-some (Some x) P more = more x refl

some-and : {X : Type 0} (o : Option X) (x : X) (P : X → Type 0) → o ≡ Some x → P x → IsSomeAnd o P
some-and {X = X} o x P e p = let Q : Option X → Type 0 = λ o. IsSomeAnd o P in subst Q (sym e) p

module _ {S : Type 0} (size : ℕ) (src : SourceOf S) where
  -- each source has left what follows the bytes that it gave
  have-rest : (olds news : List S) (contents : List (List ℕ)) → length news ≡ length olds → all_left src.left olds ≡ Some contents
      → ((k : ℕ) (d : S) → k < length olds → HasMoved src (slice_index_or olds k d) (slice_index_or news k d)) → HaveRest src.left contents news
  have-rest [] [] contents long all moved = let H : List (List ℕ) → Type 0 = λ cs. HaveRest src.left cs [] in subst H (no-contents all) tt
  have-rest [] (new ∷ news) contents long all moved = absurd (omega (arith, long))
  have-rest (old ∷ olds) [] contents long all moved = absurd (omega (arith, long))
  have-rest (old ∷ olds) (new ∷ news) contents long all moved =
      let p = parts (src.left old) (all_left src.left olds) contents all in
      let m = moved 0 new (omega arith) in
      let split = split-visible p.0 m.bytes (src.left new) (sym p.2 ∙ m.moved) in
      let H : List (List ℕ) → Type 0 = λ cs. HaveRest src.left cs (new ∷ news) in
      subst H (sym p.4) (
        some-and (src.left new) split.0 (λ rest. p.0 ≡ given_bytes p.0 rest ++ rest) split.1
            (split.2 ∙ ap (λ (front : List ℕ). front ++ split.0) (sym (given-is p.0 m.bytes split.0 split.2))),
        have-rest olds news p.1 (omega (arith, long)) p.3 (λ k d less. moved (suc k) d (omega (arith, less))),
      )

  -- files that were read to their ends have no fault
  sound : (file : ℕ) (olds news : List S) (contents : List (List ℕ)) → length news ≡ length olds → all_left src.left olds ≡ Some contents
      → All (λ source. src.faults source ≡ 0) olds
      → ((k : ℕ) (d : S) → k < length olds → reading.IsWhole size src (slice_index_or olds k d) (slice_index_or news k d))
      → first_file_fault size src file contents news ≡ None
  sound file [] [] contents long all fresh whole = ap (λ (cs : List (List ℕ)). first_file_fault size src file cs []) (sym (no-contents all))
  sound file [] (new ∷ news) contents long all fresh whole = absurd (omega (arith, long))
  sound file (old ∷ olds) [] contents long all fresh whole = absurd (omega (arith, long))
  sound file (old ∷ olds) (new ∷ news) contents long all fresh whole =
      let p = parts (src.left old) (all_left src.left olds) contents all in
      let one = one-whole size src file p.0 old new p.2 (fresh 0 old (omega arith)) (whole 0 old (omega arith)) in
      ap (λ (cs : List (List ℕ)). first_file_fault size src file cs (new ∷ news)) p.4
      ∙ ap (λ o. option_or o (first_file_fault size src (file + 1) p.1 news)) one
      ∙ sound (file + 1) olds news p.1 (omega (arith, long)) p.3 (λ k d less. fresh (suc k) d (omega (arith, less)))
      (λ k d less. whole (suc k) d (omega (arith, less)))

  -- the file that was stopped behind such files has the first fault
  first : (file k : ℕ) (olds news : List S) (contents : List (List ℕ)) (fault : FrameFault) → fault ≢ frame.NoMemory → length news ≡ length olds
      → k < length olds
      → all_left src.left olds ≡ Some contents → All (λ source. src.faults source ≡ 0) olds
      → ((j : ℕ) (d : S) → j < k → reading.IsWhole size src (slice_index_or olds j d) (slice_index_or news j d))
      → ((d : S) → reading.IsStopped size src (slice_index_or olds k d) (slice_index_or news k d) fault)
      → first_file_fault size src file contents news ≡ Some (fault_of_file size (file + k) fault)
  first file k [] news contents fault other long within all fresh before stop = absurd (omega (arith, within))
  first file k (old ∷ olds) [] contents fault other long within all fresh before stop = absurd (omega (arith, long))
  first file zero (old ∷ olds) (new ∷ news) contents fault other long within all fresh before stop =
      let p = parts (src.left old) (all_left src.left olds) contents all in
      let one = one-stopped size src file p.0 old new fault other p.2 (fresh 0 old (omega arith)) (stop old) in
      let same : file ≡ file + 0 = omega arith in
      ap (λ (cs : List (List ℕ)). first_file_fault size src file cs (new ∷ news)) p.4
      ∙ ap (λ o. option_or o (first_file_fault size src (file + 1) p.1 news)) one
      ∙ ap (λ n. Some (fault_of_file size n fault)) same
  first file (suc k) (old ∷ olds) (new ∷ news) contents fault other long within all fresh before stop =
      let p = parts (src.left old) (all_left src.left olds) contents all in
      let one = one-whole size src file p.0 old new p.2 (fresh 0 old (omega arith)) (before 0 old (omega arith)) in
      let next : file + 1 + k ≡ file + suc k = omega arith in
      ap (λ (cs : List (List ℕ)). first_file_fault size src file cs (new ∷ news)) p.4
      ∙ ap (λ o. option_or o (first_file_fault size src (file + 1) p.1 news)) one
      ∙ first (file + 1) k olds news p.1 fault other (omega (arith, long)) (omega (arith, within)) p.3 (λ j d less. fresh (suc j) d (omega (arith, less)))
      (λ j d less. before (suc j) d (omega (arith, less))) stop
      ∙ ap (λ n. Some (fault_of_file size n fault)) next

  -- a file's content is what its source had left
  content-at : (k : ℕ) (olds : List S) (contents : List (List ℕ)) (d : S) → all_left src.left olds ≡ Some contents → k < length olds
      → (content : List ℕ) × (slice_get contents k ≡ Some content) × (src.left (slice_index_or olds k d) ≡ Some content)
  content-at k [] contents d all within = absurd (omega (arith, within))
  content-at zero (old ∷ olds) contents d all within =
      let p = parts (src.left old) (all_left src.left olds) contents all in
      (p.0, ap (λ (cs : List (List ℕ)). slice_get cs 0) p.4, p.2)
  content-at (suc k) (old ∷ olds) contents d all within =
      let p = parts (src.left old) (all_left src.left olds) contents all in
      let c = content-at k olds p.1 d p.3 (omega (arith, within)) in
      (c.0, ap (λ (cs : List (List ℕ)). slice_get cs (suc k)) p.4 ∙ c.1, c.2)

  -- what is so of the source at each of the first k places is so of all of these
  front : (P : S → Type 0) (news : List S) (k : ℕ) → k ≤ length news → ((j : ℕ) (d : S) → j < k → P (slice_index_or news j d)) → All P (take k news)
  front P news k within each j d less =
      let below : j < k = omega (arith, less, length-take-le k news within) in
      subst P (sym (get_or-take k news j d below)) (each j d below)

  module _ (names : List (List ℕ)) (table : Change (Option Table)) (misses : Change ℕ) (olds news : List S) (long : length news ≡ length olds)
      (come : HaveCome src names (record { table = table; misses = misses; sources = olds; read = 0 })) where
    -- what follows from the contents is so where they were told
    pub if-got : (Q : List (List ℕ) → Type 0) → ((contents : List (List ℕ)) → all_left src.left olds ≡ Some contents → Q contents) → IfTold src.left olds Q
    if-got Q more = if-some (all_left src.left olds) Q more

    next-missed : HasMissed names (record { table = table; misses = misses; sources = olds; read = 0 }) → (read : ℕ)
        → HasMissed names (record { table = table; misses = misses; sources = news; read = read })
    next-missed m read =
        let M : ℕ → Type 0 = λ n. IfSome table.old (λ files. IsMissing files names (n + 1)) in
        record { rose = m.rose; missing = subst M (sym long) m.missing }

    -- where all had come the count of files was kept, and else the next was missed
    pub kept-of : (all : Bool) → HaveAllCome names (record { table = table; misses = misses; sources = olds; read = 0 }) all → length olds ≡ length names
        → IsUnchanged misses
    kept-of true came all = came.1
    kept-of false came all = absurd (omega (arith, came.0, all))

    missed-of : (all : Bool) → HaveAllCome names (record { table = table; misses = misses; sources = olds; read = 0 }) all → length olds < length names
        → HasMissed names (record { table = table; misses = misses; sources = olds; read = 0 })
    missed-of true came less = absurd (omega (arith, came.0, less))
    missed-of false came less = came.1

    pub has-got : (read : ℕ) → ((k : ℕ) (d : S) → k < length olds → HasMoved src (slice_index_or olds k d) (slice_index_or news k d))
        → (length olds ≡ length names → IsUnchanged misses) → HasGotSources src names olds
        (record { table = table; misses = misses; sources = news; read = read })
    has-got read moved kept =
        let T : ℕ → Type 0 = λ n. table.new ≡ option_map (without_names (take n names)) table.old in
        let V : ℕ → Type 0 = λ n. IfVisible table.old (take n names) (λ contents. all_left src.left olds ≡ Some contents) in
        record {
          within = omega (arith, long, come.within);
          count = sym long;
          table = subst T (sym long) come.table;
          kept = λ all. kept (sym long ∙ all);
          fresh = come.fresh;
          told = subst V (sym long) come.unread;
          moved = moved;
          rest = if-got _ (λ contents all. have-rest olds news contents long all moved);
        }

    ends-all : ((k : ℕ) (d : S) → k < length olds → reading.IsWhole size src (slice_index_or olds k d) (slice_index_or news k d))
        → length olds ≡ length names
        → ReadsOver size src names olds (record { table = table; misses = misses; sources = news; read = 0 }) None
    ends-all whole all = record {
      all = long ∙ all;
      quiet = λ k d less. let within : k < length olds = omega (arith, less, long) in (whole k d within).kept ∙ come.fresh k d within;
      ended = λ k d less. (whole k d (omega (arith, less, long))).ended;
      once = λ k d less. (whole k d (omega (arith, less, long))).once;
      sound = if-got _ (λ contents all. sound 1 olds news contents long all come.fresh whole);
      read = refl;
    }

    ends-stopped : ((k : ℕ) (d : S) → k < length olds → reading.IsWhole size src (slice_index_or olds k d) (slice_index_or news k d))
        → length olds < length names
        → HasMissed names (record { table = table; misses = misses; sources = olds; read = 0 })
        → ReadsOver size src names olds (record { table = table; misses = misses; sources = news; read = 0 })
        (Some (OpenFault (length olds + 1)))
    ends-stopped whole more m = record {
      next = ap (λ n. n + 1) (sym long);
      within = omega (arith, long, more);
      missed = next-missed m 0;
      quiet = λ k d less. let within : k < length olds = omega (arith, less, long) in (whole k d within).kept ∙ come.fresh k d within;
      ended = λ k d less. (whole k d (omega (arith, less, long))).ended;
      once = λ k d less. (whole k d (omega (arith, less, long))).once;
      sound = if-got _ (λ contents all. sound 1 olds news contents long all come.fresh whole);
      read = refl;
    }

    -- the file that has the first fault
    refused : (read file : ℕ) (fault : FrameFault) → fault ≢ frame.NoMemory → ReadingStopsAt size src olds news file fault
        → (length olds < length names → HasMissed names (record { table = table; misses = misses; sources = olds; read = 0 }))
        → FileIsRefused size src names olds (record { table = table; misses = misses; sources = news; read = read }) file
        (fault_of_file size file fault)
    refused read file fault other stops missed =
        let within : file - 1 < length olds = omega (arith, stops.first, stops.last) in
        let number : 1 + (file - 1) ≡ file = omega (arith, stops.first) in
        let before : (j : ℕ) (d : S) → j < file - 1 → reading.IsWhole size src (slice_index_or olds j d) (slice_index_or news j d) =
        λ j d less. stops.before j d (omega (arith, less)) in
        record {
          first = stops.first;
          last = omega (arith, stops.last, long);
          stopped = λ less. next-missed (missed (omega (arith, less, long))) read;
          quiet = front (λ source. src.faults source ≡ 0) news (file - 1) (omega (arith, within, long))
              (λ j d less. (before j d less).kept ∙ come.fresh j d (omega (arith, less, within)));
          ended = front (λ source. NothingLeft (src.left source)) news (file - 1) (omega (arith, within, long)) (λ j d less. (before j d less).ended);
          once = λ k d less. (before k d less).once;
          cause = if-got _ (λ contents all. first 1 (file - 1) olds news contents fault other long within all come.fresh before stops.cause
              ∙ ap (λ n. Some (fault_of_file size n fault)) number);
        }

    -- the source of a file, and the one that it was
    source-at : (file : ℕ) → 0 < file → file ≤ length olds → (P : S → S → Type 0)
        → ((d : S) → P (slice_index_or olds (file - 1) d) (slice_index_or news (file - 1) d))
        → (old : S) × (new : S) × (slice_get news (file - 1) ≡ Some new) × ((contents : List (List ℕ)) → all_left src.left olds ≡ Some contents
        → (content : List ℕ) × (slice_get contents (file - 1) ≡ Some content) × (src.left old ≡ Some content)) × P old new
    source-at file some within P each = at olds (omega (arith, some, within)) where
      at : (sources : List S) → 0 < length sources
          → (old : S) × (new : S) × (slice_get news (file - 1) ≡ Some new) × ((contents : List (List ℕ)) → all_left src.left olds ≡ Some contents
          → (content : List ℕ) × (slice_get contents (file - 1) ≡ Some content) × (src.left old ≡ Some content)) × P old new
      at [] more = absurd (omega (arith, more))
      at (d ∷ ds) more = (
        slice_index_or olds (file - 1) d,
        slice_index_or news (file - 1) d,
        slice_get-get_or news (file - 1) d (omega (arith, some, within, long)),
        λ contents all. content-at (file - 1) olds contents d all (omega (arith, some, within)),
        each d,
      )

    ends-met : (fault : EndFault) → HasCause size src olds news fault
        → (length olds < length names → HasMissed names (record { table = table; misses = misses; sources = olds; read = 0 }))
        → ReadsOver size src names olds (record { table = table; misses = misses; sources = news; read = bytes_of_large fault })
        (Some (fault_of_work size fault))
    ends-met (work.Read file) stops missed =
        let at = source-at file stops.first stops.last (λ old new. reading.IsStopped size src old new frame.ReadFault) stops.cause in (
          refused 0 file frame.ReadFault (λ e. cc) stops missed,
          refl,
          some-and (slice_get news (file - 1)) at.1 (λ source. 0 < src.faults source) at.2 (rose-above _ _ (at.4.rose refl)),
        )
    ends-met (work.TooLong file line len) stops missed =
        let at = source-at file stops.first stops.last (λ old new. reading.IsStopped size src old new (frame.TooLong line len)) stops.cause in
        let above = at.4.long line len refl in (
          refused 0 file (frame.TooLong line len) (λ e. cc) stops missed,
          refl,
          refl,
          above.0,
          above.1,
          if-got _ (λ contents all. let c = at.3 contents all in
              some-and (slice_get contents (file - 1)) c.0 _ c.1 (long-of size src c.0 at.0 at.1 line len c.2 at.4)),
        )
    ends-met (work.TooLarge file bytes) stops missed =
        let at = source-at file stops.first stops.last (λ old new. reading.IsStopped size src old new (frame.TooLarge bytes)) stops.cause in
        let above = at.4.large bytes refl in (
          refused bytes file (frame.TooLarge bytes) (λ e. cc) stops missed,
          refl,
          above.0,
          if-got _ (λ contents all. let c = at.3 contents all in (
            some-and (slice_get contents (file - 1)) c.0 _ c.1 (large-of size src c.0 at.0 at.1 bytes c.2 at.4),
            some-and (slice_get contents (file - 1)) c.0 _ c.1
                (some-and (slice_get news (file - 1)) at.1 (λ source. Some (length c.0) ≡ option_map (λ b. bytes + length b) (src.left source)) at.2
                (sym (ap (option_map length) c.2) ∙ above.1)),
          )),
        )
    ends-met work.NoMemory stops missed = refl

-- what is so of a result that went well, or that didn't
pub at-ok : {X E : Type 0} (r : Result X E) {x : X} (P : X → Type 0) → r ≡ Ok x → IfOk r P → P x
at-ok r P is p = let Q : Result _ _ → Type 0 = λ r. IfOk r P in subst Q is p

pub on-ok : {X E : Type 0} (r : Result X E) {x : X} (P : Type 0) → r ≡ Ok x → OnOk r P → P
on-ok r P is p = let Q : Result _ _ → Type 0 = λ r. OnOk r P in subst Q is p

pub at-err : {X E : Type 0} (r : Result X E) {e : E} (P : E → Type 0) → r ≡ Err e → IfErr r P → P e
at-err r P is p = let Q : Result _ _ → Type 0 = λ r. IfErr r P in subst Q is p

-- what is so of two lists is so of lists that equal them
instead : {X : Type 0} (P : List X → List X → Type 0) {us vs xs ys : List X} → xs ≡ us → ys ≡ vs → P us vs → P xs ys
instead P {us = us} {ys = ys} first second p = subst (λ xs. P xs ys) (sym first) (subst (λ ys. P us ys) (sym second) p)

abbrev inputs_with : {S : Type 0} → Change (Option Table) → Change ℕ → ℕ → List S → Inputs S
inputs_with table misses read sources = record { table = table; misses = misses; sources = sources; read = read }

-- what was got of sources, and how their reading ended
abbrev Told : {S : Type 0} → ℕ → SourceOf S → List (List ℕ) → (List S → Inputs S) → Option Fault → List S → List S → Type 0
Told size src names with_ fault got sources = HasGotSources src names got (with_ sources) × ReadsOver size src names got (with_ sources) fault

-- where the workers of a run have left these sources of those that had come, of all names or not of all
module _ {T S : Type 0} {workers : ℕ} (size : ℕ) {src : SourceOf S} {names : List (List ℕ)} {table : Change (Option Table)} {misses : Change ℕ}
    {olds : List S} (end : End T S) (did : EndsReading workers size src olds end) (come : HaveCome src names (inputs_with table misses 0 olds)) (all : Bool)
    (came : HaveAllCome names (inputs_with table misses 0 olds) all) {got sources : List S} {read : ℕ}
    (same_got : got ≡ olds) (same_sources : sources ≡ end.sources.items) where
  told : (fault : Option Fault) → ReadsOver size src names olds (inputs_with table misses read end.sources.items) fault
      → Told size src names (inputs_with table misses read) fault got sources
  told fault ends =
      instead (Told size src names (inputs_with table misses read) fault) same_got same_sources (
        has-got size src names table misses olds end.sources.items did.count come read did.moved
            (kept-of size src names table misses olds end.sources.items did.count come all came),
        ends,
      )

  -- each was read to its end, with those of all names or until the next was missed
  pub told-whole : (fault : Option Fault) (made : T) → end.result ≡ Ok made → all ≡ true → read ≡ 0 → fault ≡ None
      → Told size src names (inputs_with table misses read) fault got sources
  told-whole fault made is true_ none_read none =
      let A : Bool → Type 0 = λ all. HaveAllCome names (inputs_with table misses 0 olds) all in
      told fault (rw (none_read, none) (ends-all size src names table misses olds end.sources.items did.count come (on-ok end.result _ is did.whole)
      (subst A true_ came).0))

  pub told-stopped : (fault : Option Fault) (made : T) → end.result ≡ Ok made → all ≡ false → read ≡ 0 → fault ≡ Some (OpenFault (length olds + 1))
      → Told size src names (inputs_with table misses read) fault got sources
  told-stopped fault made is false_ none_read some =
      let A : Bool → Type 0 = λ all. HaveAllCome names (inputs_with table misses 0 olds) all in
      let next = subst A false_ came in
      told fault (rw (none_read, some) (ends-stopped size src names table misses olds end.sources.items did.count come (on-ok end.result _ is did.whole)
      next.0 next.1))

  -- the workers met a fault
  pub told-met : (fault : Option Fault) (met : EndFault) → end.result ≡ Err met → read ≡ bytes_of_large met → fault ≡ Some (fault_of_work size met)
      → Told size src names (inputs_with table misses read) fault got sources
  told-met fault met is some_read some =
      told fault (rw (some_read, some) (ends-met size src names table misses olds end.sources.items did.count come met (at-err end.result _ is did.cause)
      (missed-of size src names table misses olds end.sources.items did.count come all came)))
