-- The sources of recordings that were got, and their contents.
use Rattle.std.proofs.Common.{◌≡◌, ◌∙◌, inl, inr, refl, sym, ap, subst, arith, ℕ, suc, zero, ◌+◌, ◌<◌, Bool, true, false, List, [], ◌∷◌, ◌++◌, length, length-append, take, slice_get, Option, Some, None, Result, Ok, Err, IfOk, IfSome}
use Rattle.std.specs.Prelude.{slice_index_or, ◌==◌}
use Rattle.std.specs.Option.{option_map}
use Rattle.std.proofs.Math.Seq.{take-length}
use Rattle.scq_outside.specs.Table.{Table}
use Rattle.scq_judge.specs.Exports.{HaveContents, AreSoundBefore, IsCause, IsCauseIn, IsJudged, AreReadUntil, AreReadWhole, HasGiven, ReadingStopped}
use Rattle.scq_judge.specs.Exports.{HaveBeenRead, IsOfOneFile, IsOrdered, IsOrderedIn, OfEach, Progress, recording_of}
use Rattle.scq_judge.specs.declared.finding.Finding.{Finding}
use Rattle.scq_judge.specs.declared.finding.Finding.TheVariants as says
use Rattle.scq_judge.specs.declared.judging.Judged.{Judged}
use Rattle.scq_judge.specs.declared.judging.JudgeFault.{JudgeFault}
use Rattle.scq_judge.specs.declared.judging.JudgeFault.TheVariants as judge
use Rattle.scq_judge.specs.declared.ordering.Ordered.{Ordered}
use Rattle.scq_judge.specs.declared.ordering.Ordered.TheVariants as order
use Rattle.scq_judge.proofs.JudgeLemmas.{cause_of_recorded, sound_all, until_recorded}
use Rattle.scq_files.specs.Exports.{HasMoved, all_left}
use Rattle.scq_service.specs.Exports.{FilesOf, SourceOf, HaveCome, IsMissing, without_names, Change, Wrote, HasGotSources, HasMissed, HaveAll}
use Rattle.scq_service.specs.Exports.{EndsJudged, EndsUnjudged, WroteReport, IsWritten, end_of_report, IfTold, ReportMeets, IsUnchanged, JudgeMissesFile, IsUnwritten}
use Rattle.scq_service.specs.Exports.{EndsOrdered, EndsRecorded, EndsUntold, IsToldOf, IsToWrite, IsUntoldOf, OrderMeets, OrderTextMeets}
use Rattle.scq_service.specs.Exports.{Inputs, inputs_of, fault_of_judge, written_with, WrotePart}
use Rattle.scq_service.specs.declared.fault.Fault.{Fault}
use Rattle.scq_service.specs.declared.fault.Fault.TheVariants.{OpenFault, WriteFault, AspectFails, NotTested, NotLinearizable, NeverEnded, NotFound}
use Rattle.scq_service.proofs.Coming.{SourceIsGot, IsMissed, IsNextName, come-got, come-missed, has-missed}
use Rattle.scq_service.proofs.Files.{parts}
use Rattle.scq_service.proofs.Working.{has-got}

-- the contents that all sources have left, with one source more in front
more : {S : Type 0} (left : S → Option (List ℕ)) (source : S) (sources : List S) (content : List ℕ) (contents : List (List ℕ)) → left source ≡ Some content
    → HaveContents left sources contents → HaveContents left (source ∷ sources) (content ∷ contents)
more {S} left source sources content contents here is = record { many = ap suc is.many; each = at } where
  at : (i : ℕ) (s : S) → slice_get (source ∷ sources) i ≡ Some s → left s ≡ slice_get (content ∷ contents) i
  at zero s there = subst (λ z. left z ≡ Some content) (let e = there in cc) here
  at (suc i) s there = is.each i s there

pub contents_left : {S : Type 0} (left : S → Option (List ℕ)) (sources : List S) (contents : List (List ℕ)) → all_left left sources ≡ Some contents
    → HaveContents left sources contents
contents_left {S} left [] contents is = (let none : [] ≡ contents = cc in subst (HaveContents left []) none (record { many = refl; each = λ i s there. absurd cc }))
contents_left {S} left (source ∷ sources) contents is =
    let p = parts (left source) (all_left left sources) contents is in
    subst (HaveContents left (source ∷ sources)) (sym p.4) (more left source sources p.0 p.1 p.2 (contents_left left sources p.1 p.3))

-- what is so of contents that sources have left is so of those that they told
pub told_of : {S : Type 0} (left : S → Option (List ℕ)) (sources : List S) (P : List (List ℕ) → Type 0)
    → ((contents : List (List ℕ)) → HaveContents left sources contents → P contents) → IfTold left sources P
told_of {S} left sources P holds = at (all_left left sources) refl where
  at : (o : Option (List (List ℕ))) → all_left left sources ≡ o → IfSome o P
  at None is = tt
  at (Some contents) is = holds contents (contents_left left sources contents is)

-- what each source gave
pub moved_of : {S : Type 0} (src : SourceOf S) (olds news : List S) → OfEach (length olds) (HasGiven src.faults src.left) olds news
    → (k : ℕ) (d : S) → k < length olds → HasMoved src (slice_index_or olds k d) (slice_index_or news k d)
moved_of {S} src olds news given = λ k d lt. let h = given k d lt in record { bytes = h.bytes; moved = h.took; counted = h.counted }

-- what is said of the end of a run over these sources, which came so and are now these
module _ {S : Type 0} (src : SourceOf S) (names : List (List ℕ)) (table : Change (Option Table)) (misses : Change ℕ) (olds news : List S)
    (come : HaveCome src names (record { table = table; misses = misses; sources = olds; read = 0 })) where
  pub got_after : length news ≡ length olds → OfEach (length olds) (HasGiven src.faults src.left) olds news → (length olds ≡ length names → IsUnchanged misses)
      → HasGotSources src names olds (record { table = table; misses = misses; sources = news; read = 0 })
  got_after many given kept = has-got 0 src names table misses olds news many come 0 (moved_of src olds news given) kept

  -- where all sources came, those that are there now are the sources of all names
  pub have_all : length news ≡ length olds → length olds ≡ length names → IsUnchanged misses
      → HaveAll names (record { table = table; misses = misses; sources = news; read = 0 })
  have_all many all kept = record {
    all = many ∙ all;
    misses = kept;
    table = come.table ∙ ap (λ ns. option_map (without_names ns) table.old) (ap (λ n. take n names) all ∙ take-length names);
    read = refl;
  }

  -- the next source was not got
  pub unopened : (reader : Progress) (file : ℕ) → HaveBeenRead src.faults src.ends src.left olds news reader → reader.lone ≡ (length names == 1) → file ≡ length olds + 1
      → length olds < length names → HasMissed names (record { table = table; misses = misses; sources = olds; read = 0 })
      → JudgeMissesFile src names olds (record { table = table; misses = misses; sources = news; read = 0 }) file
  unopened reader file had lone next within missed = record {
    next = next ∙ ap (λ n. n + 1) (sym had.many);
    within = omega (arith, within, had.many);
    missed = record {
      rose = missed.rose;
      missing = (let M : ℕ → Type 0 = λ n. IfSome table.old (λ files. IsMissing files names (n + 1)) in subst M (sym had.many) missed.missing);
    };
    whole = (let W : ℕ → Type 0 = λ n. AreReadWhole src.faults src.ends src.left n olds news in subst W (sym had.many) had.whole);
    sound = told_of src.left olds (λ contents. AreSoundBefore (length names == 1) contents file)
        (λ contents have. let told = had.told contents have in
        let B : Bool → Type 0 = λ b. recording_of b contents ≡ Ok reader.recorded in
        sound_all (length names == 1) contents file reader.recorded told.0 (subst B lone told.1) (next ∙ ap (λ n. n + 1) (sym have.many)));
    read = refl;
  }

  module _ (fault : JudgeFault) (kept : IsUnchanged misses) where
    abbrev Ends : JudgeFault → Type 0
    Ends f = EndsUnjudged src names olds (record { table = table; misses = misses; sources = news; read = 0 }) (fault_of_judge f)

    -- a file is at fault
    pub ends_stopped : ReadingStopped src.faults src.ends src.left (length names == 1) olds news fault → Ends fault
    ends_stopped stop = by fault stop.own stop.cause stop.until where
      by : (fault : JudgeFault) → IsOfOneFile fault → ((contents : List (List ℕ)) → HaveContents src.left olds contents → IsCause (length names == 1) contents fault)
          → AreReadUntil src.faults src.ends src.left olds news fault → Ends fault
      by (judge.BadLine file line) own cause until =
          (judge.BadLine file line, refl, record { got_for = (kept, refl); until = until; cause = told_of src.left olds _ cause })
      by (judge.ReadFault file) own cause until =
          (judge.ReadFault file, refl, record { got_for = (kept, refl); until = until; cause = told_of src.left olds _ cause })
      by (judge.TooLarge file) own cause until =
          (judge.TooLarge file, refl, record { got_for = (kept, refl); until = until; cause = told_of src.left olds _ cause })
      by (judge.Shared what file line g m) own cause until = absurd own
      by (judge.TwoRuns file run g s) own cause until = absurd own
      by (judge.Unlawful file line) own cause until = absurd own
      by judge.NoMemory own cause until = (omega (arith, come.within, stop.many), until, refl)

    -- what all files say is at fault
    pub ends_refused : (reader : Progress) → HaveBeenRead src.faults src.ends src.left olds news reader → reader.lone ≡ (length names == 1) → length olds ≡ length names
        → IsCauseIn reader.recorded fault → Ends fault
    ends_refused reader had lone all in_it =
        by fault in_it (λ contents have. let told = had.told contents have in
        let B : Bool → Type 0 = λ b. recording_of b contents ≡ Ok reader.recorded in
        cause_of_recorded (length names == 1) contents reader.recorded told.0 (subst B lone told.1) fault in_it)
        (until_recorded src.faults src.ends src.left olds news reader.recorded had.files had.whole fault in_it) where
          have : HaveAll names (record { table = table; misses = misses; sources = news; read = 0 })
          have = have_all had.many all kept

          by : (fault : JudgeFault) → IsCauseIn reader.recorded fault
              → ((contents : List (List ℕ)) → HaveContents src.left olds contents → IsCause (length names == 1) contents fault)
              → AreReadUntil src.faults src.ends src.left olds news fault → Ends fault
          by (judge.BadLine file line) h cause until = absurd h
          by (judge.ReadFault file) h cause until = absurd h
          by (judge.TooLarge file) h cause until = absurd h
          by (judge.Shared what file line g m) h cause until =
              (judge.Shared what file line g m, refl, record { got_for = have; until = until; cause = told_of src.left olds _ cause })
          by (judge.TwoRuns file run g s) h cause until =
              (judge.TwoRuns file run g s, refl, record { got_for = have; until = until; cause = told_of src.left olds _ cause })
          by (judge.Unlawful file line) h cause until =
              (judge.Unlawful file line, refl, record { got_for = have; until = until; cause = told_of src.left olds _ cause })
          by judge.NoMemory h cause until = (omega (arith, come.within, had.many), until, refl)

-- no fault of a judge is one of what was written
abbrev is_of_writing : Fault → Bool
is_of_writing WriteFault = true
is_of_writing AspectFails = true
is_of_writing NotTested = true
is_of_writing _ = false

of-reading : (refused : JudgeFault) → is_of_writing (fault_of_judge refused) ≡ false
of-reading (judge.BadLine file line) = refl
of-reading (judge.Shared what file line g m) = refl
of-reading (judge.TwoRuns file run g s) = refl
of-reading (judge.Unlawful file line) = refl
of-reading (judge.ReadFault file) = refl
of-reading (judge.TooLarge file) = refl
of-reading judge.NoMemory = refl

-- a fault of a judge is one of a run of either kind
pub untold-of : {S : Type 0} (src : SourceOf S) (names : List (List ℕ)) (got : List S) (r : Inputs S) (ordering : Bool) (refused : JudgeFault)
    → EndsUnjudged src names got r (fault_of_judge refused) → EndsUntold src ordering names got r (fault_of_judge refused)
untold-of src names got r false refused end = end
untold-of src names got r true (judge.BadLine file line) end = end
untold-of src names got r true (judge.Shared what file line g m) end = end
untold-of src names got r true (judge.TwoRuns file run g s) end = end
untold-of src names got r true (judge.Unlawful file line) end = end
untold-of src names got r true (judge.ReadFault file) end = end
untold-of src names got r true (judge.TooLarge file) end = end
untold-of src names got r true judge.NoMemory end = end

-- how a run ends over these recordings that has nothing to write, or wrote it
module _ {S : Type 0} (src : SourceOf S) (room : Option ℕ) (strict : Bool) (names : List (List ℕ)) (got : List S) (r : Inputs S) (w : Wrote) where
  abbrev EndsSo : Option Fault → Type 0
  EndsSo end = EndsJudged src room strict names got r w end

  of_writing : (fault : Fault) → is_of_writing fault ≡ true → (refused : JudgeFault) → fault ≡ fault_of_judge refused → ⊥
  of_writing fault writes refused is = let apart : true ≡ false = sym writes ∙ ap is_of_writing is ∙ of-reading refused in cc

  unjudged-ends : (fault : Fault) → EndsUnjudged src names got r fault → IsUnwritten w → EndsSo (Some fault)
  unjudged-ends WriteFault end unwritten = absurd (of_writing WriteFault refl end.0 end.1)
  unjudged-ends AspectFails end unwritten = absurd (of_writing AspectFails refl end.0 end.1)
  unjudged-ends NotTested end unwritten = absurd (of_writing NotTested refl end.0 end.1)
  unjudged-ends fault end unwritten = (end, unwritten)

  pub untold-ends : (ordering : Bool) (fault : Fault) → EndsUntold src ordering names got r fault → IsUnwritten w
      → EndsRecorded src room strict ordering names got r w (Some fault)
  untold-ends true WriteFault end unwritten = absurd (of_writing WriteFault refl end.0 end.1)
  untold-ends true fault end unwritten = (end, unwritten)
  untold-ends false fault end unwritten = unjudged-ends fault end unwritten

  order-meets : (text : List ℕ) (P : List ℕ → Type 0) → HaveAll names r → AreReadWhole src.faults src.ends src.left (length names) got r.sources
      → ((contents : List (List ℕ)) → HaveContents src.left got contents → IsOrderedIn (length names == 1) contents (order.Order text)) → P text
      → OrderMeets src names got r (OrderTextMeets P)
  order-meets text P all whole told p = record {
    all = all;
    whole = whole;
    told = told_of src.left got (λ contents. (ordered : Ordered) × IsOrderedIn (length names == 1) contents ordered × OrderTextMeets P ordered)
        (λ contents have. (order.Order text, told contents have, (text, refl, p)));
  }

  well : (strict : Bool) → end_of_report strict says.Holds ≡ None
  well true = refl
  well false = refl

  pub order-ends : (told : Judged) (end : Option Fault) → told.worst ≡ says.Holds → HaveAll names r
      → AreReadWhole src.faults src.ends src.left (length names) got r.sources
      → ((contents : List (List ℕ)) → HaveContents src.left got contents → IsOrderedIn (length names == 1) contents (order.Order told.text))
      → IsWritten strict told w end → EndsOrdered src names got r w end
  order-ends told end holds all whole is (inr h) =
      subst (EndsOrdered src names got r w) (sym h.0)
      (h.1, order-meets told.text (λ text. WrotePart w.written.old w.written.new text) all whole is h.2)
  order-ends told end holds all whole is (inl h) =
      subst (EndsOrdered src names got r w) (sym (h.2 ∙ ap (end_of_report strict) holds ∙ well strict))
      (h.1, order-meets told.text (λ text. w.written.new ≡ written_with w.written.old text) all whole is h.0)

  pub written-ends : (judged : Judged) (end : Option Fault) → HaveAll names r → AreReadWhole src.faults src.ends src.left (length names) got r.sources
      → ((P : Judged → Type 0) → P judged → ReportMeets src.left names room got P) → IsWritten strict judged w end → EndsSo end
  written-ends judged end all whole meets (inr h) =
      subst EndsSo (sym h.0) (record { all = all; whole = whole; rose = h.1; report = meets (λ j. WrotePart w.written.old w.written.new j.text) h.2 })
  written-ends judged end all whole meets (inl h) = subst EndsSo (sym h.2) (by strict judged.worst refl) where
    wrote : (s : Bool) (worst : Finding) → judged.worst ≡ worst → WroteReport src room s names got r w (end_of_report s worst)
    wrote s worst is = record {
      all = all;
      whole = whole;
      faults = h.1;
      report = meets (λ j. (w.written.new ≡ written_with w.written.old j.text) × (end_of_report s worst ≡ end_of_report s j.worst)) (h.0, ap (end_of_report s) (sym is));
    }

    by : (s : Bool) (worst : Finding) → judged.worst ≡ worst → EndsJudged src room s names got r w (end_of_report s worst)
    by true says.Fails is = (refl, wrote true says.Fails is)
    by true says.NotTested is = (refl, wrote true says.NotTested is)
    by true says.Holds is = wrote true says.Holds is
    by false says.Fails is = wrote false says.Fails is
    by false says.NotTested is = wrote false says.NotTested is
    by false says.Holds is = wrote false says.Holds is

-- how a run ends where this was to be written, and was
module _ {F S : Type 0} (fs : FilesOf F S) (src : SourceOf S) (names : List (List ℕ)) (room : Option ℕ) (was now : F) (got sources : List S) where
  pub report-ends : (report : Result Judged Fault) (judged : Judged) → report ≡ Ok judged → IfOk report (λ _. HaveAll names (inputs_of fs was now sources 0))
      → IfOk report (λ _. AreReadWhole src.faults src.ends src.left (length names) got sources)
      → (ordering : Bool) → IfOk report (λ judged. (contents : List (List ℕ)) → HaveContents src.left got contents → IsToWrite room ordering names contents judged)
      → IfOk report (λ judged. ordering ≡ true → judged.worst ≡ says.Holds)
      → (strict : Bool) (w : Wrote) (end : Option Fault) → IsWritten strict judged w end
      → EndsRecorded src room strict ordering names got (inputs_of fs was now sources 0) w end
  report-ends (Ok own) judged is all whole true told holds strict w end written =
      let same : own ≡ judged = cc in
      let W : Judged → Type 0 = λ j. IsWritten strict j w end in
      order-ends src room strict names got (inputs_of fs was now sources 0) w own end (holds refl) all whole told (subst W (sym same) written)
  report-ends (Ok own) judged is all whole false told holds strict w end written =
      let same : judged ≡ own = cc in
      written-ends src room strict names got (inputs_of fs was now sources 0) w judged end all whole
      (λ P p. told_of src.left got (λ contents. (judged : Judged) × IsJudged names room contents judged × P judged)
      (λ contents have. (own, told contents have, subst P same p))) written
  report-ends (Err fault) judged is all whole ordering told holds strict w end written = absurd cc

-- So far recordings of these names were got and read: the first files, as many as the index, of which the last has this number. Files were these
-- before any was got, and are these now
pub record IsSoFar {F S : Type 0} (fs : FilesOf F S) (src : SourceOf S) (names : List (List ℕ)) (was now : F) (olds news : List S) (index file : ℕ)
    (reader : Progress) : Type 0 where
  pub count : length olds ≡ index
  pub number : file ≡ index
  pub lone : reader.lone ≡ (length names == 1)
  pub kept : fs.faults now ≡ fs.faults was
  pub come : HaveCome src names (inputs_of fs was now olds 0)
  pub read : HaveBeenRead src.faults src.ends src.left olds news reader

module _ {F S : Type 0} {fs : FilesOf F S} {src : SourceOf S} {names : List (List ℕ)} {was now : F} {olds news : List S} {index file : ℕ} {reader : Progress}
    (so : IsSoFar fs src names was now olds news index file reader) where
  abbrev tables : F → Change (Option Table)
  tables after = record { old = fs.table was; new = fs.table after }

  abbrev counts : F → Change ℕ
  counts after = record { old = fs.faults was; new = fs.faults after }

  -- the next one was got and read
  pub one-more : {name : List ℕ} {after : F} {source : S} (new : S) {reader' : Progress} → IsNextName names olds name → SourceIsGot fs src name now after source
      → reader'.lone ≡ reader.lone → HaveBeenRead src.faults src.ends src.left (olds ++ source ∷ []) (news ++ new ∷ []) reader'
      → IsSoFar fs src names was after (olds ++ source ∷ []) (news ++ new ∷ []) (index + 1) (file + 1) reader'
  one-more {source = source} new next got lone read = record {
    count = length-append olds (source ∷ []) ∙ ap (λ n. n + 1) so.count;
    number = ap (λ n. n + 1) so.number;
    lone = lone ∙ so.lone;
    kept = got.kept ∙ so.kept;
    come = come-got was next got so.come;
    read = read;
  }

  -- it was not got
  pub missed-got : {name : List ℕ} {after : F} → IsNextName names olds name → IsMissed fs name now after → HasGotSources src names olds (inputs_of fs was after news 0)
  missed-got {name} {after} next miss =
      got_after src names (tables after) (counts after) olds news (come-missed was miss so.come) so.read.many so.read.given
      (λ all. absurd (omega (arith, all, next.more)))

  missed : {name : List ℕ} {after : F} → IsNextName names olds name → IsMissed fs name now after
      → JudgeMissesFile src names olds (inputs_of fs was after news 0) (file + 1)
  missed {name} {after} next miss =
      unopened src names (tables after) (counts after) olds news (come-missed was miss so.come) reader (file + 1) so.read so.lone
      (ap (λ n. n + 1) (so.number ∙ sym so.count)) next.more (has-missed was next miss so.come so.kept)

  pub missed-ends : {name : List ℕ} {after : F} (ordering : Bool) → IsNextName names olds name → IsMissed fs name now after
      → EndsUntold src ordering names olds (inputs_of fs was after news 0) (OpenFault (file + 1))
  missed-ends true next miss = missed next miss
  missed-ends false next miss = missed next miss

  -- it was got, and is at fault
  pub stopped-got : {name : List ℕ} {after : F} {source : S} (new : S) {fault : JudgeFault} → IsNextName names olds name → SourceIsGot fs src name now after source
      → ReadingStopped src.faults src.ends src.left reader.lone (olds ++ source ∷ []) (news ++ new ∷ []) fault
      → (gots sources : List S) → gots ≡ olds ++ source ∷ [] → sources ≡ news ++ new ∷ [] → HasGotSources src names gots (inputs_of fs was after sources 0)
  stopped-got {name} {after} {source} new next got stop gots sources is_got are =
      let G : List S → Type 0 = λ xs. HasGotSources src names xs (inputs_of fs was after sources 0) in
      let N : List S → Type 0 = λ xs. HasGotSources src names (olds ++ source ∷ []) (inputs_of fs was after xs 0) in
      subst G (sym is_got) (subst N (sym are)
      (got_after src names (tables after) (counts after) (olds ++ source ∷ []) (news ++ new ∷ []) (come-got was next got so.come) stop.many stop.given
      (λ all. got.kept ∙ so.kept)))

  pub stopped-ends : {name : List ℕ} {after : F} {source : S} (ordering : Bool) (new : S) {fault : JudgeFault} → IsNextName names olds name → SourceIsGot fs src name now after source
      → ReadingStopped src.faults src.ends src.left reader.lone (olds ++ source ∷ []) (news ++ new ∷ []) fault
      → (gots sources : List S) (end : Fault) → gots ≡ olds ++ source ∷ [] → sources ≡ news ++ new ∷ [] → end ≡ fault_of_judge fault
      → EndsUntold src ordering names gots (inputs_of fs was after sources 0) end
  stopped-ends {name} {after} {source} ordering new {fault} next got stop gots sources end is_got are is_end =
      let H : Bool → Type 0 = λ lone. ReadingStopped src.faults src.ends src.left lone (olds ++ source ∷ []) (news ++ new ∷ []) fault in
      let E : List S → List S → Fault → Type 0 = λ a b f. EndsUntold src ordering names a (inputs_of fs was after b 0) f in
      subst (λ a. E a sources end) (sym is_got) (subst (λ b. E (olds ++ source ∷ []) b end) (sym are)
      (subst (λ f. E (olds ++ source ∷ []) (news ++ new ∷ []) f) (sym is_end)
      (untold-of src names (olds ++ source ∷ []) (inputs_of fs was after (news ++ new ∷ []) 0) ordering fault
      (ends_stopped src names (tables after) (counts after) (olds ++ source ∷ []) (news ++ new ∷ []) (come-got was next got so.come) fault
      (got.kept ∙ so.kept) (subst H so.lone stop)))))

  -- no name is behind them
  pub all-got : HasGotSources src names olds (inputs_of fs was now news 0)
  all-got = got_after src names (tables now) (counts now) olds news so.come so.read.many so.read.given (λ all. so.kept)

  pub all-there : length olds ≡ length names → HaveAll names (inputs_of fs was now news 0)
  all-there all = have_all src names (tables now) (counts now) olds news so.come so.read.many all so.kept

  pub all-read : length olds ≡ length names → AreReadWhole src.faults src.ends src.left (length names) olds news
  all-read all = let W : ℕ → Type 0 = λ n. AreReadWhole src.faults src.ends src.left n olds news in subst W all so.read.whole

  all-ends : (fault : JudgeFault) → length olds ≡ length names → IsCauseIn reader.recorded fault
      → EndsUnjudged src names olds (inputs_of fs was now news 0) (fault_of_judge fault)
  all-ends fault all cause = ends_refused src names (tables now) (counts now) olds news so.come fault so.kept reader so.read so.lone all cause

  -- what was read is told of the contents
  ordered-in : (ordered : Ordered) → IsOrdered reader.recorded ordered → (contents : List (List ℕ)) → HaveContents src.left olds contents
      → IsOrderedIn (length names == 1) contents ordered
  ordered-in ordered is contents have =
      let told = so.read.told contents have in
      record {
        small = told.0;
        recorded = reader.recorded;
        read = subst (λ lone. recording_of lone contents ≡ Ok reader.recorded) so.lone told.1;
        told = is;
      }

  pub to-write : (room : Option ℕ) (ordering : Bool) (told : Judged) → IsToldOf room ordering names reader.recorded told
      → (contents : List (List ℕ)) → HaveContents src.left olds contents → IsToWrite room ordering names contents told
  to-write room true told is contents have = ordered-in (order.Order told.text) is contents have
  to-write room false told is contents have =
      let had = so.read.told contents have in
      record {
        small = had.0;
        recorded = reader.recorded;
        read = subst (λ lone. recording_of lone contents ≡ Ok reader.recorded) so.lone had.1;
        reported = is;
      }

  unordered : (ordered : Ordered) → length olds ≡ length names → IsOrdered reader.recorded ordered
      → OrderMeets src names olds (inputs_of fs was now news 0) (λ o. o ≡ ordered)
  unordered ordered all is = record {
    all = all-there all;
    whole = all-read all;
    told = told_of src.left olds (λ contents. (o : Ordered) × IsOrderedIn (length names == 1) contents o × (o ≡ ordered))
        (λ contents have. (ordered, ordered-in ordered is contents have, refl));
  }

  pub all-untold : (ordering : Bool) (fault : Fault) → length olds ≡ length names → IsUntoldOf ordering reader.recorded fault
      → EndsUntold src ordering names olds (inputs_of fs was now news 0) fault
  all-untold true NotLinearizable all is = unordered order.NotLinearizable all is
  all-untold true NeverEnded all is = unordered order.NeverEnded all is
  all-untold true NotFound all is = unordered order.NotFound all is
  all-untold ordering fault all is =
      subst (EndsUntold src ordering names olds (inputs_of fs was now news 0)) (sym is.1)
      (untold-of src names olds (inputs_of fs was now news 0) ordering is.0 (all-ends is.0 all is.2))
