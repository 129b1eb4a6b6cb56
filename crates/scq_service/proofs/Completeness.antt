-- A run in whose way nothing stood ends with the output, or for want of memory.
use Rattle.std.proofs.Common.{IfSome, ◌≤◌, ◌+◌, ◌∷◌, [], ◌≡◌, ◌⊎◌, ◌∙◌, refl, sym, subst, inl, inr, arith, false, ℕ, ◌-◌, ◌<◌, List, length, Option, Some, None, IsSome, Result}
use Rattle.std.specs.Prelude.{IsSomeAnd, slice_get}
use Rattle.std.specs.List.{All}
use Rattle.std.proofs.lemmas.Option.{slice_get_within, get_or_from_slice_get}
use Rattle.scq_frames.specs.Exports.{LongPayload, ManyBytes, file_trouble}
use Rattle.scq_frames.specs.Trouble.{Trouble}
use Rattle.std.specs.Option.{option_map}
use Rattle.scq_words.specs.declared.text_request.TextCommand.{TextCommand}
use Rattle.scq_service.specs.Exports.{SourceOf, IsTroubled, Inputs, Wrote, EndsWithoutFiles, EndsAs, EndsOver, EndsWhole, IfContent, IsCalm}
use Rattle.scq_service.specs.Exports.{IsCalmText, IsOfTextAlone, most_payload, most_text, EndsWellWhereCalm}
use Rattle.scq_files.specs.Exports.{all_left}
use Rattle.scq_outside.specs.Exports.{Rose}
use Rattle.scq_collect.specs.Exports.{one_thread_output}
use Rattle.scq_self.specs.Exports.{self_summary}
use Rattle.scq_stages.specs.Exports.{one_thread_stage_output}
use Rattle.scq_words.specs.Asked.{Asked}
use Rattle.scq_words.specs.declared.fault.WordsFault.{WordsFault}
use Rattle.scq_service.specs.declared.outcome.Outcome.{Outcome}
use Rattle.scq_service.specs.declared.fault.Fault.{Fault}
use Rattle.scq_service.specs.declared.fault.Fault.TheVariants.{Words, OpenFault, ReadFault, TooLong, TooLarge, WriteFault, BadLine, NotEnabled, Unlawful, Unfinished, BadLineOf, SharedOf, TwoRunsOf, UnlawfulOf, AspectFails, NotTested, NotLinearizable, NeverEnded, NotFound, NoMemory}

-- an element at a place meets what all elements of the list meet
all-at : {X : Type 0} (P Q : X → Type 0) (xs : List X) (k : ℕ) → All P xs → IsSomeAnd (slice_get xs k) Q → (x : X) × P x × Q x
all-at {X = X} P Q xs k all some = at (slice_get xs k) refl some where
  at : (o : Option X) → slice_get xs k ≡ o → IsSomeAnd o Q → (x : X) × P x × Q x
  at None e q = absurd q
  at (Some x) e q =
      let is = get_or_from_slice_get xs k x x e in
      (x, subst P is (all k x (slice_get_within xs k x e)), q)

-- where no content has trouble, none has this trouble
never : (size : ℕ) (trouble : Trouble) (told : Option (List (List ℕ))) (file : ℕ) (P : List (List ℕ) → Type 0) → IsSome told
    → IfSome told (λ contents. All (λ content. file_trouble size false content ≡ None) contents) → IfSome told P
    → ((contents : List (List ℕ)) → P contents → IsTroubled size contents file trouble) → ⊥
never size trouble None file P some sound troubled get = cc
never size trouble (Some contents) file P some sound troubled get =
    let found = all-at (λ content. file_trouble size false content ≡ None) (λ content. file_trouble size false content ≡ Some trouble) contents (file - 1)
    sound (get contents troubled) in
    let clash : None ≡ Some trouble = sym found.1 ∙ found.2 in
    cc

above-none : {S : Type 0} (faults : S → ℕ) (sources : List S) (k : ℕ) → All (λ source. faults source ≡ 0) sources
    → IsSomeAnd (slice_get sources k) (λ source. 0 < faults source) → ⊥
above-none faults sources k quiet some =
    let found = all-at (λ source. faults source ≡ 0) (λ source. 0 < faults source) sources k quiet some in
    omega (arith, found.1, found.2)

pub complete : {S : Type 0} (size : ℕ) (text : List (List ℕ) → List ℕ) (src : SourceOf S) (names : List (List ℕ))
    (got : List S) (r : Inputs S) (w : Wrote) (end : Option Fault)
    → EndsOver size text src names got r w end → IsCalm size src names got r w → (end ≡ None) ⊎ (end ≡ Some NoMemory)
complete size text src names got r w None e calm = inl refl
complete size text src names got r w (Some NoMemory) e calm = inr refl
complete size text src names got r w (Some WriteFault) e calm = absurd (calm.writes e.1)
complete size text src names got r w (Some (OpenFault file)) e calm = absurd (calm.misses e.0.missed.rose)
complete size text src names got r w (Some (ReadFault file)) e calm = absurd (above-none src.faults r.sources (file - 1) calm.quiet e.0.2)
complete size text src names got r w (Some (TooLong file line len limit)) e calm =
    absurd (never size (LongPayload line len) (all_left src.left got) file _ calm.visible calm.sound e.0.5 (λ contents t. t))
complete size text src names got r w (Some (TooLarge file limit)) e calm =
    absurd (never size ManyBytes (all_left src.left got) file _ calm.visible calm.sound e.0.3 (λ contents t. t.0))
complete size text src names got r w (Some (Words fault)) e calm = absurd (e.0)
complete size text src names got r w (Some (BadLine line)) e calm = absurd (e.0)
complete size text src names got r w (Some (NotEnabled line)) e calm = absurd (e.0)
complete size text src names got r w (Some (Unlawful line)) e calm = absurd (e.0)
complete size text src names got r w (Some (Unfinished seat)) e calm = absurd (e.0)
complete size text src names got r w (Some (BadLineOf file line)) e calm = absurd (e.0)
complete size text src names got r w (Some (SharedOf what file line g m)) e calm = absurd (e.0)
complete size text src names got r w (Some (TwoRunsOf file n g s)) e calm = absurd (e.0)
complete size text src names got r w (Some (UnlawfulOf file line)) e calm = absurd (e.0)
complete size text src names got r w (Some AspectFails) e calm = absurd (e.0)
complete size text src names got r w (Some NotTested) e calm = absurd (e.0)
complete size text src names got r w (Some NotLinearizable) e calm = absurd (e.0)
complete size text src names got r w (Some NeverEnded) e calm = absurd (e.0)
complete size text src names got r w (Some NotFound) e calm = absurd (e.0)

-- a run over no file of the outside, none of whose writes failed, ends likewise
pub complete-alone : (text : List ℕ) (w : Wrote) (end : Option Fault) → EndsWithoutFiles text w end → ¬ Rose w.faults.old w.faults.new
    → (end ≡ None) ⊎ (end ≡ Some NoMemory)
complete-alone text w None e calm = inl refl
complete-alone text w (Some NoMemory) e calm = inr refl
complete-alone text w (Some WriteFault) e calm = absurd (calm e.0)
complete-alone text w (Some (OpenFault file)) e calm = absurd e
complete-alone text w (Some (ReadFault file)) e calm = absurd e
complete-alone text w (Some (TooLong file line len limit)) e calm = absurd e
complete-alone text w (Some (TooLarge file limit)) e calm = absurd e
complete-alone text w (Some (Words fault)) e calm = absurd e
complete-alone text w (Some (BadLine line)) e calm = absurd e
complete-alone text w (Some (NotEnabled line)) e calm = absurd e
complete-alone text w (Some (Unlawful line)) e calm = absurd e
complete-alone text w (Some (Unfinished seat)) e calm = absurd e
complete-alone text w (Some (BadLineOf file line)) e calm = absurd e
complete-alone text w (Some (SharedOf what file line g m)) e calm = absurd e
complete-alone text w (Some (TwoRunsOf file n g s)) e calm = absurd e
complete-alone text w (Some (UnlawfulOf file line)) e calm = absurd e
complete-alone text w (Some AspectFails) e calm = absurd e
complete-alone text w (Some NotTested) e calm = absurd e
complete-alone text w (Some NotLinearizable) e calm = absurd e
complete-alone text w (Some NeverEnded) e calm = absurd e
complete-alone text w (Some NotFound) e calm = absurd e

-- the count of one source isn't both 0 and 1
one-apart : {S : Type 0} (faults : S → ℕ) (sources : List S) → length sources ≡ 1 → All (λ source. faults source ≡ 0) sources
    → All (λ source. faults source ≡ 1) sources → ⊥
one-apart faults [] one quiet failed = cc
one-apart faults (x ∷ xs) one quiet failed = omega (arith, quiet 0 x (omega arith), failed 0 x (omega arith))

-- a content that is within the most bytes doesn't have one byte more than these
fits-or-large : {S : Type 0} (left : S → Option (List ℕ)) (got sources : List S) (read : ℕ) → length got ≡ 1 → length sources ≡ 1
    → All (λ source. IsSome (left source)) got → read ≡ most_text + 1
    → IfContent left got (λ content. All (λ source. Some (length content) ≡ option_map (λ rest. read + length rest) (left source)) sources)
    → IfContent left got (λ content. length content ≤ most_text) → ⊥
fits-or-large left [] sources read one some visible more large fits = cc
fits-or-large left (g ∷ gs) [] read one some visible more large fits = cc
fits-or-large left (g ∷ gs) (x ∷ xs) read one some visible more large fits =
    at (left g) (visible 0 g (omega arith)) (large 0 g (omega arith)) (fits 0 g (omega arith)) where
      past : (o : Option (List ℕ)) (count : ℕ) → Some count ≡ option_map (λ rest. read + length rest) o → count ≤ most_text → ⊥
      past None count is low = cc
      past (Some rest) count is low = let same : count ≡ read + length rest = cc in omega (arith, same, more, low)

      at : (o : Option (List ℕ)) → IsSome o
          → IfSome o (λ content. All (λ source. Some (length content) ≡ option_map (λ rest. read + length rest) (left source)) (x ∷ xs))
          → IfSome o (λ content. length content ≤ most_text) → ⊥
      at None there large fits = cc
      at (Some content) there large fits = past (left x) (length content) (large 0 x (omega arith)) fits

-- a run over one whole file, in whose way nothing stood, ends by its text or for want of memory
pub complete-text : {S : Type 0} (command : TextCommand) (src : SourceOf S) (name : List ℕ) (got : List S) (r : Inputs S)
    (w : Wrote) (end : Option Fault)
    → EndsWhole command src name got r w end → IsCalmText src got r w → IsOfTextAlone command end
complete-text command src name got r w None e calm = inl refl
complete-text command src name got r w (Some NoMemory) e calm = inr (inl refl)
complete-text command src name got r w (Some WriteFault) e calm = absurd (calm.writes e.1)
complete-text command src name got r w (Some (OpenFault file)) e calm = absurd (calm.misses e.1.rose)
complete-text command src name got r w (Some (ReadFault file)) e calm = absurd (one-apart src.faults r.sources e.1.one.one.1 calm.quiet e.1.failed)
complete-text command src name got r w (Some (TooLarge file limit)) e calm =
    absurd (fits-or-large src.left got r.sources r.read e.2.one.one.0 e.2.one.one.1 calm.visible e.2.read e.2.bytes calm.fits)
complete-text command src name got r w (Some (BadLine line)) e calm = inr (inr e.0)
complete-text command src name got r w (Some (NotEnabled line)) e calm = inr (inr e.0)
complete-text command src name got r w (Some (Unlawful line)) e calm = inr (inr e.0)
complete-text command src name got r w (Some (Unfinished seat)) e calm = inr (inr e.0)
complete-text command src name got r w (Some (BadLineOf file line)) e calm = inr (inr e.0)
complete-text command src name got r w (Some (SharedOf what file line g m)) e calm = inr (inr e.0)
complete-text command src name got r w (Some (TwoRunsOf file n g s)) e calm = inr (inr e.0)
complete-text command src name got r w (Some (UnlawfulOf file line)) e calm = inr (inr e.0)
complete-text command src name got r w (Some AspectFails) e calm = inr (inr e.0)
complete-text command src name got r w (Some NotTested) e calm = inr (inr e.0)
complete-text command src name got r w (Some NotLinearizable) e calm = inr (inr e.0)
complete-text command src name got r w (Some NeverEnded) e calm = inr (inr e.0)
complete-text command src name got r w (Some NotFound) e calm = inr (inr e.0)
complete-text command src name got r w (Some (TooLong file line len limit)) e calm = inr (inr e.0)
complete-text command src name got r w (Some (Words fault)) e calm = inr (inr e.0)

-- by what was asked
pub calmly : {S : Type 0} (src : SourceOf S) (asked : Result Asked WordsFault) (r : Inputs S) (w : Wrote) (o : Outcome S)
    → EndsAs src asked o.got.items r w o.fault → EndsWellWhereCalm src asked r w o
calmly src asked r w o e =
    let E : Result Asked WordsFault → Type 0 = λ a. EndsAs src a o.got.items r w o.fault in
    record {
      files = λ a is calm. complete most_payload (one_thread_output a.topics) src a.files o.got.items r w o.fault (subst E is e).1 calm;
      stages = λ a is calm. complete a.size one_thread_stage_output src a.files o.got.items r w o.fault (subst E is e).1 calm;
      alone = λ a is calm. complete-alone (self_summary a.seed a.lines) w o.fault (subst E is e).1 calm;
      text = λ a is calm. complete-text a.command src a.file o.got.items r w o.fault (subst E is e) calm;
    }
