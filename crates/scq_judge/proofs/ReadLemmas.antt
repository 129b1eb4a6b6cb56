-- The lines of a file as they are taken, and files one after the other
use Rattle.std.proofs.Common.{◌≡◌, ℕ, ◌+◌, ◌<◌, ◌≤◌, Bool, true, false, List, [], ◌∷◌, ◌++◌, length, length-append, append-nil, length-drop, take, append_assoc, Option, Some, None, Result, Ok, Err, refl, sym, ◌∙◌, ap, subst, arith}
use Rattle.std.specs.Prelude.{slice_range, if◌then◌else◌, IfSome, OnOk}
use Rattle.std.specs.Option.{option_map}
use Rattle.std.proofs.lemmas.Bool.Decides.{nat_tests}
use Rattle.std.proofs.lemmas.List.{take_rest}
use Rattle.std.proofs.lemmas.List.Elements.{All-push}
use Rattle.scq_hist.specs.declared.events.Event.{Event}
use Rattle.memchr.specs.Find.{IsFirstByte, is_byte}
use Rattle.scq_lines.specs.Exports.{lines_of}
use Rattle.scq_lines.proofs.Cutting.{lines_of-some-more, lines_of-none-more}
use Rattle.scq_judge.specs.Exports.{said_by, IsFile, AllAreOfFiles, after_entry, after_lines, after_line, after_file, after_files, event_with}
use Rattle.scq_judge.specs.Exports.{if_file, entry_may_follow, nothing, recording_of, with_entry}
use Rattle.scq_judge.specs.Recording.{Recording}
use Rattle.scq_judge.specs.declared.entry.Entry.{Entry}
use Rattle.scq_judge.specs.declared.entry.Entry.TheVariants.{Run, Opening, Happens}

-- a line that ends is taken
pub taken_more : (file : ℕ) (lone : Bool) (before : ℕ) (r next : Recording) (text : List ℕ) (n : ℕ) → IsFirstByte (is_byte 10) text (Some n)
    → ((lines : List (List ℕ)) → after_lines file lone before r (take n text ∷ lines) ≡ after_lines file lone (before + 1) next lines)
    → (more : List ℕ) → after_lines file lone before r (lines_of (text ++ more)) ≡ after_lines file lone (before + 1) next (lines_of (slice_range text (n + 1) (length text) ++ more))
taken_more file lone before r next text n found read more =
    ap (after_lines file lone before r) (lines_of-some-more text more n found) ∙ read (lines_of (slice_range text (n + 1) (length text) ++ more))

-- a line that ends is refused
pub refused_more : (file : ℕ) (lone : Bool) (before l : ℕ) (r : Recording) (text : List ℕ) (n : ℕ) → IsFirstByte (is_byte 10) text (Some n)
    → ((lines : List (List ℕ)) → after_lines file lone before r (take n text ∷ lines) ≡ Err l)
    → (more : List ℕ) → after_lines file lone before r (lines_of (text ++ more)) ≡ Err l
refused_more file lone before l r text n found bad more =
    ap (after_lines file lone before r) (lines_of-some-more text more n found) ∙ bad (lines_of (slice_range text (n + 1) (length text) ++ more))

-- a line that is too long is not understood
long_line : (file : ℕ) (lone : Bool) (before : ℕ) (r : Recording) (line : List ℕ) (lines : List (List ℕ)) → 1024 < length line
    → after_lines file lone before r (line ∷ lines) ≡ Err (before + 1)
long_line file lone before r line lines long =
    let none : said_by line ≡ None = grind (arith, nat_tests) in rw none refl

pub refused_long : (file : ℕ) (lone : Bool) (before : ℕ) (r : Recording) (text : List ℕ) → 1024 < length text → IsFirstByte (is_byte 10) text None
    → (more : List ℕ) → after_lines file lone before r (lines_of (text ++ more)) ≡ Err (before + 1)
refused_long file lone before r text long none more =
    let b = lines_of-none-more text more (omega arith) none in
    ap (after_lines file lone before r) b.cut ∙ long_line file lone before r b.line b.lines (let h = b.has in omega arith)

-- the bytes that were read so far, taken
pub record BytesAreTaken (file : ℕ) (lone : Bool) (begun now : Recording) (lines : ℕ) (front : List ℕ) (before after : Option (List ℕ)) : Type 0 where
  pub text : option_map (λ content. after_lines file lone 0 begun (lines_of content)) before
      ≡ option_map (λ rest. after_lines file lone lines now (lines_of (front ++ rest))) after

-- a piece more was read
moved : {A : Type 0} (f : List ℕ → A) (piece : List ℕ) (before after : Option (List ℕ)) → before ≡ option_map (λ rest. piece ++ rest) after
    → option_map f before ≡ option_map (λ rest. f (piece ++ rest)) after
moved {A} f piece before None is = rw is refl
moved {A} f piece before (Some rest) is = rw is refl

same_map : {A : Type 0} (f g : List ℕ → A) (o : Option (List ℕ)) → ((x : List ℕ) → f x ≡ g x) → option_map f o ≡ option_map g o
same_map {A} f g None same = refl
same_map {A} f g (Some x) same = ap Some (same x)

pub taken_piece : (file : ℕ) (lone : Bool) (begun old new : Recording) (lines more_lines : ℕ) (front piece rest : List ℕ) (first before after : Option (List ℕ))
    → before ≡ option_map (λ left. piece ++ left) after
    → ((more : List ℕ) → after_lines file lone lines old (lines_of ((front ++ piece) ++ more)) ≡ after_lines file lone more_lines new (lines_of (rest ++ more)))
    → BytesAreTaken file lone begun old lines front first before → BytesAreTaken file lone begun new more_lines rest first after
taken_piece file lone begun old new lines more_lines front piece rest first before after is taken text = record {
  text = text.text ∙ moved (λ left. after_lines file lone lines old (lines_of (front ++ left))) piece before after is
      ∙ same_map (λ left. after_lines file lone lines old (lines_of (front ++ (piece ++ left)))) (λ left. after_lines file lone more_lines new (lines_of (rest ++ left))) after
      (λ left. ap (λ t. after_lines file lone lines old (lines_of t)) (sym (append_assoc front piece left)) ∙ taken left);
}

-- what is so of the texts before a piece was read, by what is so of the rest
module _ {A : Type 0} (f g : List ℕ → A) (first after : Option (List ℕ)) (same : option_map f first ≡ option_map g after) where
  -- nothing is left
  pub at_end : (y : A) → IfSome after (λ rest. rest ≡ []) → g [] ≡ y → IfSome first (λ content. f content ≡ y)
  at_end y none is = go first after same none where
    go : (o p : Option (List ℕ)) → option_map f o ≡ option_map g p → IfSome p (λ rest. rest ≡ []) → IfSome o (λ content. f content ≡ y)
    go None p e n = tt
    go (Some content) None e n = absurd cc
    go (Some content) (Some rest) e n = (let here : f content ≡ g rest = cc in here ∙ ap g n ∙ is)

  -- whatever is left
  pub in_any_case : (y : A) → ((rest : List ℕ) → g rest ≡ y) → IfSome first (λ content. f content ≡ y)
  in_any_case y is = go first after same where
    go : (o p : Option (List ℕ)) → option_map f o ≡ option_map g p → IfSome o (λ content. f content ≡ y)
    go None p e = tt
    go (Some content) None e = absurd cc
    go (Some content) (Some rest) e = (let here : f content ≡ g rest = cc in here ∙ is rest)

-- nothing is left behind the front, of whose lines this is so
pub ended : (file : ℕ) (lone : Bool) (begun now : Recording) (lines : ℕ) (front : List ℕ) (first before : Option (List ℕ)) (y : Result Recording ℕ)
    → BytesAreTaken file lone begun now lines front first before → IfSome before (λ rest. rest ≡ []) → after_lines file lone lines now (lines_of front) ≡ y
    → IfSome first (λ content. after_lines file lone 0 begun (lines_of content) ≡ y)
ended file lone begun now lines front first before y text none is =
    at_end (λ content. after_lines file lone 0 begun (lines_of content)) (λ rest. after_lines file lone lines now (lines_of (front ++ rest))) first before
    text.text y none (ap (λ t. after_lines file lone lines now (lines_of t)) (append-nil front) ∙ is)

-- a line of the next piece is refused
pub refused_piece : (file : ℕ) (lone : Bool) (begun now : Recording) (lines : ℕ) (front piece : List ℕ) (first before after : Option (List ℕ)) (l : ℕ)
    → before ≡ option_map (λ rest. piece ++ rest) after → BytesAreTaken file lone begun now lines front first before
    → ((more : List ℕ) → after_lines file lone lines now (lines_of ((front ++ piece) ++ more)) ≡ Err l)
    → IfSome first (λ content. after_lines file lone 0 begun (lines_of content) ≡ Err l)
refused_piece file lone begun now lines front piece first before after l is text bad =
    in_any_case (λ content. after_lines file lone 0 begun (lines_of content)) (λ rest. after_lines file lone lines now (lines_of (front ++ (piece ++ rest))))
    first after (text.text ∙ moved (λ rest. after_lines file lone lines now (lines_of (front ++ rest))) piece before after is) (Err l)
    (λ rest. ap (λ t. after_lines file lone lines now (lines_of t)) (sym (append_assoc front piece rest)) ∙ bad rest)

-- the lengths, where a piece more was read
pub longer : (first before after : Option (List ℕ)) (piece : List ℕ) (n m : ℕ) → option_map length first ≡ option_map (λ rest. n + length rest) before
    → before ≡ option_map (λ rest. piece ++ rest) after → m ≡ n + length piece → option_map length first ≡ option_map (λ rest. m + length rest) after
longer first before after piece n m same moved_on is =
    same ∙ moved (λ rest. n + length rest) piece before after moved_on
    ∙ same_map_to (λ rest. n + length (piece ++ rest)) (λ rest. m + length rest) after (λ rest. omega (arith, length-append piece rest)) where
      same_map_to : (f g : List ℕ → ℕ) (o : Option (List ℕ)) → ((x : List ℕ) → f x ≡ g x) → option_map f o ≡ option_map g o
      same_map_to f g None each = refl
      same_map_to f g (Some x) each = ap Some (each x)

-- how many lines there are and how many bytes are left
pub taken_few : (lines total : ℕ) (text : List ℕ) (n : ℕ) → IsFirstByte (is_byte 10) text (Some n) → lines + length text ≤ total
    → lines + 1 + length (slice_range text (n + 1) (length text)) ≤ total
taken_few lines total text n found few =
    rw (take_rest text (n + 1)) (let high = found.0.high in let short = length-drop (n + 1) text in omega arith)

-- what follows an answer
pub on_ok : {T E : Type 0} (r : Result T E) (P Q : Type 0) → (P → Q) → OnOk r P → OnOk r Q
on_ok (Ok x) P Q to p = to p
on_ok (Err e) P Q to p = p

-- the events that are added are of the file that is read
pub files_more : (count file number : ℕ) (lone : Bool) (r next : Recording) (line : List ℕ) → IsFile count file → after_line file lone number r line ≡ Some next
    → AllAreOfFiles count r → AllAreOfFiles count next
files_more count file number lone r next line is read all = by (said_by line) read where
  if_some : (b : Bool) (x : Recording) → (if b then Some x else None) ≡ Some next → x ≡ next
  if_some true x e = cc
  if_some false x e = absurd cc

  event_of : (stamp : Option ℕ) (event : Event) → IsFile count (event_with file number stamp event).place.file
  event_of None event = is
  event_of (Some stamp) event = is

  by : (o : Option Entry) → after_entry file lone number r o ≡ Some next → AllAreOfFiles count next
  by None e = absurd cc
  by (Some (Run run)) e =
      subst (λ (z : Recording). AllAreOfFiles count z) (if_some (entry_may_follow file lone r.last (Run run)) (with_entry file number r (Run run)) e)
      (record { runs = All-push (λ run. IsFile count run.file) r.runs (record { file = file; number = run }) all.runs is; events = all.events })
  by (Some (Opening content)) e =
      subst (λ (z : Recording). AllAreOfFiles count z) (if_some (entry_may_follow file lone r.last (Opening content)) (with_entry file number r (Opening content)) e)
      (record { runs = all.runs; events = all.events })
  by (Some (Happens stamp event)) e =
      subst (λ (z : Recording). AllAreOfFiles count z)
      (if_some (entry_may_follow file lone r.last (Happens stamp event)) (with_entry file number r (Happens stamp event)) e)
      (record {
        runs = all.runs;
        events = All-push (λ s. IsFile count s.place.file) r.events (event_with file number stamp event) all.events (event_of stamp event);
      })

-- what was read of so many files, and of those behind them
after_front : (lone : Bool) (file : ℕ) (r mid : Recording) (contents more : List (List ℕ)) → after_files lone file r contents ≡ Ok mid
    → after_files lone file r (contents ++ more) ≡ after_files lone (file + length contents) mid more
after_front lone file r mid [] more front =
    let same : r ≡ mid = cc in
    let number : file ≡ file + 0 = omega arith in
    subst (λ z. after_files lone file r more ≡ after_files lone (file + 0) z more) same (ap (λ n. after_files lone n r more) number)
after_front lone file r mid (first ∷ contents) more front =
    at (after_file file lone r first) front (λ z is. after_front lone (file + 1) z mid contents more is) where
      number : file + 1 + length contents ≡ file + length (first ∷ contents)
      number = omega arith

      at : (o : Result Recording ℕ) → if_file file o (λ z. after_files lone (file + 1) z contents) ≡ Ok mid
          → ((z : Recording) → after_files lone (file + 1) z contents ≡ Ok mid
          → after_files lone (file + 1) z (contents ++ more) ≡ after_files lone (file + 1 + length contents) mid more)
          → if_file file o (λ z. after_files lone (file + 1) z (contents ++ more)) ≡ after_files lone (file + length (first ∷ contents)) mid more
      at (Ok z) is later = later z is ∙ ap (λ n. after_files lone n mid more) number
      at (Err line) is later = absurd cc

-- one file more, behind those that were read
module _ (lone : Bool) (front : List (List ℕ)) (content : List ℕ) (old : Recording) (before : recording_of lone front ≡ Ok old) where
  number : length front + 1 ≡ 1 + length front
  number = omega arith

  pub next_read : (new : Recording) → after_file (length front + 1) lone old content ≡ Ok new → recording_of lone (front ++ content ∷ []) ≡ Ok new
  next_read new read =
      after_front lone 1 nothing old front (content ∷ []) before
      ∙ ap (λ o. if_file (1 + length front) o (λ z. after_files lone (1 + length front + 1) z [])) (subst (λ n. after_file n lone old content ≡ Ok new) number read)

  pub next_bad : (l : ℕ) → after_file (length front + 1) lone old content ≡ Err l
      → recording_of lone (front ++ content ∷ []) ≡ Err (record { file = length front + 1; line = l })
  next_bad l bad =
      after_front lone 1 nothing old front (content ∷ []) before
      ∙ ap (λ o. if_file (1 + length front) o (λ z. after_files lone (1 + length front + 1) z [])) (subst (λ n. after_file n lone old content ≡ Err l) number bad)
      ∙ ap (λ n. Err (record { file = n; line = l })) (sym number)
