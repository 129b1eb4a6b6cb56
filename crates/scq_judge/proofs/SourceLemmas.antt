-- Sources as they are read, one after the other
use Rattle.std.proofs.Common.{◌≡◌, ◌≢◌, ◌∙◌, inl, ℕ, zero, suc, ◌<◌, ◌≤◌, Bool, List, [], ◌∷◌, ◌++◌, length, get_or, slice_get, append_assoc, Option, Some, None, Result, Ok, Err, refl, sym, ap, subst, arith, below_more}
use Rattle.std.specs.Prelude.{IfSome}
use Rattle.std.specs.Option.{option_map}
use Rattle.std.proofs.Math.Seq.{get_or-append_seam}
use Rattle.std.proofs.lemmas.List.{get_or_append_left, length-append}
use Rattle.scq_outside.specs.Exports.{Took}
use Rattle.scq_judge.specs.Exports.{HaveContents, HasGiven, OfEach, IsFileFault, IsLineFault, after_file}
use Rattle.scq_judge.specs.Recording.{Recording}
use Rattle.scq_judge.specs.declared.judging.JudgeFault.{JudgeFault}
use Rattle.scq_judge.specs.declared.judging.JudgeFault.TheVariants.{BadLine, Shared, TwoRuns, Unlawful, ReadFault, TooLarge, NoMemory}

-- a source gave bytes, and no read failed so far
pub record HasGivenSoFar {S : Type 0} (faults end_count : S → ℕ) (left : S → Option (List ℕ)) (old now : S) : Type 0 where
  pub bytes : List ℕ
  pub took : Took bytes (left old) (left now)
  pub quiet : faults now ≡ faults old
  pub none : end_count now ≡ end_count old

took_more : (first before after : Option (List ℕ)) (bytes piece : List ℕ) → Took bytes first before → Took piece before after → Took (bytes ++ piece) first after
took_more first before None bytes piece had took = had ∙ ap (option_map (λ rest. bytes ++ rest)) took
took_more first before (Some rest) bytes piece had took =
    had ∙ ap (option_map (λ rest. bytes ++ rest)) took ∙ ap Some (sym (append_assoc bytes piece rest))

-- a read that gave something has not answered the end
pub not_end : {E : Type 0} (x y : Result ℕ E) (count : ℕ) → x ≡ Ok count → y ≡ Ok 0 → 0 < count → x ≢ y
not_end {E} x y count some end more is =
    let none : count ≡ 0 = cc in
    omega arith

-- what is so of the number of a line
pub line_fault : (file : ℕ) (IsBad Is : ℕ → Type 0) (fault : JudgeFault) → ((l : ℕ) → IsBad l → Is l) → IsLineFault file IsBad fault → IsLineFault file Is fault
line_fault file IsBad Is (BadLine f l) so h = (h.0, so l h.1)
line_fault file IsBad Is (Shared what f l g m) so h = h
line_fault file IsBad Is (TwoRuns f r g s) so h = h
line_fault file IsBad Is (Unlawful f l) so h = h
line_fault file IsBad Is (ReadFault f) so h = h
line_fault file IsBad Is (TooLarge f) so h = h
line_fault file IsBad Is NoMemory so h = h

-- a fault of a line is one of its file
pub file_fault : (file : ℕ) (lone : Bool) (before : Recording) (content : Option (List ℕ)) (fault : JudgeFault)
    → IsLineFault file (λ l. IfSome content (λ content. after_file file lone before content ≡ Err l)) fault → IsFileFault file lone before content fault
file_fault file lone before content (BadLine f l) h = h
file_fault file lone before content (Shared what f l g m) h = h
file_fault file lone before content (TwoRuns f r g s) h = h
file_fault file lone before content (Unlawful f l) h = h
file_fault file lone before content (ReadFault f) h = absurd h
file_fault file lone before content (TooLarge f) h = absurd h
file_fault file lone before content NoMemory h = h

module _ {S : Type 0} (faults end_count : S → ℕ) (left : S → Option (List ℕ)) where
  -- a read more
  pub taken_more : (old mid new : S) (piece : List ℕ) → HasGivenSoFar faults end_count left old mid → Took piece (left mid) (left new) → faults new ≡ faults mid
      → end_count new ≡ end_count mid → HasGivenSoFar faults end_count left old new
  taken_more old mid new piece had took quiet none = record {
    bytes = had.bytes ++ piece;
    took = took_more (left old) (left mid) (left new) had.bytes piece had.took took;
    quiet = quiet ∙ had.quiet;
    none = none ∙ had.none;
  }

  -- the last read
  pub given_last : (old mid new : S) (piece : List ℕ) → HasGivenSoFar faults end_count left old mid → Took piece (left mid) (left new) → faults new ≡ faults mid
      → HasGiven faults left old new
  given_last old mid new piece had took quiet = record {
    bytes = had.bytes ++ piece;
    took = took_more (left old) (left mid) (left new) had.bytes piece had.took took;
    counted = inl (quiet ∙ had.quiet);
  }

-- a source with its content in front of others
first_and : {S : Type 0} (left : S → Option (List ℕ)) (source : S) (sources : List S) (content : List ℕ) (contents : List (List ℕ)) → left source ≡ Some content
    → HaveContents left sources contents → HaveContents left (source ∷ sources) (content ∷ contents)
first_and {S} left source sources content contents here is = record { many = ap suc is.many; each = at } where
  at : (i : ℕ) (s : S) → slice_get (source ∷ sources) i ≡ Some s → left s ≡ slice_get (content ∷ contents) i
  at zero s there = subst (λ z. left z ≡ Some content) (let e = there in cc) here
  at (suc i) s there = is.each i s there

-- the contents of sources, and of one behind them
pub record HaveLast {S : Type 0} (left : S → Option (List ℕ)) (sources : List S) (source : S) (contents : List (List ℕ)) : Type 0 where
  pub front : List (List ℕ)
  pub last : List ℕ
  pub parts : contents ≡ front ++ last ∷ []
  pub before : HaveContents left sources front
  pub own : left source ≡ Some last

pub have_last : {S : Type 0} (left : S → Option (List ℕ)) (sources : List S) (source : S) (contents : List (List ℕ))
    → HaveContents left (sources ++ source ∷ []) contents → HaveLast left sources source contents
have_last {S} left [] source [] have = absurd (let many = have.many in omega arith)
have_last {S} left [] source (c ∷ []) have = record {
  front = [];
  last = c;
  parts = refl;
  before = record { many = refl; each = λ i s there. absurd cc };
  own = have.each 0 source refl;
}
have_last {S} left [] source (c ∷ d ∷ cs) have = absurd (let many = have.many in omega arith)
have_last {S} left (s ∷ ss) source [] have = absurd (let many = have.many in omega arith)
have_last {S} left (s ∷ ss) source (c ∷ cs) have =
    let h = have_last left ss source cs (record { many = (let many = have.many in omega arith); each = λ i z there. have.each (suc i) z there }) in
    record {
      front = c ∷ h.front;
      last = h.last;
      parts = ap (λ (z : List (List ℕ)). c ∷ z) h.parts;
      before = first_and left s ss c h.front (have.each 0 s refl) h.before;
      own = h.own;
    }

-- what is so of each source, and of one behind them
module _ {S : Type 0} (R : S → S → Type 0) (olds news : List S) (old new : S) (many : length news ≡ length olds) where
  last_new : (d : S) → get_or (news ++ new ∷ []) (length olds) d ≡ new
  last_new d = subst (λ n. get_or (news ++ new ∷ []) n d ≡ new) many (get_or-append_seam news new [] d)

  pub each_front : (count : ℕ) → count ≤ length olds → OfEach (length olds) R olds news → OfEach count R (olds ++ old ∷ []) (news ++ new ∷ [])
  each_front count few before = λ k d lt.
      subst (λ z. R z (get_or (news ++ new ∷ []) k d)) (sym (get_or_append_left olds (old ∷ []) d k (omega arith)))
      (subst (R (get_or olds k d)) (sym (get_or_append_left news (new ∷ []) d k (omega arith))) (before k d (omega arith)))

  pub each_last : (d : S) → R old new → R (get_or (olds ++ old ∷ []) (length olds) d) (get_or (news ++ new ∷ []) (length olds) d)
  each_last d this =
      subst (λ z. R z (get_or (news ++ new ∷ []) (length olds) d)) (sym (get_or-append_seam olds old [] d)) (subst (R old) (sym (last_new d)) this)

  pub each_more : OfEach (length olds) R olds news → R old new → OfEach (length (olds ++ old ∷ [])) R (olds ++ old ∷ []) (news ++ new ∷ [])
  each_more before this = λ k d lt.
      below_more (λ k. R (get_or (olds ++ old ∷ []) k d) (get_or (news ++ new ∷ []) k d)) (length olds)
      (λ k less. each_front (length olds) (omega arith) before k d less) (each_last d this) k (omega (arith, lt, length-append olds (old ∷ [])))
