-- Sources that a reader reads, one after the other
use Rattle.std.proofs.Common.{◌≡◌, ◌∙◌, ℕ, ◌+◌, ◌-◌, ◌<◌, ◌≤◌, Bool, List, [], ◌∷◌, ◌++◌, length, get_or, slice_get, Option, Some, Ok, Err, sym, ap, subst, arith}
use Rattle.std.specs.Prelude.{IfSome, IsSomeAnd}
use Rattle.std.proofs.Math.Seq.{get_or-append_seam}
use Rattle.std.proofs.lemmas.List.{length-append}
use Rattle.std.proofs.lemmas.List.Elements.{All-push}
use Rattle.std.proofs.lemmas.Option.{slice_get-get_or}
use Rattle.scq_outside.specs.Exports.{Rose}
use Rattle.scq_judge.specs.Exports.{NoneIsLarge, IsFile, IsLarge, most_bytes, IsCause, AreSoundBefore, AreQuiet, AreReadBefore}
use Rattle.scq_judge.specs.Exports.{AreReadUntil, CountsFault, HasFailed, HasGiven, ReadingStopped, HaveBeenRead, FileIsAdded, IsFileFault}
use Rattle.scq_judge.specs.Exports.{IsOfOneFile, IsReadWhole, AllAreOfFiles, after_file, recording_of}
use Rattle.scq_judge.specs.Recording.{Recording}
use Rattle.scq_judge.specs.declared.judging.JudgeFault.{JudgeFault}
use Rattle.scq_judge.specs.declared.judging.JudgeFault.TheVariants.{BadLine, Shared, TwoRuns, Unlawful, ReadFault, TooLarge, NoMemory}
use Rattle.scq_judge.proofs.JudgeLemmas.{sound_before}
use Rattle.scq_judge.proofs.ReadLemmas.{next_bad, next_read}
use Rattle.scq_judge.proofs.SourceLemmas.{HaveLast, each_front, each_last, each_more, have_last}

-- of one of so many files, or of one more
wider : (count : ℕ) (r : Recording) → AllAreOfFiles count r → AllAreOfFiles (count + 1) r
wider count r all = record {
  runs = λ k d lt. let h = all.runs k d lt in let last = h.last in record { first = h.first; last = omega arith };
  events = λ k d lt. let h = all.events k d lt in let last = h.last in record { first = h.first; last = omega arith };
}

module _ {S : Type 0} (faults end_count : S → ℕ) (left : S → Option (List ℕ)) (lone : Bool) (files : ℕ) (olds news : List S) (old new : S) (before after : Recording)
    (had : HaveBeenRead faults end_count left olds news (record { lone = lone; files = files; recorded = before })) where
  more : length (olds ++ old ∷ []) ≡ length olds + 1
  more = length-append olds (old ∷ [])

  many : length (news ++ new ∷ []) ≡ length (olds ++ old ∷ [])
  many = omega (arith, more, had.many, length-append news (new ∷ []))

  number : (contents : List (List ℕ)) (l : HaveLast left olds old contents) → files + 1 ≡ length l.front + 1
  number contents l = omega (arith, l.before.many, had.count)

  -- the next source was read to its end
  pub read_next : FileIsAdded (files + 1) lone before (left old) after → ((count : ℕ) → IsFile count (files + 1) → AllAreOfFiles count before → AllAreOfFiles count after)
      → IsReadWhole faults end_count left old new → HasGiven faults left old new
      → HaveBeenRead faults end_count left (olds ++ old ∷ []) (news ++ new ∷ []) (record { lone = lone; files = files + 1; recorded = after })
  read_next added all whole given = record {
    count = omega (arith, more, had.count);
    many = many;
    told = λ contents have.
        let l = have_last left olds old contents have in
        let h = had.told l.front l.before in
        let R : Option (List ℕ) → Type 0 = λ o. IfSome o (λ content. after_file (files + 1) lone before content ≡ Ok after) in
        let M : Option (List ℕ) → Type 0 = λ o. IfSome o (λ content. length content ≤ most_bytes) in (
          subst NoneIsLarge (sym l.parts) (All-push (λ content. length content ≤ most_bytes) l.front l.last h.0 (subst M l.own added.small)),
          ap (recording_of lone) l.parts
              ∙ next_read lone l.front l.last before h.1 after (subst (λ n. after_file n lone before l.last ≡ Ok after) (number contents l) (subst R l.own added.read)),
        );
    files = subst (λ n. AllAreOfFiles n after) (sym more)
        (all (length olds + 1) (record { first = omega arith; last = omega (arith, had.count) }) (wider (length olds) before had.files));
    whole = each_more (IsReadWhole faults end_count left) olds news old new had.many had.whole whole;
    given = each_more (HasGiven faults left) olds news old new had.many had.given given;
  }

  -- the reading of the next source stopped at a fault
  pub read_stopped : (fault : JudgeFault) → IsFileFault (files + 1) lone before (left old) fault → CountsFault fault (faults old) (faults new)
      → HasGiven faults left old new → ReadingStopped faults end_count left lone (olds ++ old ∷ []) (news ++ new ∷ []) fault
  read_stopped fault told counted given = record {
    many = many;
    own = own fault told;
    cause = λ contents have.
        let l = have_last left olds old contents have in
        subst (λ cs. IsCause lone cs fault) (sym l.parts) (cause contents l fault told);
    until = until fault told counted;
    given = each_more (HasGiven faults left) olds news old new had.many had.given given;
  } where
    own : (fault : JudgeFault) → IsFileFault (files + 1) lone before (left old) fault → IsOfOneFile fault
    own (BadLine f l) h = tt
    own (Shared what f l g m) h = absurd h
    own (TwoRuns f r g s) h = absurd h
    own (Unlawful f l) h = absurd h
    own (ReadFault f) h = tt
    own (TooLarge f) h = tt
    own NoMemory h = tt

    sound : (contents : List (List ℕ)) (l : HaveLast left olds old contents) → AreSoundBefore lone (l.front ++ l.last ∷ []) (length l.front + 1)
    sound contents l = let h = had.told l.front l.before in sound_before lone l.front l.last before h.0 h.1

    is_large : (front : List (List ℕ)) (last : List ℕ) → most_bytes < length last → IsLarge (front ++ last ∷ []) (length front + 1)
    is_large front last large =
        let longer : length (front ++ last ∷ []) ≡ length front + 1 = length-append front (last ∷ []) in
        let at : length front + 1 - 1 ≡ length front = omega arith in
        let there : slice_get (front ++ last ∷ []) (length front + 1 - 1) ≡ Some last =
        ap (slice_get (front ++ last ∷ [])) at ∙ slice_get-get_or (front ++ last ∷ []) (length front) [] (omega (arith, longer))
        ∙ ap Some (get_or-append_seam front last [] []) in
        record {
          is_file = record { first = omega arith; last = omega (arith, longer) };
          large = subst (λ o. IsSomeAnd o (λ content. most_bytes < length content)) (sym there) large;
        }

    cause : (contents : List (List ℕ)) (l : HaveLast left olds old contents) (fault : JudgeFault) → IsFileFault (files + 1) lone before (left old) fault
        → IsCause lone (l.front ++ l.last ∷ []) fault
    cause contents l (BadLine f m) h =
        let at = number contents l in
        let B : Option (List ℕ) → Type 0 = λ o. IfSome o (λ content. after_file (files + 1) lone before content ≡ Err m) in
        let bad = next_bad lone l.front l.last before (had.told l.front l.before).1 m
        (subst (λ n. after_file n lone before l.last ≡ Err m) at (subst B l.own h.1)) in
        subst (λ n. IsCause lone (l.front ++ l.last ∷ []) (BadLine n m)) (sym (h.0 ∙ at)) (record { small = (sound contents l).small; bad = bad })
    cause contents l (Shared what f m g k) h = absurd h
    cause contents l (TwoRuns f r g s) h = absurd h
    cause contents l (Unlawful f m) h = absurd h
    cause contents l (ReadFault f) h = subst (AreSoundBefore lone (l.front ++ l.last ∷ [])) (sym (h ∙ number contents l)) (sound contents l)
    cause contents l (TooLarge f) h =
        let L : Option (List ℕ) → Type 0 = λ o. IfSome o (λ content. most_bytes < length content) in
        subst (λ n. IsCause lone (l.front ++ l.last ∷ []) (TooLarge n)) (sym (h.0 ∙ number contents l))
        (is_large l.front l.last (subst L l.own h.1), sound contents l)
    cause contents l NoMemory h = tt

    read_before : (f : ℕ) → f ≡ files + 1 → AreReadBefore faults end_count left (olds ++ old ∷ []) (news ++ new ∷ []) f
    read_before f is = record {
      first = omega arith;
      last = omega (arith, is, more, had.count);
      whole = each_front (IsReadWhole faults end_count left) olds news old new had.many (f - 1) (omega (arith, is, had.count)) had.whole;
    }

    quiet : faults new ≡ faults old → AreQuiet faults (olds ++ old ∷ []) (news ++ new ∷ [])
    quiet kept = each_more (λ old new. faults new ≡ faults old) olds news old new had.many (λ k d lt. (had.whole k d lt).kept) kept

    rose : (f : ℕ) → f ≡ files + 1 → Rose (faults old) (faults new) → HasFailed faults (olds ++ old ∷ []) (news ++ new ∷ []) f
    rose f is r d =
        let at : length olds ≡ f - 1 = omega (arith, is, had.count) in
        subst (λ k. Rose (faults (get_or (olds ++ old ∷ []) k d)) (faults (get_or (news ++ new ∷ []) k d))) at
        (each_last (λ old new. Rose (faults old) (faults new)) olds news old new had.many d r)

    until : (fault : JudgeFault) → IsFileFault (files + 1) lone before (left old) fault → CountsFault fault (faults old) (faults new)
        → AreReadUntil faults end_count left (olds ++ old ∷ []) (news ++ new ∷ []) fault
    until (BadLine f l) h c = (read_before f h.0, quiet c)
    until (Shared what f l g m) h c = absurd h
    until (TwoRuns f r g s) h c = absurd h
    until (Unlawful f l) h c = absurd h
    until (ReadFault f) h c = (read_before f h, rose f h c)
    until (TooLarge f) h c = (read_before f h.0, quiet c)
    until NoMemory h c = quiet c
