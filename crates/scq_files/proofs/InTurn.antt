-- What each worker read of its files in turn, as they are gathered one after the other: none behind one at which it stopped.
use Rattle.std.proofs.Common.{◌≡◌, ◌∙◌, refl, sym, ap, subst, inl, inr, arith, ℕ, ◌+◌, ◌<◌, List, [], ◌∷◌, ◌++◌, length, set, get_or-set_same, get_or-set_other}
use Rattle.std.specs.Prelude.{slice_index_or, ◌%◌}
use Rattle.std.specs.List.{All}
use Rattle.std.proofs.lemmas.Bool.{cases_eq}
use Rattle.std.proofs.lemmas.List.{length-append, length-set, get_or_append_left, get_or_push}
use Rattle.scq_frames.specs.declared.fault.FrameFault.{FrameFault}
use Rattle.scq_files.specs.Exports.{EndsSo, SourceOf, StopsAtFaults, IsNew, StopsAtAFault}
use Rattle.scq_files.specs.declared.own_file.FileEnd.{FileEnd}
use Rattle.scq_files.specs.declared.own_file.FileEnd.TheVariants.{Unread, Stopped}
use Rattle.scq_files.specs.declared.own_file.OwnFile.{OwnFile}
use Rattle.scq_files.proofs.Lists.{all-front, all-last, set-each}
use Rattle.scq_files.proofs.SoFar.{index-push}

abbrev IsUnread : {S : Type 0} → OwnFile S → Type 0
IsUnread f = f.end ≡ Unread

-- of files none was read behind a fault, and so it is of those in front of the last
stops-front : {S : Type 0} (front : List (OwnFile S)) (file : OwnFile S) → StopsAtAFault (front ++ file ∷ []) → StopsAtAFault front
stops-front front file stops at before d fault low is less =
    subst IsNew (get_or_append_left front (file ∷ []) d before (omega (arith, less, low)))
    (stops at before d fault (omega (arith, low, length-append front (file ∷ [])))
    (ap (λ (f : OwnFile _). f.end) (get_or_append_left front (file ∷ []) d at low) ∙ is) less)

-- where the last stopped at a fault, no other was read
none-behind : {S : Type 0} (front : List (OwnFile S)) (file : OwnFile S) (fault : FrameFault) → StopsAtAFault (front ++ file ∷ []) → file.end ≡ Stopped fault
    → All IsUnread front
none-behind front file fault stops is k d less =
    let last = get_or_push front file d (length front) refl in
    let new = stops (length front) k d fault (omega (arith, length-append front (file ∷ []))) (ap (λ (f : OwnFile _). f.end) last ∙ is) less in
    subst IsUnread (get_or_append_left front (file ∷ []) d k less) new.end

module _ {S : Type 0} (workers size : ℕ) (src : SourceOf S) (was : List S) where
  -- what is gathered of the first files, so many, and the files that desks still have
  pub record InTurn (at : ℕ) (sources : List S) (files : List (List (OwnFile S))) : Type 0 where
    pub end_of : List FileEnd
    pub count : length end_of ≡ at
    pub ends : (k : ℕ) (d : S) (e : FileEnd) → k < at
        → EndsSo size src (slice_index_or was k d) (slice_index_or sources k d) (slice_index_or end_of k e)
    pub stops : (i j : ℕ) (e : FileEnd) (fault : FrameFault) → i < j → j < at → i % workers ≡ j % workers → slice_index_or end_of i e ≡ Stopped fault
        → slice_index_or end_of j e ≡ Unread
    pub ahead : (i : ℕ) (e : FileEnd) (fault : FrameFault) (d : List (OwnFile S)) → i < at → slice_index_or end_of i e ≡ Stopped fault
        → All IsUnread (slice_index_or files (i % workers) d)
    pub rest : All StopsAtAFault files

  -- before the first
  pub in-turn-first : (files : List (List (OwnFile S))) → All StopsAtAFault files → InTurn 0 [] files
  in-turn-first files stops =
      record {
        end_of = [];
        count = refl;
        ends = λ k d e less. absurd (omega (arith, less));
        stops = λ i j e fault before less same is. absurd (omega (arith, less));
        ahead = λ i e fault d less is. absurd (omega (arith, less));
        rest = stops;
      }

  -- the last file of a desk is taken off
  module _ (at slot : ℕ) (sources : List S) (files : List (List (OwnFile S))) (front : List (OwnFile S)) (file : OwnFile S) (default : List (OwnFile S))
      (count : length sources ≡ at) (within : slot < length files) (mine : slot ≡ at % workers)
      (is : slice_index_or files slot default ≡ front ++ file ∷ []) (is_old : (d : S) → slice_index_or was at d ≡ file.was.value)
      (ended : EndsSo size src file.was.value file.source file.end) (t : InTurn at sources files) where
    abbrev more : List FileEnd
    more = t.end_of ++ file.end ∷ []

    kept : (k : ℕ) (e : FileEnd) → k < at → slice_index_or more k e ≡ slice_index_or t.end_of k e
    kept k e less = get_or_append_left t.end_of (file.end ∷ []) e k (omega (arith, less, t.count))

    last : (e : FileEnd) → slice_index_or more at e ≡ file.end
    last e = get_or_push t.end_of file.end e at t.count

    -- the files of this desk, where one of its files stopped before
    behind : (i : ℕ) (e : FileEnd) (fault : FrameFault) → i < at → i % workers ≡ slot → slice_index_or t.end_of i e ≡ Stopped fault
        → All IsUnread (front ++ file ∷ [])
    behind i e fault less same stopped =
        subst (All IsUnread) (ap (λ k. slice_index_or files k default) same ∙ is) (t.ahead i e fault default less stopped)

    stops-more : (i j : ℕ) (e : FileEnd) (fault : FrameFault) → i < j → j < at + 1 → i % workers ≡ j % workers → slice_index_or more i e ≡ Stopped fault
        → slice_index_or more j e ≡ Unread
    stops-more i j e fault before less same stopped =
        let early : i < at = omega (arith, before, less) in
        let old : slice_index_or t.end_of i e ≡ Stopped fault = sym (kept i e early) ∙ stopped in
        elim (cases_eq j at) [
          | inl here ↦
              let its : i % workers ≡ slot = same ∙ ap (λ k. k % workers) here ∙ sym mine in
              ap (λ k. slice_index_or more k e) here ∙ last e ∙ all-last IsUnread front file (behind i e fault early its old)
          | inr apart ↦
              let below : j < at = omega (arith, less, apart) in
              kept j e below ∙ t.stops i j e fault before below same old
        ]

    ahead-more : (i : ℕ) (e : FileEnd) (fault : FrameFault) (d : List (OwnFile S)) → i < at + 1 → slice_index_or more i e ≡ Stopped fault
        → All IsUnread (slice_index_or (set files slot front) (i % workers) d)
    ahead-more i e fault d less stopped =
        let now : slice_index_or (set files slot front) slot d ≡ front = get_or-set_same files slot front d within in
        elim (cases_eq i at) [
          | inl here ↦
              let slot_is : i % workers ≡ slot = ap (λ k. k % workers) here ∙ sym mine in
              let end_is : file.end ≡ Stopped fault = sym (last e) ∙ ap (λ k. slice_index_or more k e) (sym here) ∙ stopped in
              let whole : StopsAtAFault (front ++ file ∷ []) = subst StopsAtAFault is (t.rest slot default within) in
              subst (All IsUnread) (sym (ap (λ k. slice_index_or (set files slot front) k d) slot_is ∙ now)) (none-behind front file fault whole end_is)
          | inr apart ↦
              let below : i < at = omega (arith, less, apart) in
              let old : slice_index_or t.end_of i e ≡ Stopped fault = sym (kept i e below) ∙ stopped in
              elim (cases_eq (i % workers) slot) [
                | inl same ↦
                    subst (All IsUnread) (sym (ap (λ k. slice_index_or (set files slot front) k d) same ∙ now))
                    (all-front IsUnread front file (behind i e fault below same old))
                | inr other ↦
                    subst (All IsUnread) (sym (get_or-set_other files slot (i % workers) front d other)) (t.ahead i e fault d below old)
              ]
        ]

    pub in-turn-more : InTurn (at + 1) (sources ++ file.source ∷ []) (set files slot front)
    in-turn-more =
        record {
          end_of = more;
          count = length-append t.end_of (file.end ∷ []) ∙ ap (λ n. n + 1) t.count;
          ends = λ k d e less.
              index-push (λ j y. EndsSo size src (slice_index_or was j d) y (slice_index_or more j e)) sources file.source d at count
              (λ j below. subst (EndsSo size src (slice_index_or was j d) (slice_index_or sources j d)) (sym (kept j e below)) (t.ends j d e below))
              (subst (EndsSo size src (slice_index_or was at d) file.source) (sym (last e))
              (subst (λ x. EndsSo size src x file.source file.end) (sym (is_old d)) ended)) k less;
          stops = stops-more;
          ahead = ahead-more;
          rest = λ k d less.
              set-each (λ _ fs. StopsAtAFault fs) files slot front d within
              (stops-front front file (subst StopsAtAFault is (t.rest slot default within)))
              (λ j low apart. t.rest j d low) k (omega (arith, less, length-set files slot front));
        }

  -- once all are gathered
  pub in-turn-last : (at : ℕ) (sources : List S) (files : List (List (OwnFile S))) → at ≡ length was → InTurn at sources files
      → StopsAtFaults workers size src was sources
  in-turn-last at sources files all t =
      record {
        end_of = t.end_of;
        count = t.count ∙ all;
        ends = λ k d e less. t.ends k d e (omega (arith, less, all));
        stops = λ i j e fault before less same is. t.stops i j e fault before (omega (arith, less, all)) same is;
      }
