-- What is gathered of files in their order, one file after the other.
use Rattle.std.proofs.Common.{◌≡◌, ◌≢◌, ◌∙◌, ◌⊎◌, refl, sym, ap, subst, inl, inr, arith, ℕ, ◌+◌, ◌-◌, ◌<◌, ◌≤◌, List, [], ◌∷◌, ◌++◌, length, get_or, Option, Some, None, Bool, false}
use Rattle.std.specs.Prelude.{slice_index_or, ◌||◌}
use Rattle.std.specs.Option.{option_or}
use Rattle.std.proofs.lemmas.Bool.{cases_eq, or_parts}
use Rattle.std.proofs.lemmas.List.{length-append, get_or_append_left, get_or_push}
use Rattle.scq_outside.specs.Exports.{Rose}
use Rattle.scq_frames.specs.declared.fault.FrameFault.{FrameFault}
use Rattle.scq_frames.specs.declared.fault.FrameFault.TheVariants.{ReadFault, TooLong, TooLarge, NoMemory}
use Rattle.scq_frames.proofs.FindingLemmas.{nothing_moved}
use Rattle.scq_files.specs.Exports.{EndsSo, IsWhole, IsStopped, SourceOf, EndsFed, HasMoved, ReadingStopsAt, end_fault, wanted_memory}
use Rattle.scq_files.specs.declared.own_file.FileEnd.{FileEnd}
use Rattle.scq_files.specs.declared.own_file.FileEnd.TheVariants.{Unread, Whole, Stopped}

-- two lists that end in an element each
pub snoc-parts : {A : Type 0} (xs ys : List A) (a b : A) → xs ++ a ∷ [] ≡ ys ++ b ∷ [] → (xs ≡ ys) × (a ≡ b)
snoc-parts [] [] a b e = (refl, cc)
snoc-parts [] (y ∷ ys) a b e = let n = ap length e in absurd (omega (arith, length-append ys (b ∷ [])))
snoc-parts (x ∷ xs) [] a b e = let n = ap length e in absurd (omega (arith, length-append xs (a ∷ [])))
snoc-parts (x ∷ xs) (y ∷ ys) a b e =
    let tails : xs ++ a ∷ [] ≡ ys ++ b ∷ [] = cc in
    let head : x ≡ y = cc in
    let parts = snoc-parts xs ys a b tails in
    (ap (λ (z : _). z ∷ xs) head ∙ ap (λ zs. y ∷ zs) parts.0, parts.1)

-- a source gave what was said of it
moved-by : {S : Type 0} (size : ℕ) (src : SourceOf S) (old new : S) (end : FileEnd) → EndsSo size src old new end → HasMoved src old new
moved-by size src old new Unread same = record
    { bytes = []; moved = ap src.left (sym same) ∙ nothing_moved (src.left new); counted = inl (ap src.faults same) }
moved-by size src old new Whole whole = record { bytes = whole.judged.bytes; moved = whole.judged.moved; counted = inl whole.kept }
moved-by size src old new (Stopped fault) stopped =
    record { bytes = stopped.judged.bytes; moved = stopped.judged.moved; counted = counted fault stopped } where
      counted : (f : FrameFault) → IsStopped size src old new f → (src.faults new ≡ src.faults old) ⊎ Rose (src.faults old) (src.faults new)
      counted ReadFault s = inr (s.rose refl)
      counted (TooLong line len) s = inl (s.kept (λ e. absurd (cc)))
      counted (TooLarge bytes) s = inl (s.kept (λ e. absurd (cc)))
      counted NoMemory s = inl (s.kept (λ e. absurd (cc)))

-- what is gathered of the first files, so many of those with these sources
pub record SoFar {S : Type 0} (size : ℕ) (src : SourceOf S) (was : List S) (at : ℕ) (sources : List S)
    (fault : Option (ℕ × FrameFault)) (starved : Bool) : Type 0 where
  pub count : length sources ≡ at
  pub moved : (k : ℕ) (d : S) → k < at → HasMoved src (slice_index_or was k d) (slice_index_or sources k d)
  pub sound : fault ≡ None → (k : ℕ) (d : S) → k < at → IsWhole size src (slice_index_or was k d) (slice_index_or sources k d)
  pub cause : (file : ℕ) (f : FrameFault) → fault ≡ Some (file, f) → f ≢ NoMemory → (file ≤ at) × ReadingStopsAt size src was sources file f
  pub fed : starved ≡ false → (k : ℕ) (d : S) → k < at → EndsFed size src (slice_index_or was k d) (slice_index_or sources k d)

-- what holds of the elements so far and of one more
pub index-push : {S : Type 0} (P : ℕ → S → Type 0) (xs : List S) (x d : S) (at : ℕ) → length xs ≡ at → ((k : ℕ) → k < at → P k (slice_index_or xs k d)) → P at x
    → (k : ℕ) → k < at + 1 → P k (slice_index_or (xs ++ x ∷ []) k d)
index-push P xs x d at long each here k less = elim (cases_eq k at) [
  | inl same ↦ subst (λ j. P j (get_or (xs ++ x ∷ []) j d)) (sym same) (subst (P at) (sym (get_or_push xs x d at long)) here)
  | inr apart ↦
      let below : k < at = omega arith in
      subst (P k) (sym (get_or_append_left xs (x ∷ []) d k (omega arith))) (each k below)
]

-- one file more
pub so-far-more : {S : Type 0} (size : ℕ) (src : SourceOf S) (was : List S) (at : ℕ) (sources : List S)
    (fault : Option (ℕ × FrameFault)) (starved : Bool) (old new : S) (number : ℕ) (end : FileEnd)
    → SoFar size src was at sources fault starved → at < length was → number ≡ at + 1 → ((d : S) → slice_index_or was at d ≡ old)
    → EndsSo size src old new end → SoFar size src was (at + 1) (sources ++ new ∷ []) (option_or fault (end_fault number end)) (starved || wanted_memory end)
so-far-more {S} size src was at sources fault starved old new number end s within is_next is_old ends = record {
  count = length-append sources (new ∷ []) ∙ ap (λ n. n + 1) s.count;
  moved = λ k d less. index-push (λ j y. HasMoved src (slice_index_or was j d) y) sources new d at s.count (λ j below. s.moved j d below)
      (subst (λ x. HasMoved src x new) (sym (is_old d)) (moved-by size src old new end ends)) k less;
  sound = sound fault end ends s.sound;
  cause = cause fault end ends s.sound s.cause;
  fed = λ none. let parts = or_parts starved (wanted_memory end) none in λ k d less.
      index-push (λ j y. EndsFed size src (slice_index_or was j d) y) sources new d at s.count (λ j below. s.fed parts.0 j d below)
      (subst (λ x. EndsFed size src x new) (sym (is_old d)) (record { end = end; ends = ends; fed = parts.1 })) k less;
} where
  Sound : Type 0
  Sound = (k : ℕ) (d : S) → k < at → IsWhole size src (slice_index_or was k d) (slice_index_or sources k d)

  sound : (fault : Option (ℕ × FrameFault)) (end : FileEnd) → EndsSo size src old new end → (fault ≡ None → Sound)
      → option_or fault (end_fault number end) ≡ None → (k : ℕ) (d : S) → k < at + 1
      → IsWhole size src (slice_index_or was k d) (slice_index_or (sources ++ new ∷ []) k d)
  sound (Some f) end ends so none k d less = absurd (cc)
  sound None Unread ends so none k d less = absurd (cc)
  sound None (Stopped f) ends so none k d less = absurd (cc)
  sound None Whole ends so none k d less =
      index-push (λ j y. IsWhole size src (slice_index_or was j d) y) sources new d at s.count (λ j below. so refl j d below)
      (subst (λ x. IsWhole size src x new) (sym (is_old d)) ends) k less

  cause : (fault : Option (ℕ × FrameFault)) (end : FileEnd) → EndsSo size src old new end → (fault ≡ None → Sound)
      → ((file : ℕ) (f : FrameFault) → fault ≡ Some (file, f) → f ≢ NoMemory → (file ≤ at) × ReadingStopsAt size src was sources file f)
      → (file : ℕ) (f : FrameFault) → option_or fault (end_fault number end) ≡ Some (file, f) → f ≢ NoMemory
      → (file ≤ at + 1) × ReadingStopsAt size src was (sources ++ new ∷ []) file f
  cause (Some x) end ends so was_cause file f is other =
      let c = was_cause file f is other in
      let stops = c.1 in (
        omega (arith, c.0),
        record {
          first = stops.first;
          last = stops.last;
          before = λ k d less. subst (IsWhole size src (slice_index_or was k d))
              (sym (get_or_append_left sources (new ∷ []) d k (omega (arith, less, c.0, s.count)))) (stops.before k d less);
          cause = λ d. subst (λ y. IsStopped size src (slice_index_or was (file - 1) d) y f)
              (sym (get_or_append_left sources (new ∷ []) d (file - 1) (omega (arith, stops.first, c.0, s.count)))) (stops.cause d);
        },
      )
  cause None Unread ends so was_cause file f is other = let pair : (number, NoMemory) ≡ (file, f) = cc in
      absurd (other (sym (ap (λ (p : ℕ × FrameFault). p.1) pair)))
  cause None Whole ends so was_cause file f is other = absurd (cc)
  cause None (Stopped g) ends so was_cause file f is other =
      let pair : (number, g) ≡ (file, f) = cc in
      let number_is : number ≡ file = ap (λ (p : ℕ × FrameFault). p.0) pair in
      let fault_is : g ≡ f = ap (λ (p : ℕ × FrameFault). p.1) pair in
      let here : file - 1 ≡ at = omega (arith, number_is, is_next) in (
        omega (arith, number_is, is_next),
        record {
          first = omega (arith, number_is, is_next);
          last = omega (arith, number_is, is_next, within);
          before = λ k d less. subst (IsWhole size src (slice_index_or was k d))
              (sym (get_or_append_left sources (new ∷ []) d k (omega (arith, less, number_is, is_next, s.count))))
              (so refl k d (omega (arith, less, number_is, is_next)));
          cause = λ d. subst (λ j. IsStopped size src (slice_index_or was j d) (slice_index_or (sources ++ new ∷ []) j d) f) (sym here)
              (subst (λ y. IsStopped size src (slice_index_or was at d) y f) (sym (get_or_push sources new d at s.count))
              (subst (λ x. IsStopped size src x new f) (sym (is_old d)) (subst (IsStopped size src old new) fault_is ends)));
        },
      )
