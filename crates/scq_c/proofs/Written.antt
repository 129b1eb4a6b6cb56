-- Counts that are written out one after the other.
use Rattle.std.proofs.Common.{◌≡◌, ◌≢◌, ℕ, zero, suc, ◌+◌, ◌<◌, ◌≤◌, List, [], ◌∷◌, length, refl, sym, ◌∙◌, ap, subst, inl, inr, arith, length-set}
use Rattle.std.specs.Prelude.{◌⊎◌, Some, None, slice_get, slice_set, slice_index_or}
use Rattle.std.proofs.lemmas.Bool.{cases_eq}
use Rattle.scq_queue.specs.declared.counts.Counts.{Counts}
use Rattle.scq_port.proofs.Lists.{set_here, set_other}
use Rattle.scq_c.specs.declared.tally.Tally.{Tally}
use Rattle.scq_c.specs.Exports.{AreWritten, tally_of}

-- the counts below a number are written, and nothing behind them
pub record AreWrittenBelow (k : ℕ) (counts : List Counts) (before after : List Tally) : Type 0 where
  pub whole : length after ≡ length before
  pub written : (j : ℕ) (c : Counts) (t : Tally) → j < k → slice_get counts j ≡ Some c → slice_get after j ≡ Some t → t ≡ tally_of c
  pub rest : (j : ℕ) → k ≤ j → slice_get after j ≡ slice_get before j

pub written_none : (counts : List Counts) (before : List Tally) → AreWrittenBelow 0 counts before before
written_none counts before =
    record { whole = refl; written = λ j c t low. absurd (omega (arith, low)); rest = λ j low. refl }

there : {A : Type 0} (xs : List A) (k : ℕ) (d : A) → k < length xs → slice_get xs k ≡ Some (slice_index_or xs k d)
there [] k d low = absurd (omega (arith, low))
there (x ∷ xs) zero d low = refl
there (x ∷ xs) (suc k) d low = there xs k d (omega (arith, low))

some_there : {A : Type 0} (xs : List A) (k : ℕ) → k < length xs → (x : A) × (slice_get xs k ≡ Some x)
some_there [] k low = absurd (omega (arith, low))
some_there (x ∷ xs) zero low = (x, refl)
some_there (x ∷ xs) (suc k) low = some_there xs k (omega (arith, low))

-- those of one number more are written
pub written_next : (k : ℕ) (counts : List Counts) (before now : List Tally) (d : Counts) (new : Tally) → AreWrittenBelow k counts before now
    → k < length counts → k < length now → new ≡ tally_of (slice_index_or counts k d) → AreWrittenBelow (k + 1) counts before (slice_set now k new)
written_next k counts before now d new was low room is =
    record {
      whole = length-set now k new ∙ was.whole;
      written = λ j c u less at to. by j c u less at to (cases_eq j k);
      rest = λ j far. set_other now k j new (let past = far in omega (arith, past)) ∙ was.rest j (omega (arith, far));
    }
  where
    by : (j : ℕ) (c : Counts) (u : Tally) → j < k + 1 → slice_get counts j ≡ Some c → slice_get (slice_set now k new) j ≡ Some u
        → (j ≡ k) ⊎ (j ≢ k) → u ≡ tally_of c
    by j c u less at to (inl same) =
        let old = some_there now k room in
        let one : Some (slice_index_or counts k d) ≡ Some c =
        sym (there counts k d low) ∙ subst (λ (i : ℕ). slice_get counts i ≡ Some c) same at in
        let two : Some new ≡ Some u =
        sym (set_here now k old.0 new old.1) ∙ subst (λ (i : ℕ). slice_get (slice_set now k new) i ≡ Some u) same to in
        let same_counts : slice_index_or counts k d ≡ c = cc in
        let same_tally : new ≡ u = cc in
        sym same_tally ∙ is ∙ ap tally_of same_counts
    by j c u less at to (inr other) = was.written j c u (omega (arith, less, other)) at (sym (set_other now k j new other) ∙ to)

-- what is there lies below the length, and nothing is there at or past it
below : {A : Type 0} (xs : List A) (j : ℕ) (x : A) → slice_get xs j ≡ Some x → j < length xs
below [] j x at = absurd (cc)
below (y ∷ ys) zero x at = omega arith
below (y ∷ ys) (suc j) x at = let low = below ys j x at in omega (arith, low)

past : {A : Type 0} (xs : List A) (j : ℕ) → slice_get xs j ≡ None → length xs ≤ j
past [] j none = omega arith
past (y ∷ ys) zero none = absurd (cc)
past (y ∷ ys) (suc j) none = let low = past ys j none in omega (arith, low)

pub written_all : (k : ℕ) (counts : List Counts) (before after : List Tally) → AreWrittenBelow k counts before after → k ≤ length counts
    → (length counts ≤ k) ⊎ (length after ≤ k) → AreWritten counts before after
written_all k counts before after was low done =
    record {
      whole = was.whole;
      written = λ j c t at to. was.written j c t (within j c t at to done) at to;
      rest = λ j none. let far = past counts j none in was.rest j (omega (arith, far, low));
    }
  where
    within : (j : ℕ) (c : Counts) (t : Tally) → slice_get counts j ≡ Some c → slice_get after j ≡ Some t
        → (length counts ≤ k) ⊎ (length after ≤ k) → j < k
    within j c t at to (inl all) = let in_counts = below counts j c at in omega (arith, in_counts, all)
    within j c t at to (inr full) = let in_after = below after j t to in omega (arith, in_after, full)
