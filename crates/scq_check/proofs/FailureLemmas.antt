-- The failures of an aspect, event by event
use Rattle.std.proofs.Common.{◌≡◌, ℕ, ◌+◌, ◌<◌, ◌≤◌, ◌↔◌, Bool, true, false, IsTrue, inl, inr, Option, Some, None, IfSome, List, length, refl, sym, subst, arith, below_more}
use Rattle.std.specs.Option.{option_or}
use Rattle.scq_hist.specs.Exports.{IsFirstFailing, IsCount}
use Rattle.std.proofs.lemmas.Bool.{cases_lt, cases_eq, iff_false}
use Rattle.scq_hist.proofs.Counting.{count_none, count_more, count_same}
use Rattle.scq_check.specs.Exports.{AreFailures, AreFailuresBefore, AreFoundOf, IsFirstBefore, failures_with}
use Rattle.scq_hist.specs.declared.events.Event.{Event}
use Rattle.scq_check.specs.declared.failures.Failures.{Failures}

-- before any event
pub failures_none : (Holds : ℕ → Type 0) (f : Failures) → f.first ≡ None → f.count ≡ 0 → AreFailuresBefore Holds 0 f
failures_none Holds f first count = record {
  first = subst (IsFirstBefore Holds 0) (sym first) (λ e lt. absurd (omega arith));
  few = omega arith;
  count = subst (λ n. IsCount (λ e. (e < 0) × (¬ Holds e)) n) (sym count) (count_none (λ e. (e < 0) × (¬ Holds e)) (λ e h. let lt = h.0 in absurd (omega arith)));
}

first_more : (Holds : ℕ → Type 0) (m : ℕ) (first : Option ℕ) → Holds m → IsFirstBefore Holds m first → IsFirstBefore Holds (m + 1) first
first_more Holds m None here is = below_more Holds m is here
first_more Holds m (Some e) here is = ((let lt = is.0 in omega arith), is.1, is.2)

first_break : (Holds : ℕ → Type 0) (m : ℕ) (first : Option ℕ) → (¬ Holds m) → IsFirstBefore Holds m first → IsFirstBefore Holds (m + 1) (option_or first (Some m))
first_break Holds m None here is = (omega arith, here, is)
first_break Holds m (Some e) here is = ((let lt = is.0 in omega arith), is.1, is.2)

-- after one more event
pub failures_more : (Holds : ℕ → Type 0) (m : ℕ) (f : Failures) (holds : Bool) → (IsTrue holds ↔ Holds m) → AreFailuresBefore Holds m f
    → AreFailuresBefore Holds (m + 1) (failures_with f m holds)
failures_more Holds m f true iff is =
    let here = iff.0 refl in
    record {
      first = first_more Holds m f.first here is.first;
      few = (let few = is.few in omega arith);
      count = count_same (λ e. (e < m) × (¬ Holds e)) (λ e. (e < m + 1) × (¬ Holds e)) f.count is.count
          (λ e h. let lt = h.0 in (omega arith, h.1))
          (λ e h. elim (cases_eq m e) [ inl same ↦ absurd (h.1 (subst Holds same here)) | inr ne ↦ (let lt = h.0 in (omega arith, h.1)) ]);
    }
failures_more Holds m f false iff is =
    let here = iff_false iff refl in
    record {
      first = first_break Holds m f.first here is.first;
      few = (let few = is.few in omega arith);
      count = count_more (λ e. (e < m) × (¬ Holds e)) (λ e. (e < m + 1) × (¬ Holds e)) m f.count is.count
          (λ h. let lt = h.0 in absurd (omega arith)) (omega arith, here)
          (λ e h. let lt = h.0 in (omega arith, h.1))
          (λ e h. elim (cases_eq m e) [ inl same ↦ inl same | inr ne ↦ (let lt = h.0 in inr (omega arith, h.1)) ]);
    }

-- past the end the aspect holds of every event
first_all : (Holds : ℕ → Type 0) (m i : ℕ) (first : Option ℕ) → m ≤ i → IsFirstBefore Holds i first → ((e : ℕ) → m ≤ e → Holds e) → IsFirstFailing Holds first
first_all Holds m i None reached is past = λ e. elim (cases_lt e i) [ inl lt ↦ is e lt | inr ge ↦ past e (omega arith) ]
first_all Holds m i (Some e) reached is past = (is.1, is.2)

pub failures_all : (Holds : ℕ → Type 0) (m i : ℕ) (f : Failures) → m ≤ i → AreFailuresBefore Holds i f → ((e : ℕ) → m ≤ e → Holds e) → AreFailures Holds f
failures_all Holds m i f reached is past = record {
  first = first_all Holds m i f.first reached is.first past;
  count = count_same (λ e. (e < i) × (¬ Holds e)) (λ e. ¬ Holds e) f.count is.count
      (λ e h. h.1)
      (λ e h. elim (cases_lt e i) [ inl lt ↦ (lt, h) | inr ge ↦ absurd (h (past e (omega arith))) ]);
}

-- and the first that breaks it is one of the list
first_within : (Holds : ℕ → Type 0) (i n : ℕ) (first : Option ℕ) → i ≤ n → IsFirstBefore Holds i first → IfSome first (λ e. e < n)
first_within Holds i n None le is = tt
first_within Holds i n (Some e) le is = let lt = is.0 in omega arith

pub found_all : (Holds : ℕ → Type 0) (events : List Event) (i : ℕ) (f : Failures) → length events ≤ i → i ≤ length events → AreFailuresBefore Holds i f
    → ((e : ℕ) → length events ≤ e → Holds e) → AreFoundOf Holds events f
found_all Holds events i f reached end is past = record {
  failures = failures_all Holds (length events) i f reached is past;
  within = first_within Holds i (length events) f.first end is.first;
}
