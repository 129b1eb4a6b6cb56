-- Events whose stamps rise
use Rattle.std.proofs.Common.{◌≡◌, ℕ, ◌+◌, ◌-◌, ◌<◌, ◌≤◌, ◌↔◌, IsTrue, ltb, inl, inr, List, length, get_or, sym, subst, arith}
use Rattle.std.proofs.lemmas.List.{get_or_default}
use Rattle.std.proofs.lemmas.Bool.{cases_eq, cases_lt, lt-ltb, ltb-true}
use Rattle.std.specs.List.Sorted.{IsNonDecreasingBy}
use Rattle.scq_judge.specs.Exports.{RiseBelow, HasEqual, StampIsAbove, IsPlaceAt}
use Rattle.scq_judge.specs.declared.recorded.Place.{Place}
use Rattle.scq_judge.specs.declared.recorded.Stamped.{Stamped}

pub rise_one : (merged : List Stamped) → RiseBelow merged 1
rise_one merged = record { rises = λ i d lt. absurd (omega arith) }

-- one event more, whose stamp is above that of the one before it
pub rise_more : (merged : List Stamped) (i : ℕ) → 1 ≤ i
    → ((d : Stamped) → (get_or merged (i - 1) d).stamp < (get_or merged i d).stamp) → RiseBelow merged i → RiseBelow merged (i + 1)
rise_more merged i one here is = record {
  rises = λ k d lt. elim (cases_eq (k + 1) i) [
    | inl same ↦ (let before : i - 1 ≡ k = omega arith in
        subst (λ z. (get_or merged k d).stamp < (get_or merged z d).stamp) (sym same)
        (subst (λ z. (get_or merged z d).stamp < (get_or merged i d).stamp) before (here d)))
    | inr ne ↦ is.rises k d (omega arith)
  ];
}

pub rise_all : (merged : List Stamped) (i : ℕ) → length merged ≤ i → RiseBelow merged i → RiseBelow merged (length merged)
rise_all merged i reached is = record { rises = λ k d lt. is.rises k d (omega arith) }

-- the stamps at two positions, as they are read
pub above_iff : (merged : List Stamped) (i : ℕ) (a b : Stamped) → 1 ≤ i → i < length merged
    → IsTrue (ltb (get_or merged (i - 1) a).stamp (get_or merged i b).stamp) ↔ StampIsAbove merged i
above_iff merged i a b one within = (
  λ t d. rw (get_or_default merged (i - 1) d a (omega arith), get_or_default merged i d b within) (ltb-true _ _ t),
  λ above. lt-ltb _ _ (rw (get_or_default merged i a b within) at (above a)),
)

-- the stamp isn't above that of the one before it, and none falls
not_above : (merged : List Stamped) (i : ℕ) (d : Stamped) → 1 ≤ i → i < length merged → ¬ StampIsAbove merged i
    → (get_or merged i d).stamp ≤ (get_or merged (i - 1) d).stamp
not_above merged i d one within low = elim (cases_lt (get_or merged (i - 1) d).stamp (get_or merged i d).stamp) [
  | inl lt ↦ absurd (low (λ e. rw (get_or_default merged (i - 1) e d (omega arith), get_or_default merged i e d within) lt))
  | inr ge ↦ ge
]

pub equal_there : (merged : List Stamped) (i : ℕ) (place other : Place) → 1 ≤ i → i < length merged
    → ¬ StampIsAbove merged i → IsPlaceAt merged i place → IsPlaceAt merged (i - 1) other
    → IsNonDecreasingBy (λ s. s.stamp) merged → HasEqual merged place other
equal_there merged i place other one within low stands before sorted = record {
  i = i - 1;
  within = omega arith;
  equal = λ d. (let up = sorted (i - 1) i d (omega arith) within in let down = not_above merged i d one within low in
      let back : i - 1 + 1 ≡ i = omega arith in
      subst (λ z. (get_or merged (i - 1) d).stamp ≡ (get_or merged z d).stamp) (sym back) (omega arith));
  stands = λ d. (let back : i - 1 + 1 ≡ i = omega arith in subst (λ z. (get_or merged z d).place ≡ place) (sym back) (stands d));
  before = before;
}
