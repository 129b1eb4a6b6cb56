-- The tests of the arguments of `run`, `stages` and `self` never answer that the words aren't understood, and those of `judge` where
-- an order is asked for together with what is asked of a report.
use Rattle.std.proofs.Common.{◌≡◌, ◌≢◌, ◌<◌, ◌⊎◌, refl, sym, subst, map, inl, inr, arith, true, false, ℕ, ◌+◌, ◌≤◌, Bool, List, [], ◌∷◌, length, Option, Some, None}
use Rattle.std.specs.Prelude.{◌==◌, ◌&&◌, nat_lt, nat_le, option_map, if◌then◌else◌}
use Rattle.std.specs.List.{All, position}
use Rattle.std.proofs.lemmas.List.Elements.{All-map}
use Rattle.std.specs.Option.{option_or}
use Rattle.scq_word.specs.Exports.{most_run_order}
use Rattle.scq_topics.specs.Exports.{entries_of, first_fault}
use Rattle.scq_words.specs.Exports.{JudgeTexts, RunTexts, SelfTexts, StagesTexts, first_of_tests, judge_tests, is_beside, files_tests, refused_if, refused_names}
use Rattle.scq_words.specs.Exports.{refused_topics, run_tests, self_tests, stages_tests, fault_outside, number_in, refused_outside}
use Rattle.scq_words.specs.declared.fault.WordsFault.{WordsFault}
use Rattle.scq_words.specs.declared.fault.WordsFault.TheVariants.{NotUnderstood, Workers, Order, Size, Topics, TooManyFiles, TooManyRecordings, NoName, Room, Seed, Lines}

-- a test that doesn't answer that the words aren't understood
abbrev IsOther : Option WordsFault → Type 0
IsOther test = test ≢ Some NotUnderstood

or-other : (test rest : Option WordsFault) → IsOther test → IsOther rest → IsOther (option_or test rest)
or-other None rest a b = b
or-other (Some fault) rest a b = a

if-other : (b : Bool) (fault : WordsFault) → fault ≢ NotUnderstood → IsOther (refused_if b fault)
if-other true fault other = λ e. other (cc)
if-other false fault other = λ e. cc

outside-other : (low high : ℕ) (fault : WordsFault) (text : Option (List ℕ)) → fault ≢ NotUnderstood → IsOther (refused_outside low high fault text)
outside-other low high fault None other = λ e. cc
outside-other low high fault (Some text) other = at (number_in text) where
  at : (o : Option ℕ) → IsOther (fault_outside low high fault o)
  at None = λ e. other (cc)
  at (Some n) = within (nat_le low n && nat_le n high) where
    within : (b : Bool) → IsOther (if b then None else Some fault)
    within true = λ e. cc
    within false = λ e. other (cc)

map-other : {A : Type 0} (f : A → WordsFault) (o : Option A) → ((a : A) → f a ≢ NotUnderstood) → IsOther (option_map f o)
map-other f None other = λ e. cc
map-other f (Some a) other = λ e. other a (cc)

topics-other : (text : Option (List ℕ)) → IsOther (refused_topics text)
topics-other None = λ e. cc
topics-other (Some text) = map-other Topics (first_fault [] (entries_of text)) (λ a e. cc)

-- the tests of files, with which those of `run`, `stages` and `judge` end
files-other : (most : ℕ) (many : WordsFault) (files : List (List ℕ)) → many ≢ NotUnderstood
    → first_of_tests (refused_if (nat_lt most (length files)) many ∷ refused_names files ∷ []) ≢ Some NotUnderstood
files-other most many files other =
    or-other _ _ (if-other (nat_lt most (length files)) many other)
    (or-other _ None (map-other (λ at. NoName (at + 1)) (position (λ name. length name == 0) files) (λ a e. cc)) (λ e. cc))

pub judge-beside : (t : JudgeTexts) → first_of_tests (judge_tests t) ≡ Some NotUnderstood → is_beside t.room t.strict t.order ≡ true
judge-beside t = by (is_beside t.room t.strict t.order) where
  by : (b : Bool) → option_or (refused_if b NotUnderstood) (first_of_tests (refused_outside 1 4294967295 Room t.room ∷ files_tests 4096 TooManyRecordings t.files))
      ≡ Some NotUnderstood → b ≡ true
  by true e = refl
  by false e = absurd (or-other _ _ (outside-other 1 4294967295 Room t.room (λ e. cc)) (files-other 4096 TooManyRecordings t.files (λ e. cc)) e)

pub run-other : (t : RunTexts) → first_of_tests (run_tests t) ≢ Some NotUnderstood
run-other t =
    or-other _ _ (outside-other 1 4096 Workers t.workers (λ e. cc))
    (or-other _ _ (outside-other 1 most_run_order Order t.order (λ e. cc))
    (or-other _ _ (outside-other 1 65536 Size t.size (λ e. cc))
    (or-other _ _ (topics-other t.topics) (files-other 64 TooManyFiles t.files (λ e. cc)))))

pub stages-other : (t : StagesTexts) → first_of_tests (stages_tests t) ≢ Some NotUnderstood
stages-other t =
    or-other _ _ (outside-other 1 4096 Workers t.workers (λ e. cc))
    (or-other _ _ (outside-other 1 most_run_order Order t.order (λ e. cc))
    (or-other _ _ (outside-other 1 65536 Size t.size (λ e. cc)) (files-other 64 TooManyFiles t.files (λ e. cc))))

pub self-other : (t : SelfTexts) → first_of_tests (self_tests t) ≢ Some NotUnderstood
self-other t =
    or-other _ _ (outside-other 0 2147483647 Seed t.seed (λ e. cc))
    (or-other _ _ (outside-other 1 1000000 Lines t.lines (λ e. cc)) (or-other _ None (outside-other 1 4096 Workers t.workers (λ e. cc)) (λ e. cc)))

-- a number that is the default or was tested is in its range
pub in-range : (n default low high : ℕ) → (n ≡ default) ⊎ ((low ≤ n) × (n ≤ high)) → low ≤ default → default ≤ high → (low ≤ n) × (n ≤ high)
in-range n default low high (inl is) above below = (omega (arith, is, above), omega (arith, is, below))
in-range n default low high (inr within) above below = within

-- the names that were copied of files that all have one
pub all-named : {A : Type 0} (files : List A) (name : A → List ℕ) (names : List (List ℕ)) → names ≡ map name files
    → All (λ file. 0 < length (name file)) files → All (λ name. 0 < length name) names
all-named files name names same named =
    subst (λ (ns : List (List ℕ)). All (λ name. 0 < length name) ns) (sym same) (All-map (λ name. 0 < length name) name files named)
