-- What a command answers, as the answer of the program that knows it.
use Rattle.std.proofs.Common.{◌≡◌, ℕ, ◌-◌, ◌≤◌, Bool, false, List, [], ◌∷◌, length, map, take, drop, get_or, Option, Some, None, Result, Ok, Err, ◌∙◌, sym, ap, subst, arith}
use Rattle.std.proofs.lemmas.List.{take_all}
use Rattle.std.proofs.lemmas.Result.{IfOk-weaker}
use Rattle.std.specs.Prelude.{◌≢◌, IfOk, IsErrOf, MatchResult}
use Rattle.std.specs.Option.{option_or}
use Rattle.std.specs.Result.{IsErrAnd, IsOkAnd}
use Rattle.clap.specs.Words.{App, takes}
use Rattle.scq_words.specs.Exports.{answered_by, asked_by, first_of_tests, refused_by_clap, Answered, IsInRange, Parses}
use Rattle.scq_words.proofs.Answering.{answer-err, answer-ok, clap-refused, handed-on, refused-some, tests-answer}
use Rattle.scq_words.specs.Asked.{Asked}
use Rattle.scq_words.specs.declared.fault.WordsFault.{WordsFault}
use Rattle.scq_words.specs.declared.fault.WordsFault.TheVariants.{NotUnderstood}
use Rattle.scq_words.specs.declared.fault.WordsError.{WordsError}
use Rattle.scq_words.specs.declared.fault.WordsError.TheVariants.{Refused}
use Rattle.scq_words.specs.declared.request.Request.{Request}

-- where `clap` refuses the words
pub unparsed : {T : Type 0} (app : App) (words : List (List ℕ)) (rest : Option WordsFault) (what : Asked) (asks : T → Asked) (error : WordsError)
    (result : Result T WordsError) → Parses app words (Err error) → IsErrAnd result (λ passed. passed ≡ error)
    → Answered asks (answered_by (option_or (refused_by_clap app words) rest) what) (takes app words) result
unparsed app words rest what asks error (Ok request) its passed = absurd passed
unparsed app words rest what asks error (Err e) its passed = record {
  request = tt;
  refused = λ fault is. clap-refused app words (Err e) error fault rest what its.refused passed is;
  taken = λ is. (its.refused (refused-some error NotUnderstood (handed-on (Err e) error (Refused NotUnderstood) passed is))).2;
  ranges = tt;
}

-- the same where less is taken
pub less-taken : {T : Type 0} (asks : T → Asked) (said : Result Asked WordsFault) (takes less : Bool) (result : Result T WordsError) → (takes ≡ false → less ≡ false)
    → Answered asks said takes result → Answered asks said less result
less-taken asks said takes less result fewer its =
    record { request = its.request; refused = its.refused; taken = λ e. fewer (its.taken e); ranges = its.ranges }

-- where it takes them, and the tests of their texts decide, which may refuse them too
pub tested-too : {R T A : Type 0} (app : App) (words : List (List ℕ)) (taken : Bool) (tests : T → List (Option WordsFault)) (make : A → Asked) (of : T → A)
    (asks : R → A) (t read : T) (result : Result R WordsError) → refused_by_clap app words ≡ None → t ≡ read
    → IfOk result (λ request. (first_of_tests (tests t) ≡ None) × (of t ≡ asks request))
    → ((fault : WordsFault) → IsErrOf result (Refused fault) → first_of_tests (tests t) ≡ Some fault)
    → (first_of_tests (tests read) ≡ Some NotUnderstood → taken ≡ false)
    → IfOk result (λ request. IsInRange (make (asks request)))
    → Answered (λ request. make (asks request)) (answered_by (first_of_tests (refused_by_clap app words ∷ tests read)) (make (of read))) taken result
tested-too app words taken tests make of asks t read result passes is request refused known ranges = record {
  request = IfOk-weaker result _ _
      (λ request h. tests-answer app words tests (λ t. make (of t)) t read (Ok (make (asks request))) passes is (answer-ok _ _ _ h.0 (ap make h.1))) request;
  refused = λ fault e. tests-answer app words tests (λ t. make (of t)) t read (Err fault) passes is (answer-err _ _ fault (refused fault e));
  taken = λ e. known (subst (λ z. first_of_tests (tests z) ≡ Some NotUnderstood) is (refused NotUnderstood e));
  ranges = ranges;
}

-- where they never say that the words aren't understood
pub tested : {R T A : Type 0} (app : App) (words : List (List ℕ)) (tests : T → List (Option WordsFault)) (make : A → Asked) (of : T → A) (asks : R → A)
    (t read : T) (result : Result R WordsError) → refused_by_clap app words ≡ None → t ≡ read
    → IfOk result (λ request. (first_of_tests (tests t) ≡ None) × (of t ≡ asks request))
    → ((fault : WordsFault) → IsErrOf result (Refused fault) → first_of_tests (tests t) ≡ Some fault)
    → ((t : T) → first_of_tests (tests t) ≢ Some NotUnderstood)
    → IfOk result (λ request. IsInRange (make (asks request)))
    → Answered (λ request. make (asks request)) (answered_by (first_of_tests (refused_by_clap app words ∷ tests read)) (make (of read))) (takes app words) result
tested app words tests make of asks t read result passes is request refused known ranges =
    tested-too app words (takes app words) tests make of asks t read result passes is request refused (λ e. absurd (known read e)) ranges

-- the request of a command as one of the program
pub answered : {T : Type 0} (make : T → Request) (said : Result Asked WordsFault) (takes : Bool) (own : Result T WordsError) (result : Result Request WordsError)
    → MatchResult own (λ request. IsOkAnd result (λ made. made ≡ make request)) (λ error. result ≡ Err error)
    → Answered (λ request. asked_by (make request)) said takes own → Answered asked_by said takes result
answered make said takes (Ok request) (Ok made) is its =
    subst (λ (made : Request). Answered asked_by said takes (Ok made)) (sym is)
    (record { request = its.request; refused = λ fault e. cc; taken = λ e. cc; ranges = its.ranges })
answered make said takes (Ok request) (Err error) is its = absurd is
answered make said takes (Err error) result is its =
    subst (λ (result : Result Request WordsError). Answered asked_by said takes result) (sym is)
    (record {
      request = tt;
      refused = λ fault e. its.refused fault (let same : error ≡ Refused fault = cc in ap Err same);
      taken = λ e. its.taken (let same : error ≡ Refused NotUnderstood = cc in ap Err same);
      ranges = tt;
    })

-- the words where the first is this one
first-word : {A : Type 0} (text : A → List ℕ) (words : List A) (first : A) (word : List ℕ) → 1 ≤ length words → first ≡ get_or words 0 first
    → word ≡ text first → map text words ≡ word ∷ map text (take (length words - 1) (drop 1 words))
first-word {A} text [] first word some is same = absurd (omega arith)
first-word {A} text (x ∷ xs) first word some is same =
    ap (λ (w : List ℕ). w ∷ map text xs) (sym (same ∙ ap text is))
    ∙ ap (λ (rest : List A). word ∷ map text rest) (sym (take_all (length (x ∷ xs) - 1) xs (omega arith)))

-- an answer to the words behind the first as one to all of them
pub answered-first : {A T : Type 0} (text : A → List ℕ) (asks : T → Asked) (all : List (List ℕ) → Result Asked WordsFault) (takes : List (List ℕ) → Bool)
    (words : List A) (first : A) (read word : List ℕ) (result : Result T WordsError) → 1 ≤ length words → first ≡ get_or words 0 first → read ≡ text first → read ≡ word
    → Answered asks (all (word ∷ map text (take (length words - 1) (drop 1 words)))) (takes (word ∷ map text (take (length words - 1) (drop 1 words)))) result
    → Answered asks (all (map text words)) (takes (map text words)) result
answered-first text asks all takes words first read word result some is same named =
    subst (λ (words : List (List ℕ)). Answered asks (all words) (takes words) result) (sym (first-word text words first word some is (sym named ∙ same)))
