-- What is asked, from the matches of `clap` and the tests of the texts.
use Rattle.std.proofs.Common.{◌≡◌, ◌∙◌, refl, sym, ap, ℕ, List, [], ◌∷◌, ◌++◌, length, eqb, true, false, codes, Option, Some, None, Result, Ok, Err}
use Rattle.std.specs.Prelude.{◌≢◌, IsErrOf, unwrap_or, option_map}
use Rattle.std.specs.Result.{IsErrAnd}
use Rattle.std.specs.Option.{option_or}
use Rattle.clap.specs.Words.{App, Row, all_of, first_of, first_value, matched_of, matches_of, raw_values, rows_of, takes}
use Rattle.clap.specs.declared.parser.matches.Found.{Found}
use Rattle.clap.proofs.WalkLemmas.{first_value-rows, raw_values-rows}
use Rattle.scq_words.specs.Exports.{text_app, answered_by, judge_texts, texts_of_judge, asked_of_text, is_given, refused_names, text_command}
use Rattle.scq_words.specs.Exports.{text_file, whole, with_flag, first_of_tests, refused_by_clap, run_texts, self_texts, stages_texts, texts_of_run}
use Rattle.scq_words.specs.Exports.{texts_of_self, texts_of_stages}
use Rattle.scq_words.specs.Asked.{Asked}
use Rattle.scq_words.specs.declared.fault.WordsFault.{WordsFault}
use Rattle.scq_words.specs.declared.fault.WordsFault.TheVariants.{NoName, NotUnderstood}
use Rattle.scq_words.specs.declared.text_request.TextCommand.{TextCommand}
use Rattle.scq_words.specs.declared.fault.WordsError.{WordsError}
use Rattle.scq_words.specs.declared.fault.WordsError.TheVariants.{Refused, NoMemory}

-- a text that was got by its name
text-same : (f : Found) {rows : List Row} (name : List ℕ) {text : Option (List ℕ)} → rows_of f ≡ rows → text ≡ first_value f name
    → text ≡ first_of name rows
text-same f name same got = got ∙ first_value-rows f name ∙ ap (first_of name) same

files-same : (f : Found) {rows : List Row} {files : Option (List (List ℕ))} {names : List (List ℕ)} → rows_of f ≡ rows
    → files ≡ option_map raw_values (matched_of f (codes "files")) → names ≡ unwrap_or files [] → names ≡ unwrap_or (all_of (codes "files") rows) []
files-same f same got is = is ∙ ap (λ o. unwrap_or o []) (got ∙ raw_values-rows f (codes "files") ∙ ap (all_of (codes "files")) same)

pub run-texts : (f : Found) {rows : List Row} {workers order size topics batch report : Option (List ℕ)} {files : Option (List (List ℕ))}
    {names : List (List ℕ)} → rows_of f ≡ rows → workers ≡ first_value f (codes "workers") → order ≡ first_value f (codes "order")
    → size ≡ first_value f (codes "size") → topics ≡ first_value f (codes "topics") → batch ≡ first_value f (codes "batch")
    → report ≡ first_value f (codes "report") → files ≡ option_map raw_values (matched_of f (codes "files")) → names ≡ unwrap_or files []
    → texts_of_run workers order size topics batch report names ≡ run_texts rows
run-texts f same w o s t b r fs is = λ i.
    texts_of_run (text-same f (codes "workers") same w i) (text-same f (codes "order") same o i) (text-same f (codes "size") same s i)
    (text-same f (codes "topics") same t i) (text-same f (codes "batch") same b i) (text-same f (codes "report") same r i) (files-same f same fs is i)

pub stages-texts : (f : Found) {rows : List Row} {workers order size : Option (List ℕ)} {files : Option (List (List ℕ))} {names : List (List ℕ)}
    → rows_of f ≡ rows → workers ≡ first_value f (codes "workers") → order ≡ first_value f (codes "order") → size ≡ first_value f (codes "size")
    → files ≡ option_map raw_values (matched_of f (codes "files")) → names ≡ unwrap_or files [] → texts_of_stages workers order size names ≡ stages_texts rows
stages-texts f same w o s fs is = λ i.
    texts_of_stages (text-same f (codes "workers") same w i) (text-same f (codes "order") same o i) (text-same f (codes "size") same s i)
    (files-same f same fs is i)

pub self-texts : (f : Found) {rows : List Row} {seed lines workers : Option (List ℕ)} → rows_of f ≡ rows
    → seed ≡ first_value f (codes "seed") → lines ≡ first_value f (codes "lines") → workers ≡ first_value f (codes "workers")
    → texts_of_self seed lines workers ≡ self_texts rows
self-texts f same s l w = λ i.
    texts_of_self (text-same f (codes "seed") same s i) (text-same f (codes "lines") same l i) (text-same f (codes "workers") same w i)

pub judge-texts : (f : Found) {rows : List Row} {room strict order : Option (List ℕ)} {files : Option (List (List ℕ))} {names : List (List ℕ)} → rows_of f ≡ rows
    → room ≡ first_value f (codes "room") → strict ≡ first_value f (codes "strict") → order ≡ first_value f (codes "order")
    → files ≡ option_map raw_values (matched_of f (codes "files")) → names ≡ unwrap_or files [] → texts_of_judge room strict order names ≡ judge_texts rows
judge-texts f same r s o got is = λ i.
    texts_of_judge (text-same f (codes "room") same r i) (text-same f (codes "strict") same s i) (text-same f (codes "order") same o i) (files-same f same got is i)

-- `clap` takes the words, and then the tests of their texts decide
pub tests-answer : {T : Type 0} (app : App) (words : List (List ℕ)) (tests : T → List (Option WordsFault)) (what : T → Asked) (t read : T)
    (said : Result Asked WordsFault) → refused_by_clap app words ≡ None → t ≡ read → answered_by (first_of_tests (tests t)) (what t) ≡ said
    → answered_by (first_of_tests (refused_by_clap app words ∷ tests read)) (what read) ≡ said
tests-answer {T} app words tests what t read said passes is answer =
    ap (λ (test : Option WordsFault). answered_by (option_or test (first_of_tests (tests read))) (what read)) passes
    ∙ ap (λ (t : T). answered_by (first_of_tests (tests t)) (what t)) (sym is) ∙ answer

pub answer-ok : (test : Option WordsFault) (what other : Asked) → test ≡ None → what ≡ other → answered_by test what ≡ Ok other
answer-ok test what other none same = ap (λ t. answered_by t what) none ∙ ap Ok same

pub answer-err : (test : Option WordsFault) (what : Asked) (fault : WordsFault) → test ≡ Some fault → answered_by test what ≡ Err fault
answer-err test what fault some = ap (λ t. answered_by t what) some

pub file-text : (f : Found) (rows : List Row) (file : Option (List ℕ)) → rows_of f ≡ rows → file ≡ first_value f (codes "file")
    → unwrap_or file [] ≡ text_file rows
file-text f rows file same got = ap (λ o. unwrap_or o []) (text-same f (codes "file") same got)

-- the flag of `replay`
pub flag-text : (command : TextCommand) (f : Found) (rows : List Row) (text : Option (List ℕ)) → rows_of f ≡ rows → text ≡ first_value f (codes "order")
    → with_flag command (is_given text) ≡ text_command command rows
flag-text command f rows text same got = ap (λ o. with_flag command (is_given o)) (text-same f (codes "order") same got)

pub text-answer : (command asks : TextCommand) (words : List (List ℕ)) (file : List ℕ) (said : Result Asked WordsFault)
    → refused_by_clap (text_app command) words ≡ None → file ≡ text_file (matches_of (text_app command) words)
    → asks ≡ text_command command (matches_of (text_app command) words)
    → answered_by (first_of_tests (refused_names (file ∷ []) ∷ [])) (whole (record { command = asks; file = file })) ≡ said → asked_of_text command words ≡ said
unfolding asked_of_text
text-answer command asks words file said passes is flag answer =
    let rows = matches_of (text_app command) words in
    tests-answer (text_app command) words (λ (t : List ℕ × TextCommand). refused_names (t.0 ∷ []) ∷ [])
    (λ (t : List ℕ × TextCommand). whole (record { command = t.1; file = t.0 })) (file, asks) (text_file rows, text_command command rows) said passes
    (λ i. (is i, flag i)) answer

-- what is given or nothing, behind references or not
pub given_or_empty : {X A : Type 0} (o : Option X) (d : X) (f : X → List A) {got : X} → got ≡ unwrap_or o d → f d ≡ [] → f got ≡ unwrap_or (option_map f o) []
given_or_empty None d f is empty = ap f is ∙ empty
given_or_empty (Some x) d f is empty = ap f is

pub name-missing : (name : List ℕ) → eqb (length name) 0 ≡ true → first_of_tests (refused_names (name ∷ []) ∷ []) ≡ Some (NoName 1)
name-missing name is = rw is refl

pub name-there : (name : List ℕ) → eqb (length name) 0 ≡ false → first_of_tests (refused_names (name ∷ []) ∷ []) ≡ None
name-there name is = rw is refl

-- an error that `?` hands on
pub handed-on : {T E : Type 0} (r : Result T E) (e f : E) → IsErrAnd r (λ passed. passed ≡ e) → IsErrOf r f → e ≡ f
handed-on (Ok x) e f passed is = absurd passed
handed-on (Err x) e f passed is = let same : x ≡ f = cc in sym passed ∙ same

-- want of memory is no fault of the words
pub refused-some : (e : WordsError) (fault : WordsFault) → e ≡ Refused fault → e ≢ NoMemory
refused-some e fault is = λ memory. cc

refused-same : {fault other : WordsFault} → Refused fault ≡ Refused other → fault ≡ other
refused-same e = cc

-- the fault that `?` hands on from `clap` is that of the words
refused-on : {T : Type 0} (app : App) (words : List (List ℕ)) (result : Result T WordsError) (error : WordsError) (fault : WordsFault)
    → (error ≢ NoMemory → (error ≡ Refused NotUnderstood) × (refused_by_clap app words ≡ Some NotUnderstood) × (takes app words ≡ false))
    → IsErrAnd result (λ passed. passed ≡ error) → IsErrOf result (Refused fault) → refused_by_clap app words ≡ Some fault
refused-on app words result error fault said passed is =
    let same = handed-on result error (Refused fault) passed is in
    let why = said (refused-some error fault same) in
    why.1 ∙ ap Some (refused-same (sym why.0 ∙ same))

-- then they ask for nothing
pub clap-refused : {T : Type 0} (app : App) (words : List (List ℕ)) (result : Result T WordsError) (error : WordsError) (fault : WordsFault)
    (rest : Option WordsFault) (what : Asked)
    → (error ≢ NoMemory → (error ≡ Refused NotUnderstood) × (refused_by_clap app words ≡ Some NotUnderstood) × (takes app words ≡ false))
    → IsErrAnd result (λ passed. passed ≡ error) → IsErrOf result (Refused fault) → answered_by (option_or (refused_by_clap app words) rest) what ≡ Err fault
clap-refused app words result error fault rest what said passed is =
    ap (λ test. answered_by (option_or test rest) what) (refused-on app words result error fault said passed is)

-- tests before others
pub tests-then : (tests more : List (Option WordsFault)) → first_of_tests (tests ++ more) ≡ option_or (first_of_tests tests) (first_of_tests more)
tests-then [] more = refl
tests-then (None ∷ tests) more = tests-then tests more
tests-then (Some fault ∷ tests) more = refl

-- where those pass, the others decide
pub tests-pass : (tests more : List (Option WordsFault)) (said : Option WordsFault) → None ≡ first_of_tests tests → first_of_tests more ≡ said
    → first_of_tests (tests ++ more) ≡ said
tests-pass tests more said none then = tests-then tests more ∙ ap (λ test. option_or test (first_of_tests more)) (sym none) ∙ then

-- else theirs is the fault that `?` hands on
pub tests-refuse : {T : Type 0} (tests more : List (Option WordsFault)) (result : Result T WordsError) (error fault : WordsFault)
    → Some error ≡ first_of_tests tests → IsErrAnd result (λ passed. passed ≡ Refused error) → IsErrOf result (Refused fault)
    → first_of_tests (tests ++ more) ≡ Some fault
tests-refuse tests more result error fault some passed is =
    tests-then tests more ∙ ap (λ test. option_or test (first_of_tests more)) (sym some)
    ∙ ap Some (refused-same (handed-on result (Refused error) (Refused fault) passed is))
