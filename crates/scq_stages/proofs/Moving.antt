-- Takes that are each followed by a return or by a move to second: what is in such calls, and what is not.
use Rattle.std.proofs.Common.{◌≡◌, refl, ◌∙◌, ap, subst, sym, arith, suc, ℕ, ◌+◌, ◌≤◌, List, [], ◌∷◌, ◌++◌, length, inl, ⊎_elim, rules}
use Rattle.std.specs.Prelude.{filter}
use Rattle.std.proofs.lemmas.List.{append-nil, length-append}
use Rattle.std.proofs.lemmas.List.Elements.{filter-append}
use Rattle.scq_core.specs.declared.ended.Ended.{Ended}
use Rattle.scq_core.specs.declared.ended.Ended.TheVariants.{Done, Got, Nothing}
use Rattle.scq_law.specs.Exports.{tally, was_put}
use Rattle.scq_queue.specs.Exports.{sends_of, takes_of, PassStanding}
use Rattle.scq_queue.proofs.Records.{sends-append, takes-append}
use Rattle.scq_passes.specs.Exports.{AreTakesFollowed, and_got, and_found_none, IsGivenBack, AreReturns, MeetsNoSpent, on}
use Rattle.scq_passes.specs.Records.{none}
use Rattle.scq_passes.proofs.Blocks.{takes-puts_all}
use Rattle.scq_passes.proofs.Kept.{taken-weaker}
use Rattle.scq_passes.proofs.OnTopics.{on-append, puts-on, moved-few}
use Rattle.scq_passes.proofs.RecordSteps.{unspent-taken}
use Rattle.scq_stages.specs.Exports.{first, second, is_next, IsReturnOrMove, HasGivenBack, HasTakenOrMoved}

-- what is given back goes to the free ring
pub gives : AreReturns IsGivenBack
gives topic bytes ring later by = by

-- what gives back alone, gives back or moves
pub moved-of : {B : Type 0} (p q : PassStanding B) → HasGivenBack p q → HasTakenOrMoved p q
moved-of p q h = taken-weaker (λ topic bytes ring later by. inl by) p q h

-- nothing is sent to first
none-to_first : (ring back : ℕ) (later : List ℕ) (topic : ℕ) (bytes : List ℕ) → IsReturnOrMove topic bytes ring later
    → on first (sends_of (Done ring back later ∷ [])) ≡ []
none-to_first ring back later topic bytes by =
    let P : ℕ → Type 0 = λ r. on first (sends_of (Done r back later ∷ [])) ≡ [] in
    ⊎_elim (λ (free : ring ≡ 0). subst P (sym free) refl) (λ (moved : (topic ≡ first) × (ring ≡ suc second)). subst P (sym moved.1) refl) by

pub moves-none_to_first : (calls : List Ended) → AreTakesFollowed IsReturnOrMove calls → on first (sends_of calls) ≡ []
moves-none_to_first calls none = refl
moves-none_to_first calls (and_got {calls = before} topic place bytes ring back later more by) =
    let got : List Ended = Got (suc topic) place bytes ∷ [] in
    let put : List Ended = Done ring back later ∷ [] in
    ap (on first) (sends-append (before ++ got) put) ∙ on-append first (sends_of (before ++ got)) (sends_of put)
    ∙ ap (λ l. on first (sends_of (before ++ got)) ++ l) (none-to_first ring back later topic bytes by)
    ∙ append-nil (on first (sends_of (before ++ got))) ∙ ap (on first) (sends-append before got ∙ append-nil (sends_of before))
    ∙ moves-none_to_first before more
moves-none_to_first calls (and_found_none {calls = before} topic more) =
    let last : List Ended = Nothing (suc topic) ∷ [] in
    ap (on first) (sends-append before last ∙ append-nil (sends_of before)) ∙ moves-none_to_first before more

-- none of the calls counts for messages
next-none : (ring back : ℕ) (later : List ℕ) (topic : ℕ) (bytes : List ℕ) → IsReturnOrMove topic bytes ring later
    → filter is_next (Done ring back later ∷ []) ≡ []
next-none ring back later topic bytes by =
    let P : ℕ → Type 0 = λ r. filter is_next (Done r back later ∷ []) ≡ [] in
    ⊎_elim (λ (free : ring ≡ 0). subst P (sym free) refl) (λ (moved : (topic ≡ first) × (ring ≡ suc second)). subst P (sym moved.1) refl) by

pub moves-none_next : (calls : List Ended) → AreTakesFollowed IsReturnOrMove calls → filter is_next calls ≡ []
moves-none_next calls none = refl
moves-none_next calls (and_got {calls = before} topic place bytes ring back later more by) =
    let got : List Ended = Got (suc topic) place bytes ∷ [] in
    let put : List Ended = Done ring back later ∷ [] in
    filter-append is_next (before ++ got) put ∙ ap (λ l. filter is_next (before ++ got) ++ l) (next-none ring back later topic bytes by)
    ∙ append-nil (filter is_next (before ++ got)) ∙ filter-append is_next before got ∙ append-nil (filter is_next before)
    ∙ moves-none_next before more
moves-none_next calls (and_found_none {calls = before} topic more) =
    filter-append is_next before (Nothing (suc topic) ∷ []) ∙ append-nil (filter is_next before) ∙ moves-none_next before more

-- how many puts are begun by such calls, ring by ring
unspent : (calls : List Ended) → AreTakesFollowed IsReturnOrMove calls → MeetsNoSpent calls
unspent calls are = unspent-taken [] calls are (λ ring ticket put has. absurd (search rules))

pub moves-to_first : (calls : List Ended) → AreTakesFollowed IsReturnOrMove calls → tally (was_put 1) calls ≡ 0
moves-to_first calls are = puts-on first calls (unspent calls are) ∙ ap length (moves-none_to_first calls are)

pub moves-sent_second : (calls : List Ended) → AreTakesFollowed IsReturnOrMove calls
    → length (on second (sends_of calls)) ≤ length (on first (takes_of calls))
moves-sent_second calls are =
    moved-few first second
    (λ topic bytes ring later by is.
    ⊎_elim (λ (free : ring ≡ 0). absurd (omega arith)) (λ (moved : (topic ≡ first) × (ring ≡ suc second)). moved.0) by)
    calls are

-- each send is of what was taken from first
pub moves-sent : (calls : List Ended) → AreTakesFollowed IsReturnOrMove calls → length (sends_of calls) ≤ length (on first (takes_of calls))
moves-sent calls none = omega arith
moves-sent calls (and_got {calls = before} topic place bytes ring back later more by) =
    let got : List Ended = Got (suc topic) place bytes ∷ [] in
    let put : List Ended = Done ring back later ∷ [] in
    let front = before ++ got in
    let rest = moves-sent before more in
    let sends : length (sends_of (front ++ put)) ≡ length (sends_of before) + length (sends_of put) =
    ap length (sends-append front put ∙ ap (λ l. l ++ sends_of put) (sends-append before got ∙ append-nil (sends_of before)))
    ∙ length-append (sends_of before) (sends_of put) in
    let takes : length (on first (takes_of (front ++ put))) ≡ length (on first (takes_of before)) + length (on first (takes_of got)) =
    ap (λ l. length (on first l)) (takes-append front put ∙ append-nil (takes_of front) ∙ takes-append before got)
    ∙ ap length (on-append first (takes_of before) (takes_of got)) ∙ length-append (on first (takes_of before)) (on first (takes_of got)) in
    let P : ℕ → Type 0 = λ r. length (sends_of (Done r back later ∷ [])) ≤ length (on first (takes_of got)) in
    let Q : ℕ → Type 0 = λ t. 1 ≤ length (on first (takes_of (Got (suc t) place bytes ∷ []))) in
    let here : length (sends_of put) ≤ length (on first (takes_of got)) =
    ⊎_elim (λ (free : ring ≡ 0). subst P (sym free) (omega arith))
    (λ (moved : (topic ≡ first) × (ring ≡ suc second)). subst P (sym moved.1) (subst Q (sym moved.0) (omega arith))) by in
    omega (arith, rest, sends, takes, here)
moves-sent calls (and_found_none {calls = before} topic more) =
    let last : List Ended = Nothing (suc topic) ∷ [] in
    let rest = moves-sent before more in
    omega (
      arith,
      rest,
      ap length (sends-append before last ∙ append-nil (sends_of before)),
      ap (λ l. length (on first l)) (takes-append before last ∙ append-nil (takes_of before)),
    )

pub moves-to_second : (calls : List Ended) → AreTakesFollowed IsReturnOrMove calls → tally (was_put 2) calls ≤ length (on first (takes_of calls))
moves-to_second calls are = omega (arith, puts-on second calls (unspent calls are), moves-sent_second calls are)

pub moves-returns : (calls : List Ended) → AreTakesFollowed IsReturnOrMove calls → tally (was_put 0) calls ≤ length (takes_of calls)
moves-returns calls are = omega (arith, takes-puts_all calls are)
