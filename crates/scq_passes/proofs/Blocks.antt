-- Calls that only take from topics, each take followed by a put of what it got.
use Rattle.std.proofs.Common.{◌≡◌, refl, sym, ◌∙◌, ap, subst, arith, zero, suc, ℕ, ◌+◌, List, [], ◌∷◌, ◌++◌, length, false}
use Rattle.std.specs.Prelude.{count_by, ◌==◌}
use Rattle.std.proofs.lemmas.Bool.{ne_eqb}
use Rattle.std.specs.List.{list_any}
use Rattle.std.proofs.lemmas.List.{append-nil, append_assoc, length-append}
use Rattle.std.proofs.lemmas.List.Folds.{list_any-append}
use Rattle.std.proofs.lemmas.List.Sums.{sum_by-append}
use Rattle.scq_core.specs.declared.ended.Ended.{Ended}
use Rattle.scq_core.specs.declared.ended.Ended.TheVariants.{Done, Got, Nothing}
use Rattle.scq_law.specs.Exports.{tally, was_put}
use Rattle.scq_law.proofs.Base.SeatSums.{tally-append}
use Rattle.scq_queue.specs.Exports.{sends_of, takes_of}
use Rattle.scq_queue.proofs.Records.{sends-append, takes-append}
use Rattle.scq_passes.specs.Exports.{is_got, is_put, is_lend, Puts, AreTakesFollowed, IsReturn, AreReturns, and_got, and_found_none}
use Rattle.scq_passes.specs.Records.{none}

-- what is given back goes to the free ring
pub returns : AreReturns IsReturn
returns topic bytes ring later by = by.0

-- a put is a return or a send
one-put : (ring back : ℕ) (later : List ℕ) → tally (was_put 0) (Done ring back later ∷ []) + length (sends_of (Done ring back later ∷ [])) ≡ 1
one-put zero back later = refl
one-put (suc topic) back later = rw (ne_eqb (suc topic) 0 (λ e. omega arith)) refl

-- takes that are followed so, are so by more kinds of puts
pub takes-weaker : {By More : Puts} → ((topic : ℕ) (bytes : List ℕ) (ring : ℕ) (later : List ℕ) → By topic bytes ring later → More topic bytes ring later)
    → (calls : List Ended)
    → AreTakesFollowed By calls → AreTakesFollowed More calls
takes-weaker weaker calls none = none
takes-weaker weaker calls (and_got {calls = before} topic place bytes ring back later more by) =
    and_got topic place bytes ring back later (takes-weaker weaker before more) (weaker topic bytes ring later by)
takes-weaker weaker calls (and_found_none {calls = before} topic more) = and_found_none topic (takes-weaker weaker before more)

module _ {By : Puts} where
  pub takes-join : (xs ys : List Ended) → AreTakesFollowed By xs → AreTakesFollowed By ys → AreTakesFollowed By (xs ++ ys)
  takes-join xs ys one none = subst (AreTakesFollowed By) (sym (append-nil xs)) one
  takes-join xs ys one (and_got {calls} topic place bytes ring back later more by) =
      let got = Got (suc topic) place bytes ∷ [] in
      let put = Done ring back later ∷ [] in
      subst (AreTakesFollowed By) (ap (λ l. l ++ put) (append_assoc xs calls got) ∙ append_assoc xs (calls ++ got) put)
      (and_got topic place bytes ring back later (takes-join xs calls one more) by)
  takes-join xs ys one (and_found_none {calls} topic more) =
      subst (AreTakesFollowed By) (append_assoc xs calls (Nothing (suc topic) ∷ [])) (and_found_none topic (takes-join xs calls one more))

  -- among them is no lend
  pub takes-no_lend : (calls : List Ended) → AreTakesFollowed By calls → list_any is_lend calls ≡ false
  takes-no_lend calls none = refl
  takes-no_lend calls (and_got {calls = before} topic place bytes ring back later more by) =
      let got = Got (suc topic) place bytes ∷ [] in
      list_any-append is_lend (before ++ got) (Done ring back later ∷ []) ∙ rw (list_any-append is_lend before got, takes-no_lend before more) refl
  takes-no_lend calls (and_found_none {calls = before} topic more) =
      list_any-append is_lend before (Nothing (suc topic) ∷ []) ∙ rw (takes-no_lend before more) refl

  -- as many give the pass a buffer as take one
  pub takes-even : (calls : List Ended) → AreTakesFollowed By calls → count_by is_got calls ≡ count_by is_put calls
  takes-even calls none = refl
  takes-even calls (and_got {calls = before} topic place bytes ring back later more by) =
      let got : List Ended = Got (suc topic) place bytes ∷ [] in
      let put : List Ended = Done ring back later ∷ [] in
      let gots : count_by is_got ((before ++ got) ++ put) ≡ count_by is_got before + 1 =
      sum_by-append _ (before ++ got) put ∙ ap (λ n. n + count_by is_got put) (sum_by-append _ before got) ∙ omega arith in
      let puts : count_by is_put ((before ++ got) ++ put) ≡ count_by is_put before + 1 =
      sum_by-append _ (before ++ got) put ∙ ap (λ n. n + count_by is_put put) (sum_by-append _ before got) ∙ omega arith in
      gots ∙ ap (λ n. n + 1) (takes-even before more) ∙ sym puts
  takes-even calls (and_found_none {calls = before} topic more) =
      let none : List Ended = Nothing (suc topic) ∷ [] in
      sum_by-append _ before none ∙ ap (λ n. n + 0) (takes-even before more) ∙ sym (sum_by-append _ before none)

  -- where the puts are returns, none is a send
  pub takes-no_send : AreReturns By → (calls : List Ended) → AreTakesFollowed By calls → sends_of calls ≡ []
  takes-no_send home calls none = refl
  takes-no_send home calls (and_got {calls = before} topic place bytes ring back later more by) =
      let got : List Ended = Got (suc topic) place bytes ∷ [] in
      let last : sends_of (Done ring back later ∷ []) ≡ [] = ap (λ r. sends_of (Done r back later ∷ [])) (home topic bytes ring later by) in
      sends-append (before ++ got) (Done ring back later ∷ []) ∙ ap (λ l. sends_of (before ++ got) ++ l) last ∙ append-nil (sends_of (before ++ got))
      ∙ sends-append before got ∙ append-nil (sends_of before) ∙ takes-no_send home before more
  takes-no_send home calls (and_found_none {calls = before} topic more) =
      sends-append before (Nothing (suc topic) ∷ []) ∙ rw (takes-no_send home before more) refl

  -- no put on a topic is begun then, and as many on the free ring as takes got a buffer
  pub takes-puts : AreReturns By → (calls : List Ended) (topic : ℕ) → AreTakesFollowed By calls → tally (was_put (suc topic)) calls ≡ 0
  takes-puts home calls topic none = refl
  takes-puts home calls topic (and_got {calls = before} t place bytes ring back later more by) =
      let got : List Ended = Got (suc t) place bytes ∷ [] in
      let free = home t bytes ring later by in
      let other : (ring == suc topic) ≡ false = ne_eqb ring (suc topic) (λ e. omega arith) in
      tally-append (was_put (suc topic)) (before ++ got) (Done ring back later ∷ [])
      ∙ rw (tally-append (was_put (suc topic)) before got, takes-puts home before topic more, other) (omega arith)
  takes-puts home calls topic (and_found_none {calls = before} t more) =
      tally-append (was_put (suc topic)) before (Nothing (suc t) ∷ []) ∙ rw (takes-puts home before topic more) (omega arith)

  pub takes-returns : AreReturns By → (calls : List Ended) → AreTakesFollowed By calls → tally (was_put 0) calls ≡ length (takes_of calls)
  takes-returns home calls none = refl
  takes-returns home calls (and_got {calls = before} t place bytes ring back later more by) =
      let got : List Ended = Got (suc t) place bytes ∷ [] in
      let put : List Ended = Done ring back later ∷ [] in
      let last : tally (was_put 0) put ≡ 1 = ap (λ r. tally (was_put 0) (Done r back later ∷ [])) (home t bytes ring later by) in
      let one : tally (was_put 0) ((before ++ got) ++ put) ≡ tally (was_put 0) before + 1 =
      tally-append (was_put 0) (before ++ got) put ∙ ap (λ n. tally (was_put 0) (before ++ got) + n) last
      ∙ ap (λ n. n + 1) (tally-append (was_put 0) before got) ∙ omega arith in
      let takes : takes_of ((before ++ got) ++ put) ≡ takes_of before ++ takes_of got =
      takes-append (before ++ got) put ∙ append-nil (takes_of (before ++ got)) ∙ takes-append before got in
      one ∙ omega (arith, takes-returns home before more, ap length takes, length-append (takes_of before) (takes_of got))
  takes-returns home calls (and_found_none {calls = before} t more) =
      let none : List Ended = Nothing (suc t) ∷ [] in
      tally-append (was_put 0) before none ∙ ap (λ n. n + 0) (takes-returns home before more)
      ∙ omega (arith, ap length (takes-append before none), length-append (takes_of before) (takes_of none))

  -- and whatever they are, each take is followed by one
  pub takes-puts_all : (calls : List Ended) → AreTakesFollowed By calls → tally (was_put 0) calls + length (sends_of calls) ≡ length (takes_of calls)
  takes-puts_all calls none = refl
  takes-puts_all calls (and_got {calls = before} t place bytes ring back later more by) =
      let got : List Ended = Got (suc t) place bytes ∷ [] in
      let put : List Ended = Done ring back later ∷ [] in
      let front = before ++ got in
      let took : length (takes_of (front ++ put)) ≡ length (takes_of before) + 1 =
      ap length (takes-append front put ∙ append-nil (takes_of front) ∙ takes-append before got) ∙ length-append (takes_of before) (takes_of got) in
      let sent : length (sends_of (front ++ put)) ≡ length (sends_of before) + length (sends_of put) =
      ap length (sends-append front put ∙ ap (λ l. l ++ sends_of put) (sends-append before got ∙ append-nil (sends_of before)))
      ∙ length-append (sends_of before) (sends_of put) in
      let gave : tally (was_put 0) (front ++ put) ≡ tally (was_put 0) before + 0 + tally (was_put 0) put =
      tally-append (was_put 0) front put ∙ ap (λ n. n + tally (was_put 0) put) (tally-append (was_put 0) before got) in
      omega (arith, took, sent, gave, one-put ring back later, takes-puts_all before more)
  takes-puts_all calls (and_found_none {calls = before} t more) =
      let none : List Ended = Nothing (suc t) ∷ [] in
      omega (
        arith,
        tally-append (was_put 0) before none,
        ap length (sends-append before none ∙ append-nil (sends_of before)),
        ap length (takes-append before none ∙ append-nil (takes_of before)),
        takes-puts_all before more,
      )
