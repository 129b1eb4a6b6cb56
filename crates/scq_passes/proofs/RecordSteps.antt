-- How the Full replies stand in a record that grows by the calls for one message, or by takes.
use Rattle.std.proofs.Common.{◌≡◌, refl, sym, ◌∙◌, ap, subst, arith, suc, ℕ, ◌+◌, ◌<◌, ◌≤◌, List, [], ◌∷◌, ◌++◌, ⊎_elim, Bool, true, false, rules}
use Rattle.std.specs.Prelude.{count_by}
use Rattle.std.specs.List.{Contains, list_any, before_first}
use Rattle.std.proofs.lemmas.List.{append_assoc, append-nil}
use Rattle.std.proofs.lemmas.List.Elements.{Contains-append_cases, Contains-push_cases}
use Rattle.std.proofs.lemmas.List.Folds.{list_any-append}
use Rattle.std.proofs.lemmas.List.Sums.{sum_by-append}
use Rattle.scq_core.specs.declared.ended.Ended.{Ended}
use Rattle.scq_core.specs.declared.ended.Ended.TheVariants.{Done, Got, Nothing, Spent}
use Rattle.scq_law.specs.Exports.{tally}
use Rattle.scq_law.proofs.Base.SeatSums.{tally-append}
use Rattle.scq_queue.specs.Exports.{was_full}
use Rattle.scq_passes.specs.Exports.{is_got, is_put, is_lend, is_take, HoldsNothingAtEachFull, AfterEachFull, HelpsAfterEachFull}
use Rattle.scq_passes.specs.Exports.{HelpsOnceAfterEachFull, Puts, AreTakesFollowed, IsReturn, and_got, and_found_none, MeetsNoSpent}
use Rattle.scq_passes.specs.Records.{none}
use Rattle.scq_passes.proofs.Splits.{split-append, before-led, before-none, before-some, before-all}
use Rattle.scq_passes.proofs.Blocks.{takes-no_lend, takes-even}

-- where no call is a Full, none stands there
pub no-full : (calls front after : List Ended) → tally was_full calls ≡ 0 → calls ≡ front ++ Nothing 0 ∷ after → ⊥
no-full calls front after zero_ is =
    let all : tally was_full calls ≡ tally was_full front + tally was_full (Nothing 0 ∷ after) =
    ap (tally was_full) is ∙ tally-append was_full front (Nothing 0 ∷ after) in
    omega arith

pub takes-no_full : {By : Puts} (calls : List Ended) → AreTakesFollowed By calls → tally was_full calls ≡ 0
takes-no_full calls none = refl
takes-no_full calls (and_got {calls = before} topic place bytes ring back later more by) =
    tally-append was_full (before ++ Got (suc topic) place bytes ∷ []) (Done ring back later ∷ [])
    ∙ rw (tally-append was_full before (Got (suc topic) place bytes ∷ []), takes-no_full before more) (omega arith)
takes-no_full calls (and_found_none {calls = before} topic more) =
    tally-append was_full before (Nothing (suc topic) ∷ []) ∙ rw (takes-no_full before more) (omega arith)

-- of a Full with takes behind it, just the first is one
where-full : {By : Puts} (block front after : List Ended) → AreTakesFollowed By block → Nothing 0 ∷ block ≡ front ++ Nothing 0 ∷ after
    → (front ≡ []) × (block ≡ after)
where-full block [] after are is = let same : block ≡ after = cc in (refl, same)
where-full block (x ∷ front) after are is =
    let rest : block ≡ front ++ Nothing 0 ∷ after = cc in
    absurd (no-full block front after (takes-no_full block are) rest)

-- what stands up to the next lend behind each Full, in a record that grows
module _ (Up : List Ended → Type 0) where
  abbrev UpToNextLend : List Ended → Type 0
  UpToNextLend calls = AfterEachFull (λ after. Up (before_first is_lend after)) calls

  -- by a lend and what is behind it: what is said of a Full among these is a premise
  pub after-led : (xs rest : List Ended) (c : Ended) → UpToNextLend xs → is_lend c ≡ true
      → ((front after : List Ended) → c ∷ rest ≡ front ++ Nothing 0 ∷ after → Up (before_first is_lend after))
      → UpToNextLend (xs ++ c ∷ rest)
  after-led xs rest c was led inside before after is =
      ⊎_elim (λ (h : (mid : List Ended) × (xs ≡ before ++ Nothing 0 ∷ mid) × (after ≡ mid ++ c ∷ rest)).
      subst Up (sym (ap (before_first is_lend) h.2 ∙ before-led is_lend h.0 rest c led)) (was before h.0 h.1))
      (λ (h : (front : List Ended) × (before ≡ xs ++ front) × (c ∷ rest ≡ front ++ Nothing 0 ∷ after)). inside h.0 after h.2)
      (split-append xs (c ∷ rest) before after (Nothing 0) is)

  -- by a lend and a send: no Full
  pub after-sent : (xs : List Ended) (from ring place : ℕ) (over bytes : List ℕ) → UpToNextLend xs
      → UpToNextLend ((xs ++ Got 0 from over ∷ []) ++ Done ring place bytes ∷ [])
  after-sent xs from ring place over bytes was =
      subst UpToNextLend (sym (append_assoc xs (Got 0 from over ∷ []) (Done ring place bytes ∷ [])))
      (after-led xs (Done ring place bytes ∷ []) (Got 0 from over) was refl
      (λ front after is. absurd (no-full (Got 0 from over ∷ Done ring place bytes ∷ []) front after refl is)))

  -- by a Full, and then takes
  pub after-helped : {By : Puts} (xs block : List Ended) → AreTakesFollowed By block → Up block → UpToNextLend xs
      → UpToNextLend ((xs ++ Nothing 0 ∷ []) ++ block)
  after-helped xs block are up was =
      subst UpToNextLend (sym (append_assoc xs (Nothing 0 ∷ []) block))
      (after-led xs block (Nothing 0) was refl
      (λ front after is. subst Up (sym (ap (before_first is_lend) (sym (where-full block front after are is).1) ∙ before-none is_lend block (takes-no_lend block are)))
      up))

-- of a record to whose last Full takes may be added: what holds at least up to the next lend, and just where one follows
module _ (Least Just : List Ended → Type 0) where
  abbrev LeastUpToNextLend : List Ended → Type 0
  LeastUpToNextLend calls =
      AfterEachFull (λ after. Least (before_first is_lend after) × (list_any is_lend after ≡ true → Just (before_first is_lend after))) calls

  pub after-taken : {By : Puts} → ((front back : List Ended) → Least front → Least (front ++ back)) → (xs block : List Ended) → AreTakesFollowed By block
      → LeastUpToNextLend xs → LeastUpToNextLend (xs ++ block)
  after-taken more xs block are was before after is =
      ⊎_elim (λ (h : (mid : List Ended) × (xs ≡ before ++ Nothing 0 ∷ mid) × (after ≡ mid ++ block)).
      let P : List Ended → Type 0 = λ l. Least (before_first is_lend l) × (list_any is_lend l ≡ true → Just (before_first is_lend l)) in
      subst P (sym h.2) (grown h.0 (was before h.0 h.1) (list_any is_lend h.0) refl))
      (λ (h : (front : List Ended) × (before ≡ xs ++ front) × (block ≡ front ++ Nothing 0 ∷ after)).
      absurd (no-full block h.0 after (takes-no_full block are) h.2))
      (split-append xs block before after (Nothing 0) is) where
        grown : (mid : List Ended) → Least (before_first is_lend mid) × (list_any is_lend mid ≡ true → Just (before_first is_lend mid)) → (b : Bool)
            → list_any is_lend mid ≡ b
            → Least (before_first is_lend (mid ++ block)) × (list_any is_lend (mid ++ block) ≡ true → Just (before_first is_lend (mid ++ block)))
        grown mid had true some_ =
            let same = before-some is_lend mid block some_ in
            (subst Least (sym same) had.0, λ h. subst Just (sym same) (had.1 some_))
        grown mid had false none_ =
            let whole = before-all is_lend mid block none_ in
            let first : before_first is_lend mid ≡ mid = before-none is_lend mid none_ in
            let never : list_any is_lend (mid ++ block) ≡ false = list_any-append is_lend mid block ∙ rw (none_, takes-no_lend block are) refl in
            (subst Least (sym whole) (more mid (before_first is_lend block) (subst Least first had.0)), λ h. absurd (cc))

  -- the same while it still lends
  pub after-just : ((calls : List Ended) → Just calls → Least calls) → (xs : List Ended) → AfterEachFull (λ after. Just (before_first is_lend after)) xs
      → LeastUpToNextLend xs
  after-just least xs was before after is = (least (before_first is_lend after) (was before after is), λ h. was before after is)

pub alone-more : (xs ys : List Ended) → HoldsNothingAtEachFull xs
    → ((front after : List Ended) → ys ≡ front ++ Nothing 0 ∷ after → count_by is_got (xs ++ front) ≡ count_by is_put (xs ++ front))
    → HoldsNothingAtEachFull (xs ++ ys)
alone-more xs ys alone inside before after is =
    ⊎_elim (λ (h : (mid : List Ended) × (xs ≡ before ++ Nothing 0 ∷ mid) × (after ≡ mid ++ ys)). alone before h.0 h.1)
    (λ (h : (front : List Ended) × (before ≡ xs ++ front) × (ys ≡ front ++ Nothing 0 ∷ after)).
    let P : List Ended → Type 0 = λ l. count_by is_got l ≡ count_by is_put l in
    subst P (sym h.1) (inside h.0 after h.2))
    (split-append xs ys before after (Nothing 0) is)

-- just one take of each topic
abbrev TakesOnce : ℕ → List Ended → Type 0
TakesOnce topics calls = (topic : ℕ) → topic < topics → count_by (is_take topic) calls ≡ 1

-- the same with takes behind it
pub helps-behind : {By : Puts} (topics : ℕ) (xs block : List Ended) (from ring place : ℕ) (over bytes : List ℕ) → AreTakesFollowed By block
    → HelpsOnceAfterEachFull topics xs
    → HelpsOnceAfterEachFull topics (((xs ++ Got 0 from over ∷ []) ++ Done ring place bytes ∷ []) ++ block)
helps-behind topics xs block from ring place over bytes are once =
    let got : List Ended = Got 0 from over ∷ [] in
    let put : List Ended = Done ring place bytes ∷ [] in
    let none = takes-no_full block are in
    subst (HelpsOnceAfterEachFull topics) (sym (ap (λ l. l ++ block) (append_assoc xs got put) ∙ append_assoc xs (got ++ put) block))
    (after-led (TakesOnce topics) xs (Done ring place bytes ∷ block) (Got 0 from over) once refl
    (λ front after is. absurd (no-full (Got 0 from over ∷ Done ring place bytes ∷ block) front after (omega (arith, none)) is)))

pub alone-sent : (xs : List Ended) (from ring place : ℕ) (over bytes : List ℕ) → HoldsNothingAtEachFull xs
    → HoldsNothingAtEachFull ((xs ++ Got 0 from over ∷ []) ++ Done ring place bytes ∷ [])
alone-sent xs from ring place over bytes alone =
    subst HoldsNothingAtEachFull (sym (append_assoc xs (Got 0 from over ∷ []) (Done ring place bytes ∷ [])))
    (alone-more xs (Got 0 from over ∷ Done ring place bytes ∷ []) alone
    (λ front after is. absurd (no-full (Got 0 from over ∷ Done ring place bytes ∷ []) front after refl is)))

pub even-sent : (xs : List Ended) (from ring place : ℕ) (over bytes : List ℕ) → count_by is_got xs ≡ count_by is_put xs
    → count_by is_got ((xs ++ Got 0 from over ∷ []) ++ Done ring place bytes ∷ [])
    ≡ count_by is_put ((xs ++ Got 0 from over ∷ []) ++ Done ring place bytes ∷ [])
even-sent xs from ring place over bytes even =
    let block : List Ended = Got 0 from over ∷ Done ring place bytes ∷ [] in
    let P : List Ended → Type 0 = λ l. count_by is_got l ≡ count_by is_put l in
    subst P (sym (append_assoc xs (Got 0 from over ∷ []) (Done ring place bytes ∷ [])))
    (sum_by-append _ xs block ∙ ap (λ n. n + 1) even ∙ sym (sum_by-append _ xs block))

pub even-taken : {By : Puts} (xs block : List Ended) → AreTakesFollowed By block → count_by is_got xs ≡ count_by is_put xs
    → count_by is_got (xs ++ block) ≡ count_by is_put (xs ++ block)
even-taken xs block are even =
    sum_by-append _ xs block ∙ ap (λ n. n + count_by is_got block) even ∙ ap (λ n. count_by is_put xs + n) (takes-even block are)
    ∙ sym (sum_by-append _ xs block)

-- a Full, and then the help: a take of each topic
pub helps-helped : {By : Puts} (topics : ℕ) (xs block : List Ended) → AreTakesFollowed By block
    → ((topic : ℕ) → topic < topics → count_by (is_take topic) block ≡ 1)
    → HelpsOnceAfterEachFull topics xs → HelpsOnceAfterEachFull topics ((xs ++ Nothing 0 ∷ []) ++ block)
helps-helped topics xs block are each once = after-helped (TakesOnce topics) xs block are each once

pub alone-helped : {By : Puts} (xs block : List Ended) → AreTakesFollowed By block → count_by is_got xs ≡ count_by is_put xs → HoldsNothingAtEachFull xs
    → HoldsNothingAtEachFull ((xs ++ Nothing 0 ∷ []) ++ block)
alone-helped xs block are even alone =
    subst HoldsNothingAtEachFull (sym (append_assoc xs (Nothing 0 ∷ []) block))
    (alone-more xs (Nothing 0 ∷ block) alone
    (λ front after is.
    let at = where-full block front after are is in
    let P : List Ended → Type 0 = λ l. count_by is_got (xs ++ l) ≡ count_by is_put (xs ++ l) in
    let Q : List Ended → Type 0 = λ l. count_by is_got l ≡ count_by is_put l in
    subst P (sym at.0) (subst Q (sym (append-nil xs)) even)))

pub even-full : (xs : List Ended) → count_by is_got xs ≡ count_by is_put xs → count_by is_got (xs ++ Nothing 0 ∷ []) ≡ count_by is_put (xs ++ Nothing 0 ∷ [])
even-full xs even = sum_by-append _ xs (Nothing 0 ∷ []) ∙ ap (λ n. n + 0) even ∙ sym (sum_by-append _ xs (Nothing 0 ∷ []))

-- a Full alone
pub alone-full : (xs : List Ended) → count_by is_got xs ≡ count_by is_put xs → HoldsNothingAtEachFull xs → HoldsNothingAtEachFull (xs ++ Nothing 0 ∷ [])
alone-full xs even alone =
    let none_ : AreTakesFollowed IsReturn [] = none in
    subst HoldsNothingAtEachFull (append-nil (xs ++ Nothing 0 ∷ [])) (alone-helped xs [] none_ even alone)

-- takes alone
pub alone-taken : {By : Puts} (xs block : List Ended) → AreTakesFollowed By block → HoldsNothingAtEachFull xs → HoldsNothingAtEachFull (xs ++ block)
alone-taken xs block are alone = alone-more xs block alone (λ front after is. absurd (no-full block front after (takes-no_full block are) is))

pub helps-taken : {By : Puts} (topics : ℕ) (xs block : List Ended) → AreTakesFollowed By block → HelpsAfterEachFull topics xs
    → HelpsAfterEachFull topics (xs ++ block)
helps-taken topics xs block are helps before after is topic low =
    after-taken (λ l. 1 ≤ count_by (is_take topic) l) (λ l. count_by (is_take topic) l ≡ 1)
    (λ front back some_.
    let sum : count_by (is_take topic) (front ++ back) ≡ count_by (is_take topic) front + count_by (is_take topic) back = sum_by-append _ front back in
    omega arith)
    xs block are (λ front back split. helps front back split topic low) before after is

pub helps-once : (topics : ℕ) (xs : List Ended) → HelpsOnceAfterEachFull topics xs → HelpsAfterEachFull topics xs
helps-once topics xs once before after is topic low = (let one = once before after is topic low in omega arith, λ h. once before after is topic low)

-- no call of these met Spent
pub unspent-more : (xs ys : List Ended) → MeetsNoSpent xs → MeetsNoSpent ys → MeetsNoSpent (xs ++ ys)
unspent-more xs ys one more ring ticket put has =
    ⊎_elim (one ring ticket put) (more ring ticket put) (Contains-append_cases xs ys (Spent ring ticket put) has)

-- a call that is none, alone
unspent-one : (call : Ended) → ((ring ticket : ℕ) (put : Bool) → call ≡ Spent ring ticket put → ⊥) → MeetsNoSpent (call ∷ [])
unspent-one call other ring ticket put has =
    ⊎_elim (λ (h : Contains [] (Spent ring ticket put)). absurd (search rules)) (other ring ticket put)
    (Contains-push_cases [] call (Spent ring ticket put) has)

unspent-got : (ring place : ℕ) (bytes : List ℕ) → MeetsNoSpent (Got ring place bytes ∷ [])
unspent-got ring place bytes = unspent-one (Got ring place bytes) (λ r t p is. absurd (cc))

unspent-done : (ring place : ℕ) (bytes : List ℕ) → MeetsNoSpent (Done ring place bytes ∷ [])
unspent-done ring place bytes = unspent-one (Done ring place bytes) (λ r t p is. absurd (cc))

unspent-nothing : (ring : ℕ) → MeetsNoSpent (Nothing ring ∷ [])
unspent-nothing ring = unspent-one (Nothing ring) (λ r t p is. absurd (cc))

pub unspent-sent : (xs : List Ended) (from ring place : ℕ) (over bytes : List ℕ) → MeetsNoSpent xs
    → MeetsNoSpent ((xs ++ Got 0 from over ∷ []) ++ Done ring place bytes ∷ [])
unspent-sent xs from ring place over bytes was =
    unspent-more (xs ++ Got 0 from over ∷ []) (Done ring place bytes ∷ []) (unspent-more xs (Got 0 from over ∷ []) was (unspent-got 0 from over))
    (unspent-done ring place bytes)

pub unspent-full : (xs : List Ended) → MeetsNoSpent xs → MeetsNoSpent (xs ++ Nothing 0 ∷ [])
unspent-full xs was = unspent-more xs (Nothing 0 ∷ []) was (unspent-nothing 0)

pub unspent-taken : {By : Puts} (xs block : List Ended) → AreTakesFollowed By block → MeetsNoSpent xs → MeetsNoSpent (xs ++ block)
unspent-taken {By} xs block are was = unspent-more xs block was (all block are) where
  all : (calls : List Ended) → AreTakesFollowed By calls → MeetsNoSpent calls
  all calls none = λ ring ticket put has. absurd (search rules)
  all calls (and_got {calls = before} topic place bytes ring back later more by) =
      unspent-more (before ++ Got (suc topic) place bytes ∷ []) (Done ring back later ∷ [])
      (unspent-more before (Got (suc topic) place bytes ∷ []) (all before more) (unspent-got (suc topic) place bytes)) (unspent-done ring back later)
  all calls (and_found_none {calls = before} topic more) = unspent-more before (Nothing (suc topic) ∷ []) (all before more) (unspent-nothing (suc topic))
