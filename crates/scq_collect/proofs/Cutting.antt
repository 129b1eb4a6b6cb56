-- Answers in order, cut in front of each part 1.
use Rattle.std.proofs.Common.{◌≡◌, ◌≢◌, ◌∙◌, refl, sym, ap, subst, arith, true, false, suc, ℕ, ◌+◌, ◌-◌, ◌<◌, ◌≤◌, Bool, List, [], ◌∷◌, ◌++◌, length, take, drop, cond}
use Rattle.std.specs.Prelude.{◌==◌, slice_index_or}
use Rattle.std.specs.List.{All}
use Rattle.std.proofs.Math.ListN.{drop_of_length-le}
use Rattle.std.proofs.lemmas.Bool.Decides.{nat_tests}
use Rattle.std.proofs.lemmas.List.{drop-drop, get_or-drop, get_or-take, length-drop, length-take-le, map-append, take-append-drop}
use Rattle.std.proofs.lemmas.List.Elements.{All-head, All-map, All-tail}
use Rattle.scq_collect.specs.declared.spots.Spot.{Spot}
use Rattle.scq_collect.specs.Exports.{BeginsMessage, PartAnswer, in_front, messages_in_order, plain, spot_answer}

-- a part that is none of number 1, as a test
is-other : (n : ℕ) → n ≢ 1 → (n == 1) ≡ false
is-other n other = grind (arith, nat_tests)

is-first : (n : ℕ) → n ≡ 1 → (n == 1) ≡ true
is-first n same = grind (arith, nat_tests)

in-front-append : (x : PartAnswer) (gs hs : List (List PartAnswer)) → 0 < length gs → in_front x (gs ++ hs) ≡ in_front x gs ++ hs
in-front-append x [] hs some = absurd (omega arith)
in-front-append x (g ∷ gs) hs some = refl

-- there is a message where there is a part
pub some-message : (x : PartAnswer) (xs : List PartAnswer) → 0 < length (messages_in_order (x ∷ xs))
some-message x [] = omega arith
some-message x (y ∷ ys) = at (y.part == 1) where
  front : (gs : List (List PartAnswer)) → 0 < length (in_front x gs)
  front [] = omega arith
  front (g ∷ gs) = omega arith

  at : (b : Bool) → 0 < length (cond b ((x ∷ []) ∷ messages_in_order (y ∷ ys)) (in_front x (messages_in_order (y ∷ ys))))
  at true = omega arith
  at false = front (messages_in_order (y ∷ ys))

-- where a message begins behind some answers, both are cut alone
pub cut-between : (xs rest : List PartAnswer) → BeginsMessage rest → messages_in_order (xs ++ rest) ≡ messages_in_order xs ++ messages_in_order rest
cut-between [] rest begins = refl
cut-between (x ∷ []) [] begins = refl
cut-between (x ∷ []) (b ∷ more) begins =
    ap (λ t. cond t ((x ∷ []) ∷ messages_in_order (b ∷ more)) (in_front x (messages_in_order (b ∷ more)))) (is-first b.part begins)
cut-between (x ∷ y ∷ ys) rest begins =
    let behind : messages_in_order ((y ∷ ys) ++ rest) ≡ messages_in_order (y ∷ ys) ++ messages_in_order rest = cut-between (y ∷ ys) rest begins in
    ap (λ (gs : List (List PartAnswer)). cond (y.part == 1) ((x ∷ []) ∷ gs) (in_front x gs)) behind ∙ at (y.part == 1) where
      at : (t : Bool) → cond t ((x ∷ []) ∷ (messages_in_order (y ∷ ys) ++ messages_in_order rest)) (in_front x (messages_in_order (y ∷ ys) ++ messages_in_order rest))
          ≡ cond t ((x ∷ []) ∷ messages_in_order (y ∷ ys)) (in_front x (messages_in_order (y ∷ ys))) ++ messages_in_order rest
      at true = refl
      at false = in-front-append x (messages_in_order (y ∷ ys)) (messages_in_order rest) (some-message y ys)

-- an answer and others that begin no message are one message
pub one-message : (x : PartAnswer) (xs : List PartAnswer) → All (λ a. a.part ≢ 1) xs → messages_in_order (x ∷ xs) ≡ (x ∷ xs) ∷ []
one-message x [] others = refl
one-message x (y ∷ ys) others =
    ap (λ t. cond t ((x ∷ []) ∷ messages_in_order (y ∷ ys)) (in_front x (messages_in_order (y ∷ ys))))
    (is-other y.part (All-head (λ (a : PartAnswer). a.part ≢ 1) y ys others))
    ∙ ap (in_front x) (one-message y ys (All-tail (λ (a : PartAnswer). a.part ≢ 1) y ys others))

-- and what follows them, where a message begins there
pub cut-first : (x : PartAnswer) (xs rest : List PartAnswer) → All (λ a. a.part ≢ 1) xs → BeginsMessage rest
    → messages_in_order ((x ∷ xs) ++ rest) ≡ (x ∷ xs) ∷ messages_in_order rest
cut-first x xs rest others begins =
    cut-between (x ∷ xs) rest begins ∙ ap (λ (gs : List (List PartAnswer)). gs ++ messages_in_order rest) (one-message x xs others)

-- there are no more messages than parts
pub few-messages : (xs : List PartAnswer) → length (messages_in_order xs) ≤ length xs
few-messages [] = omega arith
few-messages (x ∷ []) = omega arith
few-messages (x ∷ y ∷ ys) = at (y.part == 1) (few-messages (y ∷ ys)) where
  front : (gs : List (List PartAnswer)) → length gs ≤ length (y ∷ ys) → length (in_front x gs) ≤ length (x ∷ y ∷ ys)
  front [] few = omega arith
  front (g ∷ gs) few = omega (arith, few)

  at : (t : Bool) → length (messages_in_order (y ∷ ys)) ≤ length (y ∷ ys)
      → length (cond t ((x ∷ []) ∷ messages_in_order (y ∷ ys)) (in_front x (messages_in_order (y ∷ ys)))) ≤ length (x ∷ y ∷ ys)
  at true few = omega (arith, few)
  at false few = front (messages_in_order (y ∷ ys)) few

-- members of which only the first begins a message, and others behind them
own-first : (own rest : List Spot) → 0 < length own → ((k : ℕ) (d : Spot) → 0 < k → k < length own → (slice_index_or own k d).part ≢ 1)
    → BeginsMessage (plain rest) → messages_in_order (plain (own ++ rest)) ≡ plain own ∷ messages_in_order (plain rest)
own-first [] rest some others begins = absurd (omega arith)
own-first (m ∷ ms) rest some others begins =
    let answer : Spot → PartAnswer = spot_answer in
    ap messages_in_order (map-append answer (m ∷ ms) rest)
    ∙ cut-first (answer m) (plain ms) (plain rest)
    (All-map (λ (a : PartAnswer). a.part ≢ 1) answer ms (λ k d less. others (suc k) d (omega arith) (omega (arith, less)))) begins

-- what stands behind an end
pub behind-end : {A : Type 0} (xs : List A) (at end : ℕ) → at < end → drop (end - at) (drop at xs) ≡ drop end xs
behind-end xs at end less =
    let same : at + (end - at) ≡ end = omega (arith, less) in
    drop-drop (end - at) at xs ∙ ap (λ (k : ℕ). drop k xs) same

pub message-cut : (xs : List Spot) (at end : ℕ) → at < end → end ≤ length xs
    → ((k : ℕ) (d : Spot) → at + 1 ≤ k → k < end → (slice_index_or xs k d).part ≢ 1) → BeginsMessage (plain (drop end xs))
    → messages_in_order (plain (drop at xs)) ≡ plain (take (end - at) (drop at xs)) ∷ messages_in_order (plain (drop end xs))
message-cut xs at end less within between begins =
    let own = take (end - at) (drop at xs) in
    let rest = behind-end xs at end less in
    let long : length own ≡ end - at = length-take-le (end - at) (drop at xs) (omega (arith, within, less, length-drop at xs)) in
    let others : (k : ℕ) (d : Spot) → 0 < k → k < length own → (slice_index_or own k d).part ≢ 1 = λ k d some short.
    let read : slice_index_or own k d ≡ slice_index_or xs (at + k) d =
    get_or-take (end - at) (drop at xs) k d (omega (arith, short, long)) ∙ get_or-drop at xs k d in
    subst (λ (m : Spot). m.part ≢ 1) (sym read) (between (at + k) d (omega (arith, some)) (omega (arith, short, long, less))) in
    ap (λ (ys : List Spot). messages_in_order (plain ys)) (sym (take-append-drop (end - at) (drop at xs)))
    ∙ own-first own (drop (end - at) (drop at xs)) (omega (arith, long, less)) others (subst (λ (ys : List Spot). BeginsMessage (plain ys)) (sym rest) begins)
    ∙ ap (λ (ys : List Spot). plain own ∷ messages_in_order (plain ys)) rest

-- nothing stands behind the end
pub none-left : (xs : List Spot) (n : ℕ) → length xs ≤ n → drop n xs ≡ []
none-left xs n all = drop_of_length-le xs all
