-- The last pass of a new queue, taken from behind the others, which hold nothing.
use Rattle.std.proofs.Common.{◌≡◌, ℕ, zero, suc, ◌≤◌, List, [], ◌∷◌, ◌++◌, length, refl, sym, ◌∙◌, ap, subst, arith}
use Rattle.std.specs.Prelude.{sum_by, All}
use Rattle.std.proofs.lemmas.List.{length-append}
use Rattle.std.proofs.lemmas.List.Elements.{All-push}
use Rattle.std.proofs.lemmas.List.Sums.{sum_by_push}
use Rattle.scq_law.specs.Exports.{times}
use Rattle.scq_band.specs.Exports.{Identity}
use Rattle.scq_queue.specs.Exports.{PassStanding, HeldStanding, first_pass, first_passes, AreTheHeld}
use Rattle.scq_queue.specs.HoldsJust.{HoldsJust}
use Rattle.scq_queue.proofs.HeldOnce.{held_alone}
use Rattle.scq_queue.proofs.NewPasses.{as_many_passes, all_own}

-- two lists that end in an element each
snoc-parts : {A : Type 0} (xs ys : List A) (a b : A) → xs ++ a ∷ [] ≡ ys ++ b ∷ [] → (xs ≡ ys) × (a ≡ b)
snoc-parts [] [] a b e = (refl, cc)
snoc-parts [] (y ∷ ys) a b e = let n = ap length e in absurd (omega (arith, length-append ys (b ∷ [])))
snoc-parts (x ∷ xs) [] a b e = let n = ap length e in absurd (omega (arith, length-append xs (a ∷ [])))
snoc-parts (x ∷ xs) (y ∷ ys) a b e =
    let tails : xs ++ a ∷ [] ≡ ys ++ b ∷ [] = cc in
    let head : x ≡ y = cc in
    let parts = snoc-parts xs ys a b tails in
    (ap (λ (z : _). z ∷ xs) head ∙ ap (λ zs. y ∷ zs) parts.0, parts.1)

module _ {B : Type 0} where
  -- the last of the passes that a new queue has, and those before it
  pub record IsLast (queue : Identity B) (idle : List (PassStanding B)) (p : PassStanding B) : Type 0 where
    pub others : ℕ
    pub before : idle ≡ first_passes queue others
    pub last : p ≡ first_pass queue others

  pub last_pass : (queue : Identity B) (n : ℕ) (idle : List (PassStanding B)) (p : PassStanding B) → 1 ≤ n → idle ++ p ∷ [] ≡ first_passes queue n
      → IsLast queue idle p
  last_pass queue zero idle p some e = absurd (omega (arith, some))
  last_pass queue (suc k) idle p some e =
      let both = snoc-parts idle (first_passes queue k) p (first_pass queue k) e in
      record {
        others = k;
        before = both.0;
        last = both.1;
      }

  -- where it comes back there are as many again
  pub as_many : (queue : Identity B) (n : ℕ) (idle : List (PassStanding B)) (old new : PassStanding B) → idle ++ old ∷ [] ≡ first_passes queue n
      → length (idle ++ new ∷ []) ≡ n
  as_many queue n idle old new e =
      let after = length-append idle (new ∷ []) in
      let before = length-append idle (old ∷ []) in
      let same = ap length e in
      let all = as_many_passes queue n in
      omega (arith, after, before, same, all)

  pub holds_none : (queue : Identity B) (idle : List (PassStanding B)) (p : PassStanding B) → IsLast queue idle p → HoldsJust queue p []
  holds_none queue idle p is =
      let new : HoldsJust queue (first_pass queue is.others) [] =
      record {
        own = refl;
        awake = refl;
        same = refl;
        all = tt;
        once = λ i. omega arith;
      } in
      subst (λ (q : PassStanding B). HoldsJust queue q []) (sym is.last) new

  pub own_all : (queue : Identity B) (idle : List (PassStanding B)) (old new : PassStanding B) (values : List (HeldStanding B)) → IsLast queue idle old
      → HoldsJust queue new values → All (λ (p : PassStanding B). p.queue ≡ queue) (idle ++ new ∷ [])
  own_all queue idle old new values is now =
      All-push (λ (p : PassStanding B). p.queue ≡ queue) idle new
      (subst (λ (l : List (PassStanding B)). All (λ (p : PassStanding B). p.queue ≡ queue) l) (sym is.before) (all_own queue is.others)) now.own

  none_before : (queue : Identity B) (i k : ℕ) → sum_by (λ (p : PassStanding B). times i p.held) (first_passes queue k) ≡ 0
  none_before queue i zero = refl
  none_before queue i (suc k) =
      let both = sum_by_push (λ (p : PassStanding B). times i p.held) (first_passes queue k) (first_pass queue k) in
      let rest = none_before queue i k in
      omega (arith, both, rest)

  -- what the last holds is all that is held
  pub held_last : (queue : Identity B) (idle : List (PassStanding B)) (old new : PassStanding B) (values : List (HeldStanding B)) → IsLast queue idle old
      → HoldsJust queue new values → AreTheHeld queue (idle ++ new ∷ []) values
  held_last queue idle old new values is now =
      let alone = held_alone queue new values now in
      record {
        queue_of = alone.queue_of;
        all =
            λ i.
            let both = sum_by_push (λ (p : PassStanding B). times i p.held) idle new in
            let none : sum_by (λ (p : PassStanding B). times i p.held) idle ≡ 0 =
            ap (λ (l : List (PassStanding B)). sum_by (λ (p : PassStanding B). times i p.held) l) is.before ∙ none_before queue i is.others in
            let mine = ap (times i) now.same in
            omega (arith, both, none, mine);
      }
