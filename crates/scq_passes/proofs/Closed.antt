-- A queue is closed: what its `close` says of the passes, and what each pass says, is what all passes shared.
use Rattle.std.proofs.Common.{◌≡◌, refl, ◌∙◌, ap, subst, arith, zero, suc, ℕ, ◌+◌, ◌<◌, List, [], ◌∷◌, length, map, Some}
use Rattle.std.specs.Prelude.{slice_get, slice_index, sum}
use Rattle.std.specs.List.{All}
use Rattle.std.proofs.lemmas.List.Sums.{sum_by-cons}
use Rattle.scq_word.specs.declared.setup.Setup.{Setup}
use Rattle.scq_word.specs.Exports.{n_of}
use Rattle.scq_band.specs.Exports.{opening_of, AreTheSame, IsOneRunToTheEnd, Identity}
use Rattle.scq_queue.specs.Exports.{all_held, callers_of, records_of, PassStanding, HeldStanding}
use Rattle.scq_passes.specs.Exports.{HaveShared, HasClosed, HoldsNothingAtEachFull, MeetsNoSpent, SendsAreTakes, NothingIsLeft, NoneSpent, IsBounded}
use Rattle.scq_passes.specs.Exports.{HasSwept}
use Rattle.scq_passes.proofs.SendsAndTakes.{sends-are-takes, no-place-twice, nothing-is-left}

-- numbers of which each is 0 have the sum 0, and where all others are, the first is the sum
sum-none : (xs : List ℕ) → ((k : ℕ) → k < length xs → slice_index xs k ≡ 0) → sum xs ≡ 0
sum-none [] each = refl
sum-none (x ∷ xs) each =
    let all : sum (x ∷ xs) ≡ x + sum xs = sum_by-cons (λ (n : ℕ). n) x xs in
    let here : x ≡ 0 = each zero (omega arith) in
    let rest = sum-none xs (λ k less. each (suc k) (omega arith)) in
    omega (arith, all)

first-alone : (left : List ℕ) (topics : ℕ) → length left ≡ topics + 1 → NothingIsLeft topics left → slice_index left 0 ≡ sum left
first-alone [] topics long none = refl
first-alone (x ∷ xs) topics long none =
    let all : sum (x ∷ xs) ≡ x + sum xs = sum_by-cons (λ (n : ℕ). n) x xs in
    let rest = sum-none xs (λ k less. none k (omega (arith, long, less))) in
    omega (arith, all)

-- where no value is held, all are left
sum-alone : {H : Type 0} (left : List ℕ) (n : ℕ) (held : List H) → held ≡ [] → sum left + length held ≡ n → sum left ≡ n
sum-alone left n held none all = omega (arith, ap length none, all)

module _ {B : Type 0} {contents : B → List ℕ} {IsSameBuffer : B → B → Type 0} {buffers : List B} (c : Setup) (given : List B) (passes : List (PassStanding B))
    (held : List (HeldStanding B)) (left : List ℕ) (closed : HasClosed contents IsSameBuffer c given passes held buffers left) where
  -- where each has swept, the takes are the sends
  pub all-taken : All HasSwept passes → SendsAreTakes passes
  all-taken swept = sends-are-takes passes closed.sent.takes closed.sent.taken_once closed.sent.sent_once closed.sent.passed swept

  -- what all passes shared
  pub have-shared : (Each : PassStanding B → Type 0) (most topics : ℕ) (shared : Identity B) → shared.setup ≡ c → given ≡ shared.given → c.rings ≡ topics + 1
      → All (λ p. p.queue ≡ shared) passes
      → ((w : ℕ) (p : PassStanding B) → slice_get passes w ≡ Some p → p.number ≡ w) → NoneSpent passes → All HasSwept passes
      → All (λ p. HoldsNothingAtEachFull p.calls) passes → All Each passes → All (λ p. MeetsNoSpent p.calls) passes → All (IsBounded most) passes → held ≡ []
      → HaveShared contents IsSameBuffer Each most topics c passes buffers left
  have-shared Each most topics shared setup same_given rings queues numbers unspent swept alone each no_spent bounded none =
      let same = all-taken swept in
      let nothing : NothingIsLeft topics left = nothing-is-left c passes topics left rings closed.sent.balance same in
      record {
        one = (shared, setup, queues);
        numbers = numbers;
        run = subst (λ (bs : List B). IsOneRunToTheEnd c (opening_of contents bs) (callers_of passes) (records_of passes) (all_held passes)
            (map contents buffers)) same_given closed.run;
        back = subst (λ (bs : List B). AreTheSame IsSameBuffer bs buffers) same_given closed.back;
        alone = alone;
        fulls = closed.sent.fulls;
        each = each;
        unspent = unspent;
        no_spent = no_spent;
        same = same;
        places = no-place-twice passes closed.sent.sent_once;
        balance = closed.sent.balance;
        none_left = nothing;
        free = first-alone left topics (closed.sent.balance.rings ∙ rings) nothing ∙ sum-alone left (n_of c.order) held none closed.all_there;
        bounded = bounded;
      }
