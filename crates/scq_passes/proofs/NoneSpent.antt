-- No pass kept a ticket: what the workers began is too little for the limit of any ring.
use Rattle.std.proofs.Common.{◌≡◌, ◌∙◌, sym, arith, zero, suc, ℕ, ◌+◌, ◌*◌, ◌^◌, ◌<◌, ◌≤◌, List, [], ◌∷◌, length, map, get_or, pow_mono}
use Rattle.std.specs.Prelude.{sum_by}
use Rattle.std.specs.List.{All}
use Rattle.std.proofs.Math.Nat.{mul-le-mul}
use Rattle.std.proofs.lemmas.List.{length-map, get_or-map}
use Rattle.std.proofs.lemmas.List.Concat.{length-flat_map}
use Rattle.std.proofs.lemmas.List.Sums.{sum_by-cons, get_or-le-sum_by}
use Rattle.scq_word.specs.declared.setup.Setup.{Setup}
use Rattle.scq_word.specs.Exports.{n_of, reset_value, limit_for, most_order}
use Rattle.scq_core.proofs.Entries.{few_seats}
use Rattle.scq_law.specs.Exports.{tally, was_put}
use Rattle.scq_band.proofs.ClosedCounts.{sum_by-map}
use Rattle.scq_queue.specs.Exports.{sends_of, takes_of, PassStanding, EachTakeIsASend, NoPlaceIsTakenTwice, NoneIsKeptWithinTheLimit}
use Rattle.scq_passes.specs.Exports.{all_sends, all_takes, NoneSpent, IsBounded, HasFewCalls}
use Rattle.scq_passes.proofs.SendsAndTakes.{few-takes}

-- what a get may cost is low
low-factor : (order seats : ℕ) → n_of order ≤ 2 ^ most_order → seats ≤ 4096 → reset_value order seats + 1 + seats ≤ 2 ^ 18
unfolding reset_value
low-factor order seats n_small few = omega arith

-- the limit for so few puts is below 2 ^ 57
few-tickets : (c : Setup) (puts : ℕ) → puts ≤ 2 ^ 38 → limit_for c.order c.seats puts < 2 ^ 57
few-tickets c puts low =
    let n_small : n_of c.order ≤ 2 ^ most_order = pow_mono c.order_in_range.1 in
    let few = few_seats c in
    let factor = low-factor c.order c.seats n_small few in
    let more : puts + n_of c.order + 1 ≤ 2 ^ 38 + 65537 = omega arith in
    let times : (puts + n_of c.order + 1) * (reset_value c.order c.seats + 1 + c.seats) ≤ (2 ^ 38 + 65537) * 2 ^ 18 = mul-le-mul more factor in
    omega arith

-- a sum of numbers, each at most one more than another
pub sums : {A : Type 0} (f g : A → ℕ) (xs : List A) → ((k : ℕ) (d : A) → k < length xs → f (get_or xs k d) ≤ g (get_or xs k d) + 1)
    → sum_by f xs ≤ sum_by g xs + length xs
sums f g [] each = omega arith
sums f g (x ∷ xs) each =
    let here : f x ≤ g x + 1 = each zero x (omega arith) in
    let rest = sums f g xs (λ k d less. each (suc k) d (omega arith)) in
    omega (arith, sum_by-cons f x xs, sum_by-cons g x xs)

pub sums-le : {A : Type 0} (f g : A → ℕ) (xs : List A) → ((k : ℕ) (d : A) → k < length xs → f (get_or xs k d) ≤ g (get_or xs k d)) → sum_by f xs ≤ sum_by g xs
sums-le f g [] each = omega arith
sums-le f g (x ∷ xs) each =
    let here : f x ≤ g x = each zero x (omega arith) in
    let rest = sums-le f g xs (λ k d less. each (suc k) d (omega arith)) in
    omega (arith, sum_by-cons f x xs, sum_by-cons g x xs)

-- no pass met Spent, where so few puts were begun on each ring
pub none-spent-within : {B : Type 0} (c : Setup) (passes : List (PassStanding B)) (puts : ℕ) → c.limit ≡ 2 ^ 60 → puts ≤ 2 ^ 38
    → ((r : ℕ) → r < c.rings → sum_by (tally (was_put r)) (map (λ (p : PassStanding B). p.calls) passes) ≤ puts)
    → NoneIsKeptWithinTheLimit c passes → NoneSpent passes
none-spent-within {B} c passes puts limit low begun limits =
    let enough = few-tickets c puts low in
    let all = limits puts (omega (arith, enough, limit)) begun in
    λ k d less.
    let long = length-map passes (λ (p : PassStanding B). p.spent) in
    sym (get_or-map (λ (p : PassStanding B). p.spent) passes k d d.spent less) ∙ all k d.spent (omega arith)

module _ {B : Type 0} where
  -- the passes of workers, each with how many parts its worker has passed on
  abbrev pub passes_of : List (ℕ × PassStanding B) → List (PassStanding B)
  passes_of works = map (λ (w : ℕ × PassStanding B). w.1) works

  abbrev pub message_count : List (ℕ × PassStanding B) → ℕ
  message_count works = sum_by (λ (w : ℕ × PassStanding B). w.0) works

  abbrev AllHaveFewCalls : List (ℕ × PassStanding B) → Type 0
  AllHaveFewCalls works = All (λ (w : ℕ × PassStanding B). HasFewCalls 1 w.0 w.1) works

  -- all sends are at most as many as all messages, and so are all takes
  few-sends : (works : List (ℕ × PassStanding B)) → AllHaveFewCalls works → length (all_sends (passes_of works)) ≤ message_count works
  few-sends works each =
      let all : length (all_sends (passes_of works)) ≡ sum_by (λ (w : ℕ × PassStanding B). length (sends_of w.1.calls)) works =
      length-flat_map (λ (p : PassStanding B). sends_of p.calls) (passes_of works)
      ∙ sum_by-map (λ (p : PassStanding B). length (sends_of p.calls)) (λ (w : ℕ × PassStanding B). w.1) works in
      let few = sums-le (λ (w : ℕ × PassStanding B). length (sends_of w.1.calls)) (λ (w : ℕ × PassStanding B). w.0) works (λ k d less. (each k d less).sends) in
      omega arith

  all-takes : (works : List (ℕ × PassStanding B))
      → length (all_takes (passes_of works)) ≡ sum_by (λ (w : ℕ × PassStanding B). length (takes_of w.1.calls)) works
  all-takes works =
      length-flat_map (λ (p : PassStanding B). takes_of p.calls) (passes_of works)
      ∙ sum_by-map (λ (p : PassStanding B). length (takes_of p.calls)) (λ (w : ℕ × PassStanding B). w.1) works

  -- the puts that were begun on a ring
  begun-few : (works : List (ℕ × PassStanding B)) → AllHaveFewCalls works → length (all_takes (passes_of works)) ≤ message_count works → (r : ℕ)
      → sum_by (tally (was_put r)) (map (λ (p : PassStanding B). p.calls) (passes_of works)) ≤ message_count works + length works
  begun-few works each takes r =
      let first = sum_by-map (tally (was_put r)) (λ (p : PassStanding B). p.calls) (passes_of works) in
      let all = sum_by-map (λ (p : PassStanding B). tally (was_put r) p.calls) (λ (w : ℕ × PassStanding B). w.1) works in
      let few = by r in
      omega arith where
        by : (r : ℕ) → sum_by (λ (w : ℕ × PassStanding B). tally (was_put r) w.1.calls) works ≤ message_count works + length works
        by zero =
            let these = sums (λ (w : ℕ × PassStanding B). tally (was_put 0) w.1.calls) (λ (w : ℕ × PassStanding B). length (takes_of w.1.calls)) works
            (λ k d less. (each k d less).returns) in
            omega (arith, all-takes works)
        by (suc t) = sums (λ (w : ℕ × PassStanding B). tally (was_put (suc t)) w.1.calls) (λ (w : ℕ × PassStanding B). w.0) works
            (λ k d less. (each k d less).puts t)

  -- no pass met Spent
  pub none-spent : (c : Setup) (works : List (ℕ × PassStanding B)) → c.limit ≡ 2 ^ 60 → length works ≤ c.seats
      → message_count works ≤ 2 ^ 36 → AllHaveFewCalls works → EachTakeIsASend (passes_of works) → NoPlaceIsTakenTwice (passes_of works)
      → NoneIsKeptWithinTheLimit c (passes_of works) → NoneSpent (passes_of works)
  none-spent c works limit workers messages each sent once limits =
      let few = few-takes (passes_of works) sent once in
      let sends = few-sends works each in
      let takes : length (all_takes (passes_of works)) ≤ message_count works = omega arith in
      none-spent-within c (passes_of works) (message_count works + length works) limit (omega (arith, few_seats c)) (λ r low. begun-few works each takes r)
      limits

  -- each pass has few sends, takes and Full replies
  pub all-bounded : (works : List (ℕ × PassStanding B)) (most : ℕ) → message_count works ≤ most → AllHaveFewCalls works → EachTakeIsASend (passes_of works)
      → NoPlaceIsTakenTwice (passes_of works)
      → (k : ℕ) (d : ℕ × PassStanding B) → k < length works → IsBounded most (get_or works k d).1
  all-bounded works most messages each sent once k d less =
      let its = each k d less in
      let sends = its.sends in
      let fulls = its.fulls in
      let mine : (get_or works k d).0 ≤ message_count works = get_or-le-sum_by (λ (w : ℕ × PassStanding B). w.0) works k d less in
      let few = few-takes (passes_of works) sent once in
      let all = few-sends works each in
      let here : length (takes_of (get_or works k d).1.calls) ≤ sum_by (λ (w : ℕ × PassStanding B). length (takes_of w.1.calls)) works =
      get_or-le-sum_by (λ (w : ℕ × PassStanding B). length (takes_of w.1.calls)) works k d less in
      record { sends = omega arith; takes = omega (arith, all-takes works); fulls = omega arith }
