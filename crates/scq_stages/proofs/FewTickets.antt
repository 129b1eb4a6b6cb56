-- No pass kept a ticket: what the workers began is too little for the limit of any ring. Plan: the sends to first are at most the messages, so the takes of
-- first are; all sends are at most the messages and the takes of first, so all takes are.
use Rattle.std.proofs.Common.{◌≡◌, ◌∙◌, ap, arith, zero, suc, ℕ, ◌+◌, ◌^◌, ◌<◌, ◌≤◌, List, [], ◌∷◌, length, map, get_or}
use Rattle.std.specs.Prelude.{sum_by}
use Rattle.std.specs.List.{All}
use Rattle.std.proofs.lemmas.List.Concat.{length-flat_map}
use Rattle.std.proofs.lemmas.List.Sums.{sum_by-cons, get_or-le-sum_by}
use Rattle.scq_word.specs.declared.setup.Setup.{Setup}
use Rattle.scq_core.proofs.Entries.{few_seats}
use Rattle.scq_law.specs.Exports.{tally, was_put}
use Rattle.scq_band.proofs.ClosedCounts.{sum_by-map}
use Rattle.scq_queue.specs.Exports.{sends_of, takes_of, PassStanding, EachTakeIsASend, NoPlaceIsTakenTwice, NoneIsKeptWithinTheLimit}
use Rattle.scq_passes.specs.Exports.{on, all_sends, all_takes, NoneSpent, IsBounded}
use Rattle.scq_passes.proofs.NoneSpent.{message_count, none-spent-within, passes_of, sums, sums-le}
use Rattle.scq_passes.proofs.OnTopics.{few-takes-on, on-all}
use Rattle.scq_passes.proofs.SendsAndTakes.{few-takes}
use Rattle.scq_stages.specs.Exports.{first, HasFewStageCalls}

-- a sum of numbers, each at most two others together
sums-both : {A : Type 0} (f g h : A → ℕ) (xs : List A)
    → ((k : ℕ) (d : A) → k < length xs → f (get_or xs k d) ≤ g (get_or xs k d) + h (get_or xs k d)) → sum_by f xs ≤ sum_by g xs + sum_by h xs
sums-both f g h [] each = omega arith
sums-both f g h (x ∷ xs) each =
    let here : f x ≤ g x + h x = each zero x (omega arith) in
    let rest = sums-both f g h xs (λ k d less. each (suc k) d (omega arith)) in
    omega (arith, sum_by-cons f x xs, sum_by-cons g x xs, sum_by-cons h x xs)

module _ {B : Type 0} where
  -- of a worker, each with how many messages it has passed on: its takes of first, and all of its
  abbrev firsts_of : ℕ × PassStanding B → ℕ
  firsts_of w = length (on first (takes_of w.1.calls))

  abbrev takes_by : ℕ × PassStanding B → ℕ
  takes_by w = length (takes_of w.1.calls)

  abbrev sends_by : ℕ × PassStanding B → ℕ
  sends_by w = length (sends_of w.1.calls)

  abbrev begun_by : ℕ → ℕ × PassStanding B → ℕ
  begun_by r w = tally (was_put r) w.1.calls

  first-takes : (works : List (ℕ × PassStanding B)) → length (on first (all_takes (passes_of works))) ≡ sum_by firsts_of works
  first-takes works =
      ap length (on-all first (λ (p : PassStanding B). takes_of p.calls) (passes_of works))
      ∙ length-flat_map (λ (p : PassStanding B). on first (takes_of p.calls)) (passes_of works)
      ∙ sum_by-map (λ (p : PassStanding B). length (on first (takes_of p.calls))) (λ (w : ℕ × PassStanding B). w.1) works

  all-takes : (works : List (ℕ × PassStanding B)) → length (all_takes (passes_of works)) ≡ sum_by takes_by works
  all-takes works =
      length-flat_map (λ (p : PassStanding B). takes_of p.calls) (passes_of works)
      ∙ sum_by-map (λ (p : PassStanding B). length (takes_of p.calls)) (λ (w : ℕ × PassStanding B). w.1) works

  all-sends : (works : List (ℕ × PassStanding B)) → length (all_sends (passes_of works)) ≡ sum_by sends_by works
  all-sends works =
      length-flat_map (λ (p : PassStanding B). sends_of p.calls) (passes_of works)
      ∙ sum_by-map (λ (p : PassStanding B). length (sends_of p.calls)) (λ (w : ℕ × PassStanding B). w.1) works

  module _ (works : List (ℕ × PassStanding B)) (each : All (λ (w : ℕ × PassStanding B). HasFewStageCalls 1 w.0 w.1) works)
      (sent : EachTakeIsASend (passes_of works)) (once : NoPlaceIsTakenTwice (passes_of works)) where
    -- the takes of first are at most as many as the messages
    few-firsts : sum_by firsts_of works ≤ message_count works
    few-firsts =
        let sends : length (on first (all_sends (passes_of works))) ≡ sum_by (λ (w : ℕ × PassStanding B). length (on first (sends_of w.1.calls))) works =
        ap length (on-all first (λ (p : PassStanding B). sends_of p.calls) (passes_of works))
        ∙ length-flat_map (λ (p : PassStanding B). on first (sends_of p.calls)) (passes_of works)
        ∙ sum_by-map (λ (p : PassStanding B). length (on first (sends_of p.calls))) (λ (w : ℕ × PassStanding B). w.1) works in
        let few = sums-le (λ (w : ℕ × PassStanding B). length (on first (sends_of w.1.calls))) (λ (w : ℕ × PassStanding B). w.0) works
        (λ k d less. (each k d less).sent_first) in
        let taken = few-takes-on (passes_of works) sent once first in
        omega (arith, sends, few, taken, first-takes works)

    -- and all takes at most twice as many
    few-in-all : sum_by takes_by works ≤ message_count works + message_count works
    few-in-all =
        let few = sums-both sends_by (λ (w : ℕ × PassStanding B). w.0) firsts_of works (λ k d less. (each k d less).sent) in
        let taken = few-takes (passes_of works) sent once in
        omega (arith, few, taken, few-firsts, all-takes works, all-sends works)

    -- so are the puts that were begun on a ring, with one more of each worker
    begun-few : (r : ℕ) → r < 3
        → sum_by (tally (was_put r)) (map (λ (p : PassStanding B). p.calls) (passes_of works)) ≤ message_count works + message_count works + length works
    begun-few r low =
        let records = sum_by-map (tally (was_put r)) (λ (p : PassStanding B). p.calls) (passes_of works) in
        let all = sum_by-map (λ (p : PassStanding B). tally (was_put r) p.calls) (λ (w : ℕ × PassStanding B). w.1) works in
        let few = by r low in
        omega arith where
          by : (r : ℕ) → r < 3 → sum_by (begun_by r) works ≤ message_count works + message_count works + length works
          by zero low = let these = sums (begun_by 0) takes_by works (λ k d less. (each k d less).returns) in omega (arith, few-in-all)
          by (suc zero) low = let these = sums (begun_by 1) (λ (w : ℕ × PassStanding B). w.0) works (λ k d less. (each k d less).to_first) in omega arith
          by (suc (suc zero)) low =
              let these = sums (begun_by 2) firsts_of works (λ k d less. (each k d less).to_second) in omega (arith, few-firsts)
          by (suc (suc (suc r))) low = absurd (omega arith)

    -- no pass met Spent
    pub none-spent : (c : Setup) → c.limit ≡ 2 ^ 60 → c.rings ≡ 3 → length works ≤ c.seats → message_count works ≤ 2 ^ 36
        → NoneIsKeptWithinTheLimit c (passes_of works) → NoneSpent (passes_of works)
    none-spent c limit rings workers messages limits =
        none-spent-within c (passes_of works) (message_count works + message_count works + length works) limit (omega (arith, few_seats c))
        (λ r low. begun-few r (omega arith)) limits

    -- each pass has few sends, takes and Full replies
    pub all-bounded : message_count works ≤ 2 ^ 36 → (k : ℕ) (d : ℕ × PassStanding B) → k < length works → IsBounded (2 ^ 37) (get_or works k d).1
    all-bounded messages k d less =
        let its = each k d less in
        let sends = its.sent in
        let fulls = its.fulls in
        let mine : (get_or works k d).0 ≤ message_count works = get_or-le-sum_by (λ (w : ℕ × PassStanding B). w.0) works k d less in
        let firsts : length (on first (takes_of (get_or works k d).1.calls)) ≤ sum_by firsts_of works = get_or-le-sum_by firsts_of works k d less in
        let takes : length (takes_of (get_or works k d).1.calls) ≤ sum_by takes_by works = get_or-le-sum_by takes_by works k d less in
        let few = few-firsts in
        let all = few-in-all in
        record { sends = omega arith; takes = omega arith; fulls = omega arith }
