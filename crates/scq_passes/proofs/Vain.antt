-- How often a pass took in vain, and that it took something, by the calls that stand behind its record.
use Rattle.std.proofs.Common.{◌≡◌, ◌∙◌, ap, arith, suc, ℕ, ◌+◌, ◌*◌, ◌≤◌, List, [], ◌∷◌, ◌++◌, length}
use Rattle.std.proofs.Math.Nat.{mul-le-mul_left, mul-add}
use Rattle.std.proofs.lemmas.List.{length-append}
use Rattle.std.proofs.lemmas.List.Sums.{sum_by-append}
use Rattle.scq_core.specs.declared.ended.Ended.{Ended}
use Rattle.scq_core.specs.declared.ended.Ended.TheVariants.{Done, Got, Nothing}
use Rattle.scq_queue.specs.Exports.{Placed, sends_of, takes_of, PassStanding, HeldStanding, HasGot, WasGivenBack}
use Rattle.scq_queue.proofs.Records.{sends-append, takes-append}
use Rattle.scq_passes.specs.Exports.{Puts, HasTakenFollowed, HasSentSo, HasFoundFull, vain_takes, TookInVain, TookMore, HelpsInVain, SweepsInVain}
use Rattle.scq_passes.proofs.Kept.{taken-calls, sent-calls, sent-sends, placed, full-sends}

-- one call more
pub vain-more : (calls : List Ended) (call : Ended) → vain_takes (calls ++ call ∷ []) ≡ vain_takes calls + vain_takes (call ∷ [])
vain-more calls call = sum_by-append _ calls (call ∷ [])

-- so many more are paid for by one more of what they are counted by, beside what is paid for otherwise
paid-for : (t k more beside n later then_beside : ℕ) → n ≤ t * k + beside → later ≤ n + t → k + 1 ≤ more → beside ≤ then_beside
    → later ≤ t * more + then_beside
paid-for t k more beside n later then_beside was few up rise =
    let least : t * (k + 1) ≤ t * more = mul-le-mul_left t up in
    let one : t * (k + 1) ≡ t * k + t * 1 = mul-add t k 1 in
    omega (arith, was, few, least, one, rise)

module _ {B : Type 0} where
  -- a take that found nothing
  pub vain-none : (topic : ℕ) (p q : PassStanding B) → q.calls ≡ p.calls ++ Nothing (suc topic) ∷ [] → TookInVain 1 p q
  vain-none topic p q is = let all = ap vain_takes is ∙ vain-more p.calls (Nothing (suc topic)) in omega (arith, all)

  -- a take that got something, and gave it back
  pub vain-got : (contents : B → List ℕ) (topic place : ℕ) (later : List ℕ) (p q r : PassStanding B) (h : HeldStanding B)
      → HasGot contents (suc topic) place p q h → WasGivenBack later h.index q r → TookInVain 0 p r × TookMore p r
  vain-got contents topic place later p q r h got back =
      let first = Got (suc topic) place (contents h.buffer) in
      let last = Done 0 back.place later in
      let calls : r.calls ≡ (p.calls ++ first ∷ []) ++ last ∷ [] =
      ap (λ (x : PassStanding B). x.calls) back.pass ∙ ap (λ (x : PassStanding B). x.calls ++ last ∷ []) got.pass in
      let all = ap vain_takes calls ∙ vain-more (p.calls ++ first ∷ []) last in
      let before = vain-more p.calls first in
      let takes = ap (λ (l : List Ended). length (takes_of l)) calls ∙ ap length (takes-append (p.calls ++ first ∷ []) (last ∷ []))
      ∙ length-append (takes_of (p.calls ++ first ∷ [])) (takes_of (last ∷ [])) in
      let more = ap length (takes-append p.calls (first ∷ [])) ∙ length-append (takes_of p.calls) (takes_of (first ∷ [])) in
      (omega (arith, all, before), omega (arith, takes, more))

  -- takes of topics take nothing off the list of takes
  pub takes-rise : {By : Puts} (p q : PassStanding B) → HasTakenFollowed By p q → length (takes_of p.calls) ≤ length (takes_of q.calls)
  takes-rise p q h =
      let all = ap (λ (l : List Ended). length (takes_of l)) (taken-calls p q h) ∙ ap length (takes-append p.calls h.block)
      ∙ length-append (takes_of p.calls) (takes_of h.block) in
      omega (arith, all)

  -- nor off that of its sends
  pub sends-rise : {By : Puts} (p q : PassStanding B) → HasTakenFollowed By p q → length (sends_of p.calls) ≤ length (sends_of q.calls)
  sends-rise p q h =
      let all = ap (λ (l : List Ended). length (sends_of l)) (taken-calls p q h) ∙ ap length (sends-append p.calls h.block)
      ∙ length-append (sends_of p.calls) (sends_of h.block) in
      omega (arith, all)

  -- a sweep adds one vain take of each topic. What was taken before it, and how often the worker rested, pays for that
  pub vain-swept : (topics behind begun rests then_begun then_rests : ℕ) (p q r : PassStanding B) → q.calls ≡ p.calls → q.fulls ≡ p.fulls → r.fulls ≡ q.fulls
      → TookInVain topics q r → length (sends_of q.calls) ≤ length (sends_of r.calls)
      → begun + rests + length (takes_of p.calls) + 1 ≤ then_begun + then_rests + length (takes_of r.calls)
      → SweepsInVain topics behind begun rests p → SweepsInVain topics behind then_begun then_rests r
  vain-swept topics behind begun rests then_begun then_rests p q r calls fulls same few sends paid was =
      let before = begun + rests + length (takes_of p.calls) + length p.fulls in
      let after = then_begun + then_rests + length (takes_of r.calls) + length r.fulls in
      let full = ap length (same ∙ fulls) in
      let old = ap vain_takes calls in
      let many = ap (λ (l : List Ended). length (sends_of l)) calls in
      let sent : behind * length (sends_of p.calls) ≤ behind * length (sends_of r.calls) = mul-le-mul_left behind (omega (arith, sends, many)) in
      paid-for topics before after (behind * length (sends_of p.calls)) (vain_takes p.calls) (vain_takes r.calls) (behind * length (sends_of r.calls))
      was (omega (arith, few, old)) (omega (arith, paid, full)) sent

  -- what it took in vain while it read its files is paid for as in its sweeps
  pub sweeps-begin : (topics behind rests : ℕ) (p : PassStanding B) → HelpsInVain topics behind p → SweepsInVain topics behind 0 rests p
  sweeps-begin topics behind rests p helps =
      let more : topics * length p.fulls ≤ topics * (0 + rests + length (takes_of p.calls) + length p.fulls) = mul-le-mul_left topics (omega arith) in
      omega (arith, helps, more)

  -- it found no buffer free, and helped
  pub vain-helped : (topics behind head : ℕ) (p q r : PassStanding B) → HasFoundFull head p q → TookInVain topics q r → r.fulls ≡ q.fulls
      → sends_of r.calls ≡ sends_of q.calls → HelpsInVain topics behind p → HelpsInVain topics behind r
  vain-helped topics behind head p q r full took same sends was =
      let calls : q.calls ≡ p.calls ++ Nothing 0 ∷ [] = ap (λ (x : PassStanding B). x.calls) full.pass in
      let all = ap vain_takes calls ∙ vain-more p.calls (Nothing 0) in
      let long = ap length (same ∙ ap (λ (x : PassStanding B). x.fulls) full.pass) ∙ length-append p.fulls (head ∷ []) in
      let sent : behind * length (sends_of r.calls) ≡ behind * length (sends_of p.calls) =
      ap (λ (l : List Placed). behind * length l) (sends ∙ full-sends head p q full) in
      paid-for topics (length p.fulls) (length r.fulls) (behind * length (sends_of p.calls)) (vain_takes p.calls) (vain_takes r.calls)
      (behind * length (sends_of r.calls)) was (omega (arith, took, all)) (omega (arith, long)) (omega (arith, sent))

  -- it sent, and took behind that in vain at most so often
  pub vain-behind : (topics behind topic : ℕ) (So : Placed → Type 0) (p q r : PassStanding B) → HasSentSo topic So p q → TookInVain behind q r
      → r.fulls ≡ q.fulls → sends_of r.calls ≡ sends_of q.calls → HelpsInVain topics behind p → HelpsInVain topics behind r
  vain-behind topics behind topic So p q r h took same sends was =
      let first = Got 0 h.from h.over in
      let last = Done (suc topic) h.place h.bytes in
      let calls : q.calls ≡ (p.calls ++ first ∷ []) ++ last ∷ [] = sent-calls topic So p q h in
      let all = ap vain_takes calls ∙ vain-more (p.calls ++ first ∷ []) last in
      let before = vain-more p.calls first in
      let fulls : topics * length r.fulls ≡ topics * length p.fulls =
      ap (λ (l : List ℕ). topics * length l) (same ∙ ap (λ (x : PassStanding B). x.fulls) h.pass) in
      let many : length (sends_of r.calls) ≡ length (sends_of p.calls) + 1 =
      ap length (sends ∙ sent-sends topic So p q h) ∙ length-append (sends_of p.calls) (placed topic So p q h ∷ []) in
      let more : behind * length (sends_of r.calls) ≡ behind * length (sends_of p.calls) + behind * 1 =
      ap (λ (k : ℕ). behind * k) many ∙ mul-add behind (length (sends_of p.calls)) 1 in
      omega (arith, was, took, all, before, fulls, more)
