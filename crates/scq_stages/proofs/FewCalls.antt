-- How much a pass of the stages has begun, as its record grows.
use Rattle.std.proofs.Common.{◌≡◌, ◌∙◌, ap, subst, arith, suc, ℕ, ◌+◌, ◌≤◌, List, [], ◌∷◌, ◌++◌, length, append_assoc, ⊎_elim, true, false}
use Rattle.std.specs.Prelude.{◌⊎◌}
use Rattle.std.proofs.lemmas.List.{length-append}
use Rattle.scq_core.specs.declared.ended.Ended.{Ended}
use Rattle.scq_core.specs.declared.ended.Ended.TheVariants.{Done, Got, Nothing, Spent}
use Rattle.scq_law.specs.Exports.{tally, was_put}
use Rattle.scq_law.proofs.Base.SeatSums.{tally-append}
use Rattle.scq_queue.specs.Exports.{Placed, sends_of, takes_of, PassStanding, HeldStanding, HasGot, WasLent, after_spent_get, after_spent_put}
use Rattle.scq_queue.specs.Exports.{having_seen}
use Rattle.scq_queue.proofs.Records.{sends-append, takes-append}
use Rattle.scq_passes.specs.Exports.{on, HasFoundFull, HasSentSo, after_retire}
use Rattle.scq_passes.proofs.Kept.{taken-calls, full-calls, sent-calls}
use Rattle.scq_passes.proofs.OnTopics.{on-append}
use Rattle.scq_stages.specs.Exports.{first, second, HasTakenOrMoved, HasFewStageCalls}
use Rattle.scq_stages.proofs.Moving.{moves-none_to_first, moves-to_first, moves-to_second, moves-sent, moves-returns}

module _ {B : Type 0} where
  -- calls that begin so few puts, for so many messages more
  pub few_calls-grown : (late more messages : ℕ) (p q : PassStanding B) (block : List Ended) → q.calls ≡ p.calls ++ block
      → length q.fulls ≤ length p.fulls + more → tally (was_put 1) block ≤ more + late → length (on first (sends_of block)) ≤ more
      → tally (was_put 2) block ≤ length (on first (takes_of block)) + late
      → length (sends_of block) ≤ more + length (on first (takes_of block))
      → tally (was_put 0) block ≤ length (takes_of block) + late
      → HasFewStageCalls 0 messages p → HasFewStageCalls late (messages + more) q
  few_calls-grown late more messages p q block calls fulls to_first sent_first to_second sent returns was =
      let puts : (r : ℕ) → tally (was_put r) q.calls ≡ tally (was_put r) p.calls + tally (was_put r) block =
      λ r. ap (tally (was_put r)) calls ∙ tally-append (was_put r) p.calls block in
      let sends : (t : ℕ) → length (on t (sends_of q.calls)) ≡ length (on t (sends_of p.calls)) + length (on t (sends_of block)) =
      λ t. ap (λ l. length (on t (sends_of l))) calls ∙ ap (λ l. length (on t l)) (sends-append p.calls block)
      ∙ ap length (on-append t (sends_of p.calls) (sends_of block)) ∙ length-append (on t (sends_of p.calls)) (on t (sends_of block)) in
      let takes : length (on first (takes_of q.calls)) ≡ length (on first (takes_of p.calls)) + length (on first (takes_of block)) =
      ap (λ l. length (on first (takes_of l))) calls ∙ ap (λ l. length (on first l)) (takes-append p.calls block)
      ∙ ap length (on-append first (takes_of p.calls) (takes_of block)) ∙ length-append (on first (takes_of p.calls)) (on first (takes_of block)) in
      let every : length (sends_of q.calls) ≡ length (sends_of p.calls) + length (sends_of block) =
      ap (λ l. length (sends_of l)) calls ∙ ap length (sends-append p.calls block) ∙ length-append (sends_of p.calls) (sends_of block) in
      let all : length (takes_of q.calls) ≡ length (takes_of p.calls) + length (takes_of block) =
      ap (λ l. length (takes_of l)) calls ∙ ap length (takes-append p.calls block) ∙ length-append (takes_of p.calls) (takes_of block) in
      record {
        fulls = omega (arith, was.fulls, fulls);
        to_first = omega (arith, was.to_first, puts 1, to_first);
        sent_first = omega (arith, was.sent_first, sends first, sent_first);
        to_second = omega (arith, was.to_second, puts 2, to_second, takes);
        sent = omega (arith, was.sent, every, sent, takes);
        returns = omega (arith, was.returns, puts 0, returns, all);
      }

  -- for more messages, and where it met Spent
  pub few_calls-more : (late later few many : ℕ) (p : PassStanding B) → late ≤ later → few ≤ many → HasFewStageCalls late few p
      → HasFewStageCalls later many p
  few_calls-more late later few many p more low was = record {
    fulls = omega (arith, was.fulls, low);
    to_first = omega (arith, was.to_first, more, low);
    sent_first = omega (arith, was.sent_first, low);
    to_second = omega (arith, was.to_second, more);
    sent = omega (arith, was.sent, low);
    returns = omega (arith, was.returns, more);
  }

  pub few_calls-retired : (late messages : ℕ) (p : PassStanding B) → HasFewStageCalls late messages p → HasFewStageCalls late messages (after_retire p)
  few_calls-retired late messages p was = record {
    fulls = was.fulls;
    to_first = was.to_first;
    sent_first = was.sent_first;
    to_second = was.to_second;
    sent = was.sent;
    returns = was.returns;
  }

  -- topics were taken from
  pub few_calls-moved : (messages : ℕ) (p q : PassStanding B) → HasTakenOrMoved p q → HasFewStageCalls 0 messages p → HasFewStageCalls 0 messages q
  few_calls-moved messages p q h was =
      let same : q.fulls ≡ p.fulls = ap (λ (x : PassStanding B). x.fulls) h.pass in
      let none_ = moves-none_to_first h.block h.are in
      few_calls-more 0 0 (messages + 0) messages q (omega arith) (omega arith)
      (few_calls-grown 0 0 messages p q h.block (taken-calls p q h) (omega (arith, ap length same)) (omega (arith, moves-to_first h.block h.are))
      (omega (arith, ap length none_)) (omega (arith, moves-to_second h.block h.are)) (omega (arith, moves-sent h.block h.are))
      (omega (arith, moves-returns h.block h.are)) was)

  -- a message was sent
  pub few_calls-sent : (messages : ℕ) (So : Placed → Type 0) (p q : PassStanding B) → HasSentSo first So p q → HasFewStageCalls 0 messages p
      → HasFewStageCalls 0 (messages + 1) q
  few_calls-sent messages So p q h was =
      let got : List Ended = Got 0 h.from h.over ∷ [] in
      let put : List Ended = Done 1 h.place h.bytes ∷ [] in
      let same : q.fulls ≡ p.fulls = ap (λ (x : PassStanding B). x.fulls) h.pass in
      few_calls-grown 0 1 messages p q (got ++ put) (sent-calls first So p q h ∙ append_assoc p.calls got put) (omega (arith, ap length same))
      (omega arith) (omega arith) (omega arith) (omega arith) (omega arith) was

  -- no buffer was free
  pub few_calls-full : (messages head : ℕ) (p q : PassStanding B) → HasFoundFull head p q → HasFewStageCalls 0 messages p → HasFewStageCalls 0 (messages + 1) q
  few_calls-full messages head p q h was =
      let fulls : length q.fulls ≡ length p.fulls + 1 = ap (λ (x : PassStanding B). length x.fulls) h.pass ∙ length-append p.fulls (head ∷ []) in
      few_calls-grown 0 1 messages p q (Nothing 0 ∷ []) (full-calls head p q h) (omega (arith, fulls))
      (omega arith) (omega arith) (omega arith) (omega arith) (omega arith) was

  -- a get met Spent
  pub few_calls-at_get : (messages ring ticket : ℕ) (p q : PassStanding B) → q ≡ having_seen q.seen (after_spent_get ring ticket p)
      → HasFewStageCalls 0 messages p → HasFewStageCalls 1 messages q
  few_calls-at_get messages ring ticket p q is was =
      let fulls : q.fulls ≡ p.fulls = ap (λ (x : PassStanding B). x.fulls) is in
      few_calls-more 1 1 (messages + 0) messages q (omega arith) (omega arith)
      (few_calls-grown 1 0 messages p q (Spent ring ticket false ∷ []) (ap (λ (x : PassStanding B). x.calls) is) (omega (arith, ap length fulls))
      (omega arith) (omega arith) (omega arith) (omega arith) (omega arith) was)

  -- a put of what was taken met Spent: a return, or a move
  pub few_calls-at_put : (contents : B → List ℕ) (messages topic place to ticket : ℕ) (p q r : PassStanding B) (h : HeldStanding B)
      → HasGot contents (suc topic) place p q h → r ≡ having_seen r.seen (after_spent_put to ticket q) → (to ≡ 0) ⊎ (to ≡ suc second)
      → HasFewStageCalls 0 messages p → HasFewStageCalls 1 messages r
  few_calls-at_put contents messages topic place to ticket p q r h got is by was =
      let first_ : List Ended = Got (suc topic) place (contents h.buffer) ∷ [] in
      let last : ℕ → List Ended = λ ring. Spent ring ticket true ∷ [] in
      let before : q.calls ≡ p.calls ++ first_ = ap (λ (x : PassStanding B). x.calls) got.pass in
      let calls : r.calls ≡ p.calls ++ (first_ ++ last to) =
      ap (λ (x : PassStanding B). x.calls) is ∙ ap (λ l. l ++ last to) before ∙ append_assoc p.calls first_ (last to) in
      let fulls : r.fulls ≡ p.fulls = ap (λ (x : PassStanding B). x.fulls) is ∙ ap (λ (x : PassStanding B). x.fulls) got.pass in
      let G : ℕ → Type 0 = λ ring. r.calls ≡ p.calls ++ (first_ ++ last ring) in
      few_calls-more 1 1 (messages + 0) messages r (omega arith) (omega arith)
      (⊎_elim (λ (free : to ≡ 0).
      few_calls-grown 1 0 messages p r (first_ ++ last 0) (subst G free calls) (omega (arith, ap length fulls))
      (omega arith) (omega arith) (omega arith) (omega arith) (omega arith) was)
      (λ (moved : to ≡ suc second).
      few_calls-grown 1 0 messages p r (first_ ++ last 2) (subst G moved calls) (omega (arith, ap length fulls))
      (omega arith) (omega arith) (omega arith) (omega arith) (omega arith) was)
      by)

  -- the send of what was lent met Spent
  pub few_calls-at_send : (contents : B → List ℕ) (messages ticket : ℕ) (p q r : PassStanding B) (h : HeldStanding B)
      → WasLent contents p q h → r ≡ having_seen r.seen (after_spent_put 1 ticket q) → HasFewStageCalls 0 messages p → HasFewStageCalls 1 (messages + 1) r
  few_calls-at_send contents messages ticket p q r h lent is was =
      let first_ : List Ended = Got 0 lent.place (contents h.buffer) ∷ [] in
      let last : List Ended = Spent 1 ticket true ∷ [] in
      let before : q.calls ≡ p.calls ++ first_ = ap (λ (x : PassStanding B). x.calls) lent.got.pass in
      let calls : r.calls ≡ p.calls ++ (first_ ++ last) =
      ap (λ (x : PassStanding B). x.calls) is ∙ ap (λ l. l ++ last) before ∙ append_assoc p.calls first_ last in
      let fulls : r.fulls ≡ p.fulls = ap (λ (x : PassStanding B). x.fulls) is ∙ ap (λ (x : PassStanding B). x.fulls) lent.got.pass in
      few_calls-grown 1 1 messages p r (first_ ++ last) calls (omega (arith, ap length fulls))
      (omega arith) (omega arith) (omega arith) (omega arith) (omega arith) was
