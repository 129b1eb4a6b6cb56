-- A worker that met Spent: how little it had begun, and what it keeps.
use Rattle.std.proofs.Common.{◌≡◌, sym, ◌∙◌, ap, subst, arith, suc, ℕ, ◌+◌, ◌≤◌, List, [], ◌∷◌, ◌++◌, length, Option, Some, None, true, false}
use Rattle.std.specs.Prelude.{◌==◌, if◌then◌else◌, IfSome}
use Rattle.std.proofs.lemmas.List.{append-nil, length-append}
use Rattle.scq_core.specs.declared.ended.Ended.{Ended}
use Rattle.scq_core.specs.declared.ended.Ended.TheVariants.{Got, Spent}
use Rattle.scq_law.specs.Exports.{tally, was_put}
use Rattle.scq_law.proofs.Base.SeatSums.{tally-append}
use Rattle.scq_queue.specs.Exports.{sends_of, takes_of, PassStanding, HeldStanding, HasGot, WasLent, after_spent_get, after_spent_put, having_seen}
use Rattle.scq_passes.specs.Exports.{Puts, HasTakenFollowed, HasTaken, HasFoundFull, HasLeftSo, HasLeft, HasFewCalls, index_of}
use Rattle.scq_queue.proofs.Records.{sends-append, takes-append}
use Rattle.scq_passes.proofs.Kept.{at_most, few_calls-taken, few_calls-full}

-- a put that met Spent is at most one on a ring
few : (ring r : ℕ) → (if ring == r then 1 else 0) + 0 ≤ 1
few ring r = at_most (ring == r)

-- whatever is said of how much it begins
module _ {B : Type 0} (Few : ℕ → ℕ → PassStanding B → Type 0) where
  -- a get met Spent
  pub left-so-at-get : (before after ring ticket : ℕ) (p q : PassStanding B) → q ≡ having_seen q.seen (after_spent_get ring ticket p)
      → (Few 0 before p → Few 1 after q) → HasLeftSo Few before after p q None
  left-so-at-get before after ring ticket p q is few_calls =
      record {
        spent = (ticket, ap (λ (x : PassStanding B). x.spent) is);
        few_calls = few_calls;
        held = ap (λ (x : PassStanding B). x.held) is ∙ sym (append-nil p.held);
        own = (ap (λ (x : PassStanding B). x.queue) is, ap (λ (x : PassStanding B). x.number) is, ap (λ (x : PassStanding B). x.retired) is);
        its = tt;
      }

  -- a put of what was got met Spent: the worker keeps that
  pub left-so-at-put : (contents : B → List ℕ) (before after ring place to ticket : ℕ) (p q r : PassStanding B) (h k : HeldStanding B)
      → HasGot contents ring place p q h → r ≡ having_seen r.seen (after_spent_put to ticket q) → k.index ≡ h.index → k.queue ≡ h.queue
      → (Few 0 before p → Few 1 after r) → HasLeftSo Few before after p r (Some k)
  left-so-at-put contents before after ring place to ticket p q r h k got is index queue few_calls =
      record {
        spent = (ticket, ap (λ (x : PassStanding B). x.spent) is);
        few_calls = few_calls;
        held = ap (λ (x : PassStanding B). x.held) is ∙ ap (λ (x : PassStanding B). x.held) got.pass ∙ ap (λ n. p.held ++ n ∷ []) (sym index);
        own = (
          ap (λ (x : PassStanding B). x.queue) is ∙ ap (λ (x : PassStanding B). x.queue) got.pass,
          ap (λ (x : PassStanding B). x.number) is ∙ ap (λ (x : PassStanding B). x.number) got.pass,
          ap (λ (x : PassStanding B). x.retired) is ∙ ap (λ (x : PassStanding B). x.retired) got.pass,
        );
        its = queue ∙ got.held.queue ∙ ap (λ (x : PassStanding B). x.queue) got.pass;
      }

  -- it had made other calls before
  left-so-before : {calls : _} {fulls : _} {numbers : _} {gates : _} {gate : _} {seen : _} (first before after : ℕ) (p q r : PassStanding B)
      (k : Option (HeldStanding B)) → q ≡ record p { calls = calls; fulls = fulls; numbers = numbers; gates = gates; gate = gate; seen = seen }
      → (Few 0 first p → Few 0 before q) → HasLeftSo Few before after q r k → HasLeftSo Few first after p r k
  left-so-before first before after p q r k is few_calls left =
      record {
        spent = left.spent;
        few_calls = λ was. left.few_calls (few_calls was);
        held = left.held ∙ ap (λ (x : PassStanding B). x.held ++ index_of k) is;
        own = (
          left.own.0 ∙ ap (λ (x : PassStanding B). x.queue) is,
          left.own.1 ∙ ap (λ (x : PassStanding B). x.number) is,
          left.own.2 ∙ ap (λ (x : PassStanding B). x.retired) is,
        );
        its = subst (λ (x : _). IfSome k (λ h. h.queue ≡ x)) (ap (λ (x : PassStanding B). x.queue) is) left.its;
      }

  -- it had taken, or found no buffer free
  pub left-so-taken : {By : Puts} (first before after : ℕ) (p q r : PassStanding B) (k : Option (HeldStanding B)) → HasTakenFollowed By p q
      → (Few 0 first p → Few 0 before q) → HasLeftSo Few before after q r k → HasLeftSo Few first after p r k
  left-so-taken first before after p q r k taken few_calls left = left-so-before first before after p q r k taken.pass few_calls left

  pub left-so-full : (first before after head : ℕ) (p q r : PassStanding B) (k : Option (HeldStanding B)) → HasFoundFull head p q
      → (Few 0 first p → Few 0 before q) → HasLeftSo Few before after q r k → HasLeftSo Few first after p r k
  left-so-full first before after head p q r k full few_calls left = left-so-before first before after p q r k full.pass few_calls left

  -- more parts than these, where as much may be begun for more
  pub left-so-more : (before after more : ℕ) (p q : PassStanding B) (k : Option (HeldStanding B)) → (Few 1 after q → Few 1 more q)
      → HasLeftSo Few before after p q k → HasLeftSo Few before more p q k
  left-so-more before after more p q k few_calls left = record {
    spent = left.spent;
    few_calls = λ was. few_calls (left.few_calls was);
    held = left.held;
    own = left.own;
    its = left.its;
  }

module _ {B : Type 0} where
  -- a get met Spent
  pub left-at-get : (messages ring ticket : ℕ) (p q : PassStanding B) → q ≡ having_seen q.seen (after_spent_get ring ticket p)
      → HasLeft messages messages p q None
  left-at-get messages ring ticket p q is =
      let last : List Ended = Spent ring ticket false ∷ [] in
      let calls : q.calls ≡ p.calls ++ last = ap (λ (x : PassStanding B). x.calls) is in
      let sends : sends_of q.calls ≡ sends_of p.calls = ap sends_of calls ∙ sends-append p.calls last ∙ append-nil (sends_of p.calls) in
      let takes : takes_of q.calls ≡ takes_of p.calls = ap takes_of calls ∙ takes-append p.calls last ∙ append-nil (takes_of p.calls) in
      let all : (r : ℕ) → tally (was_put r) q.calls ≡ tally (was_put r) p.calls + 0 =
      λ r. ap (tally (was_put r)) calls ∙ tally-append (was_put r) p.calls last in
      left-so-at-get HasFewCalls messages messages ring ticket p q is (λ was. record {
        sends = let low = was.sends in omega (arith, ap length sends);
        fulls = let low = was.fulls in omega (arith, ap (λ (x : PassStanding B). length x.fulls) is);
        puts = λ topic. let low = was.puts topic in omega (arith, all (suc topic));
        returns = let low = was.returns in omega (arith, all 0, ap length takes);
      })

  -- the return of what was taken met Spent: the worker keeps it
  pub left-at-return : (contents : B → List ℕ) (messages topic place ticket : ℕ) (p q r : PassStanding B) (h k : HeldStanding B)
      → HasGot contents (suc topic) place p q h → r ≡ having_seen r.seen (after_spent_put 0 ticket q) → k ≡ h → HasLeft messages messages p r (Some k)
  left-at-return contents messages topic place ticket p q r h k got is same =
      let first : List Ended = Got (suc topic) place (contents h.buffer) ∷ [] in
      let last : List Ended = Spent 0 ticket true ∷ [] in
      let before : q.calls ≡ p.calls ++ first = ap (λ (x : PassStanding B). x.calls) got.pass in
      let calls : r.calls ≡ (p.calls ++ first) ++ last = ap (λ (x : PassStanding B). x.calls) is ∙ ap (λ l. l ++ last) before in
      let sends : sends_of r.calls ≡ sends_of p.calls =
      ap sends_of calls ∙ sends-append (p.calls ++ first) last ∙ append-nil (sends_of (p.calls ++ first)) ∙ sends-append p.calls first
      ∙ append-nil (sends_of p.calls) in
      let takes : takes_of r.calls ≡ takes_of p.calls ++ takes_of first =
      ap takes_of calls ∙ takes-append (p.calls ++ first) last ∙ append-nil (takes_of (p.calls ++ first)) ∙ takes-append p.calls first in
      let more : length (takes_of r.calls) ≡ length (takes_of p.calls) + 1 = ap length takes ∙ length-append (takes_of p.calls) (takes_of first) in
      let all : (k : ℕ) → tally (was_put k) r.calls ≡ tally (was_put k) p.calls + tally (was_put k) last = λ k.
      ap (tally (was_put k)) calls ∙ tally-append (was_put k) (p.calls ++ first) last
      ∙ ap (λ n. n + tally (was_put k) last) (tally-append (was_put k) p.calls first ∙ omega arith) in
      let one : (k : ℕ) → tally (was_put k) last ≤ 1 = λ k. few 0 k in
      left-so-at-put HasFewCalls contents messages messages (suc topic) place 0 ticket p q r h k got is (ap (λ (x : HeldStanding B). x.index) same)
      (ap (λ (x : HeldStanding B). x.queue) same) (λ was. record {
        sends = let low = was.sends in omega (arith, ap length sends);
        fulls = let low = was.fulls in
            let fulls : r.fulls ≡ p.fulls = ap (λ (x : PassStanding B). x.fulls) is ∙ ap (λ (x : PassStanding B). x.fulls) got.pass in
            omega (arith, ap length fulls);
        puts = λ t. let low = was.puts t in omega (arith, all (suc t), one (suc t));
        returns = let low = was.returns in omega (arith, all 0, one 0);
      })

  -- the send of what was lent met Spent
  pub left-at-send : (contents : B → List ℕ) (messages topic ticket : ℕ) (p q r : PassStanding B) (h k : HeldStanding B)
      → WasLent contents p q h → r ≡ having_seen r.seen (after_spent_put (suc topic) ticket q) → k.index ≡ h.index → k.queue ≡ h.queue
      → HasLeft messages (messages + 1) p r (Some k)
  left-at-send contents messages topic ticket p q r h k lent is index queue =
      let got = lent.got in
      let first : List Ended = Got 0 lent.place (contents h.buffer) ∷ [] in
      let last : List Ended = Spent (suc topic) ticket true ∷ [] in
      let before : q.calls ≡ p.calls ++ first = ap (λ (x : PassStanding B). x.calls) got.pass in
      let calls : r.calls ≡ (p.calls ++ first) ++ last = ap (λ (x : PassStanding B). x.calls) is ∙ ap (λ l. l ++ last) before in
      let sends : sends_of r.calls ≡ sends_of p.calls =
      ap sends_of calls ∙ sends-append (p.calls ++ first) last ∙ append-nil (sends_of (p.calls ++ first)) ∙ sends-append p.calls first
      ∙ append-nil (sends_of p.calls) in
      let takes : takes_of r.calls ≡ takes_of p.calls =
      ap takes_of calls ∙ takes-append (p.calls ++ first) last ∙ append-nil (takes_of (p.calls ++ first)) ∙ takes-append p.calls first
      ∙ append-nil (takes_of p.calls) in
      let all : (k : ℕ) → tally (was_put k) r.calls ≡ tally (was_put k) p.calls + tally (was_put k) last = λ k.
      ap (tally (was_put k)) calls ∙ tally-append (was_put k) (p.calls ++ first) last
      ∙ ap (λ n. n + tally (was_put k) last) (tally-append (was_put k) p.calls first ∙ omega arith) in
      let one : (k : ℕ) → tally (was_put k) last ≤ 1 = λ k. few (suc topic) k in
      left-so-at-put HasFewCalls contents messages (messages + 1) 0 lent.place (suc topic) ticket p q r h k got is index queue (λ was. record {
        sends = let low = was.sends in omega (arith, ap length sends);
        fulls = let low = was.fulls in
            let fulls : r.fulls ≡ p.fulls = ap (λ (x : PassStanding B). x.fulls) is ∙ ap (λ (x : PassStanding B). x.fulls) got.pass in
            omega (arith, ap length fulls);
        puts = λ t. let low = was.puts t in omega (arith, all (suc t), one (suc t));
        returns = let low = was.returns in omega (arith, all 0, one 0, ap length takes);
      })

  -- it had taken before
  pub left-taken : (before after : ℕ) (p q r : PassStanding B) (k : Option (HeldStanding B)) → HasTaken p q → HasLeft before after q r k
      → HasLeft before after p r k
  left-taken before after p q r k taken left = left-so-taken HasFewCalls before before after p q r k taken (λ was. few_calls-taken before p q was taken) left

  -- it had found no buffer free before
  pub left-full : (messages head : ℕ) (p q r : PassStanding B) (k : Option (HeldStanding B)) → HasFoundFull head p q
      → HasLeft (messages + 1) (messages + 1) q r k
      → HasLeft messages (messages + 1) p r k
  left-full messages head p q r k full left =
      left-so-full HasFewCalls messages (messages + 1) (messages + 1) head p q r k full (λ was. few_calls-full messages head p q was full) left

  -- with a message more
  pub left-more : (messages : ℕ) (p q : PassStanding B) (k : Option (HeldStanding B)) → HasLeft messages messages p q k → HasLeft messages (messages + 1) p q k
  left-more messages p q k left =
      left-so-more HasFewCalls messages messages (messages + 1) p q k (λ old. record {
        sends = let low = old.sends in omega arith;
        fulls = let low = old.fulls in omega arith;
        puts = λ t. let low = old.puts t in omega arith;
        returns = old.returns;
      }) left
