-- What is kept of a pass, whatever its worker sends: topics were taken from, or no buffer was free.
use Rattle.std.proofs.Common.{◌≡◌, ◌∙◌, ap, subst, arith, suc, ℕ, ◌+◌, ◌<◌, ◌≤◌, List, [], ◌∷◌, ◌++◌, length, Bool, true, false}
use Rattle.std.specs.Prelude.{if◌then◌else◌}
use Rattle.std.specs.List.{Contains}
use Rattle.std.proofs.lemmas.List.{append-nil, length-append}
use Rattle.scq_core.specs.declared.ended.Ended.{Ended}
use Rattle.scq_core.specs.declared.ended.Ended.TheVariants.{Done, Got, Nothing}
use Rattle.scq_law.specs.Exports.{tally, was_put}
use Rattle.scq_law.proofs.Base.SeatSums.{tally-append}
use Rattle.scq_queue.specs.Exports.{Placed, sends_of, takes_of, PassStanding, known_on}
use Rattle.scq_queue.proofs.Records.{sends-append, takes-append}
use Rattle.scq_passes.specs.Exports.{Puts, AreReturns, HasSwept, KnowsMore, HasTakenFollowed, HasTaken, HasSentSo, HasFoundFull, KnowsItsSends}
use Rattle.scq_passes.specs.Exports.{HasFewCalls}
use Rattle.scq_passes.proofs.Blocks.{returns, takes-weaker, takes-no_send, takes-puts, takes-returns}

-- one put is at most one on a ring
pub at_most : (b : Bool) → (if b then 1 else 0) + 0 ≤ 1
at_most true = omega arith
at_most false = omega arith

module _ {B : Type 0} where
  -- the record, the sends and the takes of a pass that has taken
  pub taken-calls : {By : Puts} (p q : PassStanding B) (h : HasTakenFollowed By p q) → q.calls ≡ p.calls ++ h.block
  taken-calls p q h = ap (λ (x : PassStanding B). x.calls) h.pass

  pub taken-sends-as : {By : Puts} → AreReturns By → (p q : PassStanding B) → HasTakenFollowed By p q → sends_of q.calls ≡ sends_of p.calls
  taken-sends-as home p q h =
      ap sends_of (taken-calls p q h) ∙ sends-append p.calls h.block ∙ ap (λ l. sends_of p.calls ++ l) (takes-no_send home h.block h.are)
      ∙ append-nil (sends_of p.calls)

  pub taken-sends : (p q : PassStanding B) → HasTaken p q → sends_of q.calls ≡ sends_of p.calls
  taken-sends p q h = taken-sends-as returns p q h

  pub taken-takes : {By : Puts} (p q : PassStanding B) (h : HasTakenFollowed By p q) → takes_of q.calls ≡ takes_of p.calls ++ takes_of h.block
  taken-takes p q h = ap takes_of (taken-calls p q h) ∙ takes-append p.calls h.block

  -- the finished places that it knows stay, where it only gave back
  pub taken-same : {By : Puts} → AreReturns By → (p q : PassStanding B) → HasTakenFollowed By p q → (topic : ℕ)
      → (known_on topic q).finished ≡ (known_on topic p).finished
  taken-same home p q h topic = h.same topic (takes-puts home h.block topic h.are)

  -- more kinds of puts may follow
  pub taken-weaker : {By More : Puts} → ((topic : ℕ) (bytes : List ℕ) (ring : ℕ) (later : List ℕ) → By topic bytes ring later → More topic bytes ring later)
      → (p q : PassStanding B)
      → HasTakenFollowed By p q → HasTakenFollowed More p q
  taken-weaker weaker p q h = record {
    block = h.block;
    are = takes-weaker weaker h.block h.are;
    pass = h.pass;
    knows = h.knows;
    same = h.same;
    sends = h.sends;
  }

  -- those of one that has sent
  pub sent-calls : (topic : ℕ) (So : Placed → Type 0) (p q : PassStanding B) (h : HasSentSo topic So p q)
      → q.calls ≡ (p.calls ++ Got 0 h.from h.over ∷ []) ++ Done (suc topic) h.place h.bytes ∷ []
  sent-calls topic So p q h = ap (λ (x : PassStanding B). x.calls) h.pass

  abbrev pub placed : (topic : ℕ) (So : Placed → Type 0) (p q : PassStanding B) → HasSentSo topic So p q → Placed
  placed topic So p q h = record { topic = topic; place = h.place; bytes = h.bytes }

  pub sent-sends : (topic : ℕ) (So : Placed → Type 0) (p q : PassStanding B) (h : HasSentSo topic So p q)
      → sends_of q.calls ≡ sends_of p.calls ++ placed topic So p q h ∷ []
  sent-sends topic So p q h =
      let got : List Ended = Got 0 h.from h.over ∷ [] in
      let put : List Ended = Done (suc topic) h.place h.bytes ∷ [] in
      ap sends_of (sent-calls topic So p q h) ∙ sends-append (p.calls ++ got) put
      ∙ ap (λ l. l ++ placed topic So p q h ∷ []) (sends-append p.calls got ∙ append-nil (sends_of p.calls))

  pub sent-takes : (topic : ℕ) (So : Placed → Type 0) (p q : PassStanding B) → HasSentSo topic So p q → takes_of q.calls ≡ takes_of p.calls
  sent-takes topic So p q h =
      let got : List Ended = Got 0 h.from h.over ∷ [] in
      let put : List Ended = Done (suc topic) h.place h.bytes ∷ [] in
      ap takes_of (sent-calls topic So p q h) ∙ takes-append (p.calls ++ got) put ∙ append-nil (takes_of (p.calls ++ got)) ∙ takes-append p.calls got
      ∙ append-nil (takes_of p.calls)

  -- those of one that found no buffer free
  pub full-calls : (head : ℕ) (p q : PassStanding B) → HasFoundFull head p q → q.calls ≡ p.calls ++ Nothing 0 ∷ []
  full-calls head p q h = ap (λ (x : PassStanding B). x.calls) h.pass

  pub full-sends : (head : ℕ) (p q : PassStanding B) → HasFoundFull head p q → sends_of q.calls ≡ sends_of p.calls
  full-sends head p q h = ap sends_of (full-calls head p q h) ∙ sends-append p.calls (Nothing 0 ∷ []) ∙ append-nil (sends_of p.calls)

  pub full-takes : (head : ℕ) (p q : PassStanding B) → HasFoundFull head p q → takes_of q.calls ≡ takes_of p.calls
  full-takes head p q h = ap takes_of (full-calls head p q h) ∙ takes-append p.calls (Nothing 0 ∷ []) ∙ append-nil (takes_of p.calls)

  -- what a pass knows of its sends, it goes on knowing
  pub knows-still : (p q : PassStanding B) → KnowsMore p q → sends_of q.calls ≡ sends_of p.calls → KnowsItsSends p → KnowsItsSends q
  knows-still p q more same knows =
      record {
        sends = λ m has.
            let old = knows.sends m (subst (λ l. Contains l m) same has) in
            let low = more.finished m.topic in
            let first = old.0 in
            let place = old.1 in
            let long = more.rings in
            (omega arith, omega arith);
      }

  -- where each topic was found empty after the last send there, each send is passed
  pub swept : (p : PassStanding B) → KnowsItsSends p → ((topic : ℕ) → suc topic < length p.numbers → (known_on topic p).finished < (known_on topic p).head)
      → HasSwept p
  swept p knows empty m has =
      let its = knows.sends m has in
      let past = empty m.topic its.0 in
      let place = its.1 in
      omega arith

  -- how much was begun
  pub few_calls-full : (messages head : ℕ) (p q : PassStanding B) → HasFewCalls 0 messages p → HasFoundFull head p q → HasFewCalls 0 (messages + 1) q
  few_calls-full messages head p q was h =
      let fulls : length q.fulls ≡ length p.fulls + 1 = ap (λ (x : PassStanding B). length x.fulls) h.pass ∙ length-append p.fulls (head ∷ []) in
      let all : (r : ℕ) → tally (was_put r) q.calls ≡ tally (was_put r) p.calls + 0 = λ r.
      ap (tally (was_put r)) (full-calls head p q h) ∙ tally-append (was_put r) p.calls (Nothing 0 ∷ []) in
      record {
        sends = let low = was.sends in omega (arith, ap length (full-sends head p q h));
        fulls = let low = was.fulls in omega arith;
        puts = λ topic. let low = was.puts topic in omega (arith, all (suc topic));
        returns = let low = was.returns in omega (arith, all 0, ap length (full-takes head p q h));
      }

  pub few_calls-taken : (messages : ℕ) (p q : PassStanding B) → HasFewCalls 0 messages p → HasTaken p q → HasFewCalls 0 messages q
  few_calls-taken messages p q was h =
      let all : (r : ℕ) → tally (was_put r) q.calls ≡ tally (was_put r) p.calls + tally (was_put r) h.block = λ r.
      ap (tally (was_put r)) (taken-calls p q h) ∙ tally-append (was_put r) p.calls h.block in
      record {
        sends = let low = was.sends in omega (arith, ap length (taken-sends p q h));
        fulls = let low = was.fulls in omega (arith, ap (λ (x : PassStanding B). length x.fulls) h.pass);
        puts = λ topic. let low = was.puts topic in omega (arith, all (suc topic), takes-puts returns h.block topic h.are);
        returns = let low = was.returns in
            omega (arith, all 0, takes-returns returns h.block h.are, ap length (taken-takes p q h), length-append (takes_of p.calls) (takes_of h.block));
      }
