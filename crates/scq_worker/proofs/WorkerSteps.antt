-- What is kept of a worker's pass and of its list: one batch more was passed on, or topics were taken from.
use Rattle.std.proofs.Common.{◌≡◌, refl, sym, ◌∙◌, ap, subst, arith, suc, ℕ, ◌+◌, ◌<◌, ◌≤◌, List, [], ◌∷◌, ◌++◌, length, map, false}
use Rattle.std.specs.Prelude.{count_by, filter, flat_map, ◌==◌}
use Rattle.std.proofs.lemmas.Bool.{ne_eqb}
use Rattle.std.proofs.lemmas.Grind.{flat_map-append}
use Rattle.std.proofs.lemmas.List.{append-nil, length-append}
use Rattle.std.proofs.lemmas.List.Elements.{filter-append, All-map}
use Rattle.std.proofs.lemmas.List.Sums.{sum_by-append}
use Rattle.std.proofs.lemmas.Slice.Zip.{all_zipped_more}
use Rattle.scq_core.specs.declared.ended.Ended.{Ended}
use Rattle.scq_core.specs.declared.ended.Ended.TheVariants.{Done, Got, Nothing}
use Rattle.scq_law.specs.Exports.{tally, was_put}
use Rattle.scq_law.proofs.Base.SeatSums.{tally-append}
use Rattle.scq_topics.specs.declared.kind.Kind.{Kind}
use Rattle.scq_frames.specs.Exports.{Part}
use Rattle.scq_collect.specs.declared.answered.Answered.{Answered}
use Rattle.scq_collect.specs.declared.answered.Way.TheVariants.{Direct}
use Rattle.scq_queue.specs.Exports.{sends_of, takes_of, PassStanding}
use Rattle.scq_passes.specs.Exports.{is_take, HelpsAfterEachFull, HelpsOnceAfterEachFull, and_sent, and_made, HasTaken, HasFoundFull, HasFewCalls}
use Rattle.scq_worker.specs.Exports.{answered, is_taken, is_direct, AnswersSoFar, AnswersFull, AnswersItsFulls, BatchesArePassedOn, Sends}
use Rattle.scq_worker.specs.Exports.{FollowsCalls, by_full, HasSent, IsProducing, IsSweeping, HasListed, HasAnswered}
use Rattle.scq_passes.proofs.Kept.{at_most, taken-calls, taken-sends, sent-calls, sent-sends, sent-takes, placed, full-calls, full-sends, full-takes}
use Rattle.scq_passes.proofs.Between.{between-sent, between-full, between-taken}
use Rattle.scq_worker.proofs.Following.{follows-sent, follows-taken}
use Rattle.scq_passes.proofs.RecordSteps.{helps-behind, helps-helped, helps-taken, helps-once}

-- direct answers are all direct
directs-are : (topics : List (List ℕ × Kind)) (head : ℕ) (b : List Part)
    → filter is_direct (map (answered topics (Direct head)) b) ≡ map (answered topics (Direct head)) b
directs-are topics head [] = refl
directs-are topics head (p ∷ b) = ap (λ (l : List Answered). answered topics (Direct head) p ∷ l) (directs-are topics head b)

none-taken : (topics : List (List ℕ × Kind)) (head : ℕ) (b : List Part) → filter is_taken (map (answered topics (Direct head)) b) ≡ []
none-taken topics head [] = refl
none-taken topics head (p ∷ b) = none-taken topics head b

-- they answer a Full
full-answered : (topics : List (List ℕ × Kind)) (head : ℕ) (b : List Part) → 0 < length b → AnswersFull head (map (answered topics (Direct head)) b)
full-answered topics head [] some_ = absurd (omega arith)
full-answered topics head (p ∷ b) some_ = record {
  some = λ is. absurd (cc);
  each = All-map (λ (a : Answered). a.way ≡ Direct head) (answered topics (Direct head)) (p ∷ b) (λ k d less. refl);
}

module _ {B : Type 0} where
  -- a batch was sent, and topics were taken from behind it
  pub producing-behind : (topics topic : ℕ) (b : List Part) (p q r : PassStanding B) → IsProducing topics p → suc topic < length p.numbers → HasSent topic b p q
      → HasTaken q r → r.gates ≡ q.gates → IsProducing topics r
  producing-behind topics topic b p q r was within h t gates =
      record {
        helps = subst (HelpsOnceAfterEachFull topics) (sym (taken-calls q r t ∙ ap (λ l. l ++ t.block) (sent-calls topic (Sends b) p q h)))
            (helps-behind topics p.calls t.block h.from (suc topic) h.place h.over h.bytes t.are was.helps);
        between = between-taken q r (between-sent topic (Sends b) p q was.between within h) t;
        unasked = gates ∙ ap (λ (x : PassStanding B). x.gates) h.pass ∙ was.unasked;
      }

  -- no buffer was free, and a take of each topic was made
  pub producing-helped : (topics head : ℕ) (p q r : PassStanding B) → IsProducing topics p → HasFoundFull head p q → HasTaken q r
      → ((topic : ℕ) → topic < topics → count_by (is_take topic) r.calls ≡ count_by (is_take topic) q.calls + 1) → r.gates ≡ q.gates
      → IsProducing topics r
  producing-helped topics head p q r was full h each gates =
      let calls : r.calls ≡ (p.calls ++ Nothing 0 ∷ []) ++ h.block = taken-calls q r h ∙ ap (λ l. l ++ h.block) (full-calls head p q full) in
      let one : (topic : ℕ) → topic < topics → count_by (is_take topic) h.block ≡ 1 = λ topic low.
      let all : count_by (is_take topic) r.calls ≡ count_by (is_take topic) q.calls + count_by (is_take topic) h.block =
      ap (count_by (is_take topic)) (taken-calls q r h) ∙ sum_by-append _ q.calls h.block in
      let more = each topic low in
      omega arith in
      record {
        helps = subst (HelpsOnceAfterEachFull topics) (sym calls) (helps-helped topics p.calls h.block h.are one was.helps);
        between = between-taken q r (between-full head p q was.between full) h;
        unasked = gates ∙ ap (λ (x : PassStanding B). x.gates) full.pass ∙ was.unasked;
      }

  -- the files are read
  pub sweeping-first : (topics : ℕ) (p : PassStanding B) → IsProducing topics p → IsSweeping topics p
  sweeping-first topics p was = record { helps = helps-once topics p.calls was.helps; between = was.between }

  -- topics were taken from
  pub sweeping-taken : (topics : ℕ) (p q : PassStanding B) → IsSweeping topics p → HasTaken p q → IsSweeping topics q
  sweeping-taken topics p q was h =
      let calls = taken-calls p q h in
      record {
        helps = subst (HelpsAfterEachFull topics) (sym calls) (helps-taken topics p.calls h.block h.are was.helps);
        between = between-taken p q was.between h;
      }

  -- there are no more calls than for more parts, and where it met Spent
  pub few_calls-more : (late later few many : ℕ) (p : PassStanding B) → late ≤ later → few ≤ many → HasFewCalls late few p → HasFewCalls later many p
  few_calls-more late later few many p more low was = record {
    sends = let its = was.sends in omega arith;
    fulls = let its = was.fulls in omega arith;
    puts = λ topic. let its = was.puts topic in omega arith;
    returns = let its = was.returns in omega arith;
  }

  -- how much was begun
  pub few_calls-sent : (batches topic : ℕ) (b : List Part) (p q : PassStanding B) → HasFewCalls 0 batches p → HasSent topic b p q
      → HasFewCalls 0 (batches + 1) q
  few_calls-sent batches topic b p q was h =
      let got : List Ended = Got 0 h.from h.over ∷ [] in
      let put : List Ended = Done (suc topic) h.place h.bytes ∷ [] in
      let calls = sent-calls topic (Sends b) p q h in
      let sends : length (sends_of q.calls) ≡ length (sends_of p.calls) + 1 =
      ap length (sent-sends topic (Sends b) p q h) ∙ length-append (sends_of p.calls) (placed topic (Sends b) p q h ∷ []) in
      let fulls : q.fulls ≡ p.fulls = ap (λ (x : PassStanding B). x.fulls) h.pass in
      let all : (r : ℕ) → tally (was_put r) q.calls ≡ tally (was_put r) p.calls + tally (was_put r) put = λ r.
      ap (tally (was_put r)) calls ∙ tally-append (was_put r) (p.calls ++ got) put
      ∙ ap (λ n. n + tally (was_put r) put) (tally-append (was_put r) p.calls got ∙ omega arith) in
      let few : (r : ℕ) → tally (was_put r) put ≤ 1 = λ r. at_most (suc topic == r) in
      let none_ : tally (was_put 0) put ≡ 0 = let other : (suc topic == 0) ≡ false = ne_eqb (suc topic) 0 (λ e. omega arith) in rw other (omega arith) in
      record {
        sends = let low = was.sends in omega arith;
        fulls = let low = was.fulls in omega (arith, ap length fulls);
        puts = λ t. let low = was.puts t in let one = few (suc t) in omega (arith, all (suc t));
        returns = let low = was.returns in omega (arith, all 0, ap length (sent-takes topic (Sends b) p q h));
      }

  -- the list
  pub listed-sent : (topics : List (List ℕ × Kind)) (batches : List (List Part)) (topic : ℕ) (b : List Part) (p q : PassStanding B) (members : List Answered)
      → HasListed topics batches p members → HasSent topic b p q → HasListed topics (batches ++ b ∷ []) q members
  listed-sent topics batches topic b p q members was h =
      record {
        groups = was.groups;
        directs = was.directs;
        passed = subst (λ sends. BatchesArePassedOn topics (batches ++ b ∷ []) sends was.groups) (sym (sent-sends topic (Sends b) p q h))
            (and_sent b (placed topic (Sends b) p q h) was.passed h.sends);
        follows = subst (FollowsCalls (batches ++ b ∷ [])) (sym (sent-calls topic (Sends b) p q h))
            (follows-sent batches b p.calls h.from topic h.place h.over h.bytes was.follows h.sends);
        takes = subst (λ takes. AnswersSoFar topics takes (filter is_taken members)) (sym (sent-takes topic (Sends b) p q h)) was.takes;
        fulls = subst (λ fulls. AnswersItsFulls fulls was.groups) (sym (ap (λ (x : PassStanding B). x.fulls) h.pass)) was.fulls;
      }

  pub listed-full : (topics : List (List ℕ × Kind)) (batches : List (List Part)) (b : List Part) (head : ℕ) (p q : PassStanding B) (members : List Answered)
      → HasListed topics batches p members → 0 < length b → HasFoundFull head p q
      → HasListed topics (batches ++ b ∷ []) q (members ++ map (answered topics (Direct head)) b)
  listed-full topics batches b head p q members was some_ h =
      let group : List Answered = map (answered topics (Direct head)) b in
      let directs : filter is_direct (members ++ group) ≡ filter is_direct members ++ group =
      filter-append is_direct members group ∙ ap (λ (l : List Answered). filter is_direct members ++ l) (directs-are topics head b) in
      let takens : filter is_taken (members ++ group) ≡ filter is_taken members =
      filter-append is_taken members group ∙ ap (λ (l : List Answered). filter is_taken members ++ l) (none-taken topics head b)
      ∙ append-nil (filter is_taken members) in
      let all : flat_map (λ (g : List Answered). g) (was.groups ++ group ∷ []) ≡ flat_map (λ (g : List Answered). g) was.groups ++ group =
      flat_map-append (λ (g : List Answered). g) was.groups (group ∷ [])
      ∙ ap (λ (l : List Answered). flat_map (λ (g : List Answered). g) was.groups ++ l) (append-nil group) in
      record {
        groups = was.groups ++ group ∷ [];
        directs = directs ∙ ap (λ (l : List Answered). l ++ group) was.directs ∙ sym all;
        passed = subst (λ sends. BatchesArePassedOn topics (batches ++ b ∷ []) sends (was.groups ++ group ∷ [])) (sym (full-sends head p q h))
            (and_made b group was.passed (record { head = head; answers = refl }));
        follows = subst (FollowsCalls (batches ++ b ∷ [])) (sym (full-calls head p q h)) (by_full b was.follows);
        takes = subst (λ takes. AnswersSoFar topics takes (filter is_taken (members ++ group))) (sym (full-takes head p q h))
            (subst (λ l. AnswersSoFar topics (takes_of p.calls) l) (sym takens) was.takes);
        fulls = subst (λ fulls. AnswersItsFulls fulls (was.groups ++ group ∷ [])) (sym (ap (λ (x : PassStanding B). x.fulls) h.pass))
            (all_zipped_more AnswersFull p.fulls was.groups head group was.fulls (full-answered topics head b some_));
      }

  pub listed-taken : (topics : List (List ℕ × Kind)) (batches : List (List Part)) (p q : PassStanding B) (was is : List Answered)
      → HasListed topics batches p was → HasTaken p q → HasAnswered topics p q was is → HasListed topics batches q is
  listed-taken topics batches p q was is listed h more =
      record {
        groups = listed.groups;
        directs = more.directs ∙ listed.directs;
        passed = subst (λ sends. BatchesArePassedOn topics batches sends listed.groups) (sym (taken-sends p q h)) listed.passed;
        follows = subst (FollowsCalls batches) (sym (taken-calls p q h)) (follows-taken batches p.calls h.block h.are listed.follows);
        takes = more.takes listed.takes;
        fulls = subst (λ fulls. AnswersItsFulls fulls listed.groups) (sym (ap (λ (x : PassStanding B). x.fulls) h.pass)) listed.fulls;
      }

  pub answered-along : (topics : List (List ℕ × Kind)) (p q r : PassStanding B) (xs ys zs : List Answered) → HasAnswered topics p q xs ys
      → HasAnswered topics q r ys zs
      → HasAnswered topics p r xs zs
  answered-along topics p q r xs ys zs one more = record { takes = λ h. more.takes (one.takes h); directs = more.directs ∙ one.directs }

  pub answered-nothing : (topics : List (List ℕ × Kind)) (p : PassStanding B) (xs : List Answered) → HasAnswered topics p p xs xs
  answered-nothing topics p xs = record { takes = λ h. h; directs = refl }
