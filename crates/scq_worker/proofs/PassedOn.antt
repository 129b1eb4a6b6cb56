-- A worker that goes on after one batch more, or stops at a ticket past the limit.
use Rattle.std.proofs.Common.{◌≡◌, sym, ◌∙◌, ap, subst, arith, suc, ℕ, ◌+◌, ◌<◌, ◌≤◌, List, [], ◌∷◌, ◌++◌, length, map, Option, Some, None, Bool, false}
use Rattle.std.specs.Prelude.{count_by, IfSome}
use Rattle.std.proofs.lemmas.List.{length-append}
use Rattle.scq_topics.specs.declared.kind.Kind.{Kind}
use Rattle.scq_frames.specs.Exports.{Part}
use Rattle.scq_collect.specs.declared.answered.Answered.{Answered}
use Rattle.scq_collect.specs.declared.answered.Way.TheVariants.{Direct}
use Rattle.scq_band.specs.Exports.{Identity}
use Rattle.scq_queue.specs.Exports.{PassStanding, HeldStanding, WasLent}
use Rattle.scq_passes.specs.Exports.{is_take, Suits, HasTaken, HasFoundFull, HasLeft, HasFewCalls, index_of}
use Rattle.scq_worker.specs.Exports.{answered, open_on, IsWorking, HasSent, HasAnswered, HasListed, HasPassed, HasStopped}
use Rattle.scq_worker.specs.declared.worker.Worker.{Worker}
use Rattle.scq_passes.proofs.LeftLemmas.{left-at-send}
use Rattle.scq_passes.proofs.Kept.{few_calls-full, few_calls-taken}
use Rattle.scq_worker.proofs.Gathered.{gathered-same}
use Rattle.scq_desk.specs.Exports.{CameBack}
use Rattle.scq_desk.proofs.Passes.{stopped-left}
use Rattle.scq_worker.proofs.WorkerSteps.{producing-behind, producing-helped, few_calls-more, few_calls-sent, listed-sent, listed-full, listed-taken}

module _ {B : Type 0} where
  -- the pass still suits
  pub suits-sent : (shared : Identity B) (topics topic : ℕ) (b : List Part) (p q : PassStanding B) → Suits shared topics p → HasSent topic b p q
      → Suits shared topics q
  suits-sent shared topics topic b p q suits h =
      record {
        queue = ap (λ (x : PassStanding B). x.queue) h.pass ∙ suits.queue;
        rings = suits.rings;
        numbers = h.knows.rings ∙ suits.numbers;
        spent = ap (λ (x : PassStanding B). x.spent) h.pass ∙ suits.spent;
      }

  -- it has sent a batch more, and taken behind it
  pub passed-sent : (topics : List (List ℕ × Kind)) (batches : List (List Part)) (topic : ℕ) (b : List Part) (p q r : PassStanding B) (was is : List Answered)
      (before after : Bool)
      → HasPassed topics batches p was before → suc topic < length p.numbers → HasSent topic b p q → HasTaken q r → r.gates ≡ q.gates
      → (after ≡ false → before ≡ false) → (after ≡ false → HasAnswered topics q r was is) → HasPassed topics (batches ++ b ∷ []) r is after
  passed-sent topics batches topic b p q r was is before after passed within h taken gates fed_before more =
      record {
        producing = producing-behind (length topics + 1) topic b p q r passed.producing within h taken gates;
        few_calls = subst (λ n. HasFewCalls 0 n r) (sym (length-append batches (b ∷ [])))
            (few_calls-taken (length batches + 1) q r (few_calls-sent (length batches) topic b p q passed.few_calls h) taken);
        listed = λ fed.
            listed-taken topics (batches ++ b ∷ []) q r was is (listed-sent topics batches topic b p q was (passed.listed (fed_before fed)) h) taken (more fed);
      }

  -- it found no buffer free, has answered a batch more itself, and has helped
  pub passed-helped : (topics : List (List ℕ × Kind)) (batches : List (List Part)) (b : List Part) (head : ℕ) (p q r : PassStanding B)
      (was mid is : List Answered) (before after : Bool)
      → HasPassed topics batches p was before → 0 < length b → HasFoundFull head p q → HasTaken q r
      → ((topic : ℕ) → topic < length topics + 1 → count_by (is_take topic) r.calls ≡ count_by (is_take topic) q.calls + 1)
      → r.gates ≡ q.gates → (after ≡ false → before ≡ false) → (after ≡ false → mid ≡ was ++ map (answered topics (Direct head)) b)
      → (after ≡ false → HasAnswered topics q r mid is)
      → HasPassed topics (batches ++ b ∷ []) r is after
  passed-helped topics batches b head p q r was mid is before after passed some_ full taken each gates fed_before grown more =
      record {
        producing = producing-helped (length topics + 1) head p q r passed.producing full taken each gates;
        few_calls = subst (λ n. HasFewCalls 0 n r) (sym (length-append batches (b ∷ [])))
            (few_calls-taken (length batches + 1) q r (few_calls-full (length batches) head p q passed.few_calls full) taken);
        listed = λ fed.
            listed-taken topics (batches ++ b ∷ []) q r mid is
            (subst (HasListed topics (batches ++ b ∷ []) q) (sym (grown fed))
            (listed-full topics batches b head p q was (passed.listed (fed_before fed)) some_ full))
            taken (more fed);
      }

  -- the send of a value that was lent met Spent: that value came back
  pub left-sent : (contents : B → List ℕ) (batches topic : ℕ) (p q r : PassStanding B) (h : HeldStanding B) (kept : Option (HeldStanding B))
      → WasLent contents p q h → CameBack (suc topic) h q r kept → HasLeft batches (batches + 1) p r kept
  left-sent contents batches topic p q r h None lent back = absurd back
  left-sent contents batches topic p q r h (Some k) lent back = left-at-send contents batches topic back.2.0 p q r h k lent back.2.1 back.0 back.1

  -- a take behind a send met Spent
  pub left-behind : (batches topic : ℕ) (b : List Part) (p q r : PassStanding B) (kept : Option (HeldStanding B)) → HasSent topic b p q
      → HasLeft (batches + 1) (batches + 1) q r kept → HasLeft batches (batches + 1) p r kept
  left-behind batches topic b p q r kept h left =
      record {
        spent = left.spent;
        few_calls = λ was. left.few_calls (few_calls-sent batches topic b p q was h);
        held = left.held ∙ ap (λ (x : PassStanding B). x.held ++ index_of kept) h.pass;
        own = (
          left.own.0 ∙ ap (λ (x : PassStanding B). x.queue) h.pass,
          left.own.1 ∙ ap (λ (x : PassStanding B). x.number) h.pass,
          left.own.2 ∙ ap (λ (x : PassStanding B). x.retired) h.pass,
        );
        its = subst (λ (x : Identity B). IfSome kept (λ h. h.queue ≡ x)) (ap (λ (x : PassStanding B). x.queue) h.pass) left.its;
      }

  -- the same of more parts
  pub stopped-more : (shared : Identity B) (few many : ℕ) (p : PassStanding B) (kept : Option (HeldStanding B)) → few ≤ many
      → HasStopped shared few p kept → HasStopped shared many p kept
  stopped-more shared few many p kept low was = record {
    spent = was.spent;
    few_calls = few_calls-more 1 1 few many p (omega arith) low was.few_calls;
    queue = was.queue;
    stays = was.stays;
    held = was.held;
    its = was.its;
  }

  -- it met Spent at one batch more
  pub passed-stopped : (shared : Identity B) (topics : List (List ℕ × Kind)) (batches : List (List Part)) (p q : PassStanding B)
      (members : List Answered) (starved : Bool)
      (kept : Option (HeldStanding B)) → HasPassed topics batches p members starved → p.queue ≡ shared → p.retired ≡ None
      → HasLeft (length batches) (length batches + 1) p q kept → HasStopped shared (length batches + 1) q kept
  passed-stopped shared topics batches p q members starved kept was queue stays left =
      stopped-left HasFewCalls shared (length batches) (length batches + 1) p q kept was.few_calls was.producing.between.none queue stays left

  -- the same pass and the same list
  pub passed-as : (topics : List (List ℕ × Kind)) (batches : List (List Part)) (p q : PassStanding B) (was is : List Answered) (before after : Bool)
      → q ≡ p → is ≡ was → (after ≡ false → before ≡ false) → HasPassed topics batches p was before → HasPassed topics batches q is after
  passed-as topics batches p q was is before after pass list fed_before passed =
      subst (λ (x : PassStanding B). HasPassed topics batches x is after) (sym pass)
      (subst (λ (l : List Answered). HasPassed topics batches p l after) (sym list)
      (record { producing = passed.producing; few_calls = passed.few_calls; listed = λ fed. passed.listed (fed_before fed) }))

  -- and as much open
  pub working-as : {Place : Type 0} (topics : List (List ℕ × Kind)) (most : ℕ) (parts : List Part) (w v : Worker B Place)
      → ((t : ℕ) → open_on t v.opens.items ≡ open_on t w.opens.items) → v.pass ≡ w.pass → v.members ≡ w.members
      → (v.starved ≡ false → w.starved ≡ false) → IsWorking topics most parts w → IsWorking topics most parts v
  working-as topics most parts w v opens pass list starved was = record {
    batches = was.batches;
    gathered = gathered-same most parts was.batches w.opens.items was.gathered v.opens.items opens;
    passed = passed-as topics was.batches w.pass v.pass w.members v.members w.starved v.starved pass list starved was.passed;
  }
