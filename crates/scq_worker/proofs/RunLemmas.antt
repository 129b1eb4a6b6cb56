-- A worker's whole work: how it begins, and what its end is, by how it left.
use Rattle.std.proofs.Common.{◌≡◌, refl, sym, ◌∙◌, ap, subst, arith, ℕ, ◌+◌, ◌<◌, List, [], ◌++◌, length, Option, None, Bool, false}
use Rattle.std.specs.Prelude.{IfSome}
use Rattle.scq_core.specs.declared.ended.Ended.TheVariants.{Nothing}
use Rattle.scq_topics.specs.declared.kind.Kind.{Kind}
use Rattle.scq_frames.specs.Exports.{Part}
use Rattle.scq_collect.specs.declared.answered.Answered.{Answered}
use Rattle.scq_band.specs.Exports.{Identity}
use Rattle.scq_band.proofs.Opening.{numbers_length}
use Rattle.scq_queue.specs.Exports.{PassStanding, HeldStanding, first_pass, known_on}
use Rattle.scq_files.specs.Exports.{StopsAtAFault, all_given, AreRead, SourceOf}
use Rattle.scq_worker.specs.Exports.{HasRun, no_call, parts_in, PartsAreGathered, HasAnswered, IsSweeping, HasPassed, IsAtWork, HasStopped}
use Rattle.scq_passes.specs.PassedOn as passing
use Rattle.scq_passes.specs.Exports.{HelpsOnceAfterEachFull, Suits, HasTaken, HasLeft, HasFewCalls, index_of, after_retire}
use Rattle.scq_passes.proofs.Blocks.{returns}
use Rattle.scq_passes.proofs.Retired.{retired-taken}
use Rattle.scq_files.specs.declared.own_file.OwnFile.{OwnFile}
use Rattle.scq_passes.proofs.Kept.{swept, few_calls-taken}
use Rattle.scq_worker.proofs.Gathered.{batches-of, few-batches, gathered-first}
use Rattle.scq_desk.proofs.Passes.{between-first, no-call, none-or}
use Rattle.scq_worker.proofs.WorkerSteps.{few_calls-more, sweeping-first, sweeping-taken, listed-taken}

module _ {B : Type 0} where
  -- a new pass suits, and nothing is passed on yet
  pub suits-first : (shared : Identity B) (topics number : ℕ) (p : PassStanding B) → shared.setup.rings ≡ topics + 2 → p ≡ first_pass shared number
      → Suits shared topics p
  suits-first shared topics number p rings is =
      subst (Suits shared topics) (sym is)
      (record { queue = refl; rings = rings; numbers = numbers_length shared.setup shared.setup.rings ∙ rings; spent = refl })

  pub work-first : (topics : List (List ℕ × Kind)) (most : ℕ) (shared : Identity B) (number : ℕ) (p : PassStanding B) (opens : List (List Part))
      (members : List Answered) (starved : Bool)
      → p ≡ first_pass shared number
      → members ≡ [] → opens ≡ [] → IsAtWork topics most [] opens p members starved
  work-first topics most shared number p opens members starved is new none_open =
      record {
        batches = [];
        gathered = subst (λ (l : List (List Part)). PartsAreGathered most [] [] l) (sym none_open) (gathered-first most);
        passed = subst (λ (q : PassStanding B). HasPassed topics [] q members starved) (sym is)
            (subst (λ (l : List Answered). HasPassed topics [] (first_pass shared number) l starved) (sym new)
            (record {
              producing = record {
                helps = λ before after at topic low. absurd (no-call before after (Nothing 0) at);
                between = between-first shared number;
                unasked = refl;
              };
              few_calls = record { sends = omega arith; fulls = omega arith; puts = λ topic. omega arith; returns = omega arith };
              listed = λ fed. record { groups = []; directs = refl; passed = passing.none; follows = no_call; takes = refl; fulls = tt };
            }));
      }

  -- retiring changes none of these
  sweeping-retired : (topics : ℕ) (p : PassStanding B) → IsSweeping topics p → IsSweeping topics (after_retire p)
  sweeping-retired topics p was = record {
    helps = was.helps;
    between = record {
      alone = was.between.alone;
      even = was.between.even;
      none = was.between.none;
      unspent = was.between.unspent;
      knows = record { sends = was.between.knows.sends };
    };
  }

  few_calls-retired : (late messages : ℕ) (p : PassStanding B) → HasFewCalls late messages p → HasFewCalls late messages (after_retire p)
  few_calls-retired late messages p was = record { sends = was.sends; fulls = was.fulls; puts = was.puts; returns = was.returns }

  -- it has few calls for all parts that it has gathered
  pub few_calls-gathered : (topics : List (List ℕ × Kind)) (most : ℕ) (parts : List Part) (opens : List (List Part)) (p : PassStanding B)
      (members : List Answered) (starved : Bool) → IsAtWork topics most parts opens p members starved → HasFewCalls 0 (length parts) p
  few_calls-gathered topics most parts opens p members starved work =
      few_calls-more 0 0 (length work.batches) (length parts) p (omega arith) (few-batches most parts work.batches opens work.gathered) work.passed.few_calls

  module _ {S : Type 0} (shared : Identity B) (topics : List (List ℕ × Kind)) (size most longest : ℕ) (src : SourceOf S) (files : List (OwnFile S)) where
    -- it has read its files, swept and left
    pub run-left : (p q : PassStanding B) (was is : List Answered) (before after : Bool) (kept : Option (HeldStanding B))
        → AreRead topics longest src files → StopsAtAFault files → Suits shared (length topics) p → IsAtWork topics most (parts_in size (all_given files)) [] p was before
        → HasTaken (after_retire p) q → ((t : ℕ) → t < length topics + 1 → (known_on t q).finished < (known_on t q).head)
        → (after ≡ false → before ≡ false) → (after ≡ false → HasAnswered topics p q was is) → kept ≡ None
        → HasRun shared topics size most longest src files q is after kept
    run-left p q was is before after kept read stops suits work taken empty fed_before more nothing =
        let sweeping = sweeping-taken (length topics + 1) (after_retire p) q
        (sweeping-retired (length topics + 1) p (sweeping-first (length topics + 1) p work.passed.producing)) taken in
        let long : length q.numbers ≡ length topics + 2 = taken.knows.rings ∙ suits.numbers in
        let many = length (parts_in size (all_given files)) in
        record {
          read = read;
          stops = stops;
          few_calls = few_calls-more 0 1 many many q (omega arith) (omega arith)
              (few_calls-taken many (after_retire p) q
              (few_calls-retired 0 many p
              (few_calls-gathered topics most (parts_in size (all_given files)) [] p was before work)) taken);
          queue = ap (λ (x : PassStanding B). x.queue) taken.pass ∙ suits.queue;
          retired = (length p.calls, ap (λ (x : PassStanding B). x.retired) taken.pass);
          held = sweeping.between.none ∙ ap index_of (sym nothing);
          its = subst (λ (k : Option (HeldStanding B)). IfSome k (λ h. h.queue ≡ shared)) (sym nothing) tt;
          sweeping = λ awake. sweeping;
          ended = λ awake. retired-taken (HelpsOnceAfterEachFull (length topics + 1)) returns p q work.passed.producing.helps taken;
          swept = λ awake. swept q sweeping.between.knows (λ t low. empty t (omega arith));
          listed = λ awake fed.
              let old = work.passed.listed (fed_before fed) in
              let answered = more fed in
              record {
                batches = work.batches;
                are = batches-of most (parts_in size (all_given files)) work.batches work.gathered;
                listed = listed-taken topics work.batches (after_retire p) q was is
                    (record {
                      groups = old.groups;
                      directs = old.directs;
                      passed = old.passed;
                      follows = old.follows;
                      takes = old.takes;
                      fulls = old.fulls;
                    }) taken
                    (record { takes = answered.takes; directs = answered.directs });
              };
        }

    -- it met Spent in a sweep
    pub run-late : (p q : PassStanding B) (was is : List Answered) (before after : Bool) (kept held : Option (HeldStanding B))
        → AreRead topics longest src files → StopsAtAFault files → Suits shared (length topics) p → IsAtWork topics most (parts_in size (all_given files)) [] p was before
        → HasLeft (length (parts_in size (all_given files))) (length (parts_in size (all_given files))) (after_retire p) q held → kept ≡ held
        → HasRun shared topics size most longest src files q is after kept
    run-late p q was is before after kept held read stops suits work end same =
        subst (λ k. HasRun shared topics size most longest src files q is after k) (sym same) (record {
          read = read;
          stops = stops;
          few_calls = end.few_calls (few_calls-retired 0 (length (parts_in size (all_given files))) p
              (few_calls-gathered topics most (parts_in size (all_given files)) [] p was before work));
          queue = end.own.0 ∙ suits.queue;
          retired = (length p.calls, end.own.2);
          held = end.held ∙ ap (λ l. l ++ index_of held) work.passed.producing.between.none;
          its = subst (λ (x : Identity B). IfSome held (λ h. h.queue ≡ x)) suits.queue end.its;
          sweeping = λ awake. absurd (none-or q.spent end.spent.0 end.spent.1 awake);
          ended = λ awake. absurd (none-or q.spent end.spent.0 end.spent.1 awake);
          swept = λ awake. absurd (none-or q.spent end.spent.0 end.spent.1 awake);
          listed = λ awake fed. absurd (none-or q.spent end.spent.0 end.spent.1 awake);
        })

    -- it met Spent while it read its files, and then retired
    pub run-stopped : (p q : PassStanding B) (is : List Answered) (after : Bool) (kept held : Option (HeldStanding B))
        → AreRead topics longest src files → StopsAtAFault files → HasStopped shared (length (parts_in size (all_given files))) p held
        → q ≡ after_retire p → kept ≡ held
        → HasRun shared topics size most longest src files q is after kept
    run-stopped p q is after kept held read stops end retired same =
        subst (λ k. HasRun shared topics size most longest src files q is after k) (sym same)
        (subst (λ (x : PassStanding B). HasRun shared topics size most longest src files x is after held) (sym retired) (record {
          read = read;
          stops = stops;
          few_calls = few_calls-retired 1 (length (parts_in size (all_given files))) p end.few_calls;
          queue = end.queue;
          retired = (length p.calls, refl);
          held = end.held;
          its = end.its;
          sweeping = λ awake. absurd (none-or p.spent end.spent.0 end.spent.1 awake);
          ended = λ awake. absurd (none-or p.spent end.spent.0 end.spent.1 awake);
          swept = λ awake. absurd (none-or p.spent end.spent.0 end.spent.1 awake);
          listed = λ awake fed. absurd (none-or p.spent end.spent.0 end.spent.1 awake);
        }))
