-- A worker's whole work: how it begins, and what its end is, by how it left.
use Rattle.std.proofs.Common.{◌≡◌, refl, sym, ◌∙◌, ap, subst, arith, ℕ, ◌<◌, List, [], ◌++◌, length, Option, None, Bool, Ok, Err, Result}
use Rattle.std.specs.Prelude.{IfSome, OnOk}
use Rattle.scq_core.specs.declared.ended.Ended.TheVariants.{Nothing}
use Rattle.scq_band.specs.Exports.{Identity}
use Rattle.scq_queue.specs.Exports.{PassStanding, HeldStanding, first_pass, known_on}
use Rattle.scq_files.specs.Exports.{StopsAtAFault, all_given, AreRead, SourceOf}
use Rattle.scq_files.specs.declared.own_file.OwnFile.{OwnFile}
use Rattle.scq_passes.specs.Becoming as becoming
use Rattle.scq_passes.specs.PassedOn as passing
use Rattle.scq_passes.specs.Exports.{Suits, HasLeftSo, index_of, after_retire}
use Rattle.scq_passes.proofs.Kept.{swept}
use Rattle.scq_stages.specs.declared.finished.Finished.{Finished}
use Rattle.scq_stages.specs.Exports.{HasFewStageCalls, IsAtWork, IsDone, IsLeaving, HasStopped, HasRun}
use Rattle.scq_desk.proofs.Passes.{between-first, no-call, none-or}
use Rattle.scq_stages.proofs.FewCalls.{few_calls-more, few_calls-retired}

-- what follows of a clause of an answer that is Ok
pub on-then : {X E : Type 0} {P Q : Type 0} (r : Result X E) → (P → Q) → OnOk r P → OnOk r Q
on-then (Ok x) f p = f p
on-then (Err e) f p = tt

module _ {B : Type 0} where
  pub work-first : (shared : Identity B) (number : ℕ) (p : PassStanding B) (members : List Finished) (starved : Bool) → p ≡ first_pass shared number
      → members ≡ [] → IsAtWork [] p members starved
  work-first shared number p members starved is new =
      subst (λ (q : PassStanding B). IsAtWork [] q members starved) (sym is)
      (subst (λ (l : List Finished). IsAtWork [] (first_pass shared number) l starved) (sym new)
      (record {
        helps = λ before after at. absurd (no-call before after (Nothing 0) at);
        unasked = refl;
        between = between-first shared number;
        few_calls = record {
          fulls = omega arith;
          to_first = omega arith;
          sent_first = omega arith;
          to_second = omega arith;
          sent = omega arith;
          returns = omega arith;
        };
        moves = becoming.none;
        follows = tt;
        listed = λ fed. record { passed = passing.none; seconds = becoming.none; firsts = refl; directs = tt };
      }))

  module _ {S : Type 0} (shared : Identity B) (size : ℕ) (src : SourceOf S) (files : List (OwnFile S)) where
    -- it has read its files, moved what was in first, retired, swept and left
    pub run-left : (p q : PassStanding B) (was is : List Finished) (before after : Bool) (kept : Option (HeldStanding B))
        → AreRead [] size src files → StopsAtAFault files → Suits shared 1 p → IsDone (all_given files) p was before → IsLeaving (all_given files) p q is after
        → ((t : ℕ) → t < 2 → (known_on t q).finished < (known_on t q).head) → kept ≡ None
        → HasRun shared size src files q is after kept
    run-left p q was is before after kept read stops suits done leaving empty nothing =
        let taken = leaving.taken in
        let long : length q.numbers ≡ 3 = taken.knows.rings ∙ suits.numbers in
        record {
          read = read;
          stops = stops;
          few_calls = few_calls-more 0 1 (length (all_given files)) (length (all_given files)) q (omega arith) (omega arith) leaving.few_calls;
          queue = ap (λ (x : PassStanding B). x.queue) taken.pass ∙ suits.queue;
          retired = (length p.calls, ap (λ (x : PassStanding B). x.retired) taken.pass);
          held = leaving.between.none ∙ ap index_of (sym nothing);
          its = subst (λ (k : Option (HeldStanding B)). IfSome k (λ h. h.queue ≡ shared)) (sym nothing) tt;
          ended = λ awake. record {
            at = p;
            moved = done.moved;
            leaving = leaving;
            swept = swept q leaving.between.knows (λ t low. empty t (omega (arith, low, long)));
          };
        }

    -- it met Spent in a sweep
    pub run-late : (p q : PassStanding B) (was is : List Finished) (before after : Bool) (kept held : Option (HeldStanding B))
        → AreRead [] size src files → StopsAtAFault files → Suits shared 1 p → IsDone (all_given files) p was before
        → HasLeftSo HasFewStageCalls (length (all_given files)) (length (all_given files)) (after_retire p) q held → kept ≡ held
        → HasRun shared size src files q is after kept
    run-late p q was is before after kept held read stops suits done end same =
        subst (λ k. HasRun shared size src files q is after k) (sym same) (record {
          read = read;
          stops = stops;
          few_calls = end.few_calls (few_calls-retired 0 (length (all_given files)) p done.moved.few_calls);
          queue = end.own.0 ∙ suits.queue;
          retired = (length p.calls, end.own.2);
          held = end.held ∙ ap (λ l. l ++ index_of held) done.moved.between.none;
          its = subst (λ (x : Identity B). IfSome held (λ h. h.queue ≡ x)) suits.queue end.its;
          ended = λ awake. absurd (none-or q.spent end.spent.0 end.spent.1 awake);
        })

    -- it met Spent before it retired, and then retired
    pub run-stopped : (p q : PassStanding B) (is : List Finished) (after : Bool) (kept held : Option (HeldStanding B))
        → AreRead [] size src files → StopsAtAFault files → HasStopped shared (length (all_given files)) p held → q ≡ after_retire p → kept ≡ held
        → HasRun shared size src files q is after kept
    run-stopped p q is after kept held read stops end retired same =
        subst (λ k. HasRun shared size src files q is after k) (sym same)
        (subst (λ (x : PassStanding B). HasRun shared size src files x is after held) (sym retired) (record {
          read = read;
          stops = stops;
          few_calls = few_calls-retired 1 (length (all_given files)) p end.few_calls;
          queue = end.queue;
          retired = (length p.calls, refl);
          held = end.held;
          its = end.its;
          ended = λ awake. absurd (none-or p.spent end.spent.0 end.spent.1 awake);
        }))
