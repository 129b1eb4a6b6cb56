-- A worker behind its retirement, from what it took since.
use Rattle.std.proofs.Common.{◌≡◌, sym, ◌∙◌, ap, subst, List, [], length, Bool, false}
use Rattle.std.specs.Prelude.{filter}
use Rattle.std.specs.List.{AllZip, Contains}
use Rattle.scq_frames.specs.declared.message.Message.{Message}
use Rattle.scq_queue.specs.Exports.{sends_of, takes_of, PassStanding}
use Rattle.scq_passes.specs.Exports.{on, ArePassedOn, TookNoneBelow, after_retire, calls_behind, since}
use Rattle.scq_passes.specs.Becoming.{none}
use Rattle.scq_passes.proofs.Between.{between-taken, between-retired}
use Rattle.scq_passes.proofs.Retired.{behind-retired, retired-sends}
use Rattle.scq_passes.proofs.Since.{since-taken}
use Rattle.scq_stages.specs.declared.finished.Finished.{Finished}
use Rattle.scq_stages.specs.declared.finished.StageWay.TheVariants.{Direct}
use Rattle.scq_stages.specs.Exports.{is_second, is_first, is_direct, DirectsAre, first, second, SendsToFirst, FinishesItself, SecondsSoFar}
use Rattle.scq_stages.specs.Exports.{FirstsSoFar, HasGivenBack, HasFinished, HasListed, HasListedAll, IsDone, IsLeaving}
use Rattle.scq_stages.proofs.AtWork.{takes-since}
use Rattle.scq_stages.proofs.Moving.{gives, moved-of}
use Rattle.scq_stages.proofs.FewCalls.{few_calls-moved, few_calls-retired}

module _ {B : Type 0} where
  -- what it took since it retired are the calls behind
  behind-since : (at p : PassStanding B) → HasGivenBack (after_retire at) p → calls_behind p ≡ since (after_retire at) p
  behind-since at p taken = behind-retired at p taken ∙ sym (since-taken (after_retire at) p taken)

  -- its list goes on being that of the messages and the pass
  listed-all : (messages : List Message) (at p : PassStanding B) (was is : List Finished) → HasGivenBack (after_retire at) p
      → HasFinished (after_retire at) p was is → HasListed messages at was → HasListedAll messages p is
  listed-all messages at p was is taken finished old =
      record {
        passed = subst (λ sends. ArePassedOn SendsToFirst FinishesItself messages sends (filter is_direct is))
            (sym (ap (on first) (retired-sends gives at p taken)))
            (subst (ArePassedOn SendsToFirst FinishesItself messages (on first (sends_of at.calls))) (sym finished.directs) old.passed);
        seconds = subst (λ l. SecondsSoFar l (filter is_second is)) (sym (takes-since second (after_retire at) p taken))
            (finished.seconds (on second (takes_of at.calls)) old.seconds);
        firsts = subst (λ l. FirstsSoFar (on first (takes_of l)) (filter is_first is)) (sym (behind-since at p taken))
            (finished.firsts [] (subst (FirstsSoFar []) (sym old.firsts) none));
        directs = subst (λ fulls. DirectsAre fulls is) (sym (ap (λ (x : PassStanding B). x.fulls) taken.pass))
            (subst (AllZip (λ head f. f.way ≡ Direct head) at.fulls) (sym finished.directs) old.directs);
      }

  pub leaving-of : (messages : List Message) (at p : PassStanding B) (was is : List Finished) (before after : Bool) → IsDone messages at was before
      → HasGivenBack (after_retire at) p → TookNoneBelow first (after_retire at) p → (after ≡ false → before ≡ false)
      → (after ≡ false → HasFinished (after_retire at) p was is)
      → IsLeaving messages at p is after
  leaving-of messages at p was is before after done taken below fed_before finished =
      record {
        taken = taken;
        between = between-taken (after_retire at) p (between-retired at done.moved.between) taken;
        few_calls = few_calls-moved (length messages) (after_retire at) p (moved-of (after_retire at) p taken)
            (few_calls-retired 0 (length messages) at done.moved.few_calls);
        high = λ m has. below m (subst (λ l. Contains (on first (takes_of l)) m) (behind-since at p taken) has);
        listed = λ fed. listed-all messages at p was is taken (finished fed) (done.listed (fed_before fed));
      }
