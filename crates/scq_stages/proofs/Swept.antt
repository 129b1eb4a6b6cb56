-- Sweeps of a worker, one behind the other.
use Rattle.std.proofs.Common.{◌≡◌, ◌∙◌, sym, ap, subst, [], Option}
use Rattle.std.proofs.lemmas.List.{append-nil}
use Rattle.scq_queue.specs.Exports.{takes_of, HeldStanding}
use Rattle.scq_passes.specs.Exports.{since, on}
use Rattle.scq_passes.proofs.LeftLemmas.{left-so-taken}
use Rattle.scq_passes.proofs.Since.{since-of, since-takes, none_below-along, none_below-nothing}
use Rattle.scq_stages.specs.Exports.{first, HasFinished, HasGivenBack, FinishesOn, HasFinishedAll, HasLeftAt, LeavesOn, HasFewStageCalls}
use Rattle.scq_stages.specs.declared.worker.Worker.{Worker}
use Rattle.scq_stages.proofs.FewCalls.{few_calls-moved}
use Rattle.scq_stages.proofs.Finishing.{finished-along, finished-nothing}
use Rattle.scq_stages.proofs.Moving.{moved-of}

module _ {B Place : Type 0} where
  -- it took nothing
  pub finished-none : (w : Worker B Place) → HasFinishedAll w w
  finished-none w =
      let none_ : since w.pass w.pass ≡ [] = since-of w.pass w.pass [] (sym (append-nil w.pass.calls)) in
      record {
        finished = λ fed. finished-nothing w.pass w.pass w.members.items (ap takes_of none_);
        below = none_below-nothing first w.pass w.pass (ap (λ l. on first (takes_of l)) none_);
        fed = λ fed. fed;
      }

  -- it took more
  pub finished-more : (u v w : Worker B Place) → HasGivenBack u.pass v.pass → HasGivenBack v.pass w.pass → HasFinishedAll u v → HasFinishedAll v w
      → HasFinishedAll u w
  finished-more u v w taken later one more =
      let split = since-takes u.pass v.pass w.pass taken later in
      record {
        finished = λ fed. finished-along u.pass v.pass w.pass u.members.items v.members.items w.members.items split (one.finished (more.fed fed))
            (more.finished fed);
        below = none_below-along first u.pass v.pass w.pass taken.knows split one.below more.below;
        fed = λ fed. one.fed (more.fed fed);
      }

  -- it left then
  pub finished-left : (u v w : Worker B Place) (kept : Option (HeldStanding B)) → HasGivenBack u.pass v.pass → HasFinishedAll u v → HasLeftAt v w kept
      → HasLeftAt u w kept
  finished-left u v w kept taken one more = record {
    left = λ n.
        let moved = moved-of u.pass v.pass taken in
        left-so-taken HasFewStageCalls n n n u.pass v.pass w.pass kept moved (few_calls-moved n u.pass v.pass moved) (more.left n);
    fed = λ fed. one.fed (more.fed fed);
  }

  -- what one take made of it, behind sweeps that went before
  pub finishes-on : (v w : Worker B Place) → HasGivenBack v.pass w.pass → HasFinishedAll v w → FinishesOn v w
  finishes-on v w taken made first_of back was = finished-more first_of v w back taken was made

  pub leaves-on : (v w : Worker B Place) (kept : Option (HeldStanding B)) → HasLeftAt v w kept → LeavesOn v w kept
  leaves-on v w kept left first_of back was = finished-left first_of v w kept back was left

  -- that it asked makes no difference
  pub finished-asked : (v w : Worker B Place) → w.pass.calls ≡ v.pass.calls → w.members.items ≡ v.members.items
      → w.starved ≡ v.starved → HasFinishedAll v w
  finished-asked v w same members starved =
      let none_ : since v.pass w.pass ≡ [] = since-of v.pass w.pass [] (same ∙ sym (append-nil v.pass.calls)) in
      record {
        finished = λ fed. subst (λ is. HasFinished v.pass w.pass v.members.items is) (sym members)
            (finished-nothing v.pass w.pass v.members.items (ap takes_of none_));
        below = none_below-nothing first v.pass w.pass (ap (λ l. on first (takes_of l)) none_);
        fed = λ fed. sym starved ∙ fed;
      }
