-- Each Empty in the history of a run is right, and so the history has its aspects. Plan: at the moment of its call that a
-- get had seen so, each finished put's place had been drawn, and what is placed below Head is claimed.
use Rattle.std.proofs.Common.{◌≡◌, ℕ, inl, inr, List, length, subst}
use Rattle.std.proofs.lemmas.Bool.{cases_lt}
use Rattle.scq_word.specs.declared.setup.Setup.{Setup}
use Rattle.scq_word.specs.Exports.{n_of}
use Rattle.scq_hist.specs.Exports.{IsFinishedAt, IsEmptyRight, IsRightWithin, HasAspects}
use Rattle.scq_hist.specs.declared.events.PutName.{PutName}
use Rattle.scq_law.specs.Exports.{Recorded}
use Rattle.scq_law.proofs.Aspects.CoupledRuns.{IsTiedRun}
use Rattle.scq_law.proofs.Aspects.ClaimedPuts.{base, fresh, once, Ahead, all_claimed}
use Rattle.scq_law.proofs.Aspects.InOrder.{in_order}

module _ (c : Setup) (opening : List (List ℕ)) (full : length opening ≡ n_of c.order) (recorded : Recorded) (tied_run : IsTiedRun c opening recorded) where
  pub empty_right : IsEmptyRight opening recorded.events
  empty_right e s seat queue call =
      let z = tied_run.tied.emptied.ends e seat call.ends in
      let till = call.under_way_till in
      let under = z.under in
      let start : z.s ≡ s = cc in
      let a = call.starts in
      let b = z.starts in
      let ring : z.r ≡ queue = cc in
      let ahead : (name : PutName) → IsFinishedAt opening recorded.events z.r z.m name → Ahead c opening recorded tied_run z.r z.m name =
      λ name is.
      let p = z.passed name is in
      record {
        p = p.p;
        is = p.is;
        named = p.named;
        low =
            elim (cases_lt p.p (recorded.state.cells.head z.r)) [
              | inl less ↦ less
              | inr high ↦ absurd (p.drawn ((base c opening recorded tied_run).drawn.heads z.r p.p high))
            ];
        before = p.before;
      } in
      let right : IsRightWithin opening recorded.events z.r z.s e =
      (z.m, z.after, z.till, all_claimed c opening recorded tied_run z.r z.m (IsFinishedAt opening recorded.events z.r z.m) ahead) in
      subst (λ q. IsRightWithin opening recorded.events q s e) ring (subst (λ x. IsRightWithin opening recorded.events z.r x e) start right)

  pub has_aspects : HasAspects opening recorded.events
  has_aspects =
      record {
        lawful = tied_run.tied.called.lawful;
        fresh = fresh c opening recorded tied_run;
        once = once c opening recorded tied_run;
        in_order = in_order c opening full recorded tied_run;
        empty_right = empty_right;
      }
