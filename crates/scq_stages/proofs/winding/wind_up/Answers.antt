-- The end of the stages.
use Rattle.std.proofs.Common.{◌≡◌, ◌∙◌, refl, sym, ap, subst, arith, ℕ, ◌^◌, List, [], Some, None, map}
use Rattle.std.specs.Prelude.{IfOk, Vec}
use Rattle.std.specs.Global.{Global}
use Rattle.scq_block.specs.declared.frame.Frame.{Frame}
use Rattle.scq_frames.specs.declared.message.Message.{Message}
use Rattle.scq_queue.specs.Exports.{counts_of, PassStanding, lists_of}
use Rattle.scq_files.specs.Exports.{AreGiven, StopsAtFaults, all_left}
use Rattle.scq_files.proofs.GivenLemmas.{given-told}
use Rattle.scq_passes.specs.Exports.{lengths_of}
use Rattle.scq_passes.proofs.Counted.{counts-exact}
use Rattle.scq_passes.proofs.Results.{ok-more}
use Rattle.scq_desk.specs.Exports.{IsLaid}
use Rattle.scq_stages.specs.declared.finished.Finished.{Finished}
use Rattle.scq_stages.specs.declared.staged.Staged.{Staged}
use Rattle.scq_stages.specs.Exports.{HasStaged, HaveFinished, finished_in}
use Rattle.scq_stages.proofs.DeskWorks.{AllRan, all-ended, desks-gave, desks-shared, desks-staged, lists_at, messages_given, passes_at}
use Rattle.scq_desk.proofs.Ends.{reading-gathered}
use Rattle.scq_stages.proofs.Told.{told-staged}
use Rattle.scq_stages.proofs.Ordered.{members-told}
use Rattle.scq_stages.proofs.winding.wind_up.Goals as goal
use Rattle.scq_stages.proofs.winding.wind_up.Goals.{After-conclude}

pub wind_up_desks-sources-requires-clause-laid : goal.wind_up_desks-sources-requires-clause-laid
wind_up_desks-sources-requires-clause-laid g c κs within = subst (λ n. IsLaid n c.args.laid) (sym c.requires.count) c.requires.laid

pub wind_up_desks-sources-requires-clause-seats : goal.wind_up_desks-sources-requires-clause-seats
wind_up_desks-sources-requires-clause-seats g c κs within =
    (omega (arith, c.requires.count, c.args.job.now.valid.some_workers), c.requires.setup.2 ∙ sym c.requires.count)

pub wind_up_desks-sources-requires-clause-own : goal.wind_up_desks-sources-requires-clause-own
wind_up_desks-sources-requires-clause-own g c κs within k d less = let ran = c.requires.run k d less in (ran.queue, ran.held, ran.its)

-- what the workers did
ran : (g : _) (c : After-conclude g) → AllRan c.args.queue.setup c.args.queue c.args.job.now.size g.S.Source c.args.laid.was.value.items c.args.desks.items
ran g c =
    let setup = c.requires.setup in
    record {
      some = omega (arith, c.requires.count, c.args.job.now.valid.some_workers);
      few = omega (arith, c.requires.laid.few, c.args.laid.was.value.ok.0);
      dealt = c.requires.dealt;
      run = c.requires.run;
      setup = refl;
      numbers = c.requires.numbers;
      rings = setup.1;
      seats = setup.2 ∙ sym c.requires.count;
      limit = setup.3;
    }

-- the end of the stages, whatever the workers met
pub returns-clause-end : goal.returns-clause-end
returns-clause-end g c =
    let size = c.args.job.now.size in
    let workers = c.args.job.now.workers in
    let src = g.S.Source in
    let queue = c.args.queue in
    let desks = c.args.desks.items in
    let sources = c.args.laid.was.value.items in
    let wound = c.wind_up_desks-sources.result in
    let said = c.wind_up_desks-sources.ensures in
    let left_in = wound.left.items in
    let there : Some wound.left ≡ None → ⊥ = λ e. absurd (cc) in
    let result = c.conclude.result in
    let ok = c.conclude.ensures.ok in
    let f = ran g (goal.at.returns-clause-end g c).After-conclude in
    let setup = c.requires.setup in
    let shared = desks-shared queue.setup queue size src sources desks f left_in said.closed in
    let ended = all-ended queue.setup queue size src sources desks f in
    let Of : Staged → Type 0 = λ s. (given : List (List Message)) × AreGiven [] size src.left 1 sources given × HasStaged workers given s in
    let staged : IfOk result Of = ok-more result _ Of ok (λ s is.
    let whole = said.whole is.2 in
    let fed = said.fed is.1 in
    let gave = messages_given queue.setup queue size src sources desks f left_in said.closed whole fed in
    let its_passes : wound.passes.value.items ≡ passes_at desks = said.brought.passes in
    let Are : List (PassStanding Frame) → List (Vec Finished Global) → ℕ → Type 0 = λ ps ls n. HaveFinished n gave ps ls in
    subst Of (sym is.0) (
      gave,
      desks-gave queue.setup queue size src sources desks f left_in said.closed whole fed,
      record {
        staged = subst (λ (ps : List (PassStanding Frame)). Are ps wound.lists.items workers) (sym its_passes)
            (subst (λ (ls : List (Vec Finished Global)). Are (passes_at desks) ls workers) (sym said.brought.lists)
            (subst (λ n. Are (passes_at desks) (lists_at desks) n) c.requires.count
            (desks-staged queue.setup queue size src sources desks f left_in said.closed whole fed)));
        counts = said.brought.counts ∙ ap (map (λ (p : PassStanding Frame). counts_of (lists_of p))) its_passes
            ∙ counts-exact (2 ^ 37) (omega arith) (passes_at desks) shared.bounded ∙ ap (map lengths_of) (sym its_passes);
      },
    )) in
    record {
      reading = reading-gathered workers size src sources _ _ wound.starved wound.fault (said.gathered size ended)
          (subst (λ n. StopsAtFaults n size src sources wound.sources.items) c.requires.count
          (said.stops size ended (λ w d less. (c.requires.run w d less).stops))) ok c.conclude.ensures.err there;
      handled = ok-more result Of _ staged
          (λ s has. members-told size src.left sources has.0 (finished_in s.done.items) has.1 has.2.staged.once);
      told = ok-more result Of _ staged
          (λ s has. told-staged workers has.0 s (all_left src.left sources) (given-told [] size src.left 1 sources has.0 has.1) has.2);
      staged = staged;
      left = record {
        setup = queue.setup;
        of_job = record { buffers = setup.0; rings = omega (arith, setup.1); seats = setup.2; limit = setup.3 };
        shared = rw said.brought.closing shared;
      };
      same = ok-more result _ _ ok (λ s is. said.brought.closing ∙ sym said.brought.passes ∙ ap (λ (x : Staged). x.passes.value.items) (sym is.0));
    }

pub returns-clause-passes : goal.returns-clause-passes
returns-clause-passes g c = c.wind_up_desks-sources.ensures.brought.closing
