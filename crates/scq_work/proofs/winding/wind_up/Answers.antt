-- The end of the work of all workers.
use Rattle.std.proofs.Common.{◌≡◌, ◌∙◌, refl, sym, ap, subst, arith, ℕ, ◌^◌, List, Some, None, map}
use Rattle.std.specs.Prelude.{IfOk}
use Rattle.scq_block.specs.declared.frame.Frame.{Frame}
use Rattle.scq_frames.specs.declared.message.Message.{Message}
use Rattle.scq_collect.specs.declared.answered.Answered.{Answered}
use Rattle.scq_collect.specs.Exports.{members_of}
use Rattle.scq_queue.specs.Exports.{counts_of, PassStanding, lists_of}
use Rattle.scq_passes.specs.Exports.{lengths_of}
use Rattle.scq_passes.proofs.Counted.{counts-exact}
use Rattle.scq_passes.proofs.Results.{ok-more}
use Rattle.scq_files.specs.Exports.{AllEnded, AreGiven, StopsAtFaults, all_left}
use Rattle.scq_files.proofs.GivenLemmas.{given-told}
use Rattle.scq_desk.specs.Exports.{IsLaid}
use Rattle.scq_work.specs.Exports.{HaveAnswered, HasWorked}
use Rattle.scq_work.specs.declared.worked.Worked.{Worked}
use Rattle.scq_work.proofs.AllGave.{AllRan, given, is-given}
use Rattle.scq_work.proofs.AllRun.{have-answered, all-shared, passes_at, lists_at}
use Rattle.scq_desk.proofs.Ends.{reading-gathered}
use Rattle.scq_work.proofs.Told.{told-worked}
use Rattle.scq_work.proofs.Orders.{members-told}
use Rattle.scq_work.proofs.winding.wind_up.Goals as goal
use Rattle.scq_work.proofs.winding.wind_up.Goals.{After-conclude}

pub wind_up_desks-sources-requires-clause-laid : goal.wind_up_desks-sources-requires-clause-laid
wind_up_desks-sources-requires-clause-laid g c κs within = subst (λ n. IsLaid n c.args.laid) (sym c.requires.count) c.requires.laid

pub wind_up_desks-sources-requires-clause-seats : goal.wind_up_desks-sources-requires-clause-seats
wind_up_desks-sources-requires-clause-seats g c κs within =
    (omega (arith, c.requires.count, c.args.job.now.valid.some_workers), c.requires.setup.2 ∙ sym c.requires.count)

pub wind_up_desks-sources-requires-clause-own : goal.wind_up_desks-sources-requires-clause-own
wind_up_desks-sources-requires-clause-own g c κs within k d less = let ran = c.requires.run k d less in (ran.queue, ran.held, ran.its)

-- what the workers did
ran : (g : _) (c : After-conclude g) → AllRan c.args.queue.setup c.args.queue c.args.job.now.topics c.args.job.now.size c.args.job.now.most c.args.job.now.longest
    g.S.Source c.args.laid.was.value.items c.args.desks.items
ran g c =
    let valid = c.args.job.now.valid in
    let setup = c.requires.setup in
    record {
      some = omega (arith, c.requires.count, valid.some_workers);
      few = omega (arith, c.requires.laid.few, c.args.laid.was.value.ok.0);
      dealt = c.requires.dealt;
      run = c.requires.run;
      setup = refl;
      numbers = c.requires.numbers;
      order = omega (arith, setup.0, valid.order_fits);
      rings = setup.1;
      seats = setup.2 ∙ sym c.requires.count;
      limit = setup.3;
      some_size = valid.some_size;
    }

-- the end of the work, whatever the workers met
pub returns-clause-end : goal.returns-clause-end
returns-clause-end g c =
    let topics = c.args.job.now.topics in
    let size = c.args.job.now.size in
    let most = c.args.job.now.most in
    let longest = c.args.job.now.longest in
    let src = g.S.Source in
    let queue = c.args.queue in
    let desks = c.args.desks.items in
    let sources = c.args.laid.was.value.items in
    let wound = c.wind_up_desks-sources.result in
    let said = c.wind_up_desks-sources.ensures in
    let left_in = wound.left.items in
    let there : Some wound.left ≡ None → ⊥ = λ e. absurd (cc) in
    let result = c.conclude.result in
    let ok = c.conclude.ensures.ok in
    let f = ran g (goal.at.returns-clause-end g c).After-conclude in
    let setup = c.requires.setup in
    let shared = all-shared queue.setup queue topics size most longest src sources desks f left_in said.closed in
    let ended : AllEnded longest src desks = λ w d less e o inside. ((c.requires.run w d less).read e o inside).ends in
    let Of : Worked → Type 0 = λ w. (given : List (List Message)) × AreGiven topics longest src.left 1 sources given
    × HasWorked topics size most c.args.job.now.workers given w in
    let worked : IfOk result Of = ok-more result _ Of ok (λ w is.
    let whole = said.whole is.2 in
    let answered = have-answered queue.setup queue topics size most longest src sources desks f left_in said.closed whole (said.fed is.1) in
    let its_passes : wound.passes.value.items ≡ passes_at desks = said.brought.passes in
    let gave = given queue.setup queue topics size most longest src sources desks f in
    let Are : List (PassStanding Frame) → List (List Answered) → ℕ → Type 0 = λ ps ls n. HaveAnswered topics size most n gave ps ls in
    subst Of (sym is.0) (
      gave,
      is-given queue.setup queue topics size most longest src sources desks f whole,
      record {
        answered = subst (λ (ps : List (PassStanding Frame)). Are ps wound.lists.items c.args.job.now.workers) (sym its_passes)
            (subst (λ (ls : List (List Answered)). Are (passes_at desks) ls c.args.job.now.workers) (sym said.brought.lists)
            (subst (λ n. Are (passes_at desks) (lists_at desks) n) c.requires.count answered));
        counts = said.brought.counts ∙ ap (map (λ (p : PassStanding Frame). counts_of (lists_of p))) its_passes
            ∙ counts-exact (2 ^ 36) (omega arith) (passes_at desks) shared.bounded ∙ ap (map lengths_of) (sym its_passes);
      },
    )) in
    record {
      reading = reading-gathered c.args.job.now.workers longest src sources _ _ wound.starved wound.fault (said.gathered longest ended)
          (subst (λ n. StopsAtFaults n longest src sources wound.sources.items) c.requires.count
          (said.stops longest ended (λ w d less. (c.requires.run w d less).stops))) ok c.conclude.ensures.err there;
      answers = ok-more result Of _ worked
          (λ w has. members-told topics size longest src.left sources has.0 (members_of w.answered.items) has.1 has.2.answered.once);
      told = ok-more result Of _ worked (λ w has. told-worked topics size most c.args.job.now.workers has.0 w (all_left src.left sources)
          (given-told topics longest src.left 1 sources has.0 has.1) has.2);
      worked = worked;
      none_stranded = record {
        setup = queue.setup;
        of_job = record { buffers = setup.0; rings = omega (arith, setup.1); seats = setup.2; limit = setup.3 };
        shared = rw said.brought.closing shared;
      };
      same = ok-more result _ _ ok (λ w is. said.brought.closing ∙ sym said.brought.passes ∙ ap (λ (x : Worked). x.passes.value.items) (sym is.0));
    }

-- each pass says whether it was told that all had retired
pub returns-clause-saw : goal.returns-clause-saw
returns-clause-saw g c = c.wind_up_desks-sources.ensures.brought.saw

-- the passes are those of the desks
pub returns-clause-passes : goal.returns-clause-passes
returns-clause-passes g c = c.wind_up_desks-sources.ensures.brought.closing
