use Rattle.std.proofs.Common.{◌≡◌, ◌∙◌, ap, sym, subst, [], ◌++◌, List, length, take, drop}
use Rattle.scq_block.specs.Exports.{bytes_of}
use Rattle.scq_band.specs.Exports.{Identity}
use Rattle.scq_queue.specs.Exports.{PassStanding}
use Rattle.scq_passes.specs.Exports.{after_retire, HasSweptLast, IsGivenBack}
use Rattle.std.specs.Prelude.{All}
use Rattle.scq_files.specs.Exports.{AreRead, IsNew, ids_of, all_given}
use Rattle.scq_files.specs.declared.own_file.OwnFile.{OwnFile}
use Rattle.scq_files.proofs.Lists.{written-back}
use Rattle.scq_stages.specs.declared.worker.Worker.{Worker}
use Rattle.scq_stages.specs.Exports.{HasRun, IsAtWork, IsDone}
use Rattle.scq_desk.proofs.Passes.{none-or}
use Rattle.scq_stages.proofs.Runs.{work-first, run-left, run-late, run-stopped}
use Rattle.scq_stages.proofs.running.run.Goals as goal
use Rattle.scq_stages.proofs.running.run.Goals.{After-work, In-Ok, In-Err}

-- nothing was passed on before
begun : (g : _) (c : After-work g)
    → IsAtWork [] c.args.desk.now.worker.worker.pass c.args.desk.now.worker.worker.members.items c.args.desk.now.worker.worker.starved
begun g c =
    let worker = c.args.desk.now.worker.worker in
    work-first c.args.queue.now worker.pass.number worker.pass worker.members.items worker.starved c.requires.fresh.pass c.requires.fresh.members

-- the files on the desk are those that were read
whole : (g : _) (c : After-work g)
    → take c.args.desk.now.files.len (c.work.new.files ++ drop (length c.work.new.files) c.args.desk.now.files.items) ≡ c.work.new.files
whole g c =
    written-back c.args.desk.now.files.len c.work.new.files c.args.desk.now.files.items (c.work.auto.files ∙ c.as_mut_slice-files.ensures.len)

-- as many, of the same numbers
ids-kept : (g : _) (c : After-work g)
    → ids_of (take c.args.desk.now.files.len (c.work.new.files ++ drop (length c.work.new.files) c.args.desk.now.files.items))
    ≡ ids_of c.args.desk.now.files.items
ids-kept g c =
    let ids = λ (fs : List (OwnFile _)). ids_of fs in
    ap ids (whole g c) ∙ c.work.ensures.same ∙ ap ids c.as_mut_slice-files.ensures.value

-- of each is known what was read of it
read : (g : _) (c : After-work g) → AreRead [] c.args.job.now.size g.S.Source c.work.new.files
read g c =
    subst (λ topics. AreRead topics c.args.job.now.size g.S.Source c.work.new.files) c.none-topics.ensures
    c.work.ensures.read

pub work-requires-clause-unread : goal.work-requires-clause-unread
work-requires-clause-unread g c κs within =
    subst (λ (fs : List (OwnFile _)). All IsNew fs) (sym c.as_mut_slice-files.ensures.value) c.requires.unread

pub retire-requires-clause-pass : goal.retire-requires-clause-pass
retire-requires-clause-pass g c κs = (c.in-Err.ensures.left (begun g (goal.at.retire-requires-clause-pass g c).After-work)).queue

pub retire-requires-clause-stays : goal.retire-requires-clause-stays
retire-requires-clause-stays g c κs = (c.in-Err.ensures.left (begun g (goal.at.retire-requires-clause-stays g c).After-work)).stays

-- it met Spent in a sweep
pub returns-in-Err-leave : goal.returns-in-Err-leave
returns-in-Err-leave g c =
    let job = c.args.job.now in
    let src = g.S.Source in
    let files = c.work.new.files in
    let mid = c.work.new.worker in
    let now = c.leave.new.worker in
    let later = c.keep.new.self in
    let at = (goal.at.returns-in-Err-leave g c).After-work in
    let left = c.in-Err-leave.ensures.left 0 in
    record {
      same = ids-kept g at;
      run = subst (λ (fs : List (OwnFile _)). HasRun c.args.queue.now job.size src fs later.worker.pass later.worker.members.items
          later.worker.starved later.kept) (sym (whole g at))
          (subst (λ (w : Worker _ _). HasRun c.args.queue.now job.size src files w.pass w.members.items w.starved later.kept) (sym c.keep.ensures.same)
          (run-late c.args.queue.now job.size src files mid.pass now.pass mid.members.items now.members.items mid.starved now.starved
          later.kept c.in-Err-leave.at_limit.held (read g at) c.work.ensures.stops c.in-Ok.ensures.suits (c.in-Ok.ensures.done (begun g at))
          (c.in-Err-leave.ensures.left (length (all_given files))) c.keep.ensures.kept));
      behind = λ awake. absurd (none-or now.pass.spent left.spent.0 left.spent.1
          (ap (λ (w : Worker _ _). w.pass.spent) (sym c.keep.ensures.same) ∙ awake));
      number = ap (λ (w : Worker _ _). w.pass.number) c.keep.ensures.same ∙ left.own.1 ∙ c.work.ensures.number;
    }

-- it left, and asked before each of its sweeps
pub returns-in_default : goal.returns-in_default
returns-in_default g c =
    let job = c.args.job.now in
    let src = g.S.Source in
    let files = c.work.new.files in
    let mid = c.work.new.worker in
    let now = c.leave.new.worker in
    let kept = c.args.desk.now.worker.kept in
    let at = (goal.at.returns-in_default g c).After-work in
    let done : IsDone (all_given files) mid.pass mid.members.items mid.starved = c.in-Ok.ensures.done (begun g at) in
    let its = c.in_default.ensures in
    let same : now.pass.queue ≡ c.args.queue.now = ap (λ (x : PassStanding _). x.queue) its.taken.pass ∙ c.in-Ok.ensures.suits.queue in
    record {
      same = ids-kept g at;
      run = subst (λ (fs : List (OwnFile _)). HasRun c.args.queue.now job.size src fs now.pass now.members.items now.starved kept) (sym (whole g at))
          (run-left c.args.queue.now job.size src files mid.pass now.pass mid.members.items now.members.items mid.starved now.starved kept
          (read g at) c.work.ensures.stops c.in-Ok.ensures.suits done (its.leaving (all_given files) done) its.empty c.requires.fresh.kept);
      behind = λ awake. record {
        before = mid.pass;
        unasked = done.moved.unasked;
        swept = subst (λ (k : Identity _). HasSweptLast bytes_of k IsGivenBack 2 64 (after_retire mid.pass) now.pass) (sym same) its.swept;
      };
      number = ap (λ (p : PassStanding _). p.number) its.taken.pass ∙ c.work.ensures.number;
    }

-- it met Spent before it retired
pub returns-in-Err : goal.returns-in-Err
returns-in-Err g c =
    let job = c.args.job.now in
    let src = g.S.Source in
    let mid = c.work.new.worker in
    let later = c.keep-in-Err.new.self in
    let at = (goal.at.returns-in-Err g c).After-work in
    let end = c.in-Err.ensures.left (begun g at) in
    let retired = ap (λ (w : Worker _ _). w.pass) c.keep-in-Err.ensures.same ∙ c.retire.ensures in
    record {
      same = ids-kept g at;
      run = subst (λ (fs : List (OwnFile _)). HasRun c.args.queue.now job.size src fs later.worker.pass later.worker.members.items
          later.worker.starved later.kept) (sym (whole g at))
          (run-stopped c.args.queue.now job.size src c.work.new.files mid.pass later.worker.pass later.worker.members.items later.worker.starved
          later.kept c.in-Err.at_limit.held (read g at) c.work.ensures.stops end retired c.keep-in-Err.ensures.kept);
      behind = λ awake. absurd (none-or mid.pass.spent end.spent.0 end.spent.1 (sym (ap (λ (x : PassStanding _). x.spent) retired) ∙ awake));
      number = ap (λ (p : PassStanding _). p.number) retired ∙ c.work.ensures.number;
    }
