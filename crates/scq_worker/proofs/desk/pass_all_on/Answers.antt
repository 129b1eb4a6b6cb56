use Rattle.std.proofs.Common.{rules, ◌≡◌, ◌+◌, ◌∙◌, ap, sym, subst, [], ◌++◌, List, length, take, drop}
use Rattle.std.specs.Prelude.{All}
use Rattle.std.proofs.lemmas.List.{append-nil}
use Rattle.scq_frames.specs.Exports.{Part}
use Rattle.scq_queue.specs.Exports.{PassStanding}
use Rattle.scq_files.specs.Exports.{IsNew, ids_of, all_given, WereRead}
use Rattle.scq_worker.specs.Exports.{same-worker, parts_in, HasGathered, gathered-along, HasStoppedIn, still-along, stopped-along}
use Rattle.scq_files.specs.declared.own_file.OwnFile.{OwnFile}
use Rattle.scq_files.proofs.Lists.{written-back}
use Rattle.scq_files.proofs.Results.{err-of}
use Rattle.scq_worker.proofs.Gathered.{open-none}
use Rattle.scq_worker.proofs.RunLemmas.{suits-first}
use Rattle.scq_worker.proofs.desk.pass_all_on.Goals as goal
use Rattle.scq_worker.proofs.desk.pass_all_on.Goals.{After-read_files}

pub read_files-requires-clause-ready : goal.read_files-requires-clause-ready
read_files-requires-clause-ready g c κs within =
    let its = c.requires in
    let worker = c.args.desk.now.worker.worker in
    let job = c.args.job.now in (
      suits-first c.args.queue.now (length job.topics) worker.pass.number worker.pass its.rings its.fresh.pass,
      ap (λ (p : PassStanding _). p.retired) its.fresh.pass,
      its.room,
      its.bell,
      open-none job.most (length job.topics + 1) worker.opens.items its.fresh.members.1,
    )

pub read_files-requires-clause-takes : goal.read_files-requires-clause-takes
read_files-requires-clause-takes g c κs within m topic short = (topic, short)

pub read_files-requires-clause-unread : goal.read_files-requires-clause-unread
read_files-requires-clause-unread g c κs within = subst (λ (fs : List (OwnFile _)). All IsNew fs) (sym c.as_mut_slice-files.ensures.value) c.requires.unread

-- the files on the desk are those that were read
whole : (g : _) (c : After-read_files g)
    → take c.args.desk.now.files.len (c.read_files.new.files ++ drop (length c.read_files.new.files) c.args.desk.now.files.items) ≡ c.read_files.new.files
whole g c =
    written-back c.args.desk.now.files.len c.read_files.new.files c.args.desk.now.files.items (c.read_files.auto.files ∙ c.as_mut_slice-files.ensures.len)

read-so : (g : _) (c : After-read_files g) → WereRead c.args.job.now.topics c.args.job.now.longest g.S.Source c.args.desk.now.files.items
    (take c.args.desk.now.files.len (c.read_files.new.files ++ drop (length c.read_files.new.files) c.args.desk.now.files.items))
read-so g c =
    let old = c.args.desk.now.files.items in
    let its = c.read_files.ensures in
    subst (λ (fs : List (OwnFile _)). WereRead c.args.job.now.topics c.args.job.now.longest g.S.Source old fs) (sym (whole g c))
    (record { same = its.same ∙ ap (λ (fs : List (OwnFile _)). ids_of fs) c.as_mut_slice-files.ensures.value; read = its.read; stops = its.stops })

pub returns-in_err-read_files-clause-files : goal.returns-in_err-read_files-clause-files
returns-in_err-read_files-clause-files g c = read-so g (goal.at.returns-in_err-read_files-clause-files g c).After-read_files

-- it met Spent while it read
pub returns-in_err-read_files-clause-stopped : goal.returns-in_err-read_files-clause-stopped
returns-in_err-read_files-clause-stopped g c =
    let at = (goal.at.returns-in_err-read_files-clause-stopped g c).After-read_files in
    let q = c.args.queue.now in
    let job = c.args.job.now in
    let start = c.args.desk.now.worker.worker in
    let now = c.read_files.new.handler in
    let held = c.in_err-read_files.field-0.0.held in
    err-of _ c.from_residual.result c.in_err-read_files.field-0.0 (search rules)
    (subst (λ (fs : List (OwnFile _)). HasStoppedIn q job (parts_in job.size (all_given fs)) start now held) (sym (whole g at))
    c.in_err-read_files.ensures.stopped.0)

pub returns-in_err-read_files-clause-still : goal.returns-in_err-read_files-clause-still
returns-in_err-read_files-clause-still g c = c.in_err-read_files.ensures.stopped.1

pub pass_all_open-requires-clause-suits : goal.pass_all_open-requires-clause-suits
pass_all_open-requires-clause-suits g c κs within = c.in_ok-read_files.ensures.handled.0.goes.suits

pub pass_all_open-requires-clause-stays : goal.pass_all_open-requires-clause-stays
pass_all_open-requires-clause-stays g c κs within = c.in_ok-read_files.ensures.handled.0.goes.stays

pub pass_all_open-requires-clause-bell : goal.pass_all_open-requires-clause-bell
pass_all_open-requires-clause-bell g c κs within =
    subst (λ k. g.W.Bell.fits c.args.bell.now k c.args.job.now.workers) (sym c.in_ok-read_files.ensures.handled.1.bell) c.requires.bell

pub pass_all_open-requires-clause-opens : goal.pass_all_open-requires-clause-opens
pass_all_open-requires-clause-opens g c κs within = c.in_ok-read_files.ensures.handled.0.opens

pub returns-in_err-pass_all_open-clause-files : goal.returns-in_err-pass_all_open-clause-files
returns-in_err-pass_all_open-clause-files g c = read-so g (goal.at.returns-in_err-pass_all_open-clause-files g c).After-read_files

-- it met Spent behind that
pub returns-in_err-pass_all_open-clause-stopped : goal.returns-in_err-pass_all_open-clause-stopped
returns-in_err-pass_all_open-clause-stopped g c =
    let at = (goal.at.returns-in_err-pass_all_open-clause-stopped g c).After-read_files in
    let q = c.args.queue.now in
    let job = c.args.job.now in
    let start = c.args.desk.now.worker.worker in
    let now = c.pass_all_open.new.self in
    let held = c.in_err-pass_all_open.field-0.0.held in
    let parts = parts_in job.size (all_given c.read_files.new.files) in
    err-of _ c.from_residual-in_err-pass_all_open.result c.in_err-pass_all_open.field-0.0 (search rules)
    (subst (λ (fs : List (OwnFile _)). HasStoppedIn q job (parts_in job.size (all_given fs)) start now held) (sym (whole g at))
    (subst (λ (l : List Part). HasStoppedIn q job l start now held) (append-nil parts)
    (stopped-along q job parts [] start c.read_files.new.handler now (g.W.Bell.seen c.args.stand.now) (g.W.Bell.seen c.read_files.new.beside) held
    c.in_ok-read_files.ensures.handled.0 c.in_err-pass_all_open.ensures.left)))

pub returns-in_err-pass_all_open-clause-still : goal.returns-in_err-pass_all_open-clause-still
returns-in_err-pass_all_open-clause-still g c =
    let kept = g.W.Bell.seen in
    still-along c.args.desk.now.worker.worker c.read_files.new.handler c.pass_all_open.new.self (kept c.args.stand.now) (kept c.read_files.new.beside)
    (kept c.pass_all_open.new.stand) c.in_ok-read_files.ensures.handled.1 c.pass_all_open.ensures.still

pub returns-clause-files : goal.returns-clause-files
returns-clause-files g c = read-so g (goal.at.returns-clause-files g c).After-read_files

-- all is passed on
pub returns-clause-gathered : goal.returns-clause-gathered
returns-clause-gathered g c =
    let at = (goal.at.returns-clause-gathered g c).After-read_files in
    let q = c.args.queue.now in
    let job = c.args.job.now in
    let start = c.args.desk.now.worker.worker in
    let now = c.pass_all_open.new.self in
    let was = g.W.Bell.seen c.args.stand.now in
    let is = g.W.Bell.seen c.pass_all_open.new.stand in
    let parts = parts_in job.size (all_given c.read_files.new.files) in
    let read = c.in_ok-read_files.ensures.handled in
    subst (λ (fs : List (OwnFile _)). HasGathered q job (parts_in job.size (all_given fs)) start now was is) (sym (whole g at))
    (subst (λ (l : List Part). HasGathered q job l start now was is) (append-nil parts)
    (gathered-along q job parts [] start c.read_files.new.handler now was (g.W.Bell.seen c.read_files.new.beside) is
    (same-worker was (g.W.Bell.seen c.read_files.new.beside) read.1.bell) read.0
    c.in_ok-pass_all_open.ensures.gathered))

pub returns-clause-still : goal.returns-clause-still
returns-clause-still g c =
    let kept = g.W.Bell.seen in
    still-along c.args.desk.now.worker.worker c.read_files.new.handler c.pass_all_open.new.self (kept c.args.stand.now) (kept c.read_files.new.beside)
    (kept c.pass_all_open.new.stand) c.in_ok-read_files.ensures.handled.1 c.pass_all_open.ensures.still
