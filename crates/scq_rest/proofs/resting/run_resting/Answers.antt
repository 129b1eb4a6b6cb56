-- Each desk is put together with its stand, and taken apart again once the work is done.
use Rattle.std.proofs.Common.{◌≡◌, ◌∙◌, sym, ap, subst, arith, ℕ, ◌+◌, List, ◌∷◌, length, map, Option}
use Rattle.std.specs.List.{All, AllZip}
use Rattle.std.proofs.lemmas.List.{length-map}
use Rattle.std.proofs.lemmas.List.Elements.{All-map, All-head, All-tail}
use Rattle.atomic_table.specs.Seated.{TableId}
use Rattle.scq_block.specs.declared.frame.Frame.{Frame}
use Rattle.scq_park.specs.Exports.{Post, AreAll, first_posts}
use Rattle.scq_park.proofs.Firsts.{firsts_all}
use Rattle.scq_worker.specs.Exports.{takes_behind, Seated, HasRunAt}
use Rattle.scq_rest.specs.Exports.{AreSettled, task, IsGiven, HasDone}
use Rattle.scq_files.specs.declared.desk.Desk.{Desk}
use Rattle.scq_rest.specs.declared.threads.Work.{Work}
use Rattle.scq_rest.proofs.Settling.{zip-length, desk_of, stand_of, IsFirst, firsts-new, all-given, AreStill, desks-same, each-done, settled}
use Rattle.scq_rest.proofs.resting.run_resting.Goals as goal
use Rattle.scq_rest.proofs.resting.run_resting.Goals.{After-take_apart}

-- the stands of a new crew are all of it
all-of : (crew : List TableId) (workers : ℕ) (stands : List Post) → stands ≡ first_posts crew workers → length crew ≡ workers → AreAll crew stands
all-of crew workers stands are long = subst (AreAll crew) (sym are) (firsts_all crew workers (sym long))

-- and each is new
new-of : (crew : List TableId) (workers : ℕ) (stands : List Post) → stands ≡ first_posts crew workers → All (IsFirst crew) stands
new-of crew workers stands are = subst (All (IsFirst crew)) (sym are) (firsts-new crew workers)

module _ {S : Type 0} where
  -- one fewer are given than there are desks
  few-given : (desks : List (Desk (Seated Frame (Option Frame)) S)) (first : Work S) (given : List (Work S)) → desks ≡ map desk_of (first ∷ given)
      → length given + 1 ≡ length desks
  few-given desks first given are = omega (arith, ap length are, length-map (first ∷ given) desk_of)

pub pair-first-requires-clause-many : goal.pair-first-requires-clause-many
pair-first-requires-clause-many g c κs within =
    let all = all-of c.args.crew.now c.args.job.now.workers c.args.stands.items c.requires.stands c.requires.workers.1 in
    omega (arith, all.many, c.requires.workers.0, c.requires.workers.1, c.args.desks.ok.0, c.args.stands.ok.0)

pub run_all-first-requires-clause-begins : goal.run_all-first-requires-clause-begins
run_all-first-requires-clause-begins g c κs within =
    let t = task c.args.queue.now c.args.job.now c.args.crew.now g.S.Source in
    let first = c.pair-first.result in
    let given = c.pair-first.new.given in
    let new = new-of c.args.crew.now c.args.job.now.workers c.args.stands.items c.requires.stands in
    let each = all-given t (first ∷ given.items) c.args.desks.items c.args.stands.items c.pair-first.ensures.desks c.pair-first.ensures.stands
    c.requires.fresh c.requires.unread new in
    let few = few-given c.args.desks.items first given.items c.pair-first.ensures.desks in
    let room = c.requires.resting_room in (
      record { rings = c.requires.rings; room = c.requires.room; crew = c.requires.workers.1; some = c.args.job.now.valid.some_workers },
      All-head (IsGiven t) first given.items each,
      All-tail (IsGiven t) first given.items each,
      omega (arith, few, given.ok.0, c.requires.workers.0, room.flags, ap length c.as_slice.ensures.value),
      room.none.1,
      room.none.2,
      omega (arith, few, given.ok.0, c.requires.workers.0, room.all.1),
      omega (arith, few, given.ok.0, c.requires.workers.0, room.all.2),
    )

pub take_apart-requires-clause-room : goal.take_apart-requires-clause-room
take_apart-requires-clause-room g c κs within =
    let t = task c.args.queue.now c.args.job.now c.args.crew.now g.S.Source in
    let few = few-given c.args.desks.items c.pair-first.result c.pair-first.new.given.items c.pair-first.ensures.desks in
    let all = all-of c.args.crew.now c.args.job.now.workers c.args.stands.items c.requires.stands c.requires.workers.1 in
    let ends = c.run_all-first.result.1 in
    let long = zip-length (HasDone t) c.pair-first.new.given.items ends.items c.run_all-first.ensures.1 in (
      omega (arith, few, long, ends.ok.0, c.pair-first.ensures.kept.0, c.args.desks.ok.0, c.args.desks.ok.1),
      omega (
        arith,
        few,
        long,
        ends.ok.0,
        c.pair-first.ensures.kept.1,
        c.args.stands.ok.0,
        c.args.stands.ok.1,
        all.many,
        c.requires.workers.0,
        c.requires.workers.1,
      ),
    )

pub returns-clause-count : goal.returns-clause-count
returns-clause-count g c =
    let t = task c.args.queue.now c.args.job.now c.args.crew.now g.S.Source in
    let xs = c.pair-first.result ∷ c.pair-first.new.given.items in
    let ys = c.run_all-first.result.0 ∷ c.run_all-first.result.1.items in
    let z : AllZip (HasDone t) xs ys = c.run_all-first.ensures in
    ap length c.take_apart.ensures.desks ∙ length-map ys desk_of ∙ zip-length (HasDone t) xs ys z ∙ sym (length-map xs desk_of)
    ∙ sym (ap length c.pair-first.ensures.desks)

-- each desk has its files and its worker's number still
still-at : (g : _) (c : After-take_apart g) → AreStill c.args.desks.items c.take_apart.new.desks.items
still-at g c =
    let t = task c.args.queue.now c.args.job.now c.args.crew.now g.S.Source in
    let x = c.pair-first.result in
    let y = c.run_all-first.result.0 in
    desks-same t (x ∷ c.pair-first.new.given.items) (y ∷ c.run_all-first.result.1.items) x y c.args.desks.items c.take_apart.new.desks.items
    c.run_all-first.ensures c.pair-first.ensures.desks c.take_apart.ensures.desks

pub returns-clause-same : goal.returns-clause-same
returns-clause-same g c w d less = (still-at g (goal.at.returns-clause-same g c).After-take_apart w d less).0

pub returns-clause-numbers : goal.returns-clause-numbers
returns-clause-numbers g c w d less = (still-at g (goal.at.returns-clause-numbers g c).After-take_apart w d less).1

pub returns-clause-run : goal.returns-clause-run
returns-clause-run g c =
    let S = g.row.S.Denot in
    let job = c.args.job.now in
    let t = task c.args.queue.now job c.args.crew.now g.S.Source in
    let xs = c.pair-first.result ∷ c.pair-first.new.given.items in
    let ys = c.run_all-first.result.0 ∷ c.run_all-first.result.1.items in
    let P : Desk (Seated Frame _) S → Type 0 = HasRunAt c.args.queue.now job g.S.Source in
    subst (All P) (sym c.take_apart.ensures.desks)
    (All-map P desk_of ys (each-done t (λ (w : Work S). P w.desk) xs ys c.run_all-first.ensures (λ x y done. done.run)))

pub returns-clause-settled : goal.returns-clause-settled
returns-clause-settled g c =
    let S = g.row.S.Denot in
    let crew = c.args.crew.now in
    let t = task c.args.queue.now c.args.job.now crew g.S.Source in
    let topics = length c.args.job.now.topics + 1 in
    let behind = takes_behind c.args.job.now.most in
    let xs = c.pair-first.result ∷ c.pair-first.new.given.items in
    let ys = c.run_all-first.result.0 ∷ c.run_all-first.result.1.items in
    let new = subst (All (IsFirst crew)) c.pair-first.ensures.stands (new-of crew c.args.job.now.workers c.args.stands.items c.requires.stands) in
    let all = subst (AreAll crew) c.pair-first.ensures.stands (all-of crew c.args.job.now.workers c.args.stands.items c.requires.stands c.requires.workers.1) in
    subst (λ (ps : List Post). AreSettled crew topics behind ps (map (λ (d : Desk (Seated Frame _) S). d.worker.worker.pass) c.take_apart.new.desks.items)) (sym c.take_apart.ensures.stands)
    (subst (λ (ds : List (Desk (Seated Frame _) S)). AreSettled crew topics behind (map stand_of ys) (map (λ (d : Desk (Seated Frame _) S). d.worker.worker.pass) ds))
    (sym c.take_apart.ensures.desks) (settled t xs ys c.run_all-first.ensures all new c.requires.workers.1))
