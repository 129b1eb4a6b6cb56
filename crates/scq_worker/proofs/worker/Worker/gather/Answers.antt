use Rattle.std.proofs.Common.{◌≡◌, ◌<◌, ◌∙◌, ap, sym, subst, List, [], ◌∷◌, ◌+◌, ◌≤◌, length, arith, Ok}
use Rattle.std.specs.Prelude.{slice_set}
use Rattle.std.proofs.lemmas.List.{get_or_read}
use Rattle.scq_frames.specs.Exports.{Part, part_of}
use Rattle.scq_worker.specs.Exports.{AreOpen, FitsBehind, IsOpen, open_on}
use Rattle.scq_worker.proofs.Gathered.{open-put, put-more, put-same}
use Rattle.scq_worker.proofs.worker.Worker.gather.Goals as goal
use Rattle.scq_worker.proofs.worker.Worker.gather.Goals.{After-add_to, After-index_mut}

-- the batch of the topic was begun
begun-at : (g : _) (c : After-index_mut g) → c.args.message.now.topic < length c.begin_up_to.new.self.opens.items
begun-at g c = c.begin_up_to.ensures.long c.if-not-begin_up_to.false

-- what is added to is what was open on the topic
own-at : (g : _) (c : After-index_mut g) → c.index_mut.result.now ≡ open_on c.args.message.now.topic c.args.self.now.opens.items
own-at g c =
    let topic = c.args.message.now.topic in
    get_or_read c.begin_up_to.new.self.opens.items topic c.index_mut.result.now (begun-at g c) c.index_mut.ensures.value []
    ∙ c.begin_up_to.ensures.opens topic

pub add_to-requires-clause-opens : goal.add_to-requires-clause-opens
add_to-requires-clause-opens g c =
    subst (IsOpen c.args.job.now.most c.args.message.now.topic) (sym (own-at g (goal.at.add_to-requires-clause-opens g c).After-index_mut))
    (c.requires.opens.each c.args.message.now.topic)

-- what is open then, whatever came of the part
open-at : (g : _) (c : After-add_to g) → AreOpen c.args.job.now.most (length c.args.job.now.topics + 1)
    (slice_set c.begin_up_to.new.self.opens.items c.args.message.now.topic c.add_to.new.batch)
open-at g c =
    let few : length c.begin_up_to.new.self.opens.items ≤ length c.args.job.now.topics + 1 =
    omega (arith, c.begin_up_to.ensures.few, c.requires.opens.few, c.requires.topic) in
    let topic = c.args.message.now.topic in
    let begun = c.begin_up_to.ensures.long c.if-not-begin_up_to.false in
    let own : c.index_mut.result.now ≡ open_on topic c.args.self.now.opens.items =
    get_or_read c.begin_up_to.new.self.opens.items topic c.index_mut.result.now begun c.index_mut.ensures.value [] ∙ c.begin_up_to.ensures.opens topic in
    open-put c.args.self.now.opens.items c.begin_up_to.new.self.opens.items topic c.index_mut.result.now c.begin_up_to.ensures.opens begun own
    c.args.job.now.most (length c.args.job.now.topics + 1)
    c.add_to.new.batch c.requires.opens few c.add_to.ensures.opens

pub returns-in-Ok-clause-opens : goal.returns-in-Ok-clause-opens
returns-in-Ok-clause-opens g c = open-at g (goal.at.returns-in-Ok-clause-opens g c).After-add_to

pub returns-in-Err-clause-opens : goal.returns-in-Err-clause-opens
returns-in-Err-clause-opens g c = open-at g (goal.at.returns-in-Err-clause-opens g c).After-add_to

pub returns-in-Ok-clause-added : goal.returns-in-Ok-clause-added
returns-in-Ok-clause-added g c is =
    let at = (goal.at.returns-in-Ok-clause-added g c).After-index_mut in
    put-more c.args.self.now.opens.items c.begin_up_to.new.self.opens.items c.args.message.now.topic c.index_mut.result.now
    c.begin_up_to.ensures.opens (begun-at g at) (own-at g at) c.add_to.new.batch
    (part_of c.args.job.now.size c.args.message.now c.args.part ∷ []) (c.in-Ok.ensures.added (ap Ok is))

pub returns-in-Ok-clause-none : goal.returns-in-Ok-clause-none
returns-in-Ok-clause-none g c is =
    let at = (goal.at.returns-in-Ok-clause-none g c).After-index_mut in
    put-same c.args.self.now.opens.items c.begin_up_to.new.self.opens.items c.args.message.now.topic c.index_mut.result.now
    c.begin_up_to.ensures.opens (begun-at g at) (own-at g at) c.add_to.new.batch (c.in-Ok.ensures.none (ap Ok is))

pub returns-in-Err-clause-none : goal.returns-in-Err-clause-none
returns-in-Err-clause-none g c is =
    let at = (goal.at.returns-in-Err-clause-none g c).After-index_mut in
    put-same c.args.self.now.opens.items c.begin_up_to.new.self.opens.items c.args.message.now.topic c.index_mut.result.now
    c.begin_up_to.ensures.opens (begun-at g at) (own-at g at) c.add_to.new.batch c.in-Err.ensures.kept

-- whether it fits
pub returns-in-Ok-clause-fits : goal.returns-in-Ok-clause-fits
returns-in-Ok-clause-fits g c is =
    let at = (goal.at.returns-in-Ok-clause-fits g c).After-index_mut in
    subst (λ (l : List Part). FitsBehind c.args.job.now.most l (part_of c.args.job.now.size c.args.message.now c.args.part)) (own-at g at)
    (c.in-Ok.ensures.fits.0 is)

pub returns-in-Ok-clause-full : goal.returns-in-Ok-clause-full
returns-in-Ok-clause-full g c is fed fits =
    let at = (goal.at.returns-in-Ok-clause-full g c).After-index_mut in
    let p = part_of c.args.job.now.size c.args.message.now c.args.part in
    let so = c.in-Ok.ensures.fits.1 (subst (λ (l : List Part). FitsBehind c.args.job.now.most l p) (sym (own-at g at)) fits) in
    cc (so, is)
