-- A slice of the desks is lent, and written back whole.
use Rattle.std.proofs.Common.{◌≡◌, ◌∙◌, sym, ap, subst, ◌++◌, List, length, map, take, drop}
use Rattle.std.specs.List.{All}
use Rattle.scq_block.specs.declared.frame.Frame.{Frame}
use Rattle.scq_files.specs.Exports.{AreDealt, workers_at, IsNew}
use Rattle.scq_files.specs.declared.desk.Desk.{Desk}
use Rattle.scq_files.proofs.Lists.{written-back}
use Rattle.scq_desk.specs.Exports.{IsToBegin}
use Rattle.scq_desk.specs.declared.seat.Seat.{Seat}
use Rattle.scq_desk.proofs.Settled.{all-same, pass_at, place-numbers, same-shown}
use Rattle.scq_desk.proofs.laying.lay_out.Goals as goal
use Rattle.scq_desk.proofs.laying.lay_out.Goals.{After-deal}

whole : (g : _) (c : After-deal g)
    → take c.make_desks.new.desks.len (c.deal.new.desks ++ drop (length c.deal.new.desks) c.make_desks.new.desks.items) ≡ c.deal.new.desks
whole g c =
    written-back c.make_desks.new.desks.len c.deal.new.desks c.make_desks.new.desks.items (c.deal.auto.desks ∙ c.as_mut_slice.ensures.len)

-- the workers at the desks are those that were made
same : (g : _) (c : After-deal g) → workers_at c.deal.new.desks ≡ workers_at c.make_desks.new.desks.items
same g c = c.deal.ensures.same ∙ ap workers_at c.as_mut_slice.ensures.value

pub returns-clause-count : goal.returns-clause-count
returns-clause-count g c =
    ap length (whole g (goal.at.returns-clause-count g c).After-deal) ∙ c.deal.auto.desks ∙ ap length c.as_mut_slice.ensures.value
    ∙ c.make_desks.ensures.count ∙ c.requires.seats

pub returns-clause-fresh : goal.returns-clause-fresh
returns-clause-fresh g c =
    let at = (goal.at.returns-clause-fresh g c).After-deal in
    let P : Seat _ Frame _ → Type 0 = IsToBegin g.W.Sits.pass_of g.W.Sits.has_none c.args.queue.now in
    subst (λ (ds : List (Desk (Seat _ Frame _) _)). All (λ d. P d.worker) ds) (sym (whole g at))
    (all-same P c.make_desks.new.desks.items c.deal.new.desks (sym (same g at)) c.make_desks.ensures.fresh)

pub returns-clause-unread : goal.returns-clause-unread
returns-clause-unread g c =
    let P : List (Desk (Seat _ Frame _) _) → Type 0 = λ ds. All (λ d. All IsNew d.files.items) ds in
    subst P (sym (whole g (goal.at.returns-clause-unread g c).After-deal)) c.deal.ensures.unread

pub returns-clause-dealt : goal.returns-clause-dealt
returns-clause-dealt g c =
    let P : List (Desk (Seat _ Frame _) _) → Type 0 = λ ds. AreDealt 1 c.of-was.result.value.items ds in
    subst P (sym (whole g (goal.at.returns-clause-dealt g c).After-deal)) c.deal.ensures.dealt

pub returns-clause-numbers : goal.returns-clause-numbers
returns-clause-numbers g c =
    let pass_of = g.W.Sits.pass_of in
    let at = (goal.at.returns-clause-numbers g c).After-deal in
    place-numbers pass_of c.args.queue.now c.args.queue.now.setup.seats _
    (ap (map (pass_at pass_of)) (whole g at)
    ∙ same-shown (λ (s : Seat _ Frame _). pass_of s.worker) c.deal.new.desks c.make_desks.new.desks.items (same g at) ∙ c.make_desks.ensures.passes)
