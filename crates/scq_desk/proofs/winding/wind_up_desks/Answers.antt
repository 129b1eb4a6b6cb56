-- The end of the work of all workers. A slice of the desks is lent, and written back whole.
use Rattle.std.proofs.Common.{◌≡◌, ◌∙◌, sym, ap, subst, arith, false, ◌++◌, List, length, map, take, drop}
use Rattle.std.specs.Prelude.{slice_index_or}
use Rattle.std.specs.List.{All}
use Rattle.std.proofs.lemmas.Bool.{or_parts}
use Rattle.std.proofs.lemmas.List.{length-map}
use Rattle.std.proofs.lemmas.List.Elements.{All-map}
use Rattle.std.proofs.lemmas.Option.{slice_get-get_or}
use Rattle.scq_block.specs.Exports.{IsSame, bytes_of}
use Rattle.scq_block.specs.declared.frame.Frame.{Frame}
use Rattle.scq_block.proofs.BlockFrames.{all_from_same}
use Rattle.scq_queue.specs.Exports.{AreTheHeld, counts_of, PassStanding, HeldStanding, lists_of, was_told}
use Rattle.scq_passes.specs.Exports.{HasClosed}
use Rattle.scq_files.specs.Exports.{AllEnded, AllStop, AllWhole, AreDealt, workers_at, StopsAtFaults}
use Rattle.scq_files.specs.declared.desk.Desk.{Desk}
use Rattle.scq_files.proofs.Lists.{written-back}
use Rattle.scq_desk.specs.declared.seat.Seat.{Seat}
use Rattle.scq_desk.proofs.Settled.{all-same, are-held, held_at, pass_at, same-held, same-shown}
use Rattle.scq_desk.proofs.winding.wind_up_desks.Goals as goal
use Rattle.scq_desk.proofs.winding.wind_up_desks.Goals.{After-clear}

pub gather-requires-clause-dealt : goal.gather-requires-clause-dealt
gather-requires-clause-dealt g c lifetimes lives =
    let P : List (Desk (Seat _ Frame _) _) → Type 0 = λ ds. AreDealt 1 c.args.laid.was.value.items ds in
    subst P (sym c.as_mut_slice.ensures.value) c.requires.dealt

-- the desks that are cleared have the workers that did the work
whole : (g : _) (c : After-clear g)
    → take c.args.desks.len (c.gather.new.desks ++ drop (length c.gather.new.desks) c.args.desks.items) ≡ c.gather.new.desks
whole g c = written-back c.args.desks.len c.gather.new.desks c.args.desks.items (c.gather.auto.desks ∙ c.as_mut_slice.ensures.len)

same : (g : _) (c : After-clear g) → workers_at c.gather.new.desks ≡ workers_at c.args.desks.items
same g c = c.gather.ensures.same ∙ ap workers_at c.as_mut_slice.ensures.value

passes : (g : _) (c : After-clear g) → c.clear.new.left.passes.items ≡ map (pass_at g.W.Sits.pass_of) c.args.desks.items
passes g c =
    c.clear.ensures.passes ∙ ap (map (pass_at g.W.Sits.pass_of)) (whole g c)
    ∙ same-shown (λ (s : Seat _ Frame _). g.W.Sits.pass_of s.worker) c.gather.new.desks c.args.desks.items (same g c)

held : (g : _) (c : After-clear g) → c.clear.new.left.held.items ≡ held_at c.args.desks.items
held g c = c.clear.ensures.held ∙ ap held_at (whole g c) ∙ same-held c.gather.new.desks c.args.desks.items (same g c)

pub close-buffers-requires-clause-passes : goal.close-buffers-requires-clause-passes
close-buffers-requires-clause-passes g c lifetimes =
    let its = passes g (goal.at.close-buffers-requires-clause-passes g c).After-clear in
    let P : PassStanding Frame → Type 0 = λ p. p.queue ≡ c.args.queue in
    subst (All P) (sym its) (All-map P (pass_at g.W.Sits.pass_of) c.args.desks.items (λ k d less. (c.requires.own k d less).0))

pub close-buffers-requires-clause-all : goal.close-buffers-requires-clause-all
close-buffers-requires-clause-all g c lifetimes =
    let its = passes g (goal.at.close-buffers-requires-clause-all g c).After-clear in
    omega (arith, ap length its, length-map c.args.desks.items (pass_at g.W.Sits.pass_of), c.requires.seats.1, c.clear.new.left.passes.ok.0)

pub close-buffers-requires-clause-held : goal.close-buffers-requires-clause-held
close-buffers-requires-clause-held g c lifetimes =
    let at = (goal.at.close-buffers-requires-clause-held g c).After-clear in
    subst (λ (ps : List (PassStanding Frame)). AreTheHeld c.args.queue ps c.clear.new.left.held.items) (sym (passes g at))
    (subst (λ (hs : List (HeldStanding Frame)). AreTheHeld c.args.queue (map (pass_at g.W.Sits.pass_of) c.args.desks.items) hs) (sym (held g at))
    (are-held g.W.Sits.pass_of c.args.queue c.args.desks.items (λ k d less. (c.requires.own k d less).2)
    (λ k d less. (c.requires.own k d less).1)))

-- each buffer that comes back is the frame that went in at its place
pub merge-requires : goal.merge-requires
merge-requires g c =
    let given = c.args.queue.given in
    let back = c.close-buffers.result.buffers.items in
    let same = c.close-buffers.ensures.back.buffers in
    all_from_same c.args.block given back c.requires.all same.0
    (λ k d less. same.1 k (slice_index_or given k d) (slice_index_or back k d) (slice_get-get_or given k d less)
    (slice_get-get_or back k d (omega (arith, less, same.0))))

pub returns-clause-gathered : goal.returns-clause-gathered
returns-clause-gathered g c size ended =
    let P : List (Desk (Seat _ Frame _) _) → Type 0 = λ ds. AllEnded size g.S.Source ds in
    let gathered = c.gather.ensures.gathered size (subst P (sym c.as_mut_slice.ensures.value) ended) in
    record {
      count = gathered.count;
      moved = gathered.moved;
      sound = gathered.sound;
      cause = gathered.cause;
      fed = λ none. gathered.fed (or_parts c.clear.new.left.starved c.gather.new.gathered.starved (sym c.any_wanted.ensures ∙ none)).1;
    }

pub returns-clause-stops : goal.returns-clause-stops
returns-clause-stops g c size ended stop =
    let its = c.as_mut_slice.ensures.value in
    let Ended : List (Desk (Seat _ Frame _) _) → Type 0 = λ ds. AllEnded size g.S.Source ds in
    let Stop : List (Desk (Seat _ Frame _) _) → Type 0 = λ ds. AllStop ds in
    subst (λ n. StopsAtFaults n size g.S.Source c.args.laid.was.value.items
    c.gather.new.gathered.sources.items) (ap length its) (c.gather.ensures.stops size (subst Ended (sym its) ended) (subst Stop (sym its) stop))

pub returns-clause-whole : goal.returns-clause-whole
returns-clause-whole g c none =
    subst (λ (ds : List (Desk (Seat _ Frame _) _)). AllWhole ds) c.as_mut_slice.ensures.value (c.gather.ensures.whole none)

pub returns-clause-fed : goal.returns-clause-fed
returns-clause-fed g c none =
    let at = (goal.at.returns-clause-fed g c).After-clear in
    let fed = c.clear.ensures.starved (or_parts c.clear.new.left.starved c.gather.new.gathered.starved (sym c.any_wanted.ensures ∙ none)).0 in
    let P : Seat _ Frame _ → Type 0 = λ s. g.W.Sits.starved_of s.worker ≡ false in
    all-same P c.gather.new.desks c.args.desks.items (same g at)
    (subst (λ (ds : List (Desk (Seat _ Frame _) _)). All (λ d. P d.worker) ds) (whole g at) fed)

pub returns-clause-brought : goal.returns-clause-brought
returns-clause-brought g c =
    let at = (goal.at.returns-clause-brought g c).After-clear in
    let its = passes g at in
    let back = c.close-buffers.ensures.back in
    let list_at : Desk (Seat _ Frame _) _ → _ = λ d. g.W.Sits.list_of d.worker.worker in
    record {
      lists = c.clear.ensures.lists ∙ ap (map list_at) (whole g at)
          ∙ same-shown (λ (s : Seat _ Frame _). g.W.Sits.list_of s.worker) c.gather.new.desks c.args.desks.items (same g at);
      passes = back.passes ∙ its;
      closing = ap (λ v. v.items) c.of-closing.ensures ∙ its;
      counts = back.counts ∙ ap (map (λ (p : PassStanding Frame). counts_of (lists_of p))) (sym back.passes);
      saw = back.saw ∙ ap (λ v. map (λ (p : PassStanding Frame). was_told p.gate) v.items) (sym c.of-closing.ensures);
    }

pub returns-clause-closed : goal.returns-clause-closed
returns-clause-closed g c =
    let at = (goal.at.returns-clause-closed g c).After-clear in
    let queue = c.args.queue in
    let back = c.close-buffers.result.buffers.items in
    let left = c.close-buffers.result.left.items in
    let close = c.close-buffers.ensures in
    let Closed : List (PassStanding Frame) → List (HeldStanding Frame) → List Frame → Type 0 =
    λ ps hs fs. HasClosed bytes_of IsSame queue.setup queue.given ps hs fs left in
    let their = map (pass_at g.W.Sits.pass_of) c.args.desks.items in
    subst (λ fs. Closed their (held_at c.args.desks.items) fs) (sym (ap (λ v. v.items) c.of-frames.ensures))
    (subst (λ hs. Closed their hs back) (held g at)
    (subst (λ ps. Closed ps c.clear.new.left.held.items back) (passes g at) (record {
      run = close.run;
      back = close.back.buffers;
      sent = close.sent;
      limits = close.spent.limits;
      all_there = close.values.all_there;
    })))
