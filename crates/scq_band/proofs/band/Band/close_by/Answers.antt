use Rattle.std.proofs.Common.{◌≡◌, ◌<◌, ◌∙◌, sym, ap, subst, ℕ, map, length, arith}
use Rattle.std.specs.Prelude.{slice_index}
use Rattle.std.specs.Mem.Slots.{slots_items}
use Rattle.scq_word.specs.declared.setup.Setup.{Setup}
use Rattle.scq_word.specs.Exports.{n_of}
use Rattle.scq_core.specs.Exports.{Cells}
use Rattle.scq_core.proofs.Indices.{HasIndices}
use Rattle.scq_law.specs.Exports.{left_in}
use Rattle.scq_band.specs.Exports.{ShowsWords, Identity, IsAsGiven, all_calls, all_spent}
use Rattle.scq_band.proofs.Closes.{IsShownClosed, ended}
use Rattle.scq_band.proofs.SpentLimits.{none_spent_within}
use Rattle.scq_band.proofs.band.Band.close_by.Goals as goal
use Rattle.scq_band.proofs.band.Band.close_by.Goals.{After-close_with-closed}

-- what the closed table's words and slots say
says : (g : _) (c : After-close_with-closed g) → IsShownClosed g.B.Buffer.contents g.B.Buffer.IsSameBuffer c.args.self.given c.args.self.setup c.args.seats.items
    c.gather-all.result.me.0.known.seats (slots_items c.close_with-closed.result.words) (slots_items c.close_with-closed.result.slots)
says g c =
    let table = c.self.inside.table.shared in
    let seats : length c.args.seats.items ≡ c.args.self.setup.seats = omega (arith, c.args.seats.ok, c.requires.all) in
    ended g.B.Buffer.contents g.B.Buffer.IsSameBuffer table.table_id table.key c.args.self c.gather-all.result.id c.gather-all.result.me.0
    c.args.seats.items (slots_items c.close_with-closed.result.words) (slots_items c.close_with-closed.result.slots) c.self.view_is
    c.close_with-closed.ensures.values.2 c.gather-all.ensures.all c.gather-all.ensures.seen seats c.self.invariant.given

-- the setup that the band keeps is its own
own-setup : (g : _) (c : After-close_with-closed g) → c.self.inside.setup ≡ c.args.self.setup
own-setup g c = c.self.invariant.same ∙ ap (λ (b : Identity g.row.B.Denot). b.setup) c.self.view_is

pub gather-all-requires-clause-given : goal.gather-all-requires-clause-given
gather-all-requires-clause-given g c κs within o has =
    subst (λ (b : Identity g.row.B.Denot). IsAsGiven g.B.Buffer.IsSameBuffer b.given o.0 o.1) (sym c.self.view_is) (c.requires.out.same o has)

pub count_left-requires-clause-shows : goal.count_left-requires-clause-shows
count_left-requires-clause-shows g c κs within =
    let at = (goal.at.count_left-requires-clause-shows g c).After-close_with-closed in
    subst (λ (k : Setup). (m : Cells) × ShowsWords k (slots_items c.close_with-closed.result.words) m × HasIndices k m) (sym (own-setup g at)) (says g at).words

pub unload-requires-clause-laid : goal.unload-requires-clause-laid
unload-requires-clause-laid g c κs within i low =
    let slots = c.self.invariant.slots in
    let order : n_of c.args.self.setup.order ≡ n_of c.self.inside.table.shared.key.setup.order =
    ap (λ (b : Identity g.row.B.Denot). n_of b.setup.order) (sym c.self.view_is) in
    (says g (goal.at.unload-requires-clause-laid g c).After-close_with-closed).laid i (omega (arith, low, c.close_with-closed.ensures.counts.1, slots, order))

pub returns-clause-run : goal.returns-clause-run
returns-clause-run g c = ((says g (goal.at.returns-clause-run g c).After-close_with-closed).lefts c.unload.new.buffers.items c.unload.ensures.buffers).1

pub returns-clause-buffers : goal.returns-clause-buffers
returns-clause-buffers g c =
    let buffers = c.unload.new.buffers.items in
    let are = c.unload.ensures.buffers in
    let its = says g (goal.at.returns-clause-buffers g c).After-close_with-closed in
    record {
      same = its.same buffers are;
      held = its.held buffers are (map g.T.Lifted.pair c.args.out.items) c.gather-all.ensures.home;
      left = (its.lefts buffers are).0;
    }

pub returns-clause-records : goal.returns-clause-records
returns-clause-records g c =
    let its = says g (goal.at.returns-clause-records g c).After-close_with-closed in
    record { gets = its.gets; put_once = its.put_once; once = its.once; passed = its.passed }

pub returns-clause-indices : goal.returns-clause-indices
returns-clause-indices g c =
    let at = (goal.at.returns-clause-indices g c).After-close_with-closed in
    let its = says g at in
    let setup = own-setup g at in
    let each = subst (λ (k : Setup). (m : Cells) → ShowsWords k (slots_items c.close_with-closed.result.words) m → (r : ℕ) → r < k.rings
    → slice_index c.count_left.new.left.items r ≡ left_in k m r) setup
    c.count_left.ensures.each in
    let counts = its.counts c.count_left.new.left.items (c.count_left.ensures.rings ∙ ap (λ (k : Setup). k.rings) setup) each in
    record { balance = counts.0; all_there = counts.1; hands = its.hands }

pub returns-clause-retired : goal.returns-clause-retired
returns-clause-retired g c =
    let its = says g (goal.at.returns-clause-retired g c).After-close_with-closed in record { gate = its.gate; retirees = its.retirees }

pub returns-clause-spent : goal.returns-clause-spent
returns-clause-spent g c =
    let bounds = (says g (goal.at.returns-clause-spent g c).After-close_with-closed).spent in
    record { bounds = bounds; limits = none_spent_within c.args.self.setup (all_calls c.args.seats.items) (all_spent c.args.seats.items) bounds }
