use Rattle.std.proofs.Common.{◌<◌, ◌≤◌, sym, subst, ◌∙◌, ap}
use Rattle.std.specs.Prelude.{slice_set}
use Rattle.scq_band.specs.declared.numbers.Numbers.{Numbers}
use Rattle.scq_band.specs.Exports.{finishes}
use Rattle.scq_band.proofs.Keeping.{known_read}
use Rattle.scq_band.proofs.calls.let_go.Goals as goal

pub finishes-requires-clause-above : goal.finishes-requires-clause-above
finishes-requires-clause-above c =
    let known = known_read c.args.numbers.now.items c.args.ring c.index-known.result.now c.requires.low c.index-known.ensures in
    subst (λ (x : Numbers). x.seen < c.args.place) (sym known) c.requires.above

pub finishes-requires-clause-order : goal.finishes-requires-clause-order
finishes-requires-clause-order c =
    let known = known_read c.args.numbers.now.items c.args.ring c.index-known.result.now c.requires.low c.index-known.ensures in
    subst (λ (x : Numbers). x.finished ≤ x.seen) (sym known) c.requires.order

pub returns-clause-numbers : goal.returns-clause-numbers
returns-clause-numbers c =
    let numbers = c.args.numbers.now.items in
    let r = c.args.ring in
    let known = known_read numbers r c.index-known.result.now c.requires.low c.index-known.ensures in
    ap (λ (x : Numbers). slice_set numbers r x) (c.finishes.ensures ∙ ap (finishes c.args.place) known)
