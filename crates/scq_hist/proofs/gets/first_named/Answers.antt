use Rattle.std.proofs.Common.{arith, ℕ, ◌<◌, ◌≤◌, below_more, length, List, refl}
use Rattle.std.proofs.lemmas.Bool.{iff_false}
use Rattle.std.proofs.lemmas.Option.{slice_get_within}
use Rattle.scq_hist.specs.Exports.{IsGot, Names}
use Rattle.scq_hist.specs.declared.events.Event.{Event}
use Rattle.scq_hist.specs.declared.events.Event.TheVariants.{End}
use Rattle.scq_hist.specs.declared.events.PutName.{PutName}
use Rattle.scq_hist.specs.declared.events.Reply.TheVariants.{Got}
use Rattle.scq_hist.proofs.NamesLemmas.{named_there, read}
use Rattle.scq_hist.proofs.gets.first_named.Goals as goal

pub loop-e-preserved : goal.loop-e-preserved
loop-e-preserved c = below_more _ _ c.loop-e.invariant (λ n. iff_false c.names.ensures c.if-names.false
    (named_there c.args.events.now c.loop-e.e c.index-events-e.result c.args.name (read _ _ _ _ c.loop-e-test.true c.index-events-e.is refl) n))

none_names : (events : List Event) (name : PutName) (i : ℕ) → length events ≤ i → ((d : ℕ) → d < i → ¬ Names events d name) → ¬ IsGot events name
none_names events name i past none got =
    let n = got.1 in none got.0 (let lt = slice_get_within events got.0 (End n.seat (Got name n.content)) n.ends in omega arith) n

pub returns : goal.returns
returns c = none_names _ _ _ c.loop-e-test.false c.loop-e.invariant
