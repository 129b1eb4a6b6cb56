use Rattle.std.proofs.Common.{rules, ◌≡◌, ℕ, refl, sym, ap}
use Rattle.std.specs.Prelude.{Option, is_none}
use Rattle.std.specs.Arc.{arc_value}
use Rattle.scq_word.specs.Exports.{n_of}
use Rattle.scq_port.specs.Exports.{Keeps}
use Rattle.scq_port.proofs.Keeping.{keeps_new}
use Rattle.scq_port.proofs.opening.port_of.Goals as goal

same : (c : goal.After-rings-topics) → arc_value c.in_ok-owner.owner ≡ arc_value c.args.owner.now
same c = search rules

places : (c : goal.After-rings-topics) → c.n.result ≡ n_of (arc_value c.args.owner.now).queue.setup.order
places c = search (rules, c.n.ensures, c.shape.ensures, c.requires.setup) depth 8

keeps : (c : goal.After-rings-topics) → Keeps (arc_value c.args.owner.now).queue c.args.pass c.in_ok-hand.hand.slots.items c.in_ok-hand.hand.room c.in_ok-hand.hand.hold
keeps c =
    rw (c.in_ok-hand.ensures.0, c.in_ok-hand.ensures.1, c.in_ok-hand.ensures.2, places c)
    (keeps_new _ c.args.pass c.args.hold c.requires.fresh.own c.requires.fresh.none)

-- src/opening.rt:62:5
pub invariant_of-result : goal.invariant_of-result
invariant_of-result c = record { keeps = rw (same c) (keeps c); topics = rw (same c, c.requires.setup) (search rules); sends_is = refl; number_is = c.requires.number; low = rw (same c, c.requires.setup) (c.requires.low); awake_is = sym (ap (λ (o : Option ℕ). is_none o) c.requires.fresh.awake) }
