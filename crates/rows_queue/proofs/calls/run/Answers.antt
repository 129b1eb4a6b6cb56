use Rattle.std.proofs.Common.{◌≡◌, ◌<◌, List, length, false, true, sym, ◌∙◌, ap, subst, arith}
use Rattle.std.specs.Prelude.{All, vec_len}
use Rattle.scq_queue.specs.Exports.{PassStanding, HeldStanding, AreTheHeld}
use Rattle.scq_queue.specs.HoldsJust.{HoldsJust}
use Rattle.scq_queue.proofs.NewPasses.{as_many_passes}
use Rattle.rows_queue.proofs.LastPass.{last_pass, as_many, holds_none, own_all, held_last}
use Rattle.rows_queue.proofs.calls.run.Goals as goal

-- a queue has a pass
pub unreachable-requires : goal.unreachable-requires
unreachable-requires g c =
    let queue = c.args.queue in
    let all : vec_len c.args.passes ≡ queue.setup.seats = c.args.passes.ok.0 ∙ ap length c.requires.passes ∙ as_many_passes queue queue.setup.seats in
    let some : 0 < vec_len c.args.passes = omega (arith, all, c.requires.setup.1) in
    let wrong : false ≡ true = c.in_default.ensures.variant.1 some in
    absurd (cc)

pub replies-got-requires-clause-stack : goal.replies-got-requires-clause-stack
replies-got-requires-clause-stack g c κs within =
    let queue = c.args.queue in
    let is = last_pass queue queue.setup.seats c.pop.new.self.items c.in-Some.pass c.requires.setup.1 (sym c.in-Some.ensures.items ∙ c.requires.passes) in
    subst (λ (vs : List (HeldStanding g.row.B.Denot)). HoldsJust queue c.in-Some.pass vs) (sym c.requires.values)
    (holds_none queue c.pop.new.self.items c.in-Some.pass is)

pub close-closed-requires-clause-passes : goal.close-closed-requires-clause-passes
close-closed-requires-clause-passes g c κs within =
    let queue = c.args.queue in
    let is = last_pass queue queue.setup.seats c.pop.new.self.items c.in-Some.pass c.requires.setup.1 (sym c.in-Some.ensures.items ∙ c.requires.passes) in
    subst (λ (ps : List (PassStanding g.row.B.Denot)). All (λ (p : PassStanding g.row.B.Denot). p.queue ≡ queue) ps) (sym c.push_reserved.ensures.items)
    (own_all queue c.pop.new.self.items c.in-Some.pass c.replies-got.new.pass c.replies-got.new.values.items is c.replies-got.ensures.stack)

pub close-closed-requires-clause-all : goal.close-closed-requires-clause-all
close-closed-requires-clause-all g c κs within =
    let queue = c.args.queue in
    c.push_reserved.new.self.ok.0 ∙ ap length c.push_reserved.ensures.items
    ∙ as_many queue queue.setup.seats c.pop.new.self.items c.in-Some.pass c.replies-got.new.pass (sym c.in-Some.ensures.items ∙ c.requires.passes)

pub close-closed-requires-clause-held : goal.close-closed-requires-clause-held
close-closed-requires-clause-held g c κs within =
    let queue = c.args.queue in
    let is = last_pass queue queue.setup.seats c.pop.new.self.items c.in-Some.pass c.requires.setup.1 (sym c.in-Some.ensures.items ∙ c.requires.passes) in
    subst (λ (ps : List (PassStanding g.row.B.Denot)). AreTheHeld queue ps c.replies-got.new.values.items) (sym c.push_reserved.ensures.items)
    (held_last queue c.pop.new.self.items c.in-Some.pass c.replies-got.new.pass c.replies-got.new.values.items is c.replies-got.ensures.stack)
