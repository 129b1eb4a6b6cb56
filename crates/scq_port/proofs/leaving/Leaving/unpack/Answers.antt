use Rattle.std.proofs.Common.{List, [], ◌∷◌, ◌++◌, sym, ◌∙◌, ap, subst}
use Rattle.std.specs.Prelude.{Option}
use Rattle.scq_queue.specs.Exports.{PassStanding}
use Rattle.scq_port.specs.declared.port_buffer.PortBuffer.{PortBuffer}
use Rattle.scq_port.specs.Exports.{Value}
use Rattle.scq_port.proofs.Unpacking.{Unpacks, unpacks_first, unpacks_past, unpacks_more, unpacks_all}
use Rattle.scq_port.proofs.leaving.Leaving.unpack.Goals as goal

pub loop-slot-init : goal.loop-slot-init
loop-slot-init c =
    let inside = c.self.inside in
    let values = c.args.values.now.items in
    subst (λ (p : PassStanding PortBuffer). Unpacks p.queue p values inside.slots.items values) c.self.view_is
    (unpacks_first inside.pass.queue inside.pass values inside.slots.items c.self.invariant)

pub loop-slot-preserved-in-Some-slot : goal.loop-slot-preserved-in-Some-slot
loop-slot-preserved-in-Some-slot c =
    let pass = c.args.self in
    let left = c.pop.new.self.items in
    let last = c.in-Some.ensures.items ∙ ap (λ (o : Option Value). left ++ o ∷ []) c.in-Some-slot.is in
    unpacks_more pass.queue pass c.args.values.now.items c.loop-slot.values.items c.push_reserved.new.self.items left c.in-Some-slot.value
    (subst (λ (l : List (Option Value)). Unpacks pass.queue pass c.args.values.now.items l c.loop-slot.values.items) last c.loop-slot.invariant)
    c.push_reserved.ensures.items

pub loop-slot-preserved : goal.loop-slot-preserved
loop-slot-preserved c =
    let pass = c.args.self in
    let left = c.pop.new.self.items in
    let last = c.in-Some.ensures.items ∙ ap (λ (o : Option Value). left ++ o ∷ []) c.in_default-slot.is in
    unpacks_past pass.queue pass c.args.values.now.items c.loop-slot.values.items left
    (subst (λ (l : List (Option Value)). Unpacks pass.queue pass c.args.values.now.items l c.loop-slot.values.items) last c.loop-slot.invariant)

pub returns-clause-added : goal.returns-clause-added
returns-clause-added c =
    unpacks_all c.args.self.queue c.args.self c.args.values.now.items c.loop-slot.values.items c.loop-slot.slots.items c.loop-slot.invariant
    (sym c.loop-slot.slots.ok.0 ∙ c.in_default.ensures.cases.0)
