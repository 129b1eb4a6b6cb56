use Rattle.std.proofs.Common.{◌≡◌, List, [], ◌∷◌, ◌++◌, map, length, All, sym, ◌∙◌, ap, subst, arith}
use Rattle.std.specs.Prelude.{reverse}
use Rattle.std.specs.Arc.{arc_value}
use Rattle.std.proofs.lemmas.List.{reverse-reverse, length-append}
use Rattle.scq_queue.specs.Exports.{PassStanding}
use Rattle.scq_port.specs.declared.port_buffer.PortBuffer.{PortBuffer}
use Rattle.scq_port.specs.Exports.{PortStanding, new_port, HoldsNothing}
use Rattle.scq_queue.proofs.NewPasses.{as_many_passes}
use Rattle.scq_port.proofs.Opened.{all_fresh, all_last, all_others, one_more, next_number}
use Rattle.scq_port.proofs.opening.ports_of.Goals as goal

pub loop-pass-init : goal.loop-pass-init
loop-pass-init c =
    let turned = c.reverse.ensures.items in
    let queue = (arc_value c.args.owner.now).queue in (
      ap (λ (l : List PortStanding). l ++ map (new_port c.args.hold) (reverse c.reverse.new.self.items)) c.in_ok-ports.ensures.items
          ∙ ap (λ (l : List (PassStanding PortBuffer)). map (new_port c.args.hold) (reverse l)) turned
          ∙ ap (λ (l : List (PassStanding PortBuffer)). map (new_port c.args.hold) l) (reverse-reverse c.args.passes.items),
      subst (λ (l : List (PassStanding PortBuffer)). All (HoldsNothing queue) l)
          (ap (λ (l : List (PassStanding PortBuffer)). reverse l) (sym c.requires.passes) ∙ sym turned) (all_fresh queue c.args.setup.seats),
      let none : length c.in_ok-ports.ports.items ≡ 0 = ap length c.in_ok-ports.ensures.items in
          omega (arith, none, c.reverse.ensures.len, c.args.passes.ok.0, ap length c.requires.passes, as_many_passes queue c.args.setup.seats),
    )

pub port_of-requires-clause-fresh : goal.port_of-requires-clause-fresh
port_of-requires-clause-fresh c =
    let Fresh = HoldsNothing (arc_value c.args.owner.now).queue in
    all_last Fresh c.pop.new.self.items c.in-Some.pass
    (subst (λ (l : List (PassStanding PortBuffer)). All Fresh l) c.in-Some.ensures.items c.loop-pass.invariant.1)

pub port_of-requires-clause-number : goal.port_of-requires-clause-number
port_of-requires-clause-number c =
    next_number (arc_value c.args.owner.now).queue c.args.hold c.args.setup.seats c.loop-pass.ports.items c.args.passes.items c.loop-pass.passes.items
    c.pop.new.self.items c.in-Some.pass c.loop-pass.invariant.0 c.requires.passes c.in-Some.ensures.items
    ∙ sym c.loop-pass.ports.ok.0 ∙ sym c.len-number.ensures

pub loop-pass-preserved : goal.loop-pass-preserved
loop-pass-preserved c =
    let Fresh = HoldsNothing (arc_value c.args.owner.now).queue in (
      one_more (new_port c.args.hold) c.loop-pass.ports.items c.push.new.self.items c.loop-pass.passes.items c.pop.new.self.items c.in-Some.pass
          c.in_ok-port_of.field-0 (map (new_port c.args.hold) c.args.passes.items) c.loop-pass.invariant.0 c.in-Some.ensures.items
          c.in_ok-push.ensures.items c.in_ok-port_of.ensures,
      all_others Fresh c.pop.new.self.items c.in-Some.pass
          (subst (λ (l : List (PassStanding PortBuffer)). All Fresh l) c.in-Some.ensures.items c.loop-pass.invariant.1),
      let more = ap length c.in_ok-push.ensures.items ∙ length-append c.loop-pass.ports.items (c.in_ok-port_of.field-0 ∷ []) in
          omega (arith, more, c.loop-pass.invariant.2, c.in-Some.ensures.len),
    )
