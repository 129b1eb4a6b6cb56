use Rattle.std.proofs.Common.{List, sym, ◌∙◌, subst, arith}
use Rattle.scq_port.specs.Exports.{PortStanding, AreOpened}
use Rattle.scq_c.proofs.Handed.{inside, begin_boxed, one_boxed, end_boxed}
use Rattle.scq_c.proofs.opening.boxed.Goals as goal

pub loop-port-init : goal.loop-port-init
loop-port-init c =
    let boxes = c.in-Ok-with_capacity.ensures in (
      subst (λ (l : List PortStanding). AreOpened c.args.setup c.args.hold l)
          (begin_boxed inside c.in-Ok-with_capacity.boxes.items c.in-Ok.ports.items c.reverse.new.self.items boxes.items c.reverse.ensures.items)
          c.in-Ok.ensures,
      let none = boxes.len in let room = boxes.capacity in let turned = c.reverse.ensures.len in let many = c.len.ensures in
          omega (arith, none, room, turned, many),
    )

pub loop-port-preserved : goal.loop-port-preserved
loop-port-preserved c = (
  subst (λ (l : List PortStanding). AreOpened c.args.setup c.args.hold l)
      (one_boxed inside c.loop-port.boxes.items c.push_reserved.new.self.items c.loop-port.ports.items c.pop.new.self.items c.in-Some.port
      c.in-Ok-new.boxed c.in-Some.ensures.items c.push_reserved.ensures.items c.in-Ok-new.ensures.ok)
      c.loop-port.invariant.0,
  let room = c.loop-port.invariant.1 in let less = c.in-Some.ensures.cases in let more = c.push_reserved.ensures.len in
      let same = c.push_reserved.ensures.capacity in omega (arith, room, less, more, same),
)

pub returns : goal.returns
returns c =
    subst (λ (l : List PortStanding). AreOpened c.args.setup c.args.hold l)
    (end_boxed inside c.loop-port.boxes.items c.loop-port.ports.items (sym c.loop-port.ports.ok.0 ∙ c.in_default-pop.ensures.cases.0))
    c.loop-port.invariant.0
