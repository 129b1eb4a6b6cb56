use Rattle.std.proofs.Common.{◌≡◌, ◌∙◌, sym, ap, subst, refl, false, arith, List, ◌++◌, [], length, map, reverse}
use Rattle.std.specs.Prelude.{Option, flat_map}
use Rattle.std.specs.List.{All}
use Rattle.std.specs.Option.{option_to_list}
use Rattle.std.proofs.lemmas.List.{nil_from_length, reverse-reverse}
use Rattle.std.proofs.lemmas.List.Elements.{All-nil}
use Rattle.scq_block.specs.declared.frame.Frame.{Frame}
use Rattle.scq_queue.specs.Exports.{PassStanding, HeldStanding}
use Rattle.scq_files.specs.declared.desk.Desk.{Desk}
use Rattle.scq_passes.proofs.Parting.{popped, popped-flat, all-turned}
use Rattle.scq_desk.specs.declared.seat.Seat.{Seat}
use Rattle.scq_desk.proofs.clearing.clear.Goals as goal

pub desks-init : goal.desks-init
desks-init g c =
    let D = Desk (Seat g.row.W.Denot Frame (Option Frame)) g.row.S.Denot in
    let all = c.args.desks.items in
    let back : reverse c.reverse.new.self.items ≡ all = ap reverse c.reverse.ensures.items ∙ reverse-reverse all in
    let clean = c.requires.clean in
    record {
      passes = rw (clean.passes.0, back) refl;
      held = rw (clean.held.0, back) refl;
      lists = rw (clean.lists.0, back) refl;
      pass_room = omega (arith, c.reverse.ensures.len, ap length clean.passes.0, clean.passes.1, c.args.left.now.passes.ok.0);
      held_room = omega (arith, c.reverse.ensures.len, ap length clean.held.0, clean.held.1, c.args.left.now.held.ok.0);
      list_room = omega (arith, c.reverse.ensures.len, ap length clean.lists.0, clean.lists.1, c.args.left.now.lists.ok.0);
      fed = λ fed each. subst (All (λ (d : D). g.W.Sits.starved_of d.worker.worker ≡ false)) back each;
    }

pub desks-preserved : goal.desks-preserved
desks-preserved g c =
    let D = Desk (Seat g.row.W.Denot Frame (Option Frame)) g.row.S.Denot in
    let pass_of : D → PassStanding Frame = λ d. g.W.Sits.pass_of d.worker.worker in
    let kept_of : D → List (HeldStanding Frame) = λ d. option_to_list d.worker.kept in
    let list_of : D → _ = λ d. g.W.Sits.list_of d.worker.worker in
    let inv = c.desks.invariant in
    let old = c.desks.desks.items in
    let rest = c.pop.new.self.items in
    let desk = c.in-Some.desk in
    let is = c.in-Some.ensures.items in
    let took = c.take_in.ensures in
    let left = c.desks.left in
    record {
      passes = ap (λ (l : List (PassStanding Frame)). l ++ map pass_of (reverse rest)) took.passes
          ∙ popped pass_of left.passes.items (map pass_of c.args.desks.items) old rest desk inv.passes is;
      held = ap (λ (l : List (HeldStanding Frame)). l ++ flat_map kept_of (reverse rest)) took.held
          ∙ popped-flat kept_of left.held.items (flat_map kept_of c.args.desks.items) old rest desk inv.held is;
      lists = ap (λ l. l ++ map list_of (reverse rest)) took.lists
          ∙ popped list_of left.lists.items (map list_of c.args.desks.items) old rest desk inv.lists is;
      pass_room = omega (arith, inv.pass_room, took.passes_len.0, took.passes_len.1, c.in-Some.ensures.cases);
      held_room = omega (arith, inv.held_room, took.held_len.0, took.held_len.1, c.in-Some.ensures.cases);
      list_room = omega (arith, inv.list_room, took.lists_len.0, took.lists_len.1, c.in-Some.ensures.cases);
      fed = λ fed each.
          let both = took.starved fed in
          inv.fed both.0 (all-turned (λ (d : D). g.W.Sits.starved_of d.worker.worker ≡ false) old rest desk is both.1 each);
    }

pub returns-clause-starved : goal.returns-clause-starved
returns-clause-starved g c fed =
    let D = Desk (Seat g.row.W.Denot Frame (Option Frame)) g.row.S.Denot in
    let IsFed : D → Type 0 = λ d. g.W.Sits.starved_of d.worker.worker ≡ false in
    let none : c.desks.desks.items ≡ [] = nil_from_length c.desks.desks.items (omega (arith, c.in_default.ensures.cases, c.desks.desks.ok.0)) in
    c.desks.invariant.fed fed (subst (λ (ds : List D). All IsFed (reverse ds)) (sym none) (All-nil IsFed))
