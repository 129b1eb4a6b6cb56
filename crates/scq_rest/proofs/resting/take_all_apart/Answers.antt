use Rattle.std.proofs.Common.{◌≡◌, ◌∙◌, ap, arith, List, ◌++◌, map, reverse}
use Rattle.std.proofs.lemmas.List.{reverse-reverse}
use Rattle.scq_park.specs.Exports.{Post}
use Rattle.scq_block.specs.declared.frame.Frame.{Frame}
use Rattle.scq_files.specs.declared.desk.Desk.{Desk}
use Rattle.scq_worker.specs.Exports.{Seated}
use Rattle.scq_rest.specs.declared.threads.Work.{Work}
use Rattle.scq_passes.proofs.Parting.{popped}
use Rattle.scq_rest.proofs.Settling.{desk_of, stand_of}
use Rattle.scq_rest.proofs.resting.take_all_apart.Goals as goal

pub ends-init : goal.ends-init
ends-init g c =
    let S = g.row.S.Denot in
    let all = c.args.ends.items in
    let back : reverse c.reverse.new.self.items ≡ all = ap reverse c.reverse.ensures.items ∙ reverse-reverse all in
    record {
      desks = ap (λ (ws : List (Work S)). c.args.desks.now.items ++ map desk_of ws) back;
      stands = ap (λ (ws : List (Work S)). c.args.stands.now.items ++ map stand_of ws) back;
      desk_room = omega (arith, c.reverse.ensures.len, c.requires.room.0);
      stand_room = omega (arith, c.reverse.ensures.len, c.requires.room.1);
    }

pub ends-preserved : goal.ends-preserved
ends-preserved g c =
    let S = g.row.S.Denot in
    let inv = c.ends.invariant in
    let rest = c.pop.new.self.items in
    let work = c.in-Some.work in
    let put = c.put_apart.ensures in
    record {
      desks = ap (λ (l : List (Desk (Seated Frame _) S)). l ++ map desk_of (reverse rest)) put.desks
          ∙ popped desk_of c.ends.desks.items (c.args.desks.now.items ++ map desk_of c.args.ends.items) c.ends.ends.items rest work inv.desks
          c.in-Some.ensures.items;
      stands = ap (λ (l : List Post). l ++ map stand_of (reverse rest)) put.stands
          ∙ popped stand_of c.ends.stands.items (c.args.stands.now.items ++ map stand_of c.args.ends.items) c.ends.ends.items rest work inv.stands
          c.in-Some.ensures.items;
      desk_room = omega (arith, inv.desk_room, put.lens.0, put.kept.0, c.in-Some.ensures.cases);
      stand_room = omega (arith, inv.stand_room, put.lens.1, put.kept.1, c.in-Some.ensures.cases);
    }
