use Rattle.std.proofs.Common.{◌∙◌, ap, arith, List, ◌∷◌, ◌++◌, [], length, map}
use Rattle.scq_park.specs.Exports.{Post}
use Rattle.scq_block.specs.declared.frame.Frame.{Frame}
use Rattle.scq_files.specs.declared.desk.Desk.{Desk}
use Rattle.scq_worker.specs.Exports.{Seated}
use Rattle.scq_rest.proofs.Settling.{desk_of, stand_of}
use Rattle.scq_rest.proofs.resting.take_apart.Goals as goal

pub put_apart-requires-clause-room : goal.put_apart-requires-clause-room
put_apart-requires-clause-room g c κs within =
    let none = c.requires.empty in (
      omega (arith, ap length none.0, c.args.desks.now.ok.0, c.requires.room.0),
      omega (arith, ap length none.1, c.args.stands.now.ok.0, c.requires.room.1),
    )

pub take_all_apart-requires-clause-room : goal.take_all_apart-requires-clause-room
take_all_apart-requires-clause-room g c κs within =
    let none = c.requires.empty in
    let put = c.put_apart.ensures in (
      omega (arith, ap length none.0, c.args.desks.now.ok.0, c.requires.room.0, put.lens.0, put.kept.0),
      omega (arith, ap length none.1, c.args.stands.now.ok.0, c.requires.room.1, put.lens.1, put.kept.1),
    )

pub returns-clause-desks : goal.returns-clause-desks
returns-clause-desks g c =
    let S = g.row.S.Denot in
    let f : _ → Desk (Seated Frame _) S = desk_of in
    c.take_all_apart.ensures.desks
    ∙ ap (λ (l : List (Desk (Seated Frame _) S)). l ++ map f c.args.ends.items) (c.put_apart.ensures.desks ∙ ap (λ (l : List (Desk (Seated Frame _) S)). l ++ c.args.first.desk ∷ []) c.requires.empty.0)

pub returns-clause-stands : goal.returns-clause-stands
returns-clause-stands g c =
    c.take_all_apart.ensures.stands
    ∙ ap (λ (l : List Post). l ++ map stand_of c.args.ends.items) (c.put_apart.ensures.stands ∙ ap (λ (l : List Post). l ++ c.args.first.stand ∷ []) c.requires.empty.1)
