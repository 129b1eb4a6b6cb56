use Rattle.std.proofs.Common.{◌<◌, ◌∷◌, sym, ◌∙◌, ap, subst}
use Rattle.std.specs.Prelude.{Some}
use Rattle.atomic_table.specs.Table.{Me, rest}
use Rattle.scq_port.specs.Exports.{Laid, Claim}
use Rattle.scq_port.proofs.EndSteps.{begins, lays}
use Rattle.scq_port.proofs.ends.Ends.leave.Goals as goal

pub swap_new_seat-found-requires : goal.swap_new_seat-found-requires
swap_new_seat-found-requires c =
    let t = c.args.self.now.table.shared in
    (subst (λ n. c.args.number < n) (sym c.args.self.now.words) c.requires.low, begins t.key.value t.table_id.slots c.args.number c.requires.low)

pub store-requires : goal.store-requires
store-requires c =
    let t = c.args.self.now.table.shared in
    let took = c.swap_new_seat-found.ensures.1.took c.if-found-ne0.false in
    let is = c.exchange.ensures.3 ∙ ap (λ (m : Me Laid Claim). (m.0, (c.args.number, Some c.args.leaving) ∷ rest m.1)) took.1 in (
      c.exchange.ensures.0 ∙ c.swap_new_seat-found.ensures.0,
      subst (λ n. c.args.number < n) (sym c.args.self.now.words) c.requires.low,
      lays t.key.value t.table_id.slots c.exchange.new.seat.id c.args.number c.exchange.new.seat.me c.args.leaving c.requires.low is c.requires.pass,
    )
