use Rattle.std.proofs.Common.{◌≡◌, map, refl, sym, ◌∙◌, ap, arith}
use Rattle.std.specs.Prelude.{Some}
use Rattle.std.proofs.lemmas.List.{length-map}
use Rattle.scq_word.specs.Exports.{n_of}
use Rattle.scq_port.specs.Exports.{PortStanding}
use Rattle.scq_c.proofs.Handed.{closed_alike, length_alike, length_opened, inside, map_twice}
use Rattle.scq_c.proofs.Openings.{open_opened}
use Rattle.scq_c.proofs.opening.scq_open_over.Goals as goal

pub fill-requires-clause-closed : goal.fill-requires-clause-closed
fill-requires-clause-closed c =
    closed_alike c.any_open.new.ports c.args.ports.now c.any_open.ensures.same (c.if-any_open.ensures.closed refl)

pub fill-requires-clause-count : goal.fill-requires-clause-count
fill-requires-clause-count c =
    let setup = c.in-Ok.ensures.made in
    c.in-Some.boxes.ok.0 ∙ sym (length-map c.in-Some.boxes.items inside)
    ∙ length_opened c.in-Ok.setup c.args.hold (map inside c.in-Some.boxes.items) c.in-Some.ensures
    ∙ setup.2 ∙ sym (length_alike c.any_open.new.ports c.args.ports.now c.any_open.ensures.same)

pub returns : goal.returns
returns c =
    let setup = c.in-Ok.ensures.made in
    open_opened c.args.order c.args.topics c.args.hold c.args.limit c.args.memory.now c.args.ports.now c.tell.new.ports (record {
      closed = c.if-any_open.ensures.closed refl;
      setup = c.in-Ok.setup;
      order_is = setup.0;
      rings_is = setup.1;
      seats_is = setup.2;
      limit_is = setup.3;
      some_topics = let more = setup.4 in let rings = setup.1 in omega (arith, more, rings);
      some_bytes = omega arith;
      apart = omega arith;
      some_hold = (omega arith, let all : c.n.result ≡ n_of c.args.order = c.n.ensures ∙ ap n_of (c.shape.ensures ∙ setup.0) in omega (arith, all));
      ports = map inside c.in-Some.boxes.items;
      opened = c.in-Some.ensures;
      have = c.tell.ensures.same ∙ c.fill.ensures.ports ∙ sym (map_twice inside (λ (p : PortStanding). Some p) c.in-Some.boxes.items);
      told = c.tell.ensures.told;
    })
