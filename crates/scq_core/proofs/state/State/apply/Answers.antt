-- The fields are a sound state as lists; so the turn can be made, and what was made of them is the machine's step.
use Rattle.std.proofs.Common.{◌≡◌, ◌<◌}
use Rattle.std.specs.Prelude.{Some, OnOk}
use Rattle.scq_core.specs.Exports.{turn_of, step_of, part_in, machine_of, WantsMemory}
use Rattle.scq_core.specs.StateLists.{StateLists}
use Rattle.scq_core.proofs.ListedTurns.{can_turn, seat_lent, applied_sound, applied_steps}
use Rattle.scq_core.proofs.Memory.{takes_memory}
use Rattle.scq_core.proofs.state.State.apply.Goals as goal

pub advance-requires-clause-ready : goal.advance-requires-clause-ready
advance-requires-clause-ready c turn enabled =
    let b : StateLists =
    record { setup = c.self.inside.setup; rings = c.self.inside.rings.items; seats = c.self.inside.seats.items; opening = c.self.inside.opening.items } in
    let low : c.args.seat < b.setup.seats = rw (← c.self.view_is) at c.requires in
    let is : turn_of b.setup (part_in b.seats c.args.seat) c.args.step.now ≡ Some turn =
    rw (seat_lent b c.args.seat c.index_mut.result.now c.self.invariant low c.index_mut.ensures.value) at enabled in
    can_turn b c.args.seat c.args.step.now turn c.self.invariant is

pub invariant_of-self : goal.invariant_of-self
invariant_of-self c =
    let b : StateLists =
    record { setup = c.self.inside.setup; rings = c.self.inside.rings.items; seats = c.self.inside.seats.items; opening = c.self.inside.opening.items } in
    let low : c.args.seat < b.setup.seats = rw (← c.self.view_is) at c.requires in
    applied_sound b c.args.seat c.args.step.now c.advance.new.rings.items c.index_mut.result.now c.advance.new.seat c.advance.result c.self.invariant low
    c.index_mut.ensures.value c.advance.ensures.ok c.advance.ensures.err

pub returns-clause-ok : goal.returns-clause-ok
returns-clause-ok c =
    let b : StateLists =
    record { setup = c.self.inside.setup; rings = c.self.inside.rings.items; seats = c.self.inside.seats.items; opening = c.self.inside.opening.items } in
    let low : c.args.seat < b.setup.seats = rw (← c.self.view_is) at c.requires in
    let steps : OnOk c.advance.result
    (step_of b.setup (machine_of b) c.args.seat c.args.step.now ≡ Some (machine_of (record b { rings = c.advance.new.rings.items; seats = _ }))) =
    applied_steps b c.args.seat c.args.step.now c.advance.new.rings.items c.index_mut.result.now c.advance.new.seat c.advance.result c.self.invariant low
    c.index_mut.ensures.value c.advance.ensures.ok in
    rw (← c.self.view_is) steps

pub returns-clause-reachable : goal.returns-clause-reachable
returns-clause-reachable c = (invariant_of-self c).reachable

pub returns-clause-no_memory : goal.returns-clause-no_memory
returns-clause-no_memory c wants =
    let b : StateLists =
    record { setup = c.self.inside.setup; rings = c.self.inside.rings.items; seats = c.self.inside.seats.items; opening = c.self.inside.opening.items } in
    let low : c.args.seat < b.setup.seats = rw (← c.self.view_is) at c.requires in
    let lent = seat_lent b c.args.seat c.index_mut.result.now c.self.invariant low c.index_mut.ensures.value in
    let may : WantsMemory b.setup (part_in b.seats c.args.seat) c.args.step.now b.rings = rw lent at (c.advance.ensures.no_memory wants) in
    rw (← c.self.view_is) (takes_memory b c.args.seat c.args.step.now may)
