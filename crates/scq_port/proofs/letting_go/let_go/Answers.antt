use Rattle.std.proofs.Common.{◌≤◌, List, [], ◌∷◌, ◌++◌, refl, sym, ◌∙◌, ap, subst}
use Rattle.std.specs.Prelude.{Option}
use Rattle.scq_queue.specs.Exports.{PassStanding}
use Rattle.scq_queue.proofs.HeldOnce.{put_refused}
use Rattle.scq_port.specs.declared.port_buffer.PortBuffer.{PortBuffer}
use Rattle.scq_port.specs.Exports.{HasPassEnded, PortQueue, Value, buffer_bytes, LetsGo}
use Rattle.scq_port.proofs.Going.{Goes, begins, skips, holds_last, gives, ends, goes_first, goes_past, goes_back, ends_refused, ends_all}
use Rattle.scq_port.proofs.Records.{unspent}
use Rattle.scq_port.proofs.letting_go.let_go.Goals as goal

pub loop-slot-init : goal.loop-slot-init
loop-slot-init c =
    let hand = c.args.hand in (
      begins c.args.queue.now c.args.pass hand.slots.items hand.room hand.hold c.requires.kept,
      goes_first hand.slots.items c.args.pass,
      refl,
    )

pub give_back-requires-clause-held : goal.give_back-requires-clause-held
give_back-requires-clause-held c κs =
    let left = c.pop.new.self.items in
    let last = c.in-Some.ensures.items ∙ ap (λ (o : Option Value). left ++ o ∷ []) c.in-Some-slot.is in
    holds_last c.args.queue.now c.loop-slot.pass left c.in-Some-slot.held
    (subst (λ (l : List (Option Value)). LetsGo c.args.queue.now c.loop-slot.pass l) last c.loop-slot.invariant.0)

pub returns-in-Err : goal.returns-in-Err
returns-in-Err c =
    let left = c.pop.new.self.items in
    let all = c.args.hand.slots.items in
    let first = c.args.pass in
    let h = c.in-Some-slot.held in
    let last = c.in-Some.ensures.items ∙ ap (λ (o : Option Value). left ++ o ∷ []) c.in-Some-slot.is in
    let ticket = c.in-Err.field-0-1.ticket in
    record {
      ended =
          subst (λ (p : PassStanding PortBuffer). HasPassEnded (record { pass = first; slots = all; hold = c.args.hand.hold }) p) (sym c.of.ensures)
          (ends_refused all left h first c.loop-slot.pass c.give_back.new.pass ticket c.args.hand.hold
          (subst (λ (l : List (Option Value)). Goes all first l c.loop-slot.pass) last c.loop-slot.invariant.1)
          (λ none. (
            (c.in-Err.ensures.spent.drawn none).0,
            subst (λ (q : PortQueue). q.setup.limit ≤ ticket) (sym c.requires.kept.own) (c.in-Err.ensures.spent.drawn none).1,
          )) (λ t some. (c.in-Err.ensures.kept t some).1));
      left = sym c.of.ensures;
      own =
          let alike = put_refused c.loop-slot.pass c.give_back.new.pass c.in-Err.ensures.kept 0 ticket c.in-Err.ensures.spent in
          record { own = alike.queue ∙ c.loop-slot.invariant.0.own; number = alike.number ∙ c.loop-slot.invariant.2 };
    }

pub loop-slot-preserved-in_default-give_back : goal.loop-slot-preserved-in_default-give_back
loop-slot-preserved-in_default-give_back c =
    let left = c.pop.new.self.items in
    let all = c.args.hand.slots.items in
    let first = c.args.pass in
    let h = c.in-Some-slot.held in
    let last = c.in-Some.ensures.items ∙ ap (λ (o : Option Value). left ++ o ∷ []) c.in-Some-slot.is in
    let given = c.in_default-give_back.ensures.given in
    let none = unspent c.loop-slot.pass.spent (λ t some. let no = (c.in_default-give_back.ensures.kept t some).0 in cc) in (
      gives c.args.queue.now c.loop-slot.pass c.give_back.new.pass left h given.place (buffer_bytes h.buffer)
          (subst (λ (l : List (Option Value)). LetsGo c.args.queue.now c.loop-slot.pass l) last c.loop-slot.invariant.0) given.pass,
      goes_back all left h first c.loop-slot.pass c.give_back.new.pass
          (subst (λ (l : List (Option Value)). Goes all first l c.loop-slot.pass) last c.loop-slot.invariant.1) none given,
      ap (λ (p : PassStanding PortBuffer). p.number) given.pass ∙ c.loop-slot.invariant.2,
    )

pub loop-slot-preserved : goal.loop-slot-preserved
loop-slot-preserved c =
    let left = c.pop.new.self.items in
    let all = c.args.hand.slots.items in
    let first = c.args.pass in
    let last = c.in-Some.ensures.items ∙ ap (λ (o : Option Value). left ++ o ∷ []) c.in_default-slot.is in (
      skips c.args.queue.now c.loop-slot.pass left
          (subst (λ (l : List (Option Value)). LetsGo c.args.queue.now c.loop-slot.pass l) last c.loop-slot.invariant.0),
      goes_past all left first c.loop-slot.pass
          (subst (λ (l : List (Option Value)). Goes all first l c.loop-slot.pass) last c.loop-slot.invariant.1),
      c.loop-slot.invariant.2,
    )

pub returns : goal.returns
returns c =
    let empty = sym c.loop-slot.slots.ok.0 ∙ c.in_default.ensures.cases.0 in
    let none = ends c.args.queue.now c.loop-slot.pass c.loop-slot.slots.items c.loop-slot.invariant.0 empty in
    record {
      ended =
          subst (λ (p : PassStanding PortBuffer). HasPassEnded (record { pass = c.args.pass; slots = c.args.hand.slots.items; hold = c.args.hand.hold }) p) (sym c.of-2.ensures)
          (ends_all c.args.hand.slots.items c.loop-slot.slots.items c.args.pass c.loop-slot.pass c.args.hand.hold c.loop-slot.invariant.1 empty
          (λ unspent. none));
      left = sym c.of-2.ensures;
      own = record { own = c.loop-slot.invariant.0.own; number = c.loop-slot.invariant.2 };
    }
