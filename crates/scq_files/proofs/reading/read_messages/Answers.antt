use Rattle.std.proofs.Common.{rules, ◌≡◌, ◌^◌, ◌∙◌, ap, sym, subst, ◌++◌, ◌∷◌, [], List, length, Some, None, Ok, Err, Option}
use Rattle.std.specs.Prelude.{IfNone, IfSome, IsTrue}
use Rattle.std.specs.Option.{option_map, option_to_list}
use Rattle.scq_topics.specs.Exports.{topic_of}
use Rattle.scq_frames.specs.Exports.{Found, IsNext, fresh, visible_ahead}
use Rattle.scq_frames.specs.Framing.{Framing}
use Rattle.scq_frames.specs.declared.message.Message.{Message}
use Rattle.scq_files.specs.Exports.{given_in}
use Rattle.scq_files.proofs.ReadLemmas.{FileIsBeingRead, Answers, reading-first, reading-next, reading-whole, reading-fault, reading-left}
use Rattle.scq_files.proofs.Wants.{wants-none, wants-more}
use Rattle.scq_files.proofs.reading.read_messages.Goals as goal
use Rattle.scq_files.proofs.reading.read_messages.Goals.{After-next, After-handle_one}
use Rattle.scq_files.proofs.Results.{err-of}

-- what the framer's answer says, whichever it is
said : (g : _) (c : After-next g) → Answers g.S.Source c.messages.source c.next.new.source c.messages.framer c.next.new.self
said g c =
    let its = c.next.ensures in
    record {
      file = its.goes_on.file;
      payload = its.goes_on.payload;
      most = its.goes_on.most;
      bounded = its.goes_on.bounded;
      end = its.source.end;
      stays = λ h. (its.source.stays h).1;
      size_same = its.source.size;
      once = its.source.once;
    }

-- with the message that it gave
reading : (g : _) (c : After-handle_one g) → Answers g.S.Source c.messages.source c.next.new.source c.messages.framer c.next.new.self
    → FileIsBeingRead c.args.topics.now c.args.longest g.S.Source c.args.file c.args.source.now c.next.new.source
    c.next.new.self (given_in c.give.new.given.value)
reading g c answer =
    let m = c.in-Ok-Some.message in
    let its = c.in-Ok-Some.ensures in
    let is = c.in-Ok-Some.field-0-is in
    let start = c.args.source.now in
    let left = g.S.Source.left in
    let topics = c.args.topics.now in
    let ahead = visible_ahead (topic_of topics) c.messages.framer (left c.messages.source) in
    let after = visible_ahead (topic_of topics) c.next.new.self (left c.next.new.source) in
    let G : Option Message → Type 0 = λ given. ahead ≡ option_map (λ rest. option_to_list given ++ rest) after in
    let X : Option Message → Type 0 = λ given. IfSome given (IsNext (length topics) c.messages.framer c.next.new.self) in
    let F : Option Message → Type 0 = λ given. Found c.messages.framer c.next.new.self (left c.messages.source) (left c.next.new.source) (Ok given) in
    let gives : ahead ≡ option_map (λ rest. (m ∷ []) ++ rest) after = subst G is its.gives.gives in
    let next : IsNext (length topics) c.messages.framer c.next.new.self m = subst X is its.next in
    let found : Found c.messages.framer c.next.new.self (left c.messages.source) (left c.next.new.source) (Ok (Some m)) = subst F is its.found in
    reading-next c.args.topics.now c.args.longest g.S.Source c.args.file start c.messages.source
    c.next.new.source
    c.messages.framer c.next.new.self
    (given_in c.messages.given.value) (given_in c.give.new.given.value) m c.messages.invariant.reading answer gives next found its.goes_on.failed
    (its.source.faults.kept (λ e. absurd (cc))) c.give.ensures

-- it is handled behind the others
handled-next : (g : _) (c : After-handle_one g)
    → g.H.Handler.handled c.args.with.now (c.in-Ok-Some.message ∷ []) c.messages.beside c.messages.handler c.handle_one.new.beside c.handle_one.new.handler
    → g.H.Handler.handled c.args.with.now (given_in c.give.new.given.value) c.args.beside.now c.args.handler.now c.handle_one.new.beside c.handle_one.new.handler
handled-next g c its =
    subst (λ (ms : List _). g.H.Handler.handled c.args.with.now ms c.args.beside.now c.args.handler.now c.handle_one.new.beside c.handle_one.new.handler)
    (sym c.give.ensures) (g.met.H.Handler.more_handled _ _ _ _ _ _ _ _ _ c.messages.invariant.handled its)

pub returns-in_err-handle_one-in-Ok-Some-clause-unended : goal.returns-in_err-handle_one-in-Ok-Some-clause-unended
returns-in_err-handle_one-in-Ok-Some-clause-unended g c =
    let now = reading g (goal.at.returns-in_err-handle_one-in-Ok-Some-clause-unended g c).After-handle_one
    (said g (goal.at.returns-in_err-handle_one-in-Ok-Some-clause-unended g c).After-next) in
    err-of _ c.from_residual.result c.in_err-handle_one-in-Ok-Some.field-0.0 (search rules)
    (reading-left c.args.topics.now c.args.longest g.S.Source c.args.file c.args.source.now
    c.next.new.source c.next.new.self (given_in c.give.new.given.value) now)

pub returns-in_err-handle_one-in-Ok-Some-clause-stopped : goal.returns-in_err-handle_one-in-Ok-Some-clause-stopped
returns-in_err-handle_one-in-Ok-Some-clause-stopped g c =
    let stop = c.in_err-handle_one-in-Ok-Some.field-0.0 in
    err-of _ c.from_residual.result stop (search rules)
    (subst (λ (ms : List _). g.H.Handler.stopped c.args.with.now ms c.args.beside.now c.args.handler.now c.handle_one.new.beside c.handle_one.new.handler stop)
    (sym c.give.ensures)
    (g.met.H.Handler.then_stopped _ _ _ _ _ _ _ _ _ stop c.messages.invariant.handled c.in_err-handle_one-in-Ok-Some.ensures.stopped))

pub returns-then-starved-clause-read : goal.returns-then-starved-clause-read
returns-then-starved-clause-read g c =
    let now = reading g (goal.at.returns-then-starved-clause-read g c).After-handle_one (said g (goal.at.returns-then-starved-clause-read g c).After-next) in
    reading-left c.args.topics.now c.args.longest g.S.Source c.args.file c.args.source.now
    c.next.new.source c.next.new.self (given_in c.give.new.given.value) now

pub returns-then-starved-clause-handled : goal.returns-then-starved-clause-handled
returns-then-starved-clause-handled g c =
    handled-next g (goal.at.returns-then-starved-clause-handled g c).After-handle_one c.in_ok-handle_one-in-Ok-Some.ensures.handled

pub messages-preserved : goal.messages-preserved
messages-preserved g c =
    let its = c.in_ok-handle_one-in-Ok-Some.ensures in
    record {
      reading = subst (λ framer. FileIsBeingRead c.args.topics.now c.args.longest g.S.Source c.args.file c.args.source.now c.next.new.source framer
          (given_in c.give.new.given.value)) (sym (c.reuse.ensures.same ∙ c.may_wait.ensures.same))
          (reading g (goal.at.messages-preserved g c).After-handle_one (said g (goal.at.messages-preserved g c).After-next));
      ready = g.met.H.Handler.stays_ready _ _ _ _ _ _ c.messages.invariant.ready its.handled;
      handled = handled-next g (goal.at.messages-preserved g c).After-handle_one its.handled;
      fed = λ fed. sym c.starved.ensures ∙ c.if-starved.false;
    }

pub returns-in-Ok-None-clause-read : goal.returns-in-Ok-None-clause-read
returns-in-Ok-None-clause-read g c =
    let its = c.in-Ok-None.ensures in
    let is = c.in-Ok-None.field-0-is in
    let left = g.S.Source.left in
    let ahead = visible_ahead (topic_of c.args.topics.now) c.messages.framer (left c.messages.source) in
    let N : Option Message → Type 0 = λ given. IfNone given (ahead ≡ option_map (λ _. []) (left c.messages.source)) in
    let O : Option Message → Type 0 = λ given. IfNone given (IsTrue c.next.new.self.ended × (c.next.new.self.held ≡ [])) in
    let F : Option Message → Type 0 = λ given. Found c.messages.framer c.next.new.self (left c.messages.source) (left c.next.new.source) (Ok given) in
    let none_ : ahead ≡ option_map (λ _. []) (left c.messages.source) = subst N is its.gives.none in
    let over : IsTrue c.next.new.self.ended × (c.next.new.self.held ≡ []) = subst O is its.gives.over in
    let found : Found c.messages.framer c.next.new.self (left c.messages.source) (left c.next.new.source) (Ok None) = subst F is its.found in
    reading-whole c.args.topics.now c.args.longest g.S.Source c.args.file c.args.source.now c.messages.source
    c.next.new.source c.messages.framer
    c.next.new.self (given_in c.messages.given.value) c.messages.invariant.reading (said g (goal.at.returns-in-Ok-None-clause-read g c).After-next) none_
    found over.0
    (its.source.faults.kept (λ e. absurd (cc)))

pub returns-in-Err-clause-read : goal.returns-in-Err-clause-read
returns-in-Err-clause-read g c =
    let its = c.next.ensures in
    let fault = c.in-Err.fault in
    let is = c.in-Err.is in
    reading-fault c.args.topics.now c.args.longest g.S.Source c.args.file c.args.source.now c.messages.source
    c.next.new.source c.messages.framer
    c.next.new.self (given_in c.messages.given.value) fault c.messages.invariant.reading (said g (goal.at.returns-in-Err-clause-read g c).After-next)
    c.in-Err.ensures.found
    (λ e. its.source.faults.rose (is ∙ ap Err e)) (λ e. its.source.going (is ∙ ap Err e)) (λ other. its.source.faults.kept (λ e. other (cc)))
    c.in-Err.ensures.fault.too_long c.in-Err.ensures.fault.too_large

-- memory was wanted at this message, if at all
pub returns-in_err-handle_one-in-Ok-Some-clause-wanted : goal.returns-in_err-handle_one-in-Ok-Some-clause-wanted
returns-in_err-handle_one-in-Ok-Some-clause-wanted g c fed =
    wants-more _ _ c.in-Ok-Some.message _ _ _ _ c.give.ensures c.messages.invariant.handled (c.messages.invariant.fed fed)

pub returns-then-starved-clause-wanted : goal.returns-then-starved-clause-wanted
returns-then-starved-clause-wanted g c fed =
    wants-more _ _ c.in-Ok-Some.message _ _ _ _ c.give.ensures c.messages.invariant.handled (c.messages.invariant.fed fed)

-- at none
pub returns-in-Ok-None-clause-wanted : goal.returns-in-Ok-None-clause-wanted
returns-in-Ok-None-clause-wanted g c fed = wants-none _ _ _ _ _ c.messages.invariant.handled (c.messages.invariant.fed fed)

pub returns-in-Err-clause-wanted : goal.returns-in-Err-clause-wanted
returns-in-Err-clause-wanted g c fed = wants-none _ _ _ _ _ c.messages.invariant.handled (c.messages.invariant.fed fed)

pub messages-init : goal.messages-init
messages-init g c =
    let source = c.args.source.now in
    let framer : Framing = fresh c.args.file c.args.longest (2 ^ 30) in
    record {
      reading =
          subst (λ (framer : Framing). FileIsBeingRead c.args.topics.now c.args.longest g.S.Source c.args.file source source framer (given_in c.args.given.now.value))
          (sym c.in-Ok.ensures)
          (subst (λ (ms : List Message). FileIsBeingRead c.args.topics.now c.args.longest g.S.Source c.args.file source source framer ms) (sym c.requires.none)
          (reading-first c.args.topics.now c.args.longest g.S.Source c.args.file source));
      ready = c.requires.ready;
      handled =
          subst (λ (ms : List Message). g.H.Handler.handled c.args.with.now ms c.args.beside.now c.args.handler.now c.args.beside.now c.args.handler.now)
          (sym c.requires.none) (g.met.H.Handler.none_handled c.args.with.now c.args.beside.now c.args.handler.now c.requires.ready);
      fed = λ fed. fed;
    }

pub handle_one-requires-clause-ready : goal.handle_one-requires-clause-ready
handle_one-requires-clause-ready g c = c.messages.invariant.ready
