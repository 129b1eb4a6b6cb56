-- A line that was passed took its message off those ahead, and the last line was all of them.
use Rattle.std.proofs.Common.{Ok, Err, take, ◌+◌, ◌≤◌, ◌≡◌, ◌∙◌, sym, ap, subst, length, Option, Bool, true, false, arith}
use Rattle.scq_frames.specs.declared.message.Message.{Message}
use Rattle.scq_frames.specs.declared.fault.FrameFault.TheVariants.{ReadFault}
use Rattle.scq_frames.specs.Exports.{GivesFirst, ReadsFrom, EndsAt, HasNoLineFeed, EndsOnce, work_left, framing, Found}
use Rattle.scq_frames.proofs.StopLemmas.{Ends, ends-line, ends-last, no_answer, reads-no_more, stops-at_line, stops-passed, stops-reading}
use Rattle.scq_topics.specs.Exports.{topic_of}
use Rattle.scq_frames.proofs.EndLemmas.{ends-start, began-going, ends-read}
use Rattle.scq_frames.specs.Framing.{Framing}
use Rattle.scq_frames.proofs.AheadLemmas.{passed-line, passed-last}
use Rattle.scq_frames.proofs.FoundLemmas.{Found-later, Found-long, Found-long_last, Found-read_err}
use Rattle.scq_frames.proofs.NameLemmas.{names-overlook}
use Rattle.scq_frames.proofs.TrimLemmas.{clear-trimmed, length-trimmed}
use Rattle.scq_frames.proofs.NextLemmas.{Searches, Searches-start, Searches-line, Searches-trim, Searches-read}
use Rattle.scq_frames.proofs.ComingLemmas.{Found-done}
use Rattle.scq_frames.proofs.framer.Framer.next.Goals as goal
use Rattle.scq_frames.proofs.framer.Framer.next.Goals.{After-line_len, After-self-2, After-trim, In-None, in-Some+in_ok-message-in-Some+in-Some-2, in-None+then-has_ended+in_ok-given-in-None}

-- no line's end was looked for that changed the framer
searches : (g : _) (c : After-line_len g)
    → Searches (topic_of c.args.topics.now) g.S.Source.left g.S.Source.faults c.args.self.now c.line_len.new.self c.args.source.now c.loop-len.source
searches g c =
    subst (λ (f : Framing). Searches (topic_of c.args.topics.now) g.S.Source.left g.S.Source.faults c.args.self.now f c.args.source.now c.loop-len.source)
    (sym c.line_len.ensures.same) c.loop-len.invariant.0

-- where none was found, what is held has none
clear : (g : _) (c : In-None g) → HasNoLineFeed c.line_len.new.self.held 0 (length c.line_len.new.self.held)
clear g c = subst (λ (f : Framing). HasNoLineFeed f.held 0 (length f.held)) (sym c.line_len.ensures.same) c.in-None.ensures.none

-- and so it is once the topic of the line was cut
cut : (g : _) (c : After-trim g)
    → Searches (topic_of c.args.topics.now) g.S.Source.left g.S.Source.faults c.args.self.now c.trim.new.self c.args.source.now c.loop-len.source
    × HasNoLineFeed c.trim.new.self.held 0 (length c.trim.new.self.held) × (c.trim.new.self.ended ≡ false)
    × EndsOnce c.args.self.now.ended c.trim.new.self.ended (g.S.Source.ends c.args.source.now) (g.S.Source.ends c.loop-len.source)
cut g c =
    let now = c.line_len.new.self in
    let none = subst (λ (f : Framing). HasNoLineFeed f.held 0 (length f.held)) (sym c.line_len.ensures.same) c.in-None.ensures.none in
    let going = sym c.has_ended.ensures ∙ c.if-has_ended.false in
    let trim = c.trim.ensures in (
      Searches-trim (topic_of c.args.topics.now) g.S.Source.left g.S.Source.faults c.args.self.now now c.trim.new.self c.args.source.now c.loop-len.source
          (subst (λ (f : Framing). Searches (topic_of c.args.topics.now) g.S.Source.left g.S.Source.faults c.args.self.now f c.args.source.now
          c.loop-len.source) (sym c.line_len.ensures.same) c.loop-len.invariant.0) trim.trimmed none going
          (names-overlook c.args.topics.now now.file trim.names) trim.same,
      clear-trimmed 33 now.held c.trim.new.self.held trim.trimmed none,
      ap (λ (f : Framing). f.ended) trim.same ∙ going,
      subst (λ (b : Bool). EndsOnce c.args.self.now.ended b (g.S.Source.ends c.args.source.now) (g.S.Source.ends c.loop-len.source))
          (sym (ap (λ (f : Framing). f.ended) trim.same ∙ ap (λ (f : Framing). f.ended) c.line_len.ensures.same)) c.loop-len.invariant.1,
    )

pub loop-len-init : goal.loop-len-init
loop-len-init g c =
    let first = c.args.self.now in (
      Searches-start (topic_of c.args.topics.now) g.S.Source.left g.S.Source.faults first _ c.args.source.now
          (ap (λ (f : Framing). record f { failed = true }) c.self.view_is)
          (subst (λ (f : Framing). f.read ≤ f.most) c.self.view_is (c.self.invariant.within (ap (λ (f : Framing). f.failed) c.self.view_is ∙ c.requires)))
          (subst (λ (f : Framing). length f.held ≤ f.size + 4130) c.self.view_is c.self.invariant.short),
      subst (λ (b : Bool). EndsOnce first.ended b (g.S.Source.ends c.args.source.now) (g.S.Source.ends c.args.source.now))
          (sym (ap (λ (f : Framing). f.ended) c.self.view_is)) (ends-start first.ended (g.S.Source.ends c.args.source.now)),
    )

pub loop-len-preserved-in_default : goal.loop-len-preserved-in_default
loop-len-preserved-in_default g c =
    let number = topic_of c.args.topics.now in
    let now = c.line_len.new.self in
    let passed = passed-line number now c.pass.new.self c.loop-len.self c.in-Some.len c.in_ok-message-in-Some.field-0 c.line_len.ensures.same
    c.in-Some.ensures.found c.in_ok-message-in-Some.ensures.fits c.in_ok-message-in-Some.ensures.given c.in_ok-message-in-Some.ensures.passed in (
      Searches-line number g.S.Source.left g.S.Source.faults c.args.self.now now c.pass.new.self c.args.source.now c.loop-len.source c.in-Some.len c.in_ok-message-in-Some.field-0
          (searches g (goal.at.loop-len-preserved-in_default g c).After-line_len) passed c.in_default.is,
      subst (λ (b : Bool). EndsOnce c.args.self.now.ended b (g.S.Source.ends c.args.source.now) (g.S.Source.ends c.loop-len.source))
          (sym (ap (λ (f : Framing). f.ended) (passed.after) ∙ ap (λ (f : Framing). f.ended) c.line_len.ensures.same)) c.loop-len.invariant.1,
    )

-- an answer under other names of the framer and of what it gave
answer-again : (O : Framing → Option Message → Type 0) {f f' : Framing} {o o' : Option Message} → f' ≡ f → o' ≡ o → O f o → O f' o'
answer-again O {f} {f'} {o} {o'} framer given its = subst (λ (x : Framing). O x o') (sym framer) (subst (O f) (sym given) its)

-- what the call gave, before the framer is marked as one that goes on
given : (g : _) (c : After-self-2 g)
    → Searches (topic_of c.args.topics.now) g.S.Source.left g.S.Source.faults c.args.self.now c.line_len.new.self c.args.source.now c.loop-len.source
    → Ends (topic_of c.args.topics.now) g.S.Source c.args.self.now c.line_len.new.self c.match-line_len.self c.args.source.now c.loop-len.source
    c.match-line_len.given
given g c s =
    let number = topic_of c.args.topics.now in
    let now = c.line_len.new.self in
    let Ends : Framing → Option Message → Type 0 = λ f o. Ends number g.S.Source c.args.self.now now f c.args.source.now c.loop-len.source o in
    elim c.match-line_len.branch [
      | in-Some+in_ok-message-in-Some+in-Some-2 w ↦
          let line = w.in_ok-message-in-Some.ensures in
          answer-again Ends w.self-is w.given-is (ends-line g.S.Source s w.in-Some.len (passed-line number now w.pass.new.self c.loop-len.self
          w.in-Some.len w.in_ok-message-in-Some.field-0 c.line_len.ensures.same w.in-Some.ensures.found line.fits line.given line.passed)
          w.in-Some-2.is)
      | in-None+then-has_ended+in_ok-given-in-None w ↦
          let last = w.in_ok-given-in-None.ensures in
          answer-again Ends w.self-is w.given-is (ends-last g.S.Source s (passed-last number now w.last_line.new.self c.loop-len.self
          w.in_ok-given-in-None.given c.line_len.ensures.same (sym w.has_ended.ensures ∙ w.if-has_ended.true) w.in-None.ensures.none last.given
          last.none last.some) last.fits)
    ]

pub returns-clause-gives : goal.returns-clause-gives
returns-clause-gives g c =
    let at = goal.at.returns-clause-gives g c in
    let its = (given g at.After-self-2 (searches g at.After-line_len)).gives in
    let left = g.S.Source.left in
    let Gives : Framing → Type 0 =
    λ f. GivesFirst (topic_of c.args.topics.now) c.args.self.now f (left c.args.source.now) (left c.loop-len.source) c.match-line_len.given in
    subst Gives (ap (λ (f : Framing). record f { failed = false }) (sym c.self-2.view_is))
    (record { gives = its.gives; none = its.none; over = its.over })

pub returns-clause-found : goal.returns-clause-found
returns-clause-found g c =
    let at = goal.at.returns-clause-found g c in
    let left = g.S.Source.left in
    let before = left c.args.source.now in
    let after = left c.loop-len.source in
    Found-done c.args.self.now (framing c.self-2.inside) before after c.match-line_len.given false
    (subst (λ (f : Framing). Found c.args.self.now f before after (Ok c.match-line_len.given)) (sym c.self-2.view_is)
    (given g at.After-self-2 (searches g at.After-line_len)).found)

-- a framer that has not failed gave what it read
bound : (g : _) (c : After-line_len g) → c.args.self.now.weight ≤ c.args.self.now.most + 1
bound g c =
    let within = c.self.invariant.within (ap (λ (f : Framing). f.failed) c.self.view_is ∙ c.requires) in
    subst (λ (f : Framing). f.weight ≤ f.most + 1) c.self.view_is (omega (arith, c.self.invariant.weight, within))

-- the end is answered at most once before what is done last
once : (g : _) (c : After-line_len g)
    → EndsOnce c.args.self.now.ended c.line_len.new.self.ended (g.S.Source.ends c.args.source.now) (g.S.Source.ends c.loop-len.source)
once g c = subst (λ (f : Framing). EndsOnce c.args.self.now.ended f.ended (g.S.Source.ends c.args.source.now) (g.S.Source.ends c.loop-len.source))
    (sym c.line_len.ensures.same) c.loop-len.invariant.1

pub returns-in_err-message-in-Some : goal.returns-in_err-message-in-Some
returns-in_err-message-in-Some g c =
    let at = (goal.at.returns-in_err-message-in-Some g c).After-line_len in
    let s = searches g at in
    let line = c.in_err-message-in-Some.ensures in
    let ends = subst (λ (f : Framing). EndsAt f.held c.in-Some.len) (sym c.line_len.ensures.same) c.in-Some.ensures.found in
    let its = stops-passed c.from_residual.result c.from_residual.ensures.1
    (stops-at_line g.S.Source s (once g at) (bound g at) (take c.in-Some.len c.line_len.new.self.held) c.in_err-message-in-Some.field-0.0 line.err
    line.faults line.long (λ at count long. Found-long s.found s.quiet c.in-Some.len at count ends s.within long)
    (λ h none. omega (arith, ends.within, ap length (s.empty h none)))) in
    record { gives = no_answer _ its; next = no_answer _ its; found = its.found; fault = its.fault; source = its.source; goes_on = its.goes_on }

pub returns-in_err-given-in-None : goal.returns-in_err-given-in-None
returns-in_err-given-in-None g c =
    let at = (goal.at.returns-in_err-given-in-None g c).After-line_len in
    let s = searches g at in
    let line = c.in_err-given-in-None.ensures in
    let clear = clear g (goal.at.returns-in_err-given-in-None g c).In-None in
    let its = stops-passed c.from_residual-in_err-given-in-None.result c.from_residual-in_err-given-in-None.ensures.1
    (stops-at_line g.S.Source s (once g at) (bound g at) c.line_len.new.self.held c.in_err-given-in-None.field-0.0 line.err line.faults
    line.long (λ at count long. Found-long_last s.found s.quiet at count clear s.within (sym c.has_ended.ensures ∙ c.if-has_ended.true) long)
    (λ h none. cc (line.nothing (s.empty h none)))) in
    record { gives = no_answer _ its; next = no_answer _ its; found = its.found; fault = its.fault; source = its.source; goes_on = its.goes_on }

pub loop-len-preserved : goal.loop-len-preserved
loop-len-preserved g c =
    let trimmed = cut g (goal.at.loop-len-preserved g c).After-trim in
    let read = c.in_ok-read-in-None.ensures in (
      Searches-read (topic_of c.args.topics.now) g.S.Source.left g.S.Source.faults c.args.self.now c.trim.new.self c.read.new.self c.args.source.now
          c.loop-len.source c.read.new.source trimmed.0 trimmed.2 read.same (read.ahead (topic_of c.args.topics.now)) read.source.size read.end read.within
          (read.source.faults.kept (λ e. cc)) read.fetched trimmed.1 read.few read.held,
      ends-read _ _ _ _ _ _ (began-going _ _ (λ h. (trimmed.0.ended h).1) trimmed.2) trimmed.2 trimmed.3 read.source.once,
    )

pub loop-len-smaller : goal.loop-len-smaller
loop-len-smaller g c =
    let now = c.line_len.new.self in
    let trim = c.trim.ensures in
    let less : length c.trim.new.self.held ≤ length now.held = length-trimmed 33 now.held c.trim.new.self.held trim.trimmed in
    let less_work : work_left c.trim.new.self ≤ work_left now = subst (λ (f : Framing). work_left f ≤ work_left now) (sym trim.same) (omega (arith, less)) in
    omega (arith, c.in_ok-read-in-None.ensures.falls, less_work, ap work_left c.line_len.ensures.same)

pub count_long-requires-clause-clear : goal.count_long-requires-clause-clear
count_long-requires-clause-clear g c = λ _ _. (cut g (goal.at.count_long-requires-clause-clear g c).After-trim).1

pub returns-then-trim : goal.returns-then-trim
returns-then-trim g c =
    let at = goal.at.returns-then-trim g c in
    let trimmed = cut g at.After-trim in
    let s = trimmed.0 in
    let left = g.S.Source.left in
    let long = c.count_long.ensures in
    let its = stops-reading g.S.Source s trimmed.3 (bound g at.After-line_len) c.count_long.new.self c.count_long.result _ long.same trimmed.2
    long.held long.fault long.source (λ e. e) (λ e. e)
    (Found-later c.args.self.now c.trim.new.self c.count_long.new.self (left c.args.source.now) (left c.loop-len.source)
    (left c.count_long.new.source) s.found s.quiet trimmed.2 c.count_long.result long.found (λ h. (s.ended h).1) trimmed.1 s.within) in
    record { gives = tt; next = tt; found = its.found; fault = its.fault; source = its.source; goes_on = its.goes_on }

pub returns-in_err-read-in-None : goal.returns-in_err-read-in-None
returns-in_err-read-in-None g c =
    let at = goal.at.returns-in_err-read-in-None g c in
    let trimmed = cut g at.After-trim in
    let s = trimmed.0 in
    let left = g.S.Source.left in
    let read = c.in_err-read-in-None.ensures in
    let fault = c.in_err-read-in-None.field-0.0 in
    let new = c.read.new.self in
    let its = stops-passed c.from_residual-in_err-read-in-None.result c.from_residual-in_err-read-in-None.ensures.1
    (stops-reading g.S.Source s trimmed.3 (bound g at.After-line_len) new fault _ read.same trimmed.2 read.held
    (record {
      too_long = λ line len e. absurd (read.long line len (ap Err e));
      too_large = λ bytes e. let large = read.too_large bytes (ap Err e) in (large.0, large.1);
    })
    read.source (λ e. ap Err e) (λ e. cc)
    (Found-read_err c.args.self.now c.trim.new.self new (left c.args.source.now) (left c.loop-len.source) (left c.read.new.source) fault s.found
    s.quiet read.fetched trimmed.1 (began-going _ _ (λ h. (s.ended h).1) trimmed.2) trimmed.2 s.within read.few read.same
    (record { unread = read.unread; too_large = read.too_large; long = read.long }))) in
    record { gives = no_answer _ its; next = no_answer _ its; found = its.found; fault = its.fault; source = its.source; goes_on = its.goes_on }

pub returns-clause-source : goal.returns-clause-source
returns-clause-source g c =
    let at = (goal.at.returns-clause-source g c).After-line_len in
    let first = c.args.self.now in
    let self = c.match-line_len.self in
    let its = given g (goal.at.returns-clause-source g c).After-self-2 (searches g at) in
    let failed = Ok c.match-line_len.given ≡ Err ReadFault in
    let done : ReadsFrom g.S.Source failed first (record self { failed = false }) c.args.source.now c.loop-len.source =
    reads-no_more g.S.Source failed (searches g at) (once g at) its.ended its.read (λ e. cc) in
    subst (λ (f : Framing). ReadsFrom g.S.Source failed first f c.args.source.now c.loop-len.source)
    (ap (λ (f : Framing). record f { failed = false }) (sym c.self-2.view_is)) done
