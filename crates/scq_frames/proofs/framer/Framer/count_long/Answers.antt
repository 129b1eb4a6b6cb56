-- Each read adds to the count of the line's payload, until the line ends or a read fails.
use Rattle.std.proofs.Common.{◌≡◌, ℕ, ◌+◌, ◌^◌, ◌≤◌, Err, [], length, refl, sym, ◌∙◌, ap, subst, arith}
use Rattle.std.proofs.lemmas.Bool.{true≢false}
use Rattle.scq_frames.specs.declared.fault.FrameFault.TheVariants.{ReadFault, TooLong}
use Rattle.scq_frames.proofs.EndLemmas.{reads-on}
use Rattle.scq_frames.specs.Exports.{Found}
use Rattle.scq_frames.specs.Framing.{Framing}
use Rattle.scq_frames.proofs.TrimLemmas.{holding}
use Rattle.scq_frames.proofs.CountLemmas.{CountsLongLine, Counts-start, Counts-fault, Counts-ended, Counts-over, Counts-more, Found-dropped}
use Rattle.scq_frames.proofs.framer.Framer.count_long.Goals as goal

pub reads-init : goal.reads-init
reads-init g c =
    let len = c.payload_len-len.ensures in (
      Counts-start g.S.Source.left g.S.Source.faults c.args.self.now c.give_up_held.new.self c.args.source.now c.payload_len-len.result
          c.give_up_held.ensures.none c.requires.clear len.value
          (omega (arith, c.requires.long, len.value)) len.within c.requires.going c.requires.within
          (subst (λ (f : Framing). f.most ≤ 2 ^ 30) c.self.view_is c.self.invariant.most),
      refl,
    )

pub returns-in-Err-clause-found : goal.returns-in-Err-clause-found
returns-in-Err-clause-found g c =
    let read = c.in-Err.ensures in
    Counts-fault g.S.Source.left g.S.Source.faults c.args.self.now c.reads.self c.read.new.self c.args.source.now c.reads.source c.read.new.source
    c.reads.len c.reads.invariant.0 read.same read.fetched read.few
    c.in-Err.fault (record { unread = read.unread; too_large = read.too_large; long = read.long })

pub returns-in-Err-clause-source : goal.returns-in-Err-clause-source
returns-in-Err-clause-source g c =
    let s = c.reads.invariant.0 in
    reads-on g.S.Source (Err c.in-Err.fault ≡ Err ReadFault) (c.in-Err.fault ≡ ReadFault) c.args.self.now c.reads.self c.read.new.self c.args.source.now
    c.reads.source c.read.new.source s.began s.going
    (record { rose = λ _ ended. absurd (true≢false (sym ended ∙ s.going)); going = λ _. c.reads.invariant.1; over = λ _. c.reads.invariant.1 })
    s.size s.kept c.in-Err.ensures.source (λ e. ap Err e) (λ e. cc)

pub returns-in-Some-clause-found : goal.returns-in-Some-clause-found
returns-in-Some-clause-found g c =
    let read = c.in_default.ensures in
    let left = g.S.Source.left in
    let first = c.args.self.now in
    let found = Counts-ended left g.S.Source.faults first c.reads.self c.read.new.self c.args.source.now c.reads.source c.read.new.source c.reads.len
    c.reads.invariant.0 read.same read.fetched read.few
    c.in-Some.more c.in-Some.ensures.found read.within in
    subst (λ (f : Framing). Found first f (left c.args.source.now) (left c.read.new.source)
    (Err (TooLong (c.self.inside.line + 1) (c.reads.len + c.in-Some.more)))) (sym c.line_len.ensures.same)
    (subst (λ (n : ℕ). Found first c.read.new.self (left c.args.source.now) (left c.read.new.source) (Err (TooLong (n + 1) (c.reads.len + c.in-Some.more))))
    (sym (ap (λ (f : Framing). f.line) c.self.view_is)) found)

pub returns-then-has_ended-clause-found : goal.returns-then-has_ended-clause-found
returns-then-has_ended-clause-found g c =
    let read = c.in_default.ensures in
    let left = g.S.Source.left in
    let first = c.args.self.now in
    let before = left c.args.source.now in
    let after = left c.read.new.source in
    let empty = c.give_up_held-len.ensures.none ∙ ap (λ (f : Framing). holding f []) c.line_len.ensures.same in
    let ended = sym (ap (λ (f : Framing). f.ended) empty) ∙ sym c.has_ended.ensures ∙ c.if-has_ended.true in
    let count : c.give_up_held-len.result ≡ length c.read.new.self.held =
    c.give_up_held-len.ensures.count ∙ ap (λ (f : Framing). length f.held) c.line_len.ensures.same in
    let found = Counts-over left g.S.Source.faults first c.reads.self c.read.new.self c.args.source.now c.reads.source c.read.new.source c.reads.len
    c.reads.invariant.0 read.same read.fetched read.few
    c.in-None.ensures.none ended read.within in
    subst (λ (f : Framing). Found first f before after (Err (TooLong (c.self.inside.line + 1) (c.reads.len + c.give_up_held-len.result)))) (sym empty)
    (subst (λ (n : ℕ). Found first (holding c.read.new.self []) before after (Err (TooLong (c.self.inside.line + 1) (c.reads.len + n)))) (sym count)
    (subst (λ (n : ℕ). Found first (holding c.read.new.self []) before after (Err (TooLong (n + 1) (c.reads.len + length c.read.new.self.held))))
    (sym (ap (λ (f : Framing). f.line) c.self.view_is))
    (Found-dropped first c.read.new.self [] before after (TooLong (first.line + 1) (c.reads.len + length c.read.new.self.held)) found)))

pub reads-preserved : goal.reads-preserved
reads-preserved g c =
    let read = c.in_default.ensures in
    let left = g.S.Source.left in
    let faults = g.S.Source.faults in
    let first = c.args.self.now in
    let empty = c.give_up_held-len.ensures.none ∙ ap (λ (f : Framing). holding f []) c.line_len.ensures.same in
    let going = sym (ap (λ (f : Framing). f.ended) empty) ∙ sym c.has_ended.ensures ∙ c.if-has_ended.false in
    let count : c.give_up_held-len.result ≡ length c.read.new.self.held =
    c.give_up_held-len.ensures.count ∙ ap (λ (f : Framing). length f.held) c.line_len.ensures.same in (
      subst (λ (n : ℕ). CountsLongLine left faults first c.give_up_held-len.new.self c.args.source.now c.read.new.source (c.reads.len + n)) (sym count)
          (Counts-more left faults first c.reads.self c.read.new.self c.args.source.now c.reads.source c.read.new.source c.reads.len c.reads.invariant.0
          read.same read.fetched read.few
          c.give_up_held-len.new.self empty c.in-None.ensures.none going read.within (read.source.faults.kept (λ e. cc)) read.source.size),
      read.source.once.going going ∙ c.reads.invariant.1,
    )
