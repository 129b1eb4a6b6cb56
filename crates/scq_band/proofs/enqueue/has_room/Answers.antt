use Rattle.std.proofs.Common.{◌≡◌, ℕ, refl, sym, ap, ◌∙◌, subst}
use Rattle.scq_word.specs.Exports.{IsIndexOrMark}
use Rattle.scq_core.specs.declared.phase.Phase.TheVariants.{AtE3}
use Rattle.scq_core.specs.declared.step.Step.TheVariants.{E3}
use Rattle.scq_band.specs.Exports.{my_phase, goes_to, put_index, content_of}
use Rattle.scq_band.proofs.RingLemmas.{tail_fits, head_low}
use Rattle.scq_band.proofs.Outcomes.{may_load, load_kind, load_word}
use Rattle.scq_band.proofs.PutOutcomes.{takes_one, is_unsafe}
use Rattle.scq_band.proofs.Looking.{unsafe_at}
use Rattle.scq_band.proofs.enqueue.has_room.Goals as goal
use Rattle.scq_band.proofs.enqueue.has_room.Goals.{After-head}

-- the entry is vacant and unsafe: the put is at E3
unsafe : (g : _) (c : After-head g) → c.args.token.now.me.0.known
    ≡ goes_to (AtE3 c.args.ring.now.number (put_index (my_phase c.args.token.now.me.0.known)) (content_of (my_phase c.args.token.now.me.0.known)) c.args.ticket
    c.args.found) c.args.token.now.me.0.known
unsafe g c =
    let k = c.args.words.now.key.setup in
    let x = c.args.found in
    let does = takes_one k _ c.args.ticket x c.cycle_of.result c.unpack-entry.result c.requires.ring.order c.unpack-entry.ensures.entry c.cycle_of.ensures
    c.if-entry-cycle_of.false (sym c.is_some.ensures ∙ c.if-is_some.false) in
    let unsafe = is_unsafe k _ x c.unpack-entry.result c.requires.ring.order c.unpack-entry.ensures.entry c.if-entry.false in
    unsafe_at k c.args.token.now.me.0.known c.args.ring.now.number c.args.ticket x c.requires.alone c.requires.looked does unsafe

pub unpack-entry-requires : goal.unpack-entry-requires
unpack-entry-requires g c = subst (λ (o : ℕ). IsIndexOrMark o c.args.found) (sym c.requires.ring.order) c.requires.ready

pub head-requires : goal.head-requires
head-requires g c = tail_fits c.args.words.now.key.setup c.args.ring.now c.requires.ring

pub load-requires-clause-low : goal.load-requires-clause-low
load-requires-clause-low g c κs within = head_low c.requires.ring (c.head.ensures _ c.requires.ring) c.requires.own.1

pub load-requires-clause-may : goal.load-requires-clause-may
load-requires-clause-may g c κs within =
    let now = unsafe g (goal.at.load-requires-clause-may g c).After-head in
    may_load c.args.words.now.key.setup _ c.head.result _ E3 c.requires.alone (ap my_phase now) refl refl

pub load-requires-clause-kind : goal.load-requires-clause-kind
load-requires-clause-kind g c κs within =
    let now = unsafe g (goal.at.load-requires-clause-kind g c).After-head in
    load_kind c.args.words.now.key.setup c.args.token.now.me.0.known c.head.result _ (ap my_phase now) refl tt

pub load-requires-clause-word : goal.load-requires-clause-word
load-requires-clause-word g c κs within =
    let k = c.args.words.now.key.setup in
    let now = unsafe g (goal.at.load-requires-clause-word g c).After-head in
    load_word k c.args.token.now.me.0.known c.head.result _ (ap my_phase now) refl (c.head.ensures k c.requires.ring)
