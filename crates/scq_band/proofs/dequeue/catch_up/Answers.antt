use Rattle.std.proofs.Common.{◌≡◌, true, ◌∙◌, refl, sym, inr, ap, subst}
use Rattle.scq_core.specs.declared.phase.Phase.{Phase}
use Rattle.scq_core.specs.declared.phase.Phase.TheVariants.{AtD7, AtD8, AtD9, AtD10}
use Rattle.scq_core.specs.declared.step.Step.TheVariants.{D7, D8, D9}
use Rattle.scq_band.specs.Exports.{known_me, ring_of_word, LiesIn, Carries, my_phase, loading, load_turn, Exchanges, IsAlone, goes_to}
use Rattle.scq_band.proofs.RingLemmas.{tail_fits, tail_low, head_low}
use Rattle.scq_band.proofs.Outcomes.{may_load, may_phase, load_kind, load_word, phase_word, alone_at, turned_as}
use Rattle.scq_band.proofs.Leaving.{lift_hit, lift_missed, saw_head_again, saw_tail_again, saw_tail_past}
use Rattle.scq_band.proofs.RunShown.{went_on, goes_then}
use Rattle.scq_band.proofs.dequeue.catch_up.Goals as goal
use Rattle.scq_band.proofs.dequeue.catch_up.Goals.{After-exchange, After-head, After-load-to, After-load-from}

stays : (g : _) (c : After-exchange g) → c.exchange.new.token.me.1 ≡ c.args.token.now.me.1
stays g c =
    (turned_as (ap my_phase c.tries.invariant.3) c.exchange.ensures.turned).slots
    ∙ c.tries.invariant.2

-- Tail was not lifted: it is to be loaded again, after Head
missed : (g : _) (c : After-head g)
    → (c.exchange.new.token.me.0.known ≡ goes_to (AtD8 c.args.ring.now.number c.args.ticket c.tries.from) c.tries.token.me.0.known)
    × IsAlone c.exchange.new.token.me.0.known
missed g c =
    let stands = alone_at _ _ _ c.requires.alone c.tries.invariant.3 in
    let next = lift_missed _ c.args.words.now.key.setup (known_me c.tries.token.me) (known_me c.exchange.new.token.me) _ c.exchange.result
    c.args.ring.now.number c.args.ticket c.tries.from c.tries.to (ap my_phase c.tries.invariant.3) stands c.if-exchange-from.false
    c.exchange.ensures.turned in
    (next, alone_at _ _ _ stands next)

-- and Head was loaded
again : (g : _) (c : After-load-to g)
    → (c.exchange.new.token.me.0.known ≡ goes_to (AtD8 c.args.ring.now.number c.args.ticket c.tries.from) c.tries.token.me.0.known)
    × IsAlone c.exchange.new.token.me.0.known
    → (c.load-to.new.token.me.0.known ≡ goes_to (AtD9 c.args.ring.now.number c.args.ticket c.tries.from c.load-to.result) c.exchange.new.token.me.0.known)
    × IsAlone c.load-to.new.token.me.0.known
again g c next =
    let seen = saw_head_again _ c.args.words.now.key.setup (known_me c.exchange.new.token.me) (known_me c.load-to.new.token.me) _ c.load-to.result
    c.args.ring.now.number c.args.ticket c.tries.from (ap (loading (ring_of_word c.args.words.now.key.setup c.head.result)) (ap my_phase next.0)) next.1
    c.load-to.ensures.turned in
    (seen, alone_at _ _ _ next.1 seen)

-- and Tail: the turn of that load, and what it left of the slots
third : (g : _) (c : After-load-from g)
    → c.load-to.new.token.me.0.known ≡ goes_to (AtD9 c.args.ring.now.number c.args.ticket c.tries.from c.load-to.result) c.exchange.new.token.me.0.known
    → load_turn c.args.words.now.key.setup c.args.ring.now.tail c.load-to.new.token.me.0.known
    ≡ AtD9 c.args.ring.now.number c.args.ticket c.tries.from c.load-to.result
third g c seen = ap (loading (ring_of_word c.args.words.now.key.setup c.args.ring.now.tail)) (ap my_phase seen)

stay : (g : _) (c : After-load-from g)
    → c.exchange.new.token.me.0.known ≡ goes_to (AtD8 c.args.ring.now.number c.args.ticket c.tries.from) c.tries.token.me.0.known
    → c.load-to.new.token.me.0.known ≡ goes_to (AtD9 c.args.ring.now.number c.args.ticket c.tries.from c.load-to.result) c.exchange.new.token.me.0.known
    → c.load-from.new.token.me.1 ≡ c.exchange.new.token.me.1
stay g c next seen =
    let k = c.args.words.now.key.setup in
    let r = c.args.ring.now.number in
    let h = c.args.ticket in
    (turned_as (third g c seen) c.load-from.ensures.turned).slots
    ∙ (turned_as (ap (loading (ring_of_word k c.head.result)) (ap my_phase next)) c.load-to.ensures.turned).slots

pub exchange-requires-clause-low : goal.exchange-requires-clause-low
exchange-requires-clause-low g c κs within = tail_low c.requires.ring c.requires.ring.tail c.requires.own.1

pub exchange-requires-clause-may : goal.exchange-requires-clause-may
exchange-requires-clause-may g c κs within =
    let k = c.args.words.now.key.setup in
    let v = c.tries.token.me.0.known in
    let turn = AtD7 c.args.ring.now.number c.args.ticket c.tries.from c.tries.to in
    may_phase k v turn D7 (alone_at c.args.token.now.me.0.known v turn c.requires.alone c.tries.invariant.3) (ap my_phase c.tries.invariant.3) refl

pub exchange-requires-clause-kind : goal.exchange-requires-clause-kind
exchange-requires-clause-kind g c κs within =
    subst (λ (p : Phase). Exchanges c.args.words.now.key.setup p c.tries.from c.tries.to) (sym (ap my_phase c.tries.invariant.3)) (refl, refl)

pub exchange-requires-clause-word : goal.exchange-requires-clause-word
exchange-requires-clause-word g c κs within =
    phase_word c.args.words.now.key.setup c.tries.token.me.0.known c.args.ring.now.tail
    (AtD7 c.args.ring.now.number c.args.ticket c.tries.from c.tries.to) (ap my_phase c.tries.invariant.3) c.requires.ring.tail

pub exchange-requires-clause-carries : goal.exchange-requires-clause-carries
exchange-requires-clause-carries g c κs within =
    let Lie = LiesIn g.B.Buffer.contents g.B.Buffer.IsSameBuffer c.args.words.now.key.given.value.items in
    subst (λ (p : Phase). Carries Lie p c.tries.token.me.1) (sym (ap my_phase c.tries.invariant.3)) tt

pub head-requires : goal.head-requires
head-requires g c = tail_fits c.args.words.now.key.setup c.args.ring.now c.requires.ring

pub load-to-requires-clause-low : goal.load-to-requires-clause-low
load-to-requires-clause-low g c κs within = head_low c.requires.ring (c.head.ensures _ c.requires.ring) c.requires.own.1

pub load-to-requires-clause-may : goal.load-to-requires-clause-may
load-to-requires-clause-may g c κs within =
    let next = missed g (goal.at.load-to-requires-clause-may g c).After-head in
    may_load c.args.words.now.key.setup _ c.head.result _ D8 next.1 (ap my_phase next.0) refl refl

pub load-to-requires-clause-kind : goal.load-to-requires-clause-kind
load-to-requires-clause-kind g c κs within =
    let next = missed g (goal.at.load-to-requires-clause-kind g c).After-head in
    load_kind c.args.words.now.key.setup c.exchange.new.token.me.0.known c.head.result _ (ap my_phase next.0) refl tt

pub load-to-requires-clause-word : goal.load-to-requires-clause-word
load-to-requires-clause-word g c κs within =
    let next = missed g (goal.at.load-to-requires-clause-word g c).After-head in
    load_word c.args.words.now.key.setup c.exchange.new.token.me.0.known c.head.result _ (ap my_phase next.0) refl (c.head.ensures _ c.requires.ring)

pub load-from-requires-clause-low : goal.load-from-requires-clause-low
load-from-requires-clause-low g c κs within = tail_low c.requires.ring c.requires.ring.tail c.requires.own.1

pub load-from-requires-clause-may : goal.load-from-requires-clause-may
load-from-requires-clause-may g c κs within =
    let at = goal.at.load-from-requires-clause-may g c in
    let seen = again g at.After-load-to (missed g at.After-head) in
    may_load c.args.words.now.key.setup _ c.args.ring.now.tail _ D9 seen.1 (ap my_phase seen.0) refl refl

pub load-from-requires-clause-kind : goal.load-from-requires-clause-kind
load-from-requires-clause-kind g c κs within =
    let at = goal.at.load-from-requires-clause-kind g c in
    let seen = again g at.After-load-to (missed g at.After-head) in
    load_kind c.args.words.now.key.setup c.load-to.new.token.me.0.known c.args.ring.now.tail _ (ap my_phase seen.0) refl tt

pub load-from-requires-clause-word : goal.load-from-requires-clause-word
load-from-requires-clause-word g c κs within =
    let at = goal.at.load-from-requires-clause-word g c in
    let seen = again g at.After-load-to (missed g at.After-head) in
    load_word c.args.words.now.key.setup c.load-to.new.token.me.0.known c.args.ring.now.tail _ (ap my_phase seen.0) refl c.requires.ring.tail

pub returns-then-exchange-from-clause-went : goal.returns-then-exchange-from-clause-went
returns-then-exchange-from-clause-went g c =
    goes_then c.tries.invariant.4 c.exchange.ensures.went

pub returns-then-exchange-from-clause-caught_up : goal.returns-then-exchange-from-clause-caught_up
returns-then-exchange-from-clause-caught_up g c =
    let r = c.args.ring.now.number in
    let h = c.args.ticket in
    lift_hit _ c.args.words.now.key.setup (known_me c.tries.token.me) (known_me c.exchange.new.token.me) _ c.exchange.result r h c.tries.from c.tries.to
    (ap my_phase c.tries.invariant.3) (alone_at _ _ _ c.requires.alone c.tries.invariant.3) c.if-exchange-from.true
    c.exchange.ensures.turned
    ∙ ap (goes_to (AtD10 r h true)) c.tries.invariant.3

pub returns-then-exchange-from-clause-slots : goal.returns-then-exchange-from-clause-slots
returns-then-exchange-from-clause-slots g c = stays g (goal.at.returns-then-exchange-from-clause-slots g c).After-exchange

pub returns-then-from-to-clause-went : goal.returns-then-from-to-clause-went
returns-then-from-to-clause-went g c =
    goes_then c.tries.invariant.4 (went_on c.exchange.ensures.went (went_on c.load-to.ensures.went c.load-from.ensures.went))

pub returns-then-from-to-clause-caught_up : goal.returns-then-from-to-clause-caught_up
returns-then-from-to-clause-caught_up g c =
    let at = goal.at.returns-then-from-to-clause-caught_up g c in
    let r = c.args.ring.now.number in
    let h = c.args.ticket in
    let next = missed g at.After-head in
    let seen = again g at.After-load-to next in
    saw_tail_past _ c.args.words.now.key.setup (known_me c.load-to.new.token.me) (known_me c.load-from.new.token.me) _ c.load-from.result r h c.tries.from
    c.load-to.result (third g at.After-load-from seen.0) seen.1 c.if-from-to.true c.load-from.ensures.turned
    ∙ ap (goes_to (AtD10 r h true))
    (seen.0 ∙ ap (goes_to (AtD9 r h c.tries.from c.load-to.result)) (next.0 ∙ ap (goes_to (AtD8 r h c.tries.from)) c.tries.invariant.3))

pub returns-then-from-to-clause-slots : goal.returns-then-from-to-clause-slots
returns-then-from-to-clause-slots g c =
    let at = goal.at.returns-then-from-to-clause-slots g c in
    let next = missed g at.After-head in
    stay g at.After-load-from next.0 (again g at.After-load-to next).0 ∙ stays g at.After-exchange

pub tries-preserved : goal.tries-preserved
tries-preserved g c =
    let at = goal.at.tries-preserved g c in
    let r = c.args.ring.now.number in
    let h = c.args.ticket in
    let next = missed g at.After-head in
    let seen = again g at.After-load-to next in
    let low = saw_tail_again _ c.args.words.now.key.setup (known_me c.load-to.new.token.me) (known_me c.load-from.new.token.me) _ c.load-from.result r h
    c.tries.from c.load-to.result (third g at.After-load-from seen.0) seen.1 c.if-from-to.false c.load-from.ensures.turned in (
      c.load-from.ensures.own.0 ∙ c.load-to.ensures.own.0 ∙ c.exchange.ensures.own.0 ∙ c.tries.invariant.0,
      c.load-from.ensures.own.1 ∙ c.load-to.ensures.own.1 ∙ c.exchange.ensures.own.1 ∙ c.tries.invariant.1,
      stay g at.After-load-from next.0 seen.0 ∙ stays g at.After-exchange,
      low ∙ ap (goes_to (AtD7 r h c.load-from.result c.load-to.result))
          (seen.0 ∙ ap (goes_to (AtD9 r h c.tries.from c.load-to.result)) (next.0 ∙ ap (goes_to (AtD8 r h c.tries.from)) c.tries.invariant.3)),
      inr (goes_then c.tries.invariant.4 (went_on c.exchange.ensures.went
          (went_on c.load-to.ensures.went c.load-from.ensures.went))),
    )
