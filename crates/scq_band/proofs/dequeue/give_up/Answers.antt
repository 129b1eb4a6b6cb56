use Rattle.std.proofs.Common.{◌≡◌, ◌<◌, ◌≤◌, ◌+◌, refl, sym, ◌∙◌, ap, subst, arith, leb-true, leb-false, true, false}
use Rattle.scq_core.specs.declared.phase.Phase.TheVariants.{AtD2, AtD6, AtD7, AtD10}
use Rattle.scq_core.specs.declared.step.Step.TheVariants.{D6, D10}
use Rattle.std.specs.Prelude.{IsTrue, IsFalse, nat_le}
use Rattle.scq_core.proofs.Entries.{zero_level_is}
use Rattle.scq_band.specs.Exports.{known_me, ring_of_word, changed, empties, LiesIn, my, my_phase, loading, load_turn, IsCountDown, IsAlone, at_phase}
use Rattle.scq_band.specs.Exports.{seated, goes_to, nothing_at}
use Rattle.scq_band.proofs.RingLemmas.{tail_fits, tail_low, threshold_low}
use Rattle.scq_band.proofs.Outcomes.{may_load, may_phase, load_kind, load_word, phase_word, alone_at, alone_seated, turned_as}
use Rattle.scq_band.proofs.Leaving.{saw_tail_low, saw_tail_high, left, ran_out, goes_round}
use Rattle.scq_band.proofs.RunShown.{went_on}
use Rattle.scq_band.proofs.dequeue.give_up.Goals as goal
use Rattle.scq_band.proofs.dequeue.give_up.Goals.{After-load-tail, After-count_down-2}

-- the get is about to load Tail
leaves : (g : _) (c : After-load-tail g) → load_turn c.args.words.now.key.setup c.args.ring.now.tail c.args.token.now.me.0.known
    ≡ AtD6 c.args.ring.now.number c.args.ticket
leaves g c = ap (loading (ring_of_word c.args.words.now.key.setup c.args.ring.now.tail)) c.requires.given_up

stays : (g : _) (c : After-load-tail g) → c.load-tail.new.token.me.1 ≡ c.args.token.now.me.1
stays g c =
    (turned_as (leaves g c) c.load-tail.ensures.turned).slots

-- Tail was at most one past the ticket
saw-low : (g : _) (c : After-load-tail g) → c.load-tail.result ≤ c.args.ticket + 1 → c.load-tail.new.token.me.0.known
    ≡ seated (at_phase (AtD7 c.args.ring.now.number c.args.ticket c.load-tail.result (c.args.ticket + 1)) (my c.args.token.now.me.0.known))
    (changed empties c.args.ring.now.number c.args.token.now.me.0.known.numbers) c.args.token.now.me.0.known
saw-low g c low =
    let k = c.args.words.now.key.setup in
    saw_tail_low (LiesIn g.B.Buffer.contents g.B.Buffer.IsSameBuffer c.args.words.now.key.given.value.items) k (known_me c.args.token.now.me)
    (known_me c.load-tail.new.token.me) _ c.load-tail.result c.args.ring.now.number c.args.ticket (leaves g c) c.requires.alone low c.load-tail.ensures.turned

alone-low : (g : _) (c : After-load-tail g) → c.load-tail.result ≤ c.args.ticket + 1 → IsAlone c.load-tail.new.token.me.0.known
alone-low g c low =
    let v = c.args.token.now.me.0.known in
    let r = c.args.ring.now.number in
    let h = c.args.ticket in
    alone_seated v c.load-tail.new.token.me.0.known (at_phase (AtD7 r h c.load-tail.result (h + 1)) (my v)) (changed empties r v.numbers)
    c.requires.alone.out (saw-low g c low)

-- Tail was more than one past the ticket
saw-high : (g : _) (c : After-load-tail g) → c.args.ticket + 1 < c.load-tail.result
    → c.load-tail.new.token.me.0.known ≡ goes_to (AtD10 c.args.ring.now.number c.args.ticket false) c.args.token.now.me.0.known
saw-high g c above =
    let k = c.args.words.now.key.setup in
    saw_tail_high (LiesIn g.B.Buffer.contents g.B.Buffer.IsSameBuffer c.args.words.now.key.given.value.items) k (known_me c.args.token.now.me)
    (known_me c.load-tail.new.token.me) _ c.load-tail.result c.args.ring.now.number c.args.ticket (leaves g c) c.requires.alone above
    c.load-tail.ensures.turned

-- and then the failed attempt ends the call, or not
counted : (g : _) (c : After-count_down-2 g)
    → c.load-tail.new.token.me.0.known ≡ goes_to (AtD10 c.args.ring.now.number c.args.ticket false) c.args.token.now.me.0.known
    → (IsTrue (nat_le c.count_down-2.result 4294967296) → c.count_down-2.new.token.me.0.known ≡ nothing_at c.args.ring.now.number c.args.token.now.me.0.known)
    × (IsFalse (nat_le c.count_down-2.result 4294967296)
    → c.count_down-2.new.token.me.0.known ≡ goes_to (AtD2 c.args.ring.now.number (c.args.ticket + 1)) c.args.token.now.me.0.known)
counted g c seen =
    let k = c.args.words.now.key.setup in
    let Lie = LiesIn g.B.Buffer.contents g.B.Buffer.IsSameBuffer c.args.words.now.key.given.value.items in
    let v = c.args.token.now.me.0.known in
    let r = c.args.ring.now.number in
    let h = c.args.ticket in
    let me = known_me c.load-tail.new.token.me in
    let later = known_me c.count_down-2.new.token.me in
    let alone = alone_at _ _ _ c.requires.alone seen in
    let level = zero_level_is in (
      λ low.
          let le = leb-true _ _ low in
          ran_out Lie k me later _ c.count_down-2.result r h v (ap my_phase seen) alone seen (omega (arith, le, level)) c.count_down-2.ensures.turned,
      λ high.
          let gt = leb-false _ _ high in
          goes_round Lie k me later _ c.count_down-2.result r h v (ap my_phase seen) alone seen (omega (arith, gt, level)) c.count_down-2.ensures.turned,
    )

pub load-tail-requires-clause-low : goal.load-tail-requires-clause-low
load-tail-requires-clause-low g c κs within = tail_low c.requires.ring c.requires.ring.tail c.requires.own.1

pub load-tail-requires-clause-may : goal.load-tail-requires-clause-may
load-tail-requires-clause-may g c κs within =
    may_load c.args.words.now.key.setup _ c.args.ring.now.tail _ D6 c.requires.alone c.requires.given_up refl refl

pub load-tail-requires-clause-kind : goal.load-tail-requires-clause-kind
load-tail-requires-clause-kind g c κs within =
    load_kind c.args.words.now.key.setup c.args.token.now.me.0.known c.args.ring.now.tail _ c.requires.given_up refl tt

pub load-tail-requires-clause-word : goal.load-tail-requires-clause-word
load-tail-requires-clause-word g c κs within =
    load_word c.args.words.now.key.setup c.args.token.now.me.0.known c.args.ring.now.tail _ c.requires.given_up refl c.requires.ring.tail

pub catch_up-requires-clause-alone : goal.catch_up-requires-clause-alone
catch_up-requires-clause-alone g c κs within = alone-low g (goal.at.catch_up-requires-clause-alone g c).After-load-tail c.if-tail-ticket.true

pub catch_up-requires-clause-behind : goal.catch_up-requires-clause-behind
catch_up-requires-clause-behind g c κs within =
    ap my_phase (saw-low g (goal.at.catch_up-requires-clause-behind g c).After-load-tail c.if-tail-ticket.true)

pub count_down-requires-clause-low : goal.count_down-requires-clause-low
count_down-requires-clause-low g c κs within = threshold_low c.requires.ring (c.threshold.ensures _ c.requires.ring) c.requires.own.1

pub count_down-requires-clause-may : goal.count_down-requires-clause-may
count_down-requires-clause-may g c κs within =
    let beside = alone-low g (goal.at.count_down-requires-clause-may g c).After-load-tail c.if-tail-ticket.true in
    let up = c.catch_up.ensures.caught_up in
    may_phase c.args.words.now.key.setup _ _ D10 (alone_at _ _ _ beside up) (ap my_phase up) refl

pub count_down-requires-clause-kind : goal.count_down-requires-clause-kind
count_down-requires-clause-kind g c κs within = subst IsCountDown (sym (ap my_phase c.catch_up.ensures.caught_up)) tt

pub count_down-requires-clause-word : goal.count_down-requires-clause-word
count_down-requires-clause-word g c κs within =
    let k = c.args.words.now.key.setup in
    phase_word k c.catch_up.new.token.me.0.known c.threshold.result _ (ap my_phase c.catch_up.ensures.caught_up)
    (c.threshold.ensures k c.requires.ring)

pub count_down-requires-2-clause-low : goal.count_down-requires-2-clause-low
count_down-requires-2-clause-low g c κs within = threshold_low c.requires.ring (c.threshold-2.ensures _ c.requires.ring) c.requires.own.1

pub count_down-requires-2-clause-may : goal.count_down-requires-2-clause-may
count_down-requires-2-clause-may g c κs within =
    let seen = saw-high g (goal.at.count_down-requires-2-clause-may g c).After-load-tail c.if-tail-ticket.false in
    may_phase c.args.words.now.key.setup _ _ D10 (alone_at _ _ _ c.requires.alone seen) (ap my_phase seen) refl

pub count_down-requires-2-clause-kind : goal.count_down-requires-2-clause-kind
count_down-requires-2-clause-kind g c κs within =
    let seen = saw-high g (goal.at.count_down-requires-2-clause-kind g c).After-load-tail c.if-tail-ticket.false in
    subst IsCountDown (sym (ap my_phase seen)) tt

pub count_down-requires-2-clause-word : goal.count_down-requires-2-clause-word
count_down-requires-2-clause-word g c κs within =
    let k = c.args.words.now.key.setup in
    let seen = saw-high g (goal.at.count_down-requires-2-clause-word g c).After-load-tail c.if-tail-ticket.false in
    phase_word k c.load-tail.new.token.me.0.known c.threshold-2.result _ (ap my_phase seen) (c.threshold-2.ensures k c.requires.ring)

pub returns-then-tail-ticket-clause-over : goal.returns-then-tail-ticket-clause-over
returns-then-tail-ticket-clause-over g c _ =
    let turn = AtD10 c.args.ring.now.number c.args.ticket true in
    let at = (goal.at.returns-then-tail-ticket-clause-over g c).After-load-tail in
    let up = c.catch_up.ensures.caught_up in
    left _ c.args.words.now.key.setup (known_me c.catch_up.new.token.me) (known_me c.count_down.new.token.me) _ c.count_down.result c.args.ring.now.number
    c.args.ticket c.args.token.now.me.0.known (ap my_phase up)
    (alone_at _ _ _ (alone-low g at c.if-tail-ticket.true) up) (up ∙ ap (goes_to turn) (saw-low g at c.if-tail-ticket.true))
    c.count_down.ensures.turned

pub returns-then-tail-ticket-clause-slots : goal.returns-then-tail-ticket-clause-slots
returns-then-tail-ticket-clause-slots g c =
    (turned_as (ap my_phase c.catch_up.ensures.caught_up) c.count_down.ensures.turned).slots
    ∙ c.catch_up.ensures.slots
    ∙ stays g (goal.at.returns-then-tail-ticket-clause-slots g c).After-load-tail

pub returns-clause-slots : goal.returns-clause-slots
returns-clause-slots g c =
    let at = (goal.at.returns-clause-slots g c).After-load-tail in
    (turned_as (ap my_phase (saw-high g at c.if-tail-ticket.false)) c.count_down-2.ensures.turned).slots
    ∙ stays g at

pub returns-clause-over : goal.returns-clause-over
returns-clause-over g c =
    let at = goal.at.returns-clause-over g c in
    (counted g at.After-count_down-2 (saw-high g at.After-load-tail c.if-tail-ticket.false)).0

pub returns-clause-on : goal.returns-clause-on
returns-clause-on g c =
    let at = goal.at.returns-clause-on g c in
    (counted g at.After-count_down-2 (saw-high g at.After-load-tail c.if-tail-ticket.false)).1

pub returns-then-tail-ticket-clause-went : goal.returns-then-tail-ticket-clause-went
returns-then-tail-ticket-clause-went g c =
    went_on c.load-tail.ensures.went (went_on c.catch_up.ensures.went c.count_down.ensures.went)

pub returns-clause-went : goal.returns-clause-went
returns-clause-went g c =
    went_on c.load-tail.ensures.went c.count_down-2.ensures.went

pub threshold-requires : goal.threshold-requires
threshold-requires g c = tail_fits c.args.words.now.key.setup c.args.ring.now c.requires.ring

pub threshold-requires-2 : goal.threshold-requires-2
threshold-requires-2 g c = tail_fits c.args.words.now.key.setup c.args.ring.now c.requires.ring
