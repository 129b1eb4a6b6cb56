use Rattle.std.proofs.Common.{◌∙◌, ◌≡◌, ℕ, List, refl, sym, inr, ap, subst, arith}
use Rattle.atomic_table.specs.Table.{rest}
use Rattle.scq_word.specs.Exports.{rank_in}
use Rattle.scq_core.specs.declared.phase.Phase.{Phase}
use Rattle.scq_core.specs.declared.phase.Phase.TheVariants.{AtE2, AtE4}
use Rattle.scq_core.specs.declared.step.Step.TheVariants.{E4}
use Rattle.scq_core.specs.Exports.{ring_slots}
use Rattle.scq_band.specs.Exports.{known_me, LiesIn, Fronts, Carries, my_phase, Exchanges, IsAlone, goes_to, content_of, least_of}
use Rattle.scq_band.specs.Slots.{SlotStanding}
use Rattle.scq_band.proofs.RingLemmas.{tail_fits, entry_low}
use Rattle.scq_band.proofs.Outcomes.{may_phase, phase_word, alone_at}
use Rattle.scq_band.proofs.Drawing.{looks_as}
use Rattle.scq_band.proofs.Placing.{room_then, no_room_then, hit, hit_slots, missed_slots, missed_rises, saw_missed, rank_fits}
use Rattle.scq_band.proofs.RunShown.{went_on, goes_then}
use Rattle.scq_band.proofs.enqueue.try_place.Goals as goal
use Rattle.scq_band.proofs.enqueue.try_place.Goals.{In-Some}

-- there is room, and the put is about to exchange the entry
room : (g : _) (c : In-Some g) → c.load_vacant.new.token.me.0.known
    ≡ goes_to (AtE4 c.args.ring.now.number c.args.index (content_of (my_phase c.args.token.now.me.0.known)) c.args.ticket c.in-Some.found)
    c.args.token.now.me.0.known
room g c =
    let v = c.args.token.now.me.0.known in
    room_then v c.tries.token.me.0.known c.load_vacant.new.token.me.0.known c.args.ring.now.number c.args.index (content_of (my_phase v)) c.args.ticket
    (least_of (my_phase c.tries.token.me.0.known)) c.in-Some.found c.tries.invariant.3 c.in-Some.ensures.room

alone : (g : _) (c : In-Some g) → IsAlone c.load_vacant.new.token.me.0.known
alone g c =
    alone_at _ _ _ c.requires.alone (room g c)

pub load_vacant-requires-clause-new : goal.load_vacant-requires-clause-new
load_vacant-requires-clause-new g c κs within =
    let k = c.args.words.now.key.setup in
    record { index = c.args.index; small = c.requires.index.1; is = c.filled-new.ensures k c.requires.ring }

pub entry-word-requires : goal.entry-word-requires
entry-word-requires g c = tail_fits c.args.words.now.key.setup c.args.ring.now c.requires.ring

pub exchange-requires-clause-low : goal.exchange-requires-clause-low
exchange-requires-clause-low g c κs within = entry_low c.args.ticket c.requires.ring (c.entry-word.ensures _ c.requires.ring) c.requires.own.1

pub load_vacant-requires-clause-alone : goal.load_vacant-requires-clause-alone
load_vacant-requires-clause-alone g c κs within =
    alone_at _ _ _ c.requires.alone c.tries.invariant.3

pub load_vacant-requires-clause-looks : goal.load_vacant-requires-clause-looks
load_vacant-requires-clause-looks g c κs within =
    let w = c.tries.token.me.0.known in
    looks_as w c.args.ring.now.number c.args.index (content_of (my_phase c.args.token.now.me.0.known)) c.args.ticket (least_of (my_phase w))
    (ap my_phase c.tries.invariant.3)

pub exchange-requires-clause-may : goal.exchange-requires-clause-may
exchange-requires-clause-may g c κs within =
    let at = (goal.at.exchange-requires-clause-may g c).In-Some in
    may_phase c.args.words.now.key.setup _ _ E4 (alone g at) (ap my_phase (room g at)) refl

pub exchange-requires-clause-kind : goal.exchange-requires-clause-kind
exchange-requires-clause-kind g c κs within =
    let k = c.args.words.now.key.setup in
    subst (λ (p : Phase). Exchanges k p c.in-Some.found c.filled-new.result)
    (sym (ap my_phase (room g (goal.at.exchange-requires-clause-kind g c).In-Some))) (refl, c.filled-new.ensures k c.requires.ring)

pub exchange-requires-clause-word : goal.exchange-requires-clause-word
exchange-requires-clause-word g c κs within =
    let k = c.args.words.now.key.setup in
    phase_word k c.load_vacant.new.token.me.0.known c.entry-word.result _
    (ap my_phase (room g (goal.at.exchange-requires-clause-word g c).In-Some)) (c.entry-word.ensures k c.requires.ring)

pub exchange-requires-clause-carries : goal.exchange-requires-clause-carries
exchange-requires-clause-carries g c κs within =
    let Lie = LiesIn g.B.Buffer.contents g.B.Buffer.IsSameBuffer c.args.words.now.key.given.value.items in
    subst (λ (p : Phase). Carries Lie p c.load_vacant.new.token.me.1)
    (sym (ap my_phase (room g (goal.at.exchange-requires-clause-carries g c).In-Some)))
    (subst (λ (ss : List (ℕ × SlotStanding g.row.B.Denot)). Fronts Lie c.args.index (content_of (my_phase c.args.token.now.me.0.known)) ss)
    (sym (c.load_vacant.ensures.slots ∙ c.tries.invariant.2)) c.requires.front)

pub tries-smaller : goal.tries-smaller
tries-smaller g c =
    let k = c.args.words.now.key.setup in
    let e = c.in-Some.found in
    let x = c.exchange.result in
    let w = content_of (my_phase c.args.token.now.me.0.known) in
    let r = c.args.ring.now.number in
    let at = (goal.at.tries-smaller g c).In-Some in
    let phase = ap my_phase (room g at) in
    let up = missed_rises _ k (known_me c.load_vacant.new.token.me) (known_me c.exchange.new.token.me) _ x r c.args.index w c.args.ticket e phase
    c.if-exchange-found.false c.exchange.ensures.turned in
    let next = saw_missed _ k (known_me c.load_vacant.new.token.me) (known_me c.exchange.new.token.me) _ x r c.args.index w c.args.ticket e phase
    (alone g at) c.if-exchange-found.false c.exchange.ensures.turned in
    let least : least_of (my_phase c.exchange.new.token.me.0.known) ≡ rank_in (ring_slots k) x = ap (λ u. least_of (my_phase u)) next in
    let fits = rank_fits k x c.exchange.type_inv in
    let low = c.in-Some.ensures.least in
    omega arith

pub returns-in_default-clause-went : goal.returns-in_default-clause-went
returns-in_default-clause-went g c =
    goes_then c.tries.invariant.4 c.load_vacant.ensures.went

pub returns-then-exchange-found-clause-went : goal.returns-then-exchange-found-clause-went
returns-then-exchange-found-clause-went g c =
    goes_then c.tries.invariant.4 (went_on c.load_vacant.ensures.went c.exchange.ensures.went)

pub returns-in_default-clause-passed : goal.returns-in_default-clause-passed
returns-in_default-clause-passed g c _ =
    let v = c.args.token.now.me.0.known in
    let w = c.tries.token.me.0.known in
    no_room_then v w c.load_vacant.new.token.me.0.known c.args.ring.now.number c.args.index (content_of (my_phase v)) c.args.ticket (least_of (my_phase w))
    c.tries.invariant.3 c.in_default.ensures.no_room

pub returns-in_default-clause-slots : goal.returns-in_default-clause-slots
returns-in_default-clause-slots g c = c.load_vacant.ensures.slots ∙ c.tries.invariant.2

pub returns-then-exchange-found-clause-placed : goal.returns-then-exchange-found-clause-placed
returns-then-exchange-found-clause-placed g c _ =
    let v = c.args.token.now.me.0.known in
    let at = (goal.at.returns-then-exchange-found-clause-placed g c).In-Some in
    hit _ c.args.words.now.key.setup (known_me c.load_vacant.new.token.me) (known_me c.exchange.new.token.me) _ c.exchange.result c.args.ring.now.number
    c.args.index (content_of (my_phase v)) c.args.ticket c.in-Some.found v (ap my_phase (room g at)) (alone g at) (room g at) c.if-exchange-found.true
    c.exchange.ensures.turned

pub returns-then-exchange-found-clause-slots : goal.returns-then-exchange-found-clause-slots
returns-then-exchange-found-clause-slots g c =
    let at = (goal.at.returns-then-exchange-found-clause-slots g c).In-Some in
    hit_slots _ c.args.words.now.key.setup (known_me c.load_vacant.new.token.me) (known_me c.exchange.new.token.me) _ c.exchange.result
    c.args.ring.now.number c.args.index (content_of (my_phase c.args.token.now.me.0.known)) c.args.ticket c.in-Some.found (ap my_phase (room g at))
    c.if-exchange-found.true c.exchange.ensures.turned
    ∙ ap rest (c.load_vacant.ensures.slots ∙ c.tries.invariant.2)

pub tries-preserved : goal.tries-preserved
tries-preserved g c =
    let k = c.args.words.now.key.setup in
    let v = c.args.token.now.me.0.known in
    let e = c.in-Some.found in
    let x = c.exchange.result in
    let w = content_of (my_phase v) in
    let r = c.args.ring.now.number in
    let t = c.args.ticket in
    let at = (goal.at.tries-preserved g c).In-Some in
    let phase = ap my_phase (room g at) in
    let next = saw_missed _ k (known_me c.load_vacant.new.token.me) (known_me c.exchange.new.token.me) _ x r c.args.index w t e phase (alone g at)
    c.if-exchange-found.false c.exchange.ensures.turned in
    let least : least_of (my_phase c.exchange.new.token.me.0.known) ≡ rank_in (ring_slots k) x = ap (λ u. least_of (my_phase u)) next in (
      c.exchange.ensures.own.0 ∙ c.load_vacant.ensures.own.0 ∙ c.tries.invariant.0,
      c.exchange.ensures.own.1 ∙ c.load_vacant.ensures.own.1 ∙ c.tries.invariant.1,
      missed_slots _ k (known_me c.load_vacant.new.token.me) (known_me c.exchange.new.token.me) _ x r c.args.index w t e phase c.if-exchange-found.false
          c.exchange.ensures.turned
          ∙ c.load_vacant.ensures.slots
          ∙ c.tries.invariant.2,
      next
          ∙ ap (goes_to (AtE2 r c.args.index w t (rank_in (ring_slots k) x))) (room g at)
          ∙ ap (λ l. goes_to (AtE2 r c.args.index w t l) v) (sym least),
      inr (goes_then c.tries.invariant.4
          (went_on c.load_vacant.ensures.went c.exchange.ensures.went)),
    )
