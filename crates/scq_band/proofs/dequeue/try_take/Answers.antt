use Rattle.std.proofs.Common.{◌≡◌, ◌≢◌, ℕ, ◌≤◌, refl, inr, sym, ◌∙◌, ap, subst, arith}
use Rattle.scq_word.specs.Exports.{cycle_in, rank_in}
use Rattle.scq_core.specs.declared.phase.Phase.{Phase}
use Rattle.scq_core.specs.declared.phase.Phase.TheVariants.{AtD3, AtD4, AtD5, AtD6}
use Rattle.scq_core.specs.declared.step.Step.TheVariants.{D3, D4, D5}
use Rattle.scq_core.specs.Exports.{ring_slots, cycle}
use Rattle.scq_core.proofs.Packing.{cycle_fits}
use Rattle.scq_band.specs.Exports.{known_me, ring_of_word, LiesIn, Carries, my_phase, loading, load_turn, Exchanges, IsTakingTurn, IsAlone}
use Rattle.scq_band.specs.Exports.{SeatHasGot, goes_to, least_of}
use Rattle.scq_band.proofs.RingLemmas.{tail_fits, entry_low}
use Rattle.scq_band.proofs.Outcomes.{may_load, may_phase, load_kind, load_word, phase_word, alone_at, turned_as}
use Rattle.scq_band.proofs.Placing.{rank_fits}
use Rattle.scq_band.proofs.Seeking.{saw_own_cycle, saw_earlier, saw_later, took, passed_hit, passed_missed, passed_rises, earlier_cycle_of, later_cycle_of}
use Rattle.scq_band.proofs.RunShown.{went_on, goes_then}
use Rattle.scq_band.proofs.dequeue.try_take.Goals as goal
use Rattle.scq_band.proofs.dequeue.try_take.Goals.{After-load-found, After-passed, After-exchange}

-- the get is about to look at its ticket's slot
seeks : (g : _) (c : After-load-found g) → load_turn c.args.words.now.key.setup c.entry-word.result c.tries.token.me.0.known
    ≡ AtD3 c.args.ring.now.number c.args.ticket (least_of (my_phase c.tries.token.me.0.known))
seeks g c = ap (loading (ring_of_word c.args.words.now.key.setup c.entry-word.result)) (ap my_phase c.tries.invariant.3)

stays : (g : _) (c : After-load-found g) → c.load-found.new.token.me.1 ≡ c.args.token.now.me.1
stays g c =
    (turned_as (seeks g c) c.load-found.ensures.turned).slots
    ∙ c.tries.invariant.2

-- it found the entry of its own cycle
own-cycle : (g : _) (c : After-load-found g) → cycle_in (ring_slots c.args.words.now.key.setup) c.load-found.result ≡ cycle c.args.words.now.key.setup c.args.ticket
    → (c.load-found.new.token.me.0.known ≡ goes_to (AtD4 c.args.ring.now.number c.args.ticket) c.tries.token.me.0.known)
    × IsAlone c.load-found.new.token.me.0.known
own-cycle g c same =
    let stands = alone_at _ _ _ c.requires.alone c.tries.invariant.3 in
    let now = saw_own_cycle _ c.args.words.now.key.setup (known_me c.tries.token.me) (known_me c.load-found.new.token.me) _ c.load-found.result
    c.args.ring.now.number c.args.ticket _ (seeks g c) stands same c.load-found.ensures.turned in
    (now, alone_at _ _ _ stands now)

-- it found an entry of an earlier cycle
earlier : (g : _) (c : After-passed g)
    → (c.load-found.new.token.me.0.known ≡ goes_to (AtD5 c.args.ring.now.number c.args.ticket c.load-found.result) c.tries.token.me.0.known)
    × IsAlone c.load-found.new.token.me.0.known
earlier g c =
    let k = c.args.words.now.key.setup in
    let low = earlier_cycle_of k _ c.args.ticket c.load-found.result c.cycle_of.result c.unpack.result c.requires.ring.order c.unpack.ensures.entry
    c.cycle_of.ensures (c.is_of_cycle.ensures.other c.if-is_of_cycle.false k c.requires.ring) c.if-unpack-cycle_of.false in
    let stands = alone_at _ _ _ c.requires.alone c.tries.invariant.3 in
    let now = saw_earlier _ k (known_me c.tries.token.me) (known_me c.load-found.new.token.me) _ c.load-found.result c.args.ring.now.number c.args.ticket _
    (ap (loading (ring_of_word k c.entry-word.result)) (ap my_phase c.tries.invariant.3)) stands low c.load-found.ensures.turned in
    (now, alone_at _ _ _ stands now)

-- and the exchange failed
missed : (g : _) (c : After-exchange g)
    → (c.load-found.new.token.me.0.known ≡ goes_to (AtD5 c.args.ring.now.number c.args.ticket c.load-found.result) c.tries.token.me.0.known)
    × IsAlone c.load-found.new.token.me.0.known → c.exchange.result ≢ c.load-found.result → c.exchange.new.token.me.0.known
    ≡ goes_to (AtD3 c.args.ring.now.number c.args.ticket (rank_in (ring_slots c.args.words.now.key.setup) c.exchange.result)) c.load-found.new.token.me.0.known
missed g c now miss =
    passed_missed _ c.args.words.now.key.setup (known_me c.load-found.new.token.me) (known_me c.exchange.new.token.me) _ c.exchange.result
    c.args.ring.now.number c.args.ticket c.load-found.result (ap my_phase now.0) now.1 miss c.exchange.ensures.turned

pub entry-word-requires : goal.entry-word-requires
entry-word-requires g c = tail_fits c.args.words.now.key.setup c.args.ring.now c.requires.ring

pub load-found-requires-clause-low : goal.load-found-requires-clause-low
load-found-requires-clause-low g c κs within = entry_low c.args.ticket c.requires.ring (c.entry-word.ensures _ c.requires.ring) c.requires.own.1

pub load-found-requires-clause-may : goal.load-found-requires-clause-may
load-found-requires-clause-may g c κs within =
    may_load c.args.words.now.key.setup _ c.entry-word.result _ D3 (alone_at _ _ _ c.requires.alone c.tries.invariant.3) (ap my_phase c.tries.invariant.3) refl refl

pub load-found-requires-clause-kind : goal.load-found-requires-clause-kind
load-found-requires-clause-kind g c κs within =
    load_kind c.args.words.now.key.setup c.tries.token.me.0.known c.entry-word.result _ (ap my_phase c.tries.invariant.3) refl tt

pub load-found-requires-clause-word : goal.load-found-requires-clause-word
load-found-requires-clause-word g c κs within =
    load_word c.args.words.now.key.setup c.tries.token.me.0.known c.entry-word.result _ (ap my_phase c.tries.invariant.3) refl
    (c.entry-word.ensures _ c.requires.ring)

pub consume-old-requires-clause-low : goal.consume-old-requires-clause-low
consume-old-requires-clause-low g c κs within = entry_low c.args.ticket c.requires.ring (c.entry-word.ensures _ c.requires.ring) c.requires.own.1

pub consume-old-requires-clause-may : goal.consume-old-requires-clause-may
consume-old-requires-clause-may g c κs within =
    let now = own-cycle g (goal.at.consume-old-requires-clause-may g c).After-load-found (c.is_of_cycle.ensures.own c.if-is_of_cycle.true _ c.requires.ring) in
    may_phase c.args.words.now.key.setup _ _ D4 now.1 (ap my_phase now.0) refl

pub consume-old-requires-clause-kind : goal.consume-old-requires-clause-kind
consume-old-requires-clause-kind g c κs within =
    let now = own-cycle g (goal.at.consume-old-requires-clause-kind g c).After-load-found (c.is_of_cycle.ensures.own c.if-is_of_cycle.true _ c.requires.ring) in
    subst IsTakingTurn (sym (ap my_phase now.0)) tt

pub consume-old-requires-clause-word : goal.consume-old-requires-clause-word
consume-old-requires-clause-word g c κs within =
    let now = own-cycle g (goal.at.consume-old-requires-clause-word g c).After-load-found (c.is_of_cycle.ensures.own c.if-is_of_cycle.true _ c.requires.ring) in
    phase_word c.args.words.now.key.setup c.load-found.new.token.me.0.known c.entry-word.result _ (ap my_phase now.0) (c.entry-word.ensures _ c.requires.ring)

pub exchange-requires-clause-low : goal.exchange-requires-clause-low
exchange-requires-clause-low g c κs within = entry_low c.args.ticket c.requires.ring (c.entry-word.ensures _ c.requires.ring) c.requires.own.1

pub passed-requires-clause-fits : goal.passed-requires-clause-fits
passed-requires-clause-fits g c =
    let k = c.args.words.now.key.setup in
    let below = c.requires.limit in
    let limit = c.requires.ring.limit in
    rw (c.requires.ring.order) (cycle_fits k c.args.ticket (omega arith))

pub exchange-requires-clause-may : goal.exchange-requires-clause-may
exchange-requires-clause-may g c κs within =
    let now = earlier g (goal.at.exchange-requires-clause-may g c).After-passed in
    may_phase c.args.words.now.key.setup _ _ D5 now.1 (ap my_phase now.0) refl

pub exchange-requires-clause-kind : goal.exchange-requires-clause-kind
exchange-requires-clause-kind g c κs within =
    let k = c.args.words.now.key.setup in
    let now = earlier g (goal.at.exchange-requires-clause-kind g c).After-passed in
    subst (λ (p : Phase). Exchanges k p c.load-found.result c.passed.result) (sym (ap my_phase now.0)) (refl, c.passed.ensures k c.requires.ring.order)

pub exchange-requires-clause-word : goal.exchange-requires-clause-word
exchange-requires-clause-word g c κs within =
    let now = earlier g (goal.at.exchange-requires-clause-word g c).After-passed in
    phase_word c.args.words.now.key.setup c.load-found.new.token.me.0.known c.entry-word.result _ (ap my_phase now.0) (c.entry-word.ensures _ c.requires.ring)

pub exchange-requires-clause-carries : goal.exchange-requires-clause-carries
exchange-requires-clause-carries g c κs within =
    let now = earlier g (goal.at.exchange-requires-clause-carries g c).After-passed in
    let Lie = LiesIn g.B.Buffer.contents g.B.Buffer.IsSameBuffer c.args.words.now.key.given.value.items in
    subst (λ (p : Phase). Carries Lie p c.load-found.new.token.me.1) (sym (ap my_phase now.0)) tt

pub tries-smaller : goal.tries-smaller
tries-smaller g c =
    let k = c.args.words.now.key.setup in
    let at = goal.at.tries-smaller g c in
    let now = earlier g at.After-passed in
    let y = c.exchange.result in
    let up = passed_rises _ k (known_me c.load-found.new.token.me) (known_me c.exchange.new.token.me) _ y c.args.ring.now.number c.args.ticket
    c.load-found.result (ap my_phase now.0) c.if-exchange-found.false c.exchange.ensures.turned in
    let least : least_of (my_phase c.exchange.new.token.me.0.known) ≡ rank_in (ring_slots k) y =
    ap (λ u. least_of (my_phase u)) (missed g at.After-exchange now c.if-exchange-found.false) in
    let fits = rank_fits k y c.exchange.type_inv in
    let found : least_of (my_phase c.tries.token.me.0.known) ≤ rank_in (ring_slots k) c.load-found.result =
    (turned_as (seeks g at.After-load-found) c.load-found.ensures.turned).found in
    omega (arith, up, least, fits, found)

pub returns-then-is_of_cycle-clause-got : goal.returns-then-is_of_cycle-clause-got
returns-then-is_of_cycle-clause-got g c =
    let k = c.args.words.now.key.setup in
    let at = (goal.at.returns-then-is_of_cycle-clause-got g c).After-load-found in
    let r = c.args.ring.now.number in
    let h = c.args.ticket in
    let later = known_me c.consume-old.new.token.me in
    let Lie = LiesIn g.B.Buffer.contents g.B.Buffer.IsSameBuffer c.args.words.now.key.given.value.items in
    let now = own-cycle g at (c.is_of_cycle.ensures.own c.if-is_of_cycle.true k c.requires.ring) in
    subst (λ (i : ℕ). SeatHasGot Lie k r h i (known_me c.args.token.now.me) later) (sym (c.index.ensures k c.requires.ring))
    (took Lie k (known_me c.load-found.new.token.me) later _ c.consume-old.result r h c.args.token.now.me.0.known c.args.token.now.me.1 (ap my_phase now.0)
    now.1 (now.0 ∙ ap (goes_to (AtD4 r h)) c.tries.invariant.3) (stays g at) c.consume-old.ensures.turned)

pub returns-then-unpack-cycle_of-clause-given_up : goal.returns-then-unpack-cycle_of-clause-given_up
returns-then-unpack-cycle_of-clause-given_up g c =
    let k = c.args.words.now.key.setup in
    let at = (goal.at.returns-then-unpack-cycle_of-clause-given_up g c).After-load-found in
    let high = later_cycle_of k _ c.args.ticket c.load-found.result c.cycle_of.result c.unpack.result c.requires.ring.order c.unpack.ensures.entry
    c.cycle_of.ensures c.if-unpack-cycle_of.true in
    saw_later _ k (known_me c.tries.token.me) (known_me c.load-found.new.token.me) _ c.load-found.result c.args.ring.now.number c.args.ticket _ (seeks g at)
    (alone_at _ _ _ c.requires.alone c.tries.invariant.3) high c.load-found.ensures.turned
    ∙ ap (goes_to (AtD6 c.args.ring.now.number c.args.ticket)) c.tries.invariant.3

pub returns-then-unpack-cycle_of-clause-slots : goal.returns-then-unpack-cycle_of-clause-slots
returns-then-unpack-cycle_of-clause-slots g c = stays g (goal.at.returns-then-unpack-cycle_of-clause-slots g c).After-load-found

pub returns-then-exchange-found-clause-given_up : goal.returns-then-exchange-found-clause-given_up
returns-then-exchange-found-clause-given_up g c =
    let r = c.args.ring.now.number in
    let h = c.args.ticket in
    let now = earlier g (goal.at.returns-then-exchange-found-clause-given_up g c).After-passed in
    passed_hit _ c.args.words.now.key.setup (known_me c.load-found.new.token.me) (known_me c.exchange.new.token.me) _ c.exchange.result r h c.load-found.result
    (ap my_phase now.0) now.1 c.if-exchange-found.true c.exchange.ensures.turned
    ∙ ap (goes_to (AtD6 r h)) (now.0 ∙ ap (goes_to (AtD5 r h c.load-found.result)) c.tries.invariant.3)

pub returns-then-exchange-found-clause-slots : goal.returns-then-exchange-found-clause-slots
returns-then-exchange-found-clause-slots g c =
    let at = goal.at.returns-then-exchange-found-clause-slots g c in
    (turned_as (ap my_phase (earlier g at.After-passed).0) c.exchange.ensures.turned).slots ∙ stays g at.After-load-found

pub returns-then-unpack-cycle_of-clause-went : goal.returns-then-unpack-cycle_of-clause-went
returns-then-unpack-cycle_of-clause-went g c =
    goes_then c.tries.invariant.4 c.load-found.ensures.went

pub returns-then-is_of_cycle-clause-went : goal.returns-then-is_of_cycle-clause-went
returns-then-is_of_cycle-clause-went g c =
    goes_then c.tries.invariant.4 (went_on c.load-found.ensures.went c.consume-old.ensures.went)

pub returns-then-exchange-found-clause-went : goal.returns-then-exchange-found-clause-went
returns-then-exchange-found-clause-went g c =
    goes_then c.tries.invariant.4 (went_on c.load-found.ensures.went c.exchange.ensures.went)

pub tries-preserved : goal.tries-preserved
tries-preserved g c =
    let k = c.args.words.now.key.setup in
    let at = goal.at.tries-preserved g c in
    let r = c.args.ring.now.number in
    let h = c.args.ticket in
    let y = c.exchange.result in
    let now = earlier g at.After-passed in
    let next = missed g at.After-exchange now c.if-exchange-found.false in
    let least : least_of (my_phase c.exchange.new.token.me.0.known) ≡ rank_in (ring_slots k) y = ap (λ u. least_of (my_phase u)) next in
    let again = goes_to (AtD3 r h (rank_in (ring_slots k) y)) in (
      c.exchange.ensures.own.0 ∙ c.load-found.ensures.own.0 ∙ c.tries.invariant.0,
      c.exchange.ensures.own.1 ∙ c.load-found.ensures.own.1 ∙ c.tries.invariant.1,
      (turned_as (ap my_phase now.0) c.exchange.ensures.turned).slots ∙ stays g at.After-load-found,
      next ∙ ap again now.0 ∙ ap again c.tries.invariant.3 ∙ ap (λ l. goes_to (AtD3 r h l) c.args.token.now.me.0.known) (sym least),
      inr (goes_then c.tries.invariant.4 (went_on c.load-found.ensures.went c.exchange.ensures.went)),
    )
