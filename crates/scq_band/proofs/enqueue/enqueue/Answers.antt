use Rattle.std.proofs.Common.{◌≡◌, ℕ, List, ◌+◌, ◌<◌, ◌≤◌, refl, inr, sym, ◌∙◌, ap, subst, arith}
use Rattle.scq_word.proofs.EntryLemmas.{n_of_some}
use Rattle.scq_core.specs.declared.phase.Phase.{Phase}
use Rattle.scq_core.specs.declared.phase.Phase.TheVariants.{AtE1, AtE2, AtE5}
use Rattle.scq_band.specs.Slots.{SlotStanding}
use Rattle.scq_core.specs.Exports.{location_of}
use Rattle.scq_band.specs.Exports.{known_me, at, LiesIn, MayTurn, Fronts, my_phase, front_bytes, IsAlone, goes_to, done_at, placed_to, put_index}
use Rattle.scq_band.specs.Exports.{content_of, least_of}
use Rattle.atomic_table.specs.Table.{rest}
use Rattle.scq_band.proofs.Outcomes.{alone_at, alone_seated, turned_as}
use Rattle.scq_band.proofs.RingLemmas.{tail_fits, tail_low}
use Rattle.scq_band.proofs.Drawing.{DrewFromTail, drew_from_tail, turn_of_draw, may_draw, looks_as}
use Rattle.scq_band.proofs.RunShown.{went_on, goes_then}
use Rattle.scq_band.proofs.enqueue.enqueue.Goals as goal
use Rattle.scq_band.proofs.enqueue.enqueue.Goals.{After-draw-ticket}

-- what the draw tells
drawn : (g : _) (c : After-draw-ticket g) → DrewFromTail c.args.words.now.key.setup c.args.token.now.me.0.known c.args.token.now.me.1 c.draw-ticket.result
    c.args.ring.now.number c.args.index (front_bytes g.B.Buffer.contents c.args.token.now.me.1) (known_me c.draw-ticket.new.token.me)
drawn g c =
    let contents = g.B.Buffer.contents in
    let slots = c.args.token.now.me.1 in
    let turn = turn_of_draw g.B.Buffer.contents (known_me c.draws.token.me) c.requires.ring c.draws.invariant.2 c.requires.first c.draws.invariant.4 in
    drew_from_tail (LiesIn contents g.B.Buffer.IsSameBuffer c.args.words.now.key.given.value.items) c.args.words.now.key.setup c.args.token.now.me.0.known slots
    (known_me c.draws.token.me) (known_me c.draw-ticket.new.token.me) _ c.draw-ticket.result c.args.ring.now.number c.args.index
    (front_bytes contents slots) _ turn c.requires.alone c.draws.invariant.3 c.draws.invariant.2 c.draw-ticket.ensures.turned

-- the ticket is no lower than the least that was known
least : (g : _) (c : After-draw-ticket g) → least_of (my_phase c.draws.token.me.0.known) ≤ c.draw-ticket.result
least g c =
    let turn = turn_of_draw g.B.Buffer.contents (known_me c.draws.token.me) c.requires.ring c.draws.invariant.2 c.requires.first c.draws.invariant.4 in
    (turned_as turn c.draw-ticket.ensures.turned).found

-- the ticket is below the limit
below-limit : (g : _) (c : After-draw-ticket g) → c.draw-ticket.result < c.args.ring.now.limit → c.draw-ticket.new.token.me.0.known
    ≡ goes_to (AtE2 c.args.ring.now.number c.args.index (front_bytes g.B.Buffer.contents c.args.token.now.me.1) c.draw-ticket.result 0)
    c.args.token.now.me.0.known
below-limit g c less = let limit = c.requires.ring.limit in (drawn g c).within (omega (arith, limit, less))

alone : (g : _) (c : After-draw-ticket g) → c.draw-ticket.result < c.args.ring.now.limit → IsAlone c.draw-ticket.new.token.me.0.known
alone g c less = alone_at _ _ _ c.requires.alone (below-limit g c less)

pub draw-ticket-requires-clause-low : goal.draw-ticket-requires-clause-low
draw-ticket-requires-clause-low g c κs within = tail_low c.requires.ring c.requires.ring.tail c.requires.own.1

pub draw-ticket-requires-clause-may : goal.draw-ticket-requires-clause-may
draw-ticket-requires-clause-may g c κs within =
    let k = c.args.words.now.key.setup in
    let contents = g.B.Buffer.contents in
    let slots = c.args.token.now.me.1 in
    let turn = turn_of_draw g.B.Buffer.contents (known_me c.draws.token.me) c.requires.ring c.draws.invariant.2 c.requires.first c.draws.invariant.4 in
    subst (λ (t : Phase). MayTurn k c.draws.token.me.0.known t) (sym turn)
    (may_draw k c.args.token.now.me.0.known c.draws.token.me.0.known c.args.ring.now.number c.args.index
    (front_bytes contents slots) c.requires.alone c.draws.invariant.3
    c.draws.invariant.4 c.requires.idle.1 c.requires.held.0 c.requires.ring.low c.requires.held.1)

pub draw-ticket-requires-clause-word : goal.draw-ticket-requires-clause-word
draw-ticket-requires-clause-word g c κs within =
    let k = c.args.words.now.key.setup in
    let turn = turn_of_draw g.B.Buffer.contents (known_me c.draws.token.me) c.requires.ring c.draws.invariant.2 c.requires.first c.draws.invariant.4 in
    c.requires.ring.tail ∙ ap (λ t. at k (location_of k t)) (sym turn)

pub returns-then-ticket-ring-clause-spent : goal.returns-then-ticket-ring-clause-spent
returns-then-ticket-ring-clause-spent g c =
    let its = drawn g (goal.at.returns-then-ticket-ring-clause-spent g c).After-draw-ticket in
    let limit = c.requires.ring.limit in
    let past : c.args.words.now.key.setup.limit ≤ c.draw-ticket.result = let more = c.if-ticket-ring.true in omega (arith, limit, more) in
    record { view = its.past past; slots = its.kept; past = past }

pub place-requires-clause-looks : goal.place-requires-clause-looks
place-requires-clause-looks g c κs within =
    looks_as c.draw-ticket.new.token.me.0.known c.args.ring.now.number c.args.index (front_bytes g.B.Buffer.contents c.args.token.now.me.1)
    c.draw-ticket.result 0 (ap my_phase (below-limit g (goal.at.place-requires-clause-looks g c).After-draw-ticket c.if-ticket-ring.false))

pub place-requires-clause-past_first : goal.place-requires-clause-past_first
place-requires-clause-past_first g c κs within =
    let k = c.args.words.now.key.setup in
    let past = (drawn g (goal.at.place-requires-clause-past_first g c).After-draw-ticket).past_first in
    let mark = c.requires.ring.mark in
    let some = n_of_some k.order in
    omega (arith, past, mark, some)

pub place-requires-clause-alone : goal.place-requires-clause-alone
place-requires-clause-alone g c κs within = alone g (goal.at.place-requires-clause-alone g c).After-draw-ticket c.if-ticket-ring.false

pub place-requires-clause-index : goal.place-requires-clause-index
place-requires-clause-index g c κs within =
    (sym (ap (λ u. put_index (my_phase u)) (below-limit g (goal.at.place-requires-clause-index g c).After-draw-ticket c.if-ticket-ring.false)), c.requires.held.1)

pub place-requires-clause-front : goal.place-requires-clause-front
place-requires-clause-front g c κs within =
    let at = (goal.at.place-requires-clause-front g c).After-draw-ticket in
    let Lie = LiesIn g.B.Buffer.contents g.B.Buffer.IsSameBuffer c.args.words.now.key.given.value.items in
    subst (λ (w : List ℕ). Fronts Lie c.args.index w c.draw-ticket.new.token.me.1) (sym (ap (λ u. content_of (my_phase u)) (below-limit g at c.if-ticket-ring.false)))
    (subst (λ (ss : List (ℕ × SlotStanding g.row.B.Denot)). Fronts Lie c.args.index (front_bytes g.B.Buffer.contents c.args.token.now.me.1) ss) (sym (drawn g at).kept)
    c.requires.front)

pub reset_threshold-requires-clause-alone : goal.reset_threshold-requires-clause-alone
reset_threshold-requires-clause-alone g c κs within =
    let stands = alone g (goal.at.reset_threshold-requires-clause-alone g c).After-draw-ticket c.if-ticket-ring.false in
    alone_seated c.draw-ticket.new.token.me.0.known c.place.new.token.me.0.known _ _ stands.out (c.if-place.ensures.placed refl)

pub threshold-threshold_at-requires : goal.threshold-threshold_at-requires
threshold-threshold_at-requires g c = tail_fits c.args.words.now.key.setup c.args.ring.now c.requires.ring

pub reset_threshold-requires-clause-word : goal.reset_threshold-requires-clause-word
reset_threshold-requires-clause-word g c κs within = c.threshold-threshold_at.ensures c.args.words.now.key.setup c.requires.ring

pub reset_threshold-requires-clause-placed : goal.reset_threshold-requires-clause-placed
reset_threshold-requires-clause-placed g c κs within =
    let is = ap my_phase (c.if-place.ensures.placed refl) in
    subst (λ (p : Phase). p ≡ AtE5 c.args.ring.now.number (put_index p) (content_of p) c.draw-ticket.result) (sym is) refl

pub returns-then-place-clause-put : goal.returns-then-place-clause-put
returns-then-place-clause-put g c =
    let its = drawn g (goal.at.returns-then-place-clause-put g c).After-draw-ticket in
    let limit = c.requires.ring.limit in
    let low : c.draw-ticket.result < c.args.words.now.key.setup.limit = let less = c.if-ticket-ring.false in omega (arith, limit, less) in
    let r = c.args.ring.now.number in
    let t = c.draw-ticket.result in
    record {
      view =
          c.reset_threshold.ensures.done ∙ ap (λ u. done_at r t (content_of (my_phase u)) u)
          (c.if-place.ensures.placed refl ∙ ap (λ u. placed_to r c.args.index (content_of (my_phase u)) t u) (its.within low));
      slots = c.reset_threshold.ensures.slots ∙ c.if-place.ensures.slots ∙ ap rest its.kept;
      low = low;
      above = its.above;
    }

pub returns-then-ticket-ring-clause-went : goal.returns-then-ticket-ring-clause-went
returns-then-ticket-ring-clause-went g c =
    goes_then c.draws.invariant.5 c.draw-ticket.ensures.went

pub returns-then-place-clause-went : goal.returns-then-place-clause-went
returns-then-place-clause-went g c =
    goes_then c.draws.invariant.5 (went_on c.draw-ticket.ensures.went (went_on c.place.ensures.went c.reset_threshold.ensures.went))

pub draws-smaller : goal.draws-smaller
draws-smaller g c =
    let at = (goal.at.draws-smaller g c).After-draw-ticket in
    let limit = c.requires.ring.limit in
    let low = c.if-ticket-ring.false in
    let found = least g at in
    let next : least_of (my_phase c.place.new.token.me.0.known) ≡ c.draw-ticket.result + 1 =
    ap (λ u. least_of (my_phase u)) (c.if-place.ensures.passed refl) in
    omega (arith, limit, low, found, next)

pub draws-preserved : goal.draws-preserved
draws-preserved g c =
    let at = (goal.at.draws-preserved g c).After-draw-ticket in
    let v = c.args.token.now.me.0.known in
    let r = c.args.ring.now.number in
    let t = c.draw-ticket.result in
    let w = front_bytes g.B.Buffer.contents c.args.token.now.me.1 in
    let next : c.place.new.token.me.0.known ≡ goes_to (AtE1 r c.args.index w (t + 1)) v =
    c.if-place.ensures.passed refl
    ∙ ap (λ u. goes_to (AtE1 r c.args.index (content_of (my_phase u)) (t + 1)) u) (below-limit g at c.if-ticket-ring.false) in
    let phase = ap my_phase next in (
      c.place.ensures.own.0 ∙ c.draw-ticket.ensures.own.0 ∙ c.draws.invariant.0,
      c.place.ensures.own.1 ∙ c.draw-ticket.ensures.own.1 ∙ c.draws.invariant.1,
      c.if-place.ensures.slots ∙ (drawn g at).kept,
      next ∙ ap (λ p. goes_to p v) (sym phase),
      inr (phase ∙ ap (λ l. AtE1 r c.args.index w l) (sym (ap least_of phase))),
      inr (goes_then c.draws.invariant.5
          (went_on c.draw-ticket.ensures.went c.place.ensures.went)),
    )
