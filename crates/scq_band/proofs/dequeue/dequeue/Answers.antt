use Rattle.std.proofs.Common.{◌≡◌, ◌<◌, ◌≤◌, ◌+◌, ℕ, refl, inr, sym, ◌∙◌, ap, subst, arith}
use Rattle.std.specs.Prelude.{Option, Some, None, Result, Err}
use Rattle.scq_band.specs.declared.dequeue.Without.{Without}
use Rattle.scq_band.specs.declared.dequeue.Without.TheVariants.{Nothing, Spent}
use Rattle.scq_core.specs.Exports.{threshold_of, location_of}
use Rattle.scq_core.specs.declared.phase.Phase.{Phase}
use Rattle.scq_core.specs.declared.phase.Phase.TheVariants.{AtD1, AtD2, AtD3, AtD6}
use Rattle.scq_core.specs.declared.step.Step.TheVariants.{D2}
use Rattle.scq_core.proofs.Entries.{zero_level_is}
use Rattle.scq_band.specs.Exports.{known_me, at, ring_of_word, changed, passes, LiesIn, MayTurn, my, my_phase, front_index, front_bytes, loading}
use Rattle.scq_band.specs.Exports.{drawing, draw_turn, OnlyReads, IsDraw, IsAlone, at_phase, goes_to, nothing_at, to_draw, drew_head, least_of}
use Rattle.scq_band.specs.Exports.{HasFoundNone, HasSpentGet}
use Rattle.scq_band.proofs.Layouts.{ring_of_word-at}
use Rattle.scq_band.proofs.RingLemmas.{tail_fits, head_low, threshold_low}
use Rattle.scq_band.proofs.Grounds.{threshold_location}
use Rattle.scq_band.proofs.Outcomes.{may_go, alone_at, alone_seated, turned_as}
use Rattle.scq_band.proofs.Drawn.{DrewFromHead, drew_from_head, may_get, saw_empty, saw_some, got_then}
use Rattle.scq_band.proofs.Keeping.{found_first, found_after}
use Rattle.scq_band.proofs.RunShown.{went_on, goes_then}
use Rattle.scq_band.proofs.dequeue.dequeue.Goals as goal
use Rattle.scq_band.proofs.dequeue.dequeue.Goals.{After-threshold, After-head, After-draw-ticket}

-- the word that is loaded is the ring's Threshold
own-ring : (g : _) (c : After-threshold g) → ring_of_word c.args.words.now.key.setup c.threshold.result ≡ c.args.ring.now.number
own-ring g c =
    let k = c.args.words.now.key.setup in
    let r = c.args.ring.now.number in
    ap (ring_of_word k) (c.threshold.ensures k c.requires.ring) ∙ ring_of_word-at k (threshold_of r) (threshold_location k r c.requires.ring.low)

-- so the turn is the first of a get
first-turn : (g : _) (c : After-threshold g) → loading (ring_of_word c.args.words.now.key.setup c.threshold.result) (my_phase c.args.token.now.me.0.known)
    ≡ AtD1 c.args.ring.now.number
first-turn g c = ap (loading (ring_of_word c.args.words.now.key.setup c.threshold.result)) c.requires.idle.0 ∙ ap AtD1 (own-ring g c)

-- before each draw the seat stands alone
alone : (g : _) (c : After-head g) → IsAlone c.draws.token.me.0.known
alone g c =
    let v = c.args.token.now.me.0.known in
    let l = least_of (my_phase c.draws.token.me.0.known) in
    alone_seated v c.draws.token.me.0.known (at_phase (AtD2 c.args.ring.now.number l) (my v)) (changed (passes l) c.args.ring.now.number v.numbers)
    c.requires.alone.out c.draws.invariant.3

next-turn : (g : _) (c : After-head g)
    → draw_turn g.B.Buffer.contents c.args.words.now.key.setup c.head.result (known_me c.draws.token.me)
    ≡ AtD2 c.args.ring.now.number (least_of (my_phase c.draws.token.me.0.known))
next-turn g c =
    ap (drawing (ring_of_word c.args.words.now.key.setup c.head.result) (front_index c.draws.token.me.1) (front_bytes g.B.Buffer.contents c.draws.token.me.1))
    (ap my_phase c.draws.invariant.3)

-- what the draw tells
drawn : (g : _) (c : After-draw-ticket g) → IsAlone c.draws.token.me.0.known
    → draw_turn g.B.Buffer.contents c.args.words.now.key.setup c.head.result (known_me c.draws.token.me)
    ≡ AtD2 c.args.ring.now.number (least_of (my_phase c.draws.token.me.0.known)) → DrewFromHead c.args.words.now.key.setup c.args.token.now.me.0.known c.args.token.now.me.1 c.draw-ticket.result
    c.args.ring.now.number (known_me c.draw-ticket.new.token.me)
drawn g c alone turn =
    drew_from_head (LiesIn g.B.Buffer.contents g.B.Buffer.IsSameBuffer c.args.words.now.key.given.value.items) c.args.words.now.key.setup
    c.args.token.now.me.0.known c.args.token.now.me.1 (known_me c.draws.token.me) (known_me c.draw-ticket.new.token.me) _ c.draw-ticket.result
    c.args.ring.now.number _ turn alone c.draws.invariant.3 c.draws.invariant.2 c.draw-ticket.ensures.turned

-- the ticket is below the limit
below-limit : (g : _) (c : After-draw-ticket g) → DrewFromHead c.args.words.now.key.setup c.args.token.now.me.0.known c.args.token.now.me.1 c.draw-ticket.result
    c.args.ring.now.number (known_me c.draw-ticket.new.token.me) → c.draw-ticket.result < c.args.ring.now.limit → c.draw-ticket.new.token.me.0.known
    ≡ goes_to (AtD3 c.args.ring.now.number c.draw-ticket.result 0) (drew_head c.args.ring.now.number c.draw-ticket.result c.args.token.now.me.0.known)
below-limit g c its less = let limit = c.requires.ring.limit in its.within (omega (arith, limit, less))

beside : (g : _) (c : After-draw-ticket g) → DrewFromHead c.args.words.now.key.setup c.args.token.now.me.0.known c.args.token.now.me.1 c.draw-ticket.result
    c.args.ring.now.number (known_me c.draw-ticket.new.token.me) → c.draw-ticket.result < c.args.ring.now.limit → IsAlone c.draw-ticket.new.token.me.0.known
beside g c its less =
    alone_at (drew_head c.args.ring.now.number c.draw-ticket.result c.args.token.now.me.0.known) c.draw-ticket.new.token.me.0.known
    (AtD3 c.args.ring.now.number c.draw-ticket.result 0) (record { seats = refl; out = c.requires.alone.out }) (below-limit g c its less)

-- an answer says what was drawn
same_drawn : {A : Type 0} {a b : Option ℕ} → ◌≡◌ {A = Result A Without} (Err (Nothing a)) (Err (Nothing b)) → a ≡ b
same_drawn is = cc

same_spent : {A : Type 0} {a b : ℕ} → ◌≡◌ {A = Result A Without} (Err (Spent a)) (Err (Spent b)) → a ≡ b
same_spent is = cc

pub load-requires-clause-low : goal.load-requires-clause-low
load-requires-clause-low g c κs within = threshold_low c.requires.ring (c.threshold.ensures _ c.requires.ring) c.requires.own.1

pub load-requires-clause-may : goal.load-requires-clause-may
load-requires-clause-may g c κs within =
    may_get c.args.words.now.key.setup c.args.token.now.me.0.known c.threshold.result c.args.ring.now.number c.requires.alone c.requires.idle.0 c.requires.idle.1
    (own-ring g (goal.at.load-requires-clause-may g c).After-threshold) c.requires.ring.low

pub load-requires-clause-word : goal.load-requires-clause-word
load-requires-clause-word g c κs within =
    let k = c.args.words.now.key.setup in
    c.threshold.ensures k c.requires.ring
    ∙ ap (λ t. at k (location_of k t)) (sym (first-turn g (goal.at.load-requires-clause-word g c).After-threshold))

pub load-requires-clause-kind : goal.load-requires-clause-kind
load-requires-clause-kind g c κs within = subst OnlyReads (sym (first-turn g (goal.at.load-requires-clause-kind g c).After-threshold)) tt

pub returns-then-load-lt-ZERO_LEVEL-clause-nothing : goal.returns-then-load-lt-ZERO_LEVEL-clause-nothing
returns-then-load-lt-ZERO_LEVEL-clause-nothing g c ticket is =
    let k = c.args.words.now.key.setup in
    let r = c.args.ring.now.number in
    let Lie = LiesIn g.B.Buffer.contents g.B.Buffer.IsSameBuffer c.args.words.now.key.given.value.items in
    let me = known_me c.args.token.now.me in
    let later = known_me c.load.new.token.me in
    let turn = first-turn g (goal.at.returns-then-load-lt-ZERO_LEVEL-clause-nothing g c).After-threshold in
    let low = c.if-load-lt-ZERO_LEVEL.true in
    let level = zero_level_is in
    let none : None ≡ ticket = same_drawn is in
    subst (λ (d : Option ℕ). HasFoundNone k r d me later) none
    (found_first k r me later (saw_empty Lie k me.0 me later _ c.load.result r turn c.requires.alone (omega arith) c.load.ensures.turned)
    (turned_as turn c.load.ensures.turned).slots)

pub draws-init : goal.draws-init
draws-init g c =
    let k = c.args.words.now.key.setup in
    let r = c.args.ring.now.number in
    let Lie = LiesIn g.B.Buffer.contents g.B.Buffer.IsSameBuffer c.args.words.now.key.given.value.items in
    let turn = first-turn g (goal.at.draws-init g c).After-threshold in
    let high = c.if-load-lt-ZERO_LEVEL.false in
    let level = zero_level_is in
    let now = saw_some Lie k c.args.token.now.me.0.known (known_me c.args.token.now.me)
    (known_me c.load.new.token.me) _ c.load.result r turn c.requires.alone (omega arith)
    c.load.ensures.turned in
    let least : least_of (my_phase c.load.new.token.me.0.known) ≡ 0 = ap (λ u. least_of (my_phase u)) now in (
      c.load.ensures.own.0,
      c.load.ensures.own.1,
      (turned_as turn c.load.ensures.turned).slots,
      now
          ∙ ap (λ l. to_draw r l c.args.token.now.me.0.known) (sym least),
      inr c.load.ensures.went,
    )

pub draw-ticket-requires-clause-low : goal.draw-ticket-requires-clause-low
draw-ticket-requires-clause-low g c κs within = head_low c.requires.ring (c.head.ensures _ c.requires.ring) c.requires.own.1

pub draw-ticket-requires-clause-may : goal.draw-ticket-requires-clause-may
draw-ticket-requires-clause-may g c κs within =
    let at = (goal.at.draw-ticket-requires-clause-may g c).After-head in
    let w = c.draws.token.me.0.known in
    subst (λ (t : Phase). MayTurn c.args.words.now.key.setup w t) (sym (next-turn g at))
    (may_go c.args.words.now.key.setup w (AtD2 c.args.ring.now.number (least_of (my_phase w))) D2 (alone g at) (ap my_phase c.draws.invariant.3) refl)

pub draw-ticket-requires-clause-kind : goal.draw-ticket-requires-clause-kind
draw-ticket-requires-clause-kind g c κs within = subst IsDraw (sym (next-turn g (goal.at.draw-ticket-requires-clause-kind g c).After-head)) tt

pub draw-ticket-requires-clause-word : goal.draw-ticket-requires-clause-word
draw-ticket-requires-clause-word g c κs within =
    let k = c.args.words.now.key.setup in
    c.head.ensures k c.requires.ring ∙ ap (λ t. at k (location_of k t)) (sym (next-turn g (goal.at.draw-ticket-requires-clause-word g c).After-head))

pub try_take-requires-clause-alone : goal.try_take-requires-clause-alone
try_take-requires-clause-alone g c κs within =
    let at = goal.at.try_take-requires-clause-alone g c in
    let its = drawn g at.After-draw-ticket (alone g at.After-head) (next-turn g at.After-head) in
    beside g at.After-draw-ticket its c.if-ticket-ring.false

pub try_take-requires-clause-seeks : goal.try_take-requires-clause-seeks
try_take-requires-clause-seeks g c κs within =
    let at = goal.at.try_take-requires-clause-seeks g c in
    let its = drawn g at.After-draw-ticket (alone g at.After-head) (next-turn g at.After-head) in
    subst (λ (p : Phase). p ≡ AtD3 c.args.ring.now.number c.draw-ticket.result (least_of p))
    (sym (ap my_phase (below-limit g at.After-draw-ticket its c.if-ticket-ring.false))) refl

pub give_up-requires-clause-alone : goal.give_up-requires-clause-alone
give_up-requires-clause-alone g c κs within =
    let at = goal.at.give_up-requires-clause-alone g c in
    let its = drawn g at.After-draw-ticket (alone g at.After-head) (next-turn g at.After-head) in
    alone_at c.draw-ticket.new.token.me.0.known c.try_take.new.token.me.0.known (AtD6 c.args.ring.now.number c.draw-ticket.result)
    (beside g at.After-draw-ticket its c.if-ticket-ring.false) c.in_default.ensures.given_up

pub give_up-requires-clause-given_up : goal.give_up-requires-clause-given_up
give_up-requires-clause-given_up g c κs within = ap my_phase c.in_default.ensures.given_up

pub returns-then-ticket-ring-clause-spent : goal.returns-then-ticket-ring-clause-spent
returns-then-ticket-ring-clause-spent g c ticket is =
    let k = c.args.words.now.key.setup in
    let at = goal.at.returns-then-ticket-ring-clause-spent g c in
    let its = drawn g at.After-draw-ticket (alone g at.After-head) (next-turn g at.After-head) in
    let limit = c.requires.ring.limit in
    let past : k.limit ≤ c.draw-ticket.result = let more = c.if-ticket-ring.true in omega (arith, limit, more) in
    let same : c.draw-ticket.result ≡ ticket = same_spent is in
    subst (λ (t : ℕ). HasSpentGet k c.args.ring.now.number t (known_me c.args.token.now.me) (known_me c.draw-ticket.new.token.me)) same
    (record { view = its.past past; slots = its.kept; past = past; short = its.short })

pub returns-in-Some-clause-got : goal.returns-in-Some-clause-got
returns-in-Some-clause-got g c =
    let at = goal.at.returns-in-Some-clause-got g c in
    let its = drawn g at.After-draw-ticket (alone g at.After-head) (next-turn g at.After-head) in
    let limit = c.requires.ring.limit in
    let low : c.draw-ticket.result < c.args.words.now.key.setup.limit = let less = c.if-ticket-ring.false in omega (arith, limit, less) in
    record {
      got =
          got_then (LiesIn g.B.Buffer.contents g.B.Buffer.IsSameBuffer c.args.words.now.key.given.value.items) c.args.words.now.key.setup c.args.ring.now.number
          c.draw-ticket.result c.in-Some.index c.args.token.now.me.0.known c.args.token.now.me.1 (known_me c.draw-ticket.new.token.me)
          (known_me c.try_take.new.token.me) (its.within low) its.kept c.in-Some.ensures.got;
      below = low;
      above = its.above;
    }

pub returns-then-give_up-clause-nothing : goal.returns-then-give_up-clause-nothing
returns-then-give_up-clause-nothing g c ticket is =
    let k = c.args.words.now.key.setup in
    let r = c.args.ring.now.number in
    let me = known_me c.args.token.now.me in
    let later = known_me c.give_up.new.token.me in
    let at = goal.at.returns-then-give_up-clause-nothing g c in
    let its = drawn g at.After-draw-ticket (alone g at.After-head) (next-turn g at.After-head) in
    let limit = c.requires.ring.limit in
    let h = c.draw-ticket.result in
    let low : h < k.limit = let less = c.if-ticket-ring.false in omega (arith, limit, less) in
    let same : Some h ≡ ticket = same_drawn is in
    subst (λ (d : Option ℕ). HasFoundNone k r d me later) same
    (found_after k r me later h
    (c.if-give_up.ensures.over refl ∙ ap (nothing_at r) (c.in_default.ensures.given_up) ∙ ap (λ u. nothing_at r (goes_to (AtD6 r h) u)) (its.within low))
    (c.give_up.ensures.slots ∙ c.in_default.ensures.slots ∙ its.kept) low its.above)

pub draws-smaller : goal.draws-smaller
draws-smaller g c =
    let at = goal.at.draws-smaller g c in
    let limit = c.requires.ring.limit in
    let less = c.if-ticket-ring.false in
    let found = (turned_as (next-turn g at.After-head) c.draw-ticket.ensures.turned).found in
    let next : least_of (my_phase c.give_up.new.token.me.0.known) ≡ c.draw-ticket.result + 1 =
    ap (λ u. least_of (my_phase u)) (c.if-give_up.ensures.on refl) in
    omega (arith, limit, less, found, next)

pub draws-preserved : goal.draws-preserved
draws-preserved g c =
    let r = c.args.ring.now.number in
    let v = c.args.token.now.me.0.known in
    let at = goal.at.draws-preserved g c in
    let its = drawn g at.After-draw-ticket (alone g at.After-head) (next-turn g at.After-head) in
    let limit = c.requires.ring.limit in
    let h = c.draw-ticket.result in
    let low : h < c.args.words.now.key.setup.limit = let less = c.if-ticket-ring.false in omega (arith, limit, less) in
    let next : c.give_up.new.token.me.0.known ≡ to_draw r (h + 1) v =
    c.if-give_up.ensures.on refl ∙ ap (goes_to (AtD2 r (h + 1))) (c.in_default.ensures.given_up)
    ∙ ap (λ u. goes_to (AtD2 r (h + 1)) (goes_to (AtD6 r h) u)) (its.within low) in
    let least : least_of (my_phase c.give_up.new.token.me.0.known) ≡ h + 1 = ap (λ u. least_of (my_phase u)) next in (
      c.give_up.ensures.own.0 ∙ c.try_take.ensures.own.0 ∙ c.draw-ticket.ensures.own.0 ∙ c.draws.invariant.0,
      c.give_up.ensures.own.1 ∙ c.try_take.ensures.own.1 ∙ c.draw-ticket.ensures.own.1 ∙ c.draws.invariant.1,
      c.give_up.ensures.slots ∙ c.in_default.ensures.slots ∙ its.kept,
      next ∙ ap (λ n. to_draw r n v) (sym least),
      inr (goes_then c.draws.invariant.4 (went_on c.draw-ticket.ensures.went (went_on c.try_take.ensures.went c.give_up.ensures.went))),
    )

pub returns-then-ticket-ring-clause-went : goal.returns-then-ticket-ring-clause-went
returns-then-ticket-ring-clause-went g c = goes_then c.draws.invariant.4 c.draw-ticket.ensures.went

pub returns-in-Some-clause-went : goal.returns-in-Some-clause-went
returns-in-Some-clause-went g c = goes_then c.draws.invariant.4 (went_on c.draw-ticket.ensures.went c.try_take.ensures.went)

pub returns-then-give_up-clause-went : goal.returns-then-give_up-clause-went
returns-then-give_up-clause-went g c =
    goes_then c.draws.invariant.4 (went_on c.draw-ticket.ensures.went (went_on c.try_take.ensures.went c.give_up.ensures.went))

pub threshold-requires : goal.threshold-requires
threshold-requires g c = tail_fits c.args.words.now.key.setup c.args.ring.now c.requires.ring

pub head-requires : goal.head-requires
head-requires g c = tail_fits c.args.words.now.key.setup c.args.ring.now c.requires.ring
