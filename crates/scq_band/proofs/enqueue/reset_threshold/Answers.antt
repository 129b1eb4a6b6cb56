use Rattle.std.proofs.Common.{◌≡◌, ◌≢◌, refl, sym, ◌∙◌, ap, subst}
use Rattle.scq_core.specs.declared.phase.Phase.TheVariants.{AtE5, AtE6}
use Rattle.scq_core.specs.declared.step.Step.TheVariants.{E5, E6}
use Rattle.scq_band.specs.Exports.{known_me, ring_of_word, my_phase, loading, load_turn, IsReset, goes_to, put_index, content_of}
use Rattle.scq_band.proofs.RingLemmas.{threshold_low}
use Rattle.scq_band.proofs.Outcomes.{may_load, may_phase, load_kind, load_word, phase_word, alone_at, turned_as}
use Rattle.scq_band.proofs.Ending.{saw_other_level, saw_own_level, was_reset}
use Rattle.scq_band.proofs.RunShown.{went_on}
use Rattle.scq_band.proofs.enqueue.reset_threshold.Goals as goal
use Rattle.scq_band.proofs.enqueue.reset_threshold.Goals.{After-load}

-- the put is about to look at Threshold
ending : (g : _) (c : After-load g) → load_turn c.args.words.now.key.setup c.args.word c.args.token.now.me.0.known
    ≡ AtE5 c.args.ring.now.number (put_index (my_phase c.args.token.now.me.0.known)) (content_of (my_phase c.args.token.now.me.0.known)) c.args.ticket
ending g c = ap (loading (ring_of_word c.args.words.now.key.setup c.args.word)) c.requires.placed

stays : (g : _) (c : After-load g) → c.load.new.token.me.1 ≡ c.args.token.now.me.1
stays g c =
    (turned_as (ending g c) c.load.ensures.turned).slots

-- it isn't at the reset value
other : (g : _) (c : After-load g) → c.load.result ≢ c.args.ring.now.level → c.load.new.token.me.0.known
    ≡ goes_to (AtE6 c.args.ring.now.number (put_index (my_phase c.args.token.now.me.0.known)) (content_of (my_phase c.args.token.now.me.0.known)) c.args.ticket)
    c.args.token.now.me.0.known
other g c differs =
    let p = my_phase c.args.token.now.me.0.known in
    saw_other_level _ c.args.words.now.key.setup (known_me c.args.token.now.me) (known_me c.load.new.token.me) _ c.load.result c.args.ring.now.number
    (put_index p) (content_of p) c.args.ticket (ending g c) c.requires.alone (λ e. differs (e ∙ sym c.requires.ring.level)) c.load.ensures.turned

pub load-requires-clause-low : goal.load-requires-clause-low
load-requires-clause-low g c κs within = threshold_low c.requires.ring c.requires.word c.requires.own.1

pub load-requires-clause-may : goal.load-requires-clause-may
load-requires-clause-may g c κs within =
    may_load c.args.words.now.key.setup _ c.args.word _ E5 c.requires.alone c.requires.placed refl refl

pub load-requires-clause-kind : goal.load-requires-clause-kind
load-requires-clause-kind g c κs within =
    load_kind c.args.words.now.key.setup c.args.token.now.me.0.known c.args.word _ c.requires.placed refl tt

pub load-requires-clause-word : goal.load-requires-clause-word
load-requires-clause-word g c κs within =
    let k = c.args.words.now.key.setup in
    load_word k c.args.token.now.me.0.known c.args.word _ c.requires.placed refl c.requires.word

pub reset-requires-clause-may : goal.reset-requires-clause-may
reset-requires-clause-may g c κs within =
    let now = other g (goal.at.reset-requires-clause-may g c).After-load c.if-load-ring.true in
    may_phase c.args.words.now.key.setup _ _ E6 (alone_at _ _ _ c.requires.alone now) (ap my_phase now) refl

pub reset-requires-clause-kind : goal.reset-requires-clause-kind
reset-requires-clause-kind g c κs within =
    subst IsReset (sym (ap my_phase (other g (goal.at.reset-requires-clause-kind g c).After-load c.if-load-ring.true))) tt

pub reset-requires-clause-word : goal.reset-requires-clause-word
reset-requires-clause-word g c κs within =
    let k = c.args.words.now.key.setup in
    let now = other g (goal.at.reset-requires-clause-word g c).After-load c.if-load-ring.true in
    phase_word k c.load.new.token.me.0.known c.args.word _ (ap my_phase now)
    c.requires.word

pub returns-then-load-ring-clause-done : goal.returns-then-load-ring-clause-done
returns-then-load-ring-clause-done g c =
    let v = c.args.token.now.me.0.known in
    let p = my_phase v in
    let now = other g (goal.at.returns-then-load-ring-clause-done g c).After-load c.if-load-ring.true in
    was_reset _ c.args.words.now.key.setup (known_me c.load.new.token.me) (known_me c.reset.new.token.me) _ c.args.ring.now.level c.args.ring.now.number
    (put_index p) (content_of p) c.args.ticket v (ap my_phase now) (alone_at _ _ _ c.requires.alone now) now c.reset.ensures.turned

pub returns-then-load-ring-clause-slots : goal.returns-then-load-ring-clause-slots
returns-then-load-ring-clause-slots g c =
    let at = (goal.at.returns-then-load-ring-clause-slots g c).After-load in
    (turned_as (ap my_phase (other g at c.if-load-ring.true)) c.reset.ensures.turned).slots
    ∙ stays g at

pub returns-else-load-ring-clause-done : goal.returns-else-load-ring-clause-done
returns-else-load-ring-clause-done g c =
    let p = my_phase c.args.token.now.me.0.known in
    saw_own_level _ c.args.words.now.key.setup (known_me c.args.token.now.me) (known_me c.load.new.token.me) _ c.load.result c.args.ring.now.number
    (put_index p) (content_of p) c.args.ticket (ending g (goal.at.returns-else-load-ring-clause-done g c).After-load) c.requires.alone
    (c.if-load-ring.false ∙ c.requires.ring.level) c.load.ensures.turned

pub returns-else-load-ring-clause-slots : goal.returns-else-load-ring-clause-slots
returns-else-load-ring-clause-slots g c = stays g (goal.at.returns-else-load-ring-clause-slots g c).After-load

pub returns-then-load-ring-clause-went : goal.returns-then-load-ring-clause-went
returns-then-load-ring-clause-went g c = went_on c.load.ensures.went c.reset.ensures.went

pub reset-requires-clause-low : goal.reset-requires-clause-low
reset-requires-clause-low g c κs within = threshold_low c.requires.ring c.requires.word c.requires.own.1
