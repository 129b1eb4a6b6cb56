use Rattle.std.proofs.Common.{◌≡◌, refl, ap}
use Rattle.scq_core.specs.declared.step.Step.TheVariants.{E4}
use Rattle.scq_band.specs.Exports.{known_me, LiesIn, my_phase, IsAlone, goes_to, put_index, content_of, least_of}
use Rattle.scq_band.specs.Guesses.{looked_to}
use Rattle.scq_band.proofs.RingLemmas.{tail_fits, entry_low}
use Rattle.scq_band.proofs.Outcomes.{may_phase, alone_at}
use Rattle.scq_band.proofs.RunShown.{went_on}
use Rattle.scq_band.proofs.Guessing.{went_more}
use Rattle.scq_band.proofs.Looking.{saw}
use Rattle.scq_band.proofs.enqueue.place.Goals as goal
use Rattle.scq_band.proofs.enqueue.place.Goals.{After-has_room}

-- the guess was wrong: the put has looked at its ticket's slot
looked : (g : _) (c : After-has_room g) → c.place_or_load-found.new.token.me.0.known
    ≡ goes_to (looked_to c.args.words.now.key.setup c.args.ring.now.number (put_index (my_phase c.args.token.now.me.0.known)) (content_of
    (my_phase c.args.token.now.me.0.known)) c.args.ticket c.place_or_load-found.result) c.args.token.now.me.0.known
looked g c =
    let p = my_phase c.args.token.now.me.0.known in
    saw c.args.words.now.key.setup c.args.ring.now.number (put_index p) (content_of p) c.args.ticket c.place_or_load-found.result
    (LiesIn g.B.Buffer.contents g.B.Buffer.IsSameBuffer c.args.words.now.key.given.value.items)
    (known_me c.args.token.now.me) (known_me c.place_or_load-found.new.token.me) p (least_of p) c.requires.looks c.requires.alone
    (c.place_or_load-found.ensures.guessed.missed c.if-found-guess.false)

alone : (g : _) (c : After-has_room g) → IsAlone c.place_or_load-found.new.token.me.0.known
alone g c = alone_at _ _ _ c.requires.alone (looked g c)

pub entry-word-requires : goal.entry-word-requires
entry-word-requires g c = tail_fits c.args.words.now.key.setup c.args.ring.now c.requires.ring

pub place_or_load-found-requires-clause-low : goal.place_or_load-found-requires-clause-low
place_or_load-found-requires-clause-low g c κs within =
    entry_low c.args.ticket c.requires.ring (c.entry-word.ensures _ c.requires.ring) c.requires.own.1

pub exchange-requires-clause-low : goal.exchange-requires-clause-low
exchange-requires-clause-low g c κs within = entry_low c.args.ticket c.requires.ring (c.entry-word.ensures _ c.requires.ring) c.requires.own.1

pub exchange-requires-clause-may : goal.exchange-requires-clause-may
exchange-requires-clause-may g c κs within =
    let room = c.if-not-has_room.ensures.room refl in
    may_phase c.args.words.now.key.setup _ _ E4 (alone_at _ _ _ (alone g (goal.at.exchange-requires-clause-may g c).After-has_room) room) (ap my_phase room)
    refl

pub returns-then-not-has_room-clause-went : goal.returns-then-not-has_room-clause-went
returns-then-not-has_room-clause-went g c = went_more c.place_or_load-found.ensures.went c.has_room.ensures.went

pub returns-then-exchange-found-clause-went : goal.returns-then-exchange-found-clause-went
returns-then-exchange-found-clause-went g c =
    went_on (went_more c.place_or_load-found.ensures.went c.has_room.ensures.went) c.exchange.ensures.went

pub returns-clause-went : goal.returns-clause-went
returns-clause-went g c =
    went_on (went_more c.place_or_load-found.ensures.went c.has_room.ensures.went) (went_on c.exchange.ensures.went c.try_place.ensures.went)
