use Rattle.std.proofs.Common.{◌≡◌, refl, ap}
use Rattle.scq_core.specs.declared.phase.Phase.TheVariants.{AtE2}
use Rattle.scq_core.specs.declared.step.Step.TheVariants.{E2}
use Rattle.scq_band.specs.Exports.{ring_of_word, my_phase, loading, load_turn, put_index, content_of, least_of}
use Rattle.scq_band.proofs.RingLemmas.{entry_low}
use Rattle.scq_band.proofs.Outcomes.{may_load, load_kind, load_word}
use Rattle.scq_band.proofs.Guessing.{went_more}
use Rattle.scq_band.proofs.enqueue.load_vacant.Goals as goal
use Rattle.scq_band.proofs.enqueue.load_vacant.Goals.{After-load-found}

-- the put is about to look at its ticket's slot
looks : (g : _) (c : After-load-found g) → load_turn c.args.words.now.key.setup c.args.word c.args.token.now.me.0.known
    ≡ AtE2 c.args.ring.now.number (put_index (my_phase c.args.token.now.me.0.known)) (content_of (my_phase c.args.token.now.me.0.known)) c.args.ticket
    (least_of (my_phase c.args.token.now.me.0.known))
looks g c = ap (loading (ring_of_word c.args.words.now.key.setup c.args.word)) c.requires.looks

pub load-found-requires-clause-low : goal.load-found-requires-clause-low
load-found-requires-clause-low g c κs within = entry_low c.args.ticket c.requires.ring c.requires.word c.requires.own.1

pub load-found-requires-clause-may : goal.load-found-requires-clause-may
load-found-requires-clause-may g c κs within =
    may_load c.args.words.now.key.setup _ c.args.word _ E2 c.requires.alone c.requires.looks refl refl

pub load-found-requires-clause-kind : goal.load-found-requires-clause-kind
load-found-requires-clause-kind g c κs within =
    load_kind c.args.words.now.key.setup c.args.token.now.me.0.known c.args.word _ c.requires.looks refl tt

pub load-found-requires-clause-word : goal.load-found-requires-clause-word
load-found-requires-clause-word g c κs within =
    load_word c.args.words.now.key.setup c.args.token.now.me.0.known c.args.word _ c.requires.looks refl c.requires.word

pub returns-then-has_room-clause-went : goal.returns-then-has_room-clause-went
returns-then-has_room-clause-went g c = went_more c.load-found.ensures.went c.has_room.ensures.went

pub returns-clause-went : goal.returns-clause-went
returns-clause-went g c = went_more c.load-found.ensures.went c.has_room.ensures.went
