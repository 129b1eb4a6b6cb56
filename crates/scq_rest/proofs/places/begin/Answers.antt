use Rattle.scq_rest.proofs.places.begin.Goals as goal

pub start-requires-clause-begins : goal.start-requires-clause-begins
start-requires-clause-begins g c κs within = record { ready = c.requires.ready; given = c.requires.given }
