use Rattle.scq_judge.proofs.judging.order_recorded.Goals as goal

pub returns-clause-ordered : goal.returns-clause-ordered
returns-clause-ordered c = record {
  opening = c.in_ok-merged.merged.opening.items;
  events = c.in_ok-merged.merged.events.items;
  places = c.in_ok-merged.merged.places.items;
  history = c.in_ok-merged.ensures.history;
  told = rw (c.as_slice-opening.ensures.value, c.as_slice-events.ensures.value) at c.in_ok-ordered.ensures;
}
