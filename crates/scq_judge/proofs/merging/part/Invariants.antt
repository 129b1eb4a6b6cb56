use Rattle.std.proofs.Common.{◌≡◌, ◌++◌, map, length}
use Rattle.std.specs.Vec.Iter.{into_iter_items, into_iter_len}
use Rattle.scq_judge.proofs.merging.part.Given as goal

abbrev pub invariant-parts : goal.invariant-parts
invariant-parts l = record {
  many : into_iter_len l.rest ≡ length (into_iter_items l.rest);
  events : l.events.items ++ map (λ s. s.event) (into_iter_items l.rest) ≡ map (λ s. s.event) l.fn.stamped.items;
  places : l.places.items ++ map (λ s. s.place) (into_iter_items l.rest) ≡ map (λ s. s.place) l.fn.stamped.items;
}

abbrev pub decreases-parts : goal.decreases-parts
decreases-parts l = into_iter_len l.rest
