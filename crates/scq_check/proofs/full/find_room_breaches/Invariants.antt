use Rattle.scq_check.specs.Exports.{AreFailuresBefore, ArePlacesAt, KeepsRoomAt}
use Rattle.scq_check.proofs.full.find_room_breaches.Given as goal

abbrev pub invariant-loop-e : goal.invariant-loop-e
invariant-loop-e l = record {
  places : ArePlacesAt l.room l.opening l.events l.e l.places;
  failures : AreFailuresBefore (KeepsRoomAt l.room l.opening l.events) l.e l.failures;
}
