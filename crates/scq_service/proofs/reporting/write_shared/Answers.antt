use Rattle.scq_service.specs.Exports.{place_line, shared_words}
use Rattle.scq_service.proofs.Writings.{same-line}
use Rattle.scq_service.proofs.reporting.write_shared.Goals as goal

pub returns-in-Stamp : goal.returns-in-Stamp
returns-in-Stamp g c = same-line (λ what. place_line c.args.file c.args.line (shared_words what)) c.in-Stamp.is c.write_of_place.ensures

pub returns-in-Seat : goal.returns-in-Seat
returns-in-Seat g c = same-line (λ what. place_line c.args.file c.args.line (shared_words what)) c.in-Seat.is c.write_of_place-in-Seat.ensures
