use Rattle.std.proofs.Common.{refl}
use Rattle.scq_judge.proofs.judging.report_on.Goals as goal

pub returns-clause-report : goal.returns-clause-report
returns-clause-report c = record {
  breaches = c.in_ok-breaches.ensures.breaches;
  full = c.in_ok-room_breaches.ensures.told;
  linearizable = c.is_linearizable.ensures c.args.opening.now c.args.events.now c.requires c.in_ok-breaches.ensures.breaches c.in_ok-counts.ensures.never_ended;
  tokens = refl;
  events = c.in_ok-counts.ensures.events;
  queues = c.in_ok-counts.ensures.queues;
  seats = c.in_ok-counts.ensures.seats;
  calls = c.in_ok-counts.ensures.calls;
  overlapping = c.in_ok-counts.ensures.overlapping;
  never_ended = c.in_ok-counts.ensures.never_ended;
}
