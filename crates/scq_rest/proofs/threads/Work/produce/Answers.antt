use Rattle.std.proofs.Common.{◌∙◌, ap}
use Rattle.scq_park.specs.Exports.{Post}
use Rattle.scq_rest.proofs.threads.Work.produce.Goals as goal

pub produce-requires-clause-rings : goal.produce-requires-clause-rings
produce-requires-clause-rings g c κs within = c.requires.ready.rings

pub produce-requires-clause-room : goal.produce-requires-clause-room
produce-requires-clause-room g c κs within = c.requires.ready.room

pub produce-requires-clause-fresh : goal.produce-requires-clause-fresh
produce-requires-clause-fresh g c κs within = c.requires.given.fresh

pub produce-requires-clause-unread : goal.produce-requires-clause-unread
produce-requires-clause-unread g c κs within = c.requires.given.unread

pub produce-requires-clause-bell : goal.produce-requires-clause-bell
produce-requires-clause-bell g c κs within = (ap (λ (p : Post). p.crew) c.requires.given.stand, c.requires.ready.crew, c.requires.ready.some)

pub returns-clause-begun : goal.returns-clause-begun
returns-clause-begun g c = record {
  begun = record {
    produced = c.produce.ensures.produced;
    crew = c.requires.ready.crew;
    stand = ap (λ (p : Post). p.crew) c.produce.ensures.bell ∙ ap (λ (p : Post). p.crew) c.requires.given.stand;
    unrested = ap (λ (p : Post). p.rests) c.produce.ensures.bell ∙ ap (λ (p : Post). p.rests) c.requires.given.stand;
  };
  files = c.produce.ensures.same;
  number = c.produce.ensures.number;
  stand = c.produce.ensures.bell;
  rung = c.produce.ensures.rung;
}
