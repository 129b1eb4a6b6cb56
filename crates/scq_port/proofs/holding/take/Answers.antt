use Rattle.std.proofs.Common.{sym, refl}
use Rattle.scq_queue.proofs.HeldOnce.{take_refused}
use Rattle.scq_port.proofs.Keeping.{place_free}
use Rattle.scq_port.proofs.Records.{unspent, still_more, still_alike, in_run, empty_in_run, came_of, low_of, there_of, spent_of}
use Rattle.scq_port.proofs.Numbered.{number_of}
use Rattle.scq_port.proofs.holding.take.Goals as goal

pub put_in-requires : goal.put_in-requires
put_in-requires c =
    record { free = place_free c.in-Ok.held.index c.requires.kept c.in-Ok.ensures.took.index c.in-Ok.ensures.took.got.came }

pub returns-in-Ok-clause-kept : goal.returns-in-Ok-clause-kept
returns-in-Ok-clause-kept c =
    let took = c.in-Ok.ensures.took in
    still_more c.args.hand.now c.requires.kept took.got took.index c.requires.room c.put_in.ensures.put c.put_in.ensures.rest

pub returns-in-Ok-clause-taken : goal.returns-in-Ok-clause-taken
returns-in-Ok-clause-taken c =
    let took = c.in-Ok.ensures.took in
    let none = unspent c.args.pass.now.spent (λ t some. let no = (c.in-Ok.ensures.kept t some).0 in cc) in
    record {
      value = c.in-Ok.held;
      is = sym c.put_in.ensures.index;
      number = number_of c.args.queue.now c.in-Ok.held c.requires.numbers took.given;
      there = there_of c.requires.kept c.args.topic c.requires.topic;
      got = took.got;
      low = low_of c.requires.kept c.in-Ok.place took.low;
      known = took.known;
      came = came_of c.args.hand.now c.put_in.new.self c.requires.kept c.requires.room c.put_in.ensures.put c.put_in.ensures.rest.1 took.index;
      lists = took.lists;
      unspent = none;
      run = in_run c.requires.kept (c.in-Ok.ensures.run none);
    }

pub returns-in-Err-Empty-clause-kept : goal.returns-in-Err-Empty-clause-kept
returns-in-Err-Empty-clause-kept c =
    let e = c.in-Err-Empty.ensures in
    still_alike c.args.hand.now c.requires.kept
    (take_refused c.args.pass.now c.take.new.pass e.kept c.args.topic c.in-Err-Empty.field-0 e.empty e.spent) refl (refl, refl)

pub returns-in-Err-Empty-clause-empty : goal.returns-in-Err-Empty-clause-empty
returns-in-Err-Empty-clause-empty c head is =
    let none = unspent c.args.pass.now.spent (λ t some. let no = (c.in-Err-Empty.ensures.kept t some).0 in cc) in
    let empty = c.in-Err-Empty.ensures.empty head (cc) in
    record {
      there = there_of c.requires.kept c.args.topic c.requires.topic;
      found = empty.found;
      in_run = empty_in_run c.requires.kept empty.in_run;
      lists = empty.lists;
      holds = record { slots = refl; hold = refl };
      unspent = none;
    }

pub returns-in-Err-Spent-clause-kept : goal.returns-in-Err-Spent-clause-kept
returns-in-Err-Spent-clause-kept c =
    let e = c.in-Err-Spent.ensures in
    still_alike c.args.hand.now c.requires.kept
    (take_refused c.args.pass.now c.take.new.pass e.kept c.args.topic c.in-Err-Spent.field-0 e.empty e.spent) refl (refl, refl)

pub returns-in-Err-Spent-clause-spent : goal.returns-in-Err-Spent-clause-spent
returns-in-Err-Spent-clause-spent c ticket is =
    let e = c.in-Err-Spent.ensures in
    spent_of c.requires.kept (e.spent ticket (cc)) e.run (λ t some. (let no = (e.kept t some).0 in cc, (e.kept t some).1)) refl refl
