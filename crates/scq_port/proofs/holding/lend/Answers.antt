use Rattle.std.proofs.Common.{sym, refl}
use Rattle.scq_queue.proofs.HeldOnce.{lend_refused}
use Rattle.scq_port.proofs.Keeping.{place_free}
use Rattle.scq_port.proofs.Records.{unspent, still_more, still_alike, in_run, empty_in_run, came_of, spent_of}
use Rattle.scq_port.proofs.Numbered.{number_of}
use Rattle.scq_port.proofs.holding.lend.Goals as goal

pub put_in-requires : goal.put_in-requires
put_in-requires c =
    record { free = place_free c.in-Ok.held.index c.requires.kept c.in-Ok.ensures.lent.index c.in-Ok.ensures.lent.lent.got.came }

pub returns-in-Ok-clause-kept : goal.returns-in-Ok-clause-kept
returns-in-Ok-clause-kept c =
    let lent = c.in-Ok.ensures.lent in
    still_more c.args.hand.now c.requires.kept lent.lent.got lent.index c.requires.room c.put_in.ensures.put c.put_in.ensures.rest

pub returns-in-Ok-clause-lent : goal.returns-in-Ok-clause-lent
returns-in-Ok-clause-lent c =
    let lent = c.in-Ok.ensures.lent in
    let none = unspent c.args.pass.now.spent (λ t some. let no = (c.in-Ok.ensures.kept t some).0 in cc) in
    record {
      value = c.in-Ok.held;
      is = sym c.put_in.ensures.index;
      number = number_of c.args.queue.now c.in-Ok.held c.requires.numbers lent.given;
      lent = lent.lent;
      came = came_of c.args.hand.now c.put_in.new.self c.requires.kept c.requires.room c.put_in.ensures.put c.put_in.ensures.rest.1 lent.index;
      lists = lent.lists;
      unspent = none;
      run = in_run c.requires.kept (c.in-Ok.ensures.run none);
    }

pub returns-in-Err-Full-clause-kept : goal.returns-in-Err-Full-clause-kept
returns-in-Err-Full-clause-kept c =
    let e = c.in-Err-Full.ensures in
    still_alike c.args.hand.now c.requires.kept (lend_refused c.args.pass.now c.lend.new.pass e.kept c.in-Err-Full.field-0 e.full e.spent) refl (refl, refl)

pub returns-in-Err-Full-clause-full : goal.returns-in-Err-Full-clause-full
returns-in-Err-Full-clause-full c head is =
    let none = unspent c.args.pass.now.spent (λ t some. let no = (c.in-Err-Full.ensures.kept t some).0 in cc) in
    let full = c.in-Err-Full.ensures.full head (cc) in
    record {
      found = full.found;
      in_run = empty_in_run c.requires.kept full.in_run;
      lists = full.lists;
      holds = record { slots = refl; hold = refl };
      unspent = none;
    }

pub returns-in-Err-Spent-clause-kept : goal.returns-in-Err-Spent-clause-kept
returns-in-Err-Spent-clause-kept c =
    let e = c.in-Err-Spent.ensures in
    still_alike c.args.hand.now c.requires.kept (lend_refused c.args.pass.now c.lend.new.pass e.kept c.in-Err-Spent.field-0 e.full e.spent) refl (refl, refl)

pub returns-in-Err-Spent-clause-spent : goal.returns-in-Err-Spent-clause-spent
returns-in-Err-Spent-clause-spent c ticket is =
    let e = c.in-Err-Spent.ensures in
    spent_of c.requires.kept (e.spent ticket (cc)) e.run (λ t some. (let no = (e.kept t some).0 in cc, (e.kept t some).1)) refl refl
