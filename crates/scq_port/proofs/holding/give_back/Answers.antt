use Rattle.std.proofs.Common.{rules, ◌≡◌, ◌<◌, ℕ, subst, refl}
use Rattle.scq_queue.specs.Exports.{WasGivenBack}
use Rattle.scq_queue.proofs.HeldOnce.{put_refused, alike_itself}
use Rattle.scq_port.specs.Exports.{buffer_bytes, seen_as, IsSpentPut}
use Rattle.scq_port.proofs.Keeping.{place_held}
use Rattle.scq_port.proofs.Records.{unspent, in_run, still_alike, none_out, room_grows, still_less, went_out, free_again, still_back, spent_back}
use Rattle.scq_port.proofs.holding.give_back.Goals as goal

pub returns-in_default-clause-kept : goal.returns-in_default-clause-kept
returns-in_default-clause-kept c =
    still_alike c.args.hand.now c.requires.kept (alike_itself c.args.pass.now) (c.take_out.ensures.none c.in_default.is).0 c.take_out.ensures.rest

pub returns-in_default-clause-not_held : goal.returns-in_default-clause-not_held
returns-in_default-clause-not_held c is =
    none_out c.args.hand.now c.take_out.new.self c.args.index c.requires.kept (c.take_out.ensures.none c.in_default.is) c.take_out.ensures.rest.1

pub give_back-requires-clause-held : goal.give_back-requires-clause-held
give_back-requires-clause-held c κs = place_held c.args.index c.requires.kept (c.in-Some.ensures.some c.in-Some.held refl).0

pub overflow_add-hand : goal.overflow_add-hand
overflow_add-hand c =
    let grows : c.take_out.new.self.room < c.args.hand.now.hold =
    room_grows c.args.hand.now c.take_out.new.self c.args.index c.requires.kept (c.in-Some.ensures.some c.in-Some.held refl) c.take_out.ensures.rest
    _ _ _ c.in-Ok.ensures.given.pass in
    search (rules, grows)

pub returns-in-Ok-clause-kept : goal.returns-in-Ok-clause-kept
returns-in-Ok-clause-kept c =
    still_less c.args.hand.now c.take_out.new.self c.args.index c.requires.kept (c.in-Some.ensures.some c.in-Some.held refl) c.take_out.ensures.rest
    _ _ _ c.in-Ok.ensures.given.pass

pub returns-in-Ok-clause-given : goal.returns-in-Ok-clause-given
returns-in-Ok-clause-given c =
    let h = c.in-Some.held in
    let out = c.in-Some.ensures.some h refl in
    let index = (c.requires.kept.here c.args.index h out.0).index in
    let given = c.in-Ok.ensures.given in
    let none = unspent c.args.pass.now.spent (λ t some. let no = (c.in-Ok.ensures.kept t some).0 in cc) in
    record {
      value = h;
      is = index;
      given = subst (λ (i : ℕ). WasGivenBack (buffer_bytes h.buffer) i c.args.pass.now c.give_back.new.pass) index given;
      went = went_out c.args.hand.now c.take_out.new.self c.args.index c.requires.kept out c.take_out.ensures.rest;
      lists = given.lists;
      unspent = none;
      run = in_run c.requires.kept (c.in-Ok.ensures.run none);
    }

pub put_in-requires : goal.put_in-requires
put_in-requires c =
    record {
      free =
          free_again c.args.hand.now c.take_out.new.self c.args.index c.requires.kept (c.in-Some.ensures.some c.in-Some.held refl) c.take_out.ensures.rest
          c.in-Err.ensures.back;
    }

pub returns-in-Err-clause-kept : goal.returns-in-Err-clause-kept
returns-in-Err-clause-kept c =
    still_back c.args.hand.now c.take_out.new.self c.args.index c.requires.kept (c.in-Some.ensures.some c.in-Some.held refl) c.take_out.ensures.rest
    c.in-Err.ensures.back c.put_in.new.self c.put_in.ensures.put c.put_in.ensures.rest
    (put_refused c.args.pass.now c.give_back.new.pass c.in-Err.ensures.kept 0 c.in-Err.spent.ticket c.in-Err.ensures.spent)

pub returns-in-Err-clause-spent : goal.returns-in-Err-clause-spent
returns-in-Err-clause-spent c ticket is =
    let same : c.in-Err.spent.ticket ≡ ticket = cc in
    subst (λ (n : ℕ). IsSpentPut 0 n (seen_as c.args.pass.now c.args.hand.now) (seen_as c.give_back.new.pass c.put_in.new.self)) same
    (spent_back c.args.hand.now c.take_out.new.self c.args.index c.requires.kept (c.in-Some.ensures.some c.in-Some.held refl) c.take_out.ensures.rest
    c.in-Err.ensures.back c.put_in.new.self c.put_in.ensures.put c.put_in.ensures.rest 0 c.in-Err.ensures.spent c.in-Err.ensures.run
    c.in-Err.ensures.kept)
