use Rattle.std.proofs.Common.{◌≡◌, ◌∙◌, sym, ap, subst, refl, arith, ◌≤◌, List, ◌∷◌, ◌++◌, [], length, map, reverse, append_assoc}
use Rattle.std.specs.Prelude.{Option, vec_len, vec_capacity}
use Rattle.std.specs.List.{All}
use Rattle.std.proofs.lemmas.List.{reverse-reverse, map-append}
use Rattle.std.proofs.lemmas.List.Elements.{All-nil, All-push}
use Rattle.scq_block.specs.declared.frame.Frame.{Frame}
use Rattle.scq_queue.specs.Exports.{PassStanding, first_pass}
use Rattle.scq_files.specs.declared.desk.Desk.{Desk}
use Rattle.scq_files.proofs.Lists.{all-front, all-last}
use Rattle.scq_passes.proofs.FirstPasses.{first-length, pass-at}
use Rattle.scq_passes.proofs.Parting.{turned}
use Rattle.scq_desk.specs.Exports.{IsToBegin}
use Rattle.scq_desk.specs.declared.seat.Seat.{Seat}
use Rattle.scq_desk.proofs.making.make_desks.Goals as goal

pub passes-init : goal.passes-init
passes-init g c =
    let D = Desk (Seat g.row.W.Denot Frame (Option Frame)) g.row.S.Denot in
    let all = c.args.passes.items in
    let back : reverse c.reverse.new.self.items ≡ all = ap reverse c.reverse.ensures.items ∙ reverse-reverse all in
    let none = c.requires.none in
    let long : length all ≡ c.args.queue.now.setup.seats = ap length c.requires.new ∙ first-length c.args.queue.now c.args.queue.now.setup.seats in
    let ok = c.args.passes.ok.0 in
    let Fresh : D → Type 0 = λ d. IsToBegin g.W.Sits.pass_of g.W.Sits.has_none c.args.queue.now d.worker in
    let Empty : D → Type 0 = λ d. (d.files.items ≡ []) × (vec_len d.files ≡ 0) × (c.args.files ≤ vec_capacity d.files) in
    record {
      passes = rw (none, back) refl;
      lists = omega (arith, long, ok, c.requires.count.0, c.reverse.ensures.len);
      count = omega (arith, c.reverse.ensures.len, ap length none, c.args.desks.now.ok.0);
      room = omega (arith, long, ok, c.requires.room, c.reverse.ensures.len, ap length none, c.args.desks.now.ok.0);
      fresh = subst (All Fresh) (sym none) (All-nil Fresh);
      free = c.requires.empty;
      empty = subst (All Empty) (sym none) (All-nil Empty);
    }

pub overflow_cast-number : goal.overflow_cast-number
overflow_cast-number g c =
    let long = ap length c.requires.new ∙ first-length c.args.queue.now c.args.queue.now.setup.seats in
    omega (arith, long, c.args.passes.ok.0, c.passes.invariant.count, c.requires.count.1, c.len-number.ensures)

pub passes-preserved : goal.passes-preserved
passes-preserved g c =
    let D = Desk (Seat g.row.W.Denot Frame (Option Frame)) g.row.S.Denot in
    let pass_of : D → PassStanding Frame = λ d. g.W.Sits.pass_of d.worker.worker in
    let inv = c.passes.invariant in
    let queue = c.args.queue.now in
    let desks = c.passes.desks.items in
    let front : List (PassStanding Frame) = map pass_of desks in
    let rest = c.pop.new.self.items in
    let pass = c.in-Some.pass in
    let begun = c.begin-worker.ensures in
    let desk : D = record { worker = record { worker = c.begin-worker.result; kept = _ }; files = c.in-Some-pop.own } in
    let whole : front ++ pass ∷ reverse rest ≡ c.args.passes.items =
    ap (λ (l : List (PassStanding Frame)). front ++ l) (sym (turned c.passes.passes.items rest pass c.in-Some.ensures.items)) ∙ inv.passes in
    let at : pass ≡ first_pass queue (length front) = pass-at queue queue.setup.seats front (reverse rest) pass (whole ∙ c.requires.new) in
    let number : length front ≡ (pass_of desk).number = sym (ap (λ (p : PassStanding Frame). p.number) (begun.pass ∙ at)) in
    let Fresh : D → Type 0 = λ d. IsToBegin g.W.Sits.pass_of g.W.Sits.has_none queue d.worker in
    let Empty : D → Type 0 = λ d. (d.files.items ≡ []) × (vec_len d.files ≡ 0) × (c.args.files ≤ vec_capacity d.files) in
    let IsFree : _ → Type 0 = λ list. (list.items ≡ []) × (vec_len list ≡ 0) × (c.args.files ≤ vec_capacity list) in
    let free = subst (All IsFree) c.in-Some-pop.ensures.items inv.free in
    let own = all-last IsFree c.pop-in-Some.new.self.items c.in-Some-pop.own free in
    record {
      passes = ap (λ (ds : List D). map pass_of ds ++ reverse rest) c.push_reserved.ensures.items
          ∙ ap (λ (l : List (PassStanding Frame)). l ++ reverse rest) (map-append pass_of desks (desk ∷ []))
          ∙ append_assoc front (pass_of desk ∷ []) (reverse rest) ∙ ap (λ (p : PassStanding Frame). front ++ p ∷ reverse rest) begun.pass ∙ whole;
      lists = omega (arith, inv.lists, c.in-Some.ensures.cases, c.in-Some-pop.ensures.cases);
      count = omega (arith, inv.count, c.in-Some.ensures.cases, c.push_reserved.ensures.len);
      room = omega (arith, inv.room, c.in-Some.ensures.cases, c.push_reserved.ensures.len, c.push_reserved.ensures.capacity);
      fresh = subst (All Fresh) (sym c.push_reserved.ensures.items) (All-push Fresh desks desk inv.fresh (record {
        pass = begun.pass ∙ at ∙ ap (first_pass queue) number;
        members = begun.list;
        kept = refl;
      }));
      free = all-front IsFree c.pop-in-Some.new.self.items c.in-Some-pop.own free;
      empty = subst (All Empty) (sym c.push_reserved.ensures.items) (All-push Empty desks desk inv.empty own);
    }

pub returns-clause-count : goal.returns-clause-count
returns-clause-count g c =
    let long = ap length c.requires.new ∙ first-length c.args.queue.now c.args.queue.now.setup.seats in
    omega (arith, long, c.args.passes.ok.0, c.passes.invariant.count, c.passes.desks.ok.0, c.in_default.ensures.cases)
