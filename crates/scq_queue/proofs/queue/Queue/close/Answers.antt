use Rattle.std.proofs.Common.{◌≡◌, ℕ, List, map, sym, ap, subst}
use Rattle.std.specs.Prelude.{All, Option}
use Rattle.scq_core.specs.declared.ended.Ended.{Ended}
use Rattle.scq_band.specs.declared.numbers.Numbers.{Numbers}
use Rattle.scq_band.specs.Exports.{opening_of, Caller, Identity}
use Rattle.scq_band.specs.Standing.{Standing}
use Rattle.scq_band.specs.Closing as band
use Rattle.scq_queue.specs.Exports.{PassStanding, HeldStanding, records_of, all_held, callers_of, SentAndTook, NoneIsLost, EachKeptIsPastTheBound}
use Rattle.scq_queue.specs.Exports.{seat_of_pass, value_of, HasGivenBuffer}
use Rattle.scq_queue.proofs.Ends.{calls_are, known_are, spent_are, hands_are, takes_are_sends, none_sent_twice, none_taken_twice, sends_passed, balance_of, retired_where_told, retirees_have, seats_own, seats_lifted, are_lifted, all_is_there, all_out, callers_are}
use Rattle.scq_band.proofs.SpentLimits.{none_spent_within}
use Rattle.scq_queue.proofs.queue.Queue.close.Goals as goal

pub close_lifted-buffers-requires-clause-seats : goal.close_lifted-buffers-requires-clause-seats
close_lifted-buffers-requires-clause-seats g c κs within =
    subst (λ (ss : List (Standing g.row.B.Denot)). All (λ (s : Standing g.row.B.Denot). s.band ≡ c.self.inside.band) ss) (sym c.unpack.ensures.seats)
    (seats_own c.self.inside.band c.args.passes.items
    (subst (λ (q : Identity g.row.B.Denot). All (λ (p : PassStanding g.row.B.Denot). p.queue ≡ q) c.args.passes.items) (sym c.self.view_is) c.requires.passes))

pub close_lifted-buffers-requires-clause-lifted : goal.close_lifted-buffers-requires-clause-lifted
close_lifted-buffers-requires-clause-lifted g c κs within =
    subst (λ (ss : List (Standing g.row.B.Denot)). All (λ (s : Standing g.row.B.Denot). band.HoldsLifted s) ss) (sym c.unpack.ensures.seats)
    (seats_lifted c.args.passes.items)

pub close_lifted-buffers-requires-clause-out : goal.close_lifted-buffers-requires-clause-out
close_lifted-buffers-requires-clause-out g c κs within =
    let Same = g.B.Buffer.IsSameBuffer in
    let given = subst (λ (hs : List (HeldStanding g.row.B.Denot)). All (HasGivenBuffer Same) hs) c.deref.ensures.value c.all_given.ensures in
    let lifted = are_lifted Same c.args.self c.args.passes.items c.args.held.items c.requires.held given in
    (subst (λ (ss : List (Standing g.row.B.Denot)). band.AreTheLifted Same c.self.inside.band ss (map value_of c.args.held.items)) (sym c.unpack.ensures.seats)
    (subst (λ (q : Identity g.row.B.Denot). band.AreTheLifted Same q (map seat_of_pass c.args.passes.items) (map value_of c.args.held.items)) (sym c.self.view_is)
    lifted))

pub returns-clause-run : goal.returns-clause-run
returns-clause-run g c =
    let contents = g.B.Buffer.contents in
    let bytes = map contents c.close_lifted-buffers.result.buffers.items in
    let k = c.self.inside.band in
    let o = opening_of contents k.given in
    let passes = c.args.passes.items in
    let seats = c.unpack.new.seats.items in
    let are = c.unpack.ensures.seats in
    subst (λ (q : Identity g.row.B.Denot). band.IsOneRunToTheEnd q.setup (opening_of contents q.given) (callers_of passes) (records_of passes)
    (all_held passes) bytes) c.self.view_is
    (subst (λ (l : List Caller). band.IsOneRunToTheEnd k.setup o l (records_of passes) (all_held passes) bytes) (callers_are passes seats are)
    (subst (λ (hs : List (List ℕ)). band.IsOneRunToTheEnd k.setup o (band.callers_of seats) (records_of passes) hs bytes) (hands_are passes seats are)
    (subst (λ (rs : List (List Ended)). band.IsOneRunToTheEnd k.setup o (band.callers_of seats) rs (band.all_hands seats) bytes)
    (calls_are passes seats are) c.close_lifted-buffers.ensures.run)))

pub returns-clause-back : goal.returns-clause-back
returns-clause-back g c =
    let back = c.close_lifted-buffers.result.buffers.items in
    record {
      buffers =
          subst (λ (q : Identity g.row.B.Denot). band.AreTheSame g.B.Buffer.IsSameBuffer q.given back) c.self.view_is c.close_lifted-buffers.ensures.buffers.same;
      held =
          all_out (band.ComesBackAsItWas g.B.Buffer.contents back) c.unpack.new.seats.items (map value_of c.args.held.items) c.close_lifted-buffers.ensures.buffers.held;
      counts = c.unpack.ensures.counts;
      saw = c.unpack.ensures.saw;
      passes = ap (λ v. v.items) c.of-given.ensures;
    }

pub returns-clause-sent : goal.returns-clause-sent
returns-clause-sent g c =
    let k = c.self.inside.band in
    let opening = opening_of g.B.Buffer.contents k.given in
    let passes = c.args.passes.items in
    let seats = c.unpack.new.seats.items in
    let left = c.close_lifted-buffers.result.left.items in
    let calls = calls_are passes seats c.unpack.ensures.seats in
    let e = c.close_lifted-buffers.ensures in
    subst (λ (q : Identity g.row.B.Denot). SentAndTook q.setup passes left) c.self.view_is
    (record {
      takes = takes_are_sends k.setup opening passes (subst (λ (rs : List (List Ended)). band.EachGetHasItsPut k.setup opening rs) calls e.records.gets);
      sent_once = none_sent_twice k.setup opening passes (subst (λ (rs : List (List Ended)). band.NoneIsPutTwice k.setup opening rs) calls e.records.put_once);
      taken_once = none_taken_twice k.setup opening passes (subst (λ (rs : List (List Ended)). band.NoneIsGotTwice rs) calls e.records.once);
      balance = balance_of k.setup opening passes left (subst (λ (rs : List (List Ended)). band.IsBalance k.setup rs left) calls e.indices.balance);
      passed =
          sends_passed k.setup opening passes
          (subst (λ (ns : List (List Numbers)). band.EachPutPassedIsGot k.setup opening (records_of passes) ns) (known_are passes seats c.unpack.ensures.seats)
          (subst (λ (rs : List (List Ended)). band.EachPutPassedIsGot k.setup opening rs (band.all_known seats)) calls e.records.passed));
      fulls = c.unpack.ensures.fulls;
    })

pub returns-clause-values : goal.returns-clause-values
returns-clause-values g c =
    let contents = g.B.Buffer.contents in
    let bytes = map contents c.close_lifted-buffers.result.buffers.items in
    let k = c.self.inside.band in
    let passes = c.args.passes.items in
    let seats = c.unpack.new.seats.items in
    let held = c.args.held.items in
    let left = c.close_lifted-buffers.result.left.items in
    let hands = hands_are passes seats c.unpack.ensures.seats in
    let e = c.close_lifted-buffers.ensures in
    subst (λ (q : Identity g.row.B.Denot). NoneIsLost q.setup (opening_of contents q.given) passes held left bytes) c.self.view_is
    (record {
      all_there =
          all_is_there k.setup c.args.self passes held left c.requires.held
          (subst (λ (hs : List (List ℕ)). band.IsAllThere k.setup hs left) hands e.indices.all_there);
      hands = subst (λ (hs : List (List ℕ)). band.EachIsInOneHand k.setup hs) hands e.indices.hands;
      left =
          subst (λ (hs : List (List ℕ)). band.EachLeftIsItsPut k.setup (opening_of contents k.given) (records_of passes) hs bytes) hands
          (subst (λ (rs : List (List Ended)). band.EachLeftIsItsPut k.setup (opening_of contents k.given) rs (band.all_hands seats) bytes)
          (calls_are passes seats c.unpack.ensures.seats) e.buffers.left);
    })

pub returns-clause-spent : goal.returns-clause-spent
returns-clause-spent g c =
    let k = c.self.inside.band in
    let passes = c.args.passes.items in
    let seats = c.unpack.new.seats.items in
    let kept : EachKeptIsPastTheBound c.args.self.setup passes =
    subst (λ (q : Identity g.row.B.Denot). EachKeptIsPastTheBound q.setup passes) c.self.view_is
    (subst (λ (ts : List (Option ℕ)). band.EachSpentIsPastTheBound k.setup (records_of passes) ts) (spent_are passes seats c.unpack.ensures.seats)
    (subst (λ (rs : List (List Ended)). band.EachSpentIsPastTheBound k.setup rs (band.all_spent seats)) (calls_are passes seats c.unpack.ensures.seats)
    c.close_lifted-buffers.ensures.spent.bounds)) in
    record {
      kept = kept;
      limits = none_spent_within c.args.self.setup (records_of passes) (map (λ (p : PassStanding g.row.B.Denot). p.spent) passes) kept;
    }

pub returns-clause-retired : goal.returns-clause-retired
returns-clause-retired g c =
    let k = c.self.inside.band in
    let opening = opening_of g.B.Buffer.contents k.given in
    let are = c.unpack.ensures.seats in
    let e = c.close_lifted-buffers.ensures in
    record {
      gate =
          retired_where_told k.setup opening c.args.passes.items
          (subst (λ (ss : List (Standing g.row.B.Denot)). band.AllRetiredWhereClosed ss) are e.retired.gate);
      retirees =
          retirees_have k.setup opening c.args.passes.items
          (subst (λ (ss : List (Standing g.row.B.Denot)). band.EachSeenRetiredHas ss) are e.retired.retirees);
    }
