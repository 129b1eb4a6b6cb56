-- What the aspects of a history mean together. Plan: with no event that breaks one a history is right, and a complete one that is
-- right has orders; where an event breaks one it isn't right, and so has none
use Rattle.std.proofs.Common.{◌≡◌, ℕ, ◌<◌, ◌≤◌, ◌&&◌, Bool, true, false, List, Option, Some, None, length, refl, sym, arith}
use Rattle.scq_hist.specs.Exports.{IsCount, IsFirstFailing, IsLawful, IsFreshAt, IsOnceAt, IsInOrderAt, IsEmptyRightAt, under_way}
use Rattle.scq_hist.specs.declared.events.Event.{Event}
use Rattle.scq_hist.specs.declared.events.PutName.TheVariants.{Opening, Of}
use Rattle.scq_check.specs.Exports.{AreBreaches, IsAcceptedAt, IsTokenInOrderAt}
use Rattle.scq_check.specs.declared.verdicts.Breaches.{Breaches}
use Rattle.scq_judge.specs.Exports.{NeverEnds, IsOrderTold}
use Rattle.scq_judge.specs.Right.{all_hold, none_breaks}
use Rattle.scq_judge.proofs.CountLemmas.{some_busy}
use Rattle.scq_order.specs.Exports.{IsComplete, IsRight}
use Rattle.scq_order.proofs.RightOrders.{right_from_orders}
use Rattle.scq_order.proofs.RightHasOrders.{orders_from_right}

-- no first event breaks the aspect, so each has it
each_holds : (Holds : ℕ → Type 0) (first : Option ℕ) → IsFirstFailing Holds first → none_breaks first ≡ true → (e : ℕ) → Holds e
each_holds Holds None each holds = each
each_holds Holds (Some e) fails holds = absurd cc

none_holds : (Holds : ℕ → Type 0) (first : Option ℕ) → IsFirstFailing Holds first → ((e : ℕ) → Holds e) → none_breaks first ≡ true
none_holds Holds None each all = refl
none_holds Holds (Some e) fails all = absurd (fails.0 (all e))

-- six answers, and all of them
record All (a b c d e f : Bool) : Type 0 where
  first : a ≡ true
  second : b ≡ true
  third : c ≡ true
  fourth : d ≡ true
  fifth : e ≡ true
  sixth : f ≡ true

all_of : (a b c d e f : Bool) → (a && b && c && d && e && f) ≡ true → All a b c d e f
all_of true true true true true true is = record { first = refl; second = refl; third = refl; fourth = refl; fifth = refl; sixth = refl }
all_of false b c d e f is = absurd cc
all_of true false c d e f is = absurd cc
all_of true true false d e f is = absurd cc
all_of true true true false e f is = absurd cc
all_of true true true true false f is = absurd cc
all_of true true true true true false is = absurd cc

of_all : (a b c d e f : Bool) → All a b c d e f → (a && b && c && d && e && f) ≡ true
of_all a b c d e f is =
    let p = is.first in let q = is.second in let r = is.third in let s = is.fourth in let t = is.fifth in let u = is.sixth in
    rw (p, q, r, s, t, u) refl

right_from_holding : (opening : List (List ℕ)) (history : List Event) (b : Breaches) → IsLawful history → AreBreaches opening history b → all_hold b ≡ true
    → IsRight opening history
right_from_holding opening history b lawful are is =
    let each = all_of (none_breaks b.fresh.first) (none_breaks b.once.first) (none_breaks b.in_order.first) (none_breaks b.empty_right.first)
    (none_breaks b.accepted.first) (none_breaks b.opening.first) is in
    let accepted = each_holds (IsAcceptedAt history) b.accepted.first are.accepted.first each.fifth in
    let tokens = each_holds (IsTokenInOrderAt opening history) b.opening.first are.tokens.first each.sixth in
    record {
      aspects = record {
        lawful = lawful;
        fresh = each_holds (IsFreshAt opening history) b.fresh.first are.fresh.first each.first;
        once = each_holds (IsOnceAt history) b.once.first are.once.first each.second;
        in_order = each_holds (IsInOrderAt opening history) b.in_order.first are.in_order.first each.third;
        empty_right = each_holds (IsEmptyRightAt opening history) b.empty_right.first are.empty_right.first each.fourth;
      };
      accepted = λ e seat number d s queue content named counted call.
          accepted e (Of seat number) named (d, record { s = s; queue = queue; content = content; put = record { starts = call.starts; counted = counted }; call = call });
      tokens = λ j s e within get. tokens e s j within get;
    }

not_refused : (opening : List (List ℕ)) (history : List Event) → IsRight opening history → (e : ℕ) → IsAcceptedAt history e
not_refused opening history right e (Opening number) named refused = refused
not_refused opening history right e (Of seat number) named refused =
    let spent = refused.1 in right.accepted e seat number refused.0 spent.s spent.queue spent.content named spent.put.counted spent.call

holding_from_right : (opening : List (List ℕ)) (history : List Event) (b : Breaches) → AreBreaches opening history b → IsRight opening history → all_hold b ≡ true
holding_from_right opening history b are right =
    of_all (none_breaks b.fresh.first) (none_breaks b.once.first) (none_breaks b.in_order.first) (none_breaks b.empty_right.first)
    (none_breaks b.accepted.first) (none_breaks b.opening.first) (record {
      first = none_holds (IsFreshAt opening history) b.fresh.first are.fresh.first right.aspects.fresh;
      second = none_holds (IsOnceAt history) b.once.first are.once.first right.aspects.once;
      third = none_holds (IsInOrderAt opening history) b.in_order.first are.in_order.first right.aspects.in_order;
      fourth = none_holds (IsEmptyRightAt opening history) b.empty_right.first are.empty_right.first right.aspects.empty_right;
      fifth = none_holds (IsAcceptedAt history) b.accepted.first are.accepted.first (not_refused opening history right);
      sixth = none_holds (IsTokenInOrderAt opening history) b.opening.first are.tokens.first (λ e s j within get. right.tokens j s e within get);
    })

-- no call never ends, or one does
complete_from_none : (history : List Event) (n : ℕ) → n ≤ 0 → IsCount (NeverEnds history) n → IsComplete history
complete_from_none history n none count seat = at (under_way history seat (length history)) refl where
  at : (o : Option ℕ) → under_way history seat (length history) ≡ o → o ≡ None
  at None is = refl
  at (Some s) is = (let some = (some_busy (NeverEnds history) n count).1 (seat, record { s = s; is = is }) in absurd (omega arith))

pub some_under_way : (opening : List (List ℕ)) (history : List Event) (n : ℕ) → 0 < n → IsCount (NeverEnds history) n → IsOrderTold opening history None
some_under_way opening history n some count complete =
    let seat = (some_busy (NeverEnds history) n count).0 some in
    let busy = seat.1 in let is = busy.is in let none = complete seat.0 in absurd cc

pub order_told : (opening : List (List ℕ)) (history : List Event) (b : Breaches) (n : ℕ) (answer : Bool) → n ≤ 0 → IsLawful history → AreBreaches opening history b
    → IsCount (NeverEnds history) n → answer ≡ all_hold b → IsOrderTold opening history (Some answer)
order_told opening history b n true none lawful are count is =
    let complete = complete_from_none history n none count in
    (complete, orders_from_right opening history complete (right_from_holding opening history b lawful are (sym is)))
order_told opening history b n false none lawful are count is = (
  complete_from_none history n none count,
  λ orders. let holds = holding_from_right opening history b are (right_from_orders opening history lawful orders) in absurd cc,
)
