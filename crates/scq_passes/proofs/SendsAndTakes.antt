-- Once the queue is closed: where each pass has swept, the takes of all are the sends of all, and nothing is left.
use Rattle.std.proofs.Common.{◌≡◌, ap, subst, arith, ℕ, ◌+◌, ◌≤◌, List, length}
use Rattle.std.specs.Prelude.{sum_by, ◌==◌, if◌then◌else◌}
use Rattle.std.specs.List.{All, AllPairs, Contains}
use Rattle.std.proofs.lemmas.List.Sorted.{sum_by-IsPermutation}
use Rattle.std.proofs.lemmas.Option.{slice_get_within, get_or_from_slice_get}
use Rattle.scq_word.specs.declared.setup.Setup.{Setup}
use Rattle.scq_queue.specs.Exports.{Placed, sends_of, takes_of, PassStanding, WasSent, EachTakeIsASend, NoPlaceIsSentTwice, NoPlaceIsTakenTwice}
use Rattle.scq_queue.specs.Exports.{EachSendPassedIsTaken, IsBalance, sends_on, takes_on}
use Rattle.scq_passes.specs.Exports.{Apart, all_sends, all_takes, SendsAreTakes, NoPlaceStandsTwice, NothingIsLeft, HasSwept}
use Rattle.scq_passes.proofs.ManyLists.{stands-at, found-at, in-all, from-all, apart-all, count-all}
use Rattle.scq_collect.proofs.Distinct.{IsDistinct, same-members, included-length}

-- members at different places differ
pub distinct : (ms : List Placed) → AllPairs Apart ms → IsDistinct ms
distinct ms apart i j d less within same = apart i j d less within (ap (λ (m : Placed). m.topic) same) (ap (λ (m : Placed). m.place) same)

module _ {B : Type 0} where
  pub no-place-twice : (passes : List (PassStanding B)) → NoPlaceIsSentTwice passes → NoPlaceStandsTwice passes
  no-place-twice passes once i j d less within topic place =
      apart-all (λ (p : PassStanding B). sends_of p.calls) (λ m n. (m.topic ≡ n.topic) × (m.place ≡ n.place)) passes
      (λ a x b y p q m n at_p at_m at_q at_n alike. once a x b y m n (p, at_p, at_m) (q, at_q, at_n) alike.0 alike.1) i j d less within (topic, place)

  pub takes-apart : (passes : List (PassStanding B)) → NoPlaceIsTakenTwice passes → AllPairs Apart (all_takes passes)
  takes-apart passes once i j d less within topic place =
      apart-all (λ (p : PassStanding B). takes_of p.calls) (λ m n. (m.topic ≡ n.topic) × (m.place ≡ n.place)) passes
      (λ a x b y p q m n at_p at_m at_q at_n alike. once a x b y m n (p, at_p, at_m) (q, at_q, at_n) alike.0 alike.1) i j d less within (topic, place)

  -- a take of some pass is a send of some pass
  pub take-was-sent : (passes : List (PassStanding B)) → EachTakeIsASend passes → (m : Placed) → Contains (all_takes passes) m → Contains (all_sends passes) m
  take-was-sent passes sent m has =
      let where_ = from-all (λ (p : PassStanding B). takes_of p.calls) passes m has in
      let at = found-at (takes_of where_.1.calls) m where_.3 in
      let was = sent m (record { pass = where_.0; number = at.0; is = (where_.1, where_.2, at.1) }) in
      in-all (λ (p : PassStanding B). sends_of p.calls) passes was.pass was.is.0 m was.is.1 (stands-at (sends_of was.is.0.calls) m was.number was.is.2)

  -- and where each pass has swept, a send is a take
  send-was-taken : (passes : List (PassStanding B)) → EachSendPassedIsTaken passes → All HasSwept passes → (m : Placed) → Contains (all_sends passes) m
      → Contains (all_takes passes) m
  send-was-taken passes passed swept m has =
      let where_ = from-all (λ (p : PassStanding B). sends_of p.calls) passes m has in
      let at = found-at (sends_of where_.1.calls) m where_.3 in
      let sent : WasSent passes m = record { pass = where_.0; number = at.0; is = (where_.1, where_.2, at.1) } in
      let its = swept where_.0 where_.1 (slice_get_within passes where_.0 where_.1 where_.2) in
      let low = subst HasSwept (get_or_from_slice_get passes where_.0 where_.1 where_.1 where_.2) its m where_.3 in
      let was = passed m where_.0 where_.1 sent where_.2 low in
      in-all (λ (p : PassStanding B). takes_of p.calls) passes was.pass was.is.0 m was.is.1 (stands-at (takes_of was.is.0.calls) m was.number was.is.2)

  -- over all passes sends equal takes
  pub sends-are-takes : (passes : List (PassStanding B)) → EachTakeIsASend passes → NoPlaceIsTakenTwice passes → NoPlaceIsSentTwice passes
      → EachSendPassedIsTaken passes → All HasSwept passes → SendsAreTakes passes
  sends-are-takes passes sent once once_sent passed swept =
      same-members (all_sends passes) (all_takes passes) (distinct (all_sends passes) (no-place-twice passes once_sent))
      (distinct (all_takes passes) (takes-apart passes once)) (send-was-taken passes passed swept) (take-was-sent passes sent)

  -- however little was swept, there are at most as many takes as sends
  pub few-takes : (passes : List (PassStanding B)) → EachTakeIsASend passes → NoPlaceIsTakenTwice passes → length (all_takes passes) ≤ length (all_sends passes)
  few-takes passes sent once =
      included-length (all_takes passes) (all_sends passes) (distinct (all_takes passes) (takes-apart passes once)) (take-was-sent passes sent)

  -- nothing is left
  pub nothing-is-left : (c : Setup) (passes : List (PassStanding B)) (topics : ℕ) (left : List ℕ) → c.rings ≡ topics + 1 → IsBalance c passes left
      → SendsAreTakes passes
      → NothingIsLeft topics left
  nothing-is-left c passes topics left rings balance same topic low =
      let one : Placed → ℕ = λ m. if m.topic == topic then 1 else 0 in
      let sends : sum_by one (all_sends passes) ≡ sends_on topic passes = count-all (λ (p : PassStanding B). sends_of p.calls) one passes in
      let takes : sum_by one (all_takes passes) ≡ takes_on topic passes = count-all (λ (p : PassStanding B). takes_of p.calls) one passes in
      let equal : sum_by one (all_takes passes) ≡ sum_by one (all_sends passes) = sum_by-IsPermutation one (all_sends passes) (all_takes passes) same in
      let says = balance.balance topic (omega arith) in
      omega arith
