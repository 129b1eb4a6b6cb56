-- A worker that goes on after one message more, or has moved all that was in first, or stops at a ticket past the limit.
use Rattle.std.proofs.Common.{◌≡◌, refl, sym, ◌∙◌, ap, subst, suc, ℕ, ◌+◌, ◌<◌, List, [], ◌∷◌, ◌++◌, length, take, Option, Some, None, Bool, false}
use Rattle.std.specs.Prelude.{filter}
use Rattle.std.specs.List.{AllZip, filter_map}
use Rattle.std.proofs.lemmas.List.{append-nil, length-append}
use Rattle.std.proofs.lemmas.List.Elements.{filter-append, filter_map-append}
use Rattle.std.proofs.lemmas.Slice.Zip.{all_zipped_more}
use Rattle.scq_core.specs.declared.ended.Ended.{Ended}
use Rattle.scq_core.specs.declared.ended.Ended.TheVariants.{Done, Got, Nothing}
use Rattle.scq_band.specs.Exports.{Identity}
use Rattle.scq_frames.specs.declared.message.Message.{Message}
use Rattle.scq_queue.specs.Exports.{Placed, sends_of, takes_of, PassStanding, HeldStanding, WasLent, known_on}
use Rattle.scq_queue.proofs.Records.{sends-append, takes-append}
use Rattle.scq_passes.specs.Exports.{Puts, on, ArePassedOn, EachHasItsCall, and_sent, and_made, HasTakenFollowed, HasFoundFull, HasSentSo, HasLeftSo}
use Rattle.scq_passes.specs.Exports.{since, taken_since}
use Rattle.scq_passes.proofs.Between.{between-taken, between-full, between-sent}
use Rattle.scq_passes.proofs.Following.{follows-others, follows-next}
use Rattle.scq_passes.proofs.Kept.{taken-calls, sent-calls, placed, sent-sends, sent-takes, full-calls, full-sends, full-takes}
use Rattle.scq_passes.proofs.LeftLemmas.{left-so-at-put}
use Rattle.scq_passes.proofs.OnTopics.{on-append}
use Rattle.scq_passes.proofs.RecordSteps.{after-sent, after-helped, after-taken, after-just}
use Rattle.scq_passes.proofs.Since.{since-taken}
use Rattle.scq_stages.specs.declared.finished.Finished.{Finished}
use Rattle.scq_stages.specs.declared.finished.StageWay.TheVariants.{Direct}
use Rattle.scq_stages.specs.Exports.{both, is_second, is_first, is_direct, finished, DirectsAre, first, second, take_topic, is_next}
use Rattle.scq_stages.specs.Exports.{HelpsSecondThenFirst, HelpsJustSecondThenFirst, whole_of, SendsToFirst, FinishesItself, IsNextOf, SecondsSoFar}
use Rattle.scq_stages.specs.Exports.{MovesSoFar, HasTakenOrMoved, HasMovedIts, HasFinishedOnlySeconds, HasFewStageCalls, HasListed, IsAtWork, IsDone}
use Rattle.scq_stages.specs.Exports.{HasStopped}
use Rattle.scq_stages.proofs.Moving.{moves-none_to_first, moves-none_next}
use Rattle.scq_desk.specs.Exports.{CameBack}
use Rattle.scq_desk.proofs.Passes.{stopped-left}
use Rattle.scq_stages.proofs.FewCalls.{few_calls-sent, few_calls-full, few_calls-moved, few_calls-at_send}

-- the takes from second and from first, and from nothing else; and at least these
abbrev JustBoth : List Ended → Type 0
JustBoth calls = filter_map take_topic calls ≡ second ∷ first ∷ []

abbrev LeastBoth : List Ended → Type 0
LeastBoth calls = take 2 (filter_map take_topic calls) ≡ second ∷ first ∷ []

two-more : (xs ys : List ℕ) → take 2 xs ≡ second ∷ first ∷ [] → take 2 (xs ++ ys) ≡ second ∷ first ∷ []
two-more [] ys is = absurd (cc)
two-more (x ∷ []) ys is = absurd (cc)
two-more (x ∷ y ∷ xs) ys is = is

least-more : (front back : List Ended) → LeastBoth front → LeastBoth (front ++ back)
least-more front back least =
    ap (take 2) (filter_map-append take_topic front back) ∙ two-more (filter_map take_topic front) (filter_map take_topic back) least

module _ {B : Type 0} where
  -- the whole record, by what was done since
  since-calls : {By : Puts} (p q : PassStanding B) → HasTakenFollowed By p q → q.calls ≡ p.calls ++ since p q
  since-calls p q h = taken-calls p q h ∙ ap (λ l. p.calls ++ l) (sym (since-taken p q h))

  pub takes-since : {By : Puts} (topic : ℕ) (p q : PassStanding B) → HasTakenFollowed By p q
      → on topic (takes_of q.calls) ≡ on topic (takes_of p.calls) ++ taken_since topic p q
  takes-since topic p q h =
      ap (λ l. on topic (takes_of l)) (since-calls p q h) ∙ ap (on topic) (takes-append p.calls (since p q))
      ∙ on-append topic (takes_of p.calls) (takes_of (since p q))

  pub sends-since : {By : Puts} (topic : ℕ) (p q : PassStanding B) → HasTakenFollowed By p q
      → on topic (sends_of q.calls) ≡ on topic (sends_of p.calls) ++ on topic (sends_of (since p q))
  sends-since topic p q h =
      ap (λ l. on topic (sends_of l)) (since-calls p q h) ∙ ap (on topic) (sends-append p.calls (since p q))
      ∙ on-append topic (sends_of p.calls) (sends_of (since p q))

  -- nothing was sent to first since
  pub first-still : (p q : PassStanding B) → HasTakenOrMoved p q → on first (sends_of q.calls) ≡ on first (sends_of p.calls)
  first-still p q h =
      sends-since first p q h ∙ ap (λ l. on first (sends_of p.calls) ++ on first (sends_of l)) (since-taken p q h)
      ∙ ap (λ l. on first (sends_of p.calls) ++ l) (moves-none_to_first h.block h.are) ∙ append-nil (on first (sends_of p.calls))

  -- what was moved so far
  moves-on : (p q : PassStanding B) → HasTakenOrMoved p q → HasMovedIts p q → MovesSoFar (on first (takes_of p.calls)) (on second (sends_of p.calls))
      → MovesSoFar (on first (takes_of q.calls)) (on second (sends_of q.calls))
  moves-on p q h moved was =
      subst (λ l. MovesSoFar l (on second (sends_of q.calls))) (sym (takes-since first p q h))
      (subst (MovesSoFar (on first (takes_of p.calls) ++ taken_since first p q)) (sym (sends-since second p q h))
      (moved (on first (takes_of p.calls)) (on second (sends_of p.calls)) was))

  -- messages go on following the record
  follows-on : (messages : List Message) (p q : PassStanding B) → HasTakenOrMoved p q → EachHasItsCall IsNextOf is_next messages p.calls
      → EachHasItsCall IsNextOf is_next messages q.calls
  follows-on messages p q h was =
      subst (EachHasItsCall IsNextOf is_next messages) (sym (taken-calls p q h))
      (follows-others IsNextOf is_next messages p.calls h.block (moves-none_next h.block h.are) was)

  -- the list goes on being that of the messages and the pass
  listed-on : (messages : List Message) (p q : PassStanding B) (was is : List Finished) → HasTakenOrMoved p q → HasFinishedOnlySeconds p q was is
      → HasListed messages p was → HasListed messages q is
  listed-on messages p q was is h helped listed =
      record {
        passed = subst (λ sends. ArePassedOn SendsToFirst FinishesItself messages sends (filter is_direct is)) (sym (first-still p q h))
            (subst (ArePassedOn SendsToFirst FinishesItself messages (on first (sends_of p.calls))) (sym helped.directs) listed.passed);
        seconds = subst (λ l. SecondsSoFar l (filter is_second is)) (sym (takes-since second p q h)) (helped.seconds (on second (takes_of p.calls)) listed.seconds);
        firsts = helped.firsts ∙ listed.firsts;
        directs = subst (λ fulls. DirectsAre fulls is) (sym (ap (λ (x : PassStanding B). x.fulls) h.pass))
            (subst (AllZip (λ head f. f.way ≡ Direct head) p.fulls) (sym helped.directs) listed.directs);
      }

  -- a message more was sent
  pub work-sent : (messages : List Message) (m : Message) (p q : PassStanding B) (members : List Finished) (starved : Bool)
      → IsAtWork messages p members starved → suc first < length p.numbers → HasSentSo first (SendsToFirst m) p q
      → IsAtWork (messages ++ m ∷ []) q members starved
  work-sent messages m p q members starved was within h =
      let So = SendsToFirst m in
      let calls = sent-calls first So p q h in
      let got : List Ended = Got 0 h.from h.over ∷ [] in
      let send : Placed = placed first So p q h in
      let sends : (t : ℕ) → on t (sends_of q.calls) ≡ on t (sends_of p.calls) ++ on t (send ∷ []) =
      λ t. ap (on t) (sent-sends first So p q h) ∙ on-append t (sends_of p.calls) (send ∷ []) in
      let takes : (t : ℕ) → on t (takes_of q.calls) ≡ on t (takes_of p.calls) = λ t. ap (on t) (sent-takes first So p q h) in
      record {
        helps = subst HelpsJustSecondThenFirst (sym calls) (after-sent JustBoth p.calls h.from 1 h.place h.over h.bytes was.helps);
        unasked = ap (λ (x : PassStanding B). x.gates) h.pass ∙ was.unasked;
        between = between-sent first So p q was.between within h;
        few_calls = subst (λ n. HasFewStageCalls 0 n q) (sym (length-append messages (m ∷ []))) (few_calls-sent (length messages) So p q h was.few_calls);
        moves = subst (λ l. MovesSoFar l (on second (sends_of q.calls))) (sym (takes first))
            (subst (MovesSoFar (on first (takes_of p.calls))) (sym (sends second ∙ append-nil (on second (sends_of p.calls)))) was.moves);
        follows = subst (EachHasItsCall IsNextOf is_next (messages ++ m ∷ [])) (sym calls)
            (follows-next IsNextOf is_next messages m (p.calls ++ got) (Done 1 h.place h.bytes) refl h.sends
            (follows-others IsNextOf is_next messages p.calls got refl was.follows));
        listed = λ fed.
            let old = was.listed fed in
            record {
              passed = subst (λ l. ArePassedOn SendsToFirst FinishesItself (messages ++ m ∷ []) l (filter is_direct members)) (sym (sends first))
                  (and_sent m send old.passed h.sends);
              seconds = subst (λ l. SecondsSoFar l (filter is_second members)) (sym (takes second)) old.seconds;
              firsts = old.firsts;
              directs = subst (λ fulls. DirectsAre fulls members) (sym (ap (λ (x : PassStanding B). x.fulls) h.pass)) old.directs;
            };
      }

  -- no buffer was free, and it made a member of the message itself
  listed-full : (messages : List Message) (m : Message) (head : ℕ) (p q : PassStanding B) (was mid : List Finished) → HasFoundFull head p q
      → mid ≡ was ++ finished (Direct head) both (whole_of m) ∷ [] → HasListed messages p was → HasListed (messages ++ m ∷ []) q mid
  listed-full messages m head p q was mid full grown old =
      let f = finished (Direct head) both (whole_of m) in
      let kinds : (kind : Finished → Bool) → filter kind mid ≡ filter kind was ++ filter kind (f ∷ []) =
      λ kind. ap (filter kind) grown ∙ filter-append kind was (f ∷ []) in
      let fulls : q.fulls ≡ p.fulls ++ head ∷ [] = ap (λ (x : PassStanding B). x.fulls) full.pass in
      let R : ℕ → Finished → Type 0 = λ head f. f.way ≡ Direct head in
      record {
        passed = subst (λ sends. ArePassedOn SendsToFirst FinishesItself (messages ++ m ∷ []) sends (filter is_direct mid))
            (sym (ap (on first) (full-sends head p q full)))
            (subst (ArePassedOn SendsToFirst FinishesItself (messages ++ m ∷ []) (on first (sends_of p.calls))) (sym (kinds is_direct))
            (and_made m f old.passed (record { head = head; is = refl })));
        seconds = subst (λ l. SecondsSoFar l (filter is_second mid)) (sym (ap (on second) (full-takes head p q full)))
            (subst (SecondsSoFar (on second (takes_of p.calls))) (sym (kinds is_second ∙ append-nil (filter is_second was))) old.seconds);
        firsts = kinds is_first ∙ append-nil (filter is_first was) ∙ old.firsts;
        directs = subst (λ l. AllZip R l (filter is_direct mid)) (sym fulls)
            (subst (AllZip R (p.fulls ++ head ∷ [])) (sym (kinds is_direct)) (all_zipped_more R p.fulls (filter is_direct was) head f old.directs refl));
      }

  -- and helped
  pub work-helped : (messages : List Message) (m : Message) (head : ℕ) (p q r : PassStanding B) (was mid is : List Finished) (before after : Bool)
      → IsAtWork messages p was before → HasFoundFull head p q → HasTakenOrMoved q r → filter_map take_topic (since q r) ≡ second ∷ first ∷ []
      → HasMovedIts q r → r.gates ≡ q.gates → (after ≡ false → before ≡ false) → (after ≡ false → mid ≡ was ++ finished (Direct head) both (whole_of m) ∷ [])
      → (after ≡ false → HasFinishedOnlySeconds q r mid is)
      → IsAtWork (messages ++ m ∷ []) r is after
  work-helped messages m head p q r was mid is before after work full taken each moved gates fed_before grown helped =
      let calls : r.calls ≡ (p.calls ++ Nothing 0 ∷ []) ++ taken.block = taken-calls q r taken ∙ ap (λ l. l ++ taken.block) (full-calls head p q full) in
      let up : JustBoth taken.block = ap (filter_map take_topic) (sym (since-taken q r taken)) ∙ each in
      record {
        helps = subst HelpsJustSecondThenFirst (sym calls) (after-helped JustBoth p.calls taken.block taken.are up work.helps);
        unasked = gates ∙ ap (λ (x : PassStanding B). x.gates) full.pass ∙ work.unasked;
        between = between-taken q r (between-full head p q work.between full) taken;
        few_calls = subst (λ n. HasFewStageCalls 0 n r) (sym (length-append messages (m ∷ [])))
            (few_calls-moved (length messages + 1) q r taken (few_calls-full (length messages) head p q full work.few_calls));
        moves = moves-on q r taken moved
            (subst (λ l. MovesSoFar l (on second (sends_of q.calls))) (sym (ap (on first) (full-takes head p q full)))
            (subst (MovesSoFar (on first (takes_of p.calls))) (sym (ap (on second) (full-sends head p q full))) work.moves));
        follows = follows-on (messages ++ m ∷ []) q r taken
            (subst (EachHasItsCall IsNextOf is_next (messages ++ m ∷ [])) (sym (full-calls head p q full))
            (follows-next IsNextOf is_next messages m p.calls (Nothing 0) refl tt work.follows));
        listed = λ fed. listed-on (messages ++ m ∷ []) q r mid is taken (helped fed)
            (listed-full messages m head p q was mid full (grown fed) (work.listed (fed_before fed)));
      }

  -- it moved what was in first, until nothing was there
  pub work-done : (messages : List Message) (p q : PassStanding B) (before : List Ended) (was is : List Finished) (starved wanted : Bool)
      → IsAtWork messages p was starved → HasTakenOrMoved p q → q.gates ≡ p.gates → HasMovedIts p q → HasFinishedOnlySeconds p q was is → (wanted ≡ false → starved ≡ false)
      → q.calls ≡ before ++ Nothing (suc first) ∷ [] → (known_on first q).finished < (known_on first q).head → IsDone messages q is wanted
  work-done messages p q before was is starved wanted work taken gates moved helped fed_before emptied past =
      record {
        moved = record {
          moved_all = record {
            helps = subst HelpsSecondThenFirst (sym (taken-calls p q taken))
                (after-taken LeastBoth JustBoth least-more p.calls taken.block taken.are
                (after-just LeastBoth JustBoth (λ calls just. ap (take 2) just) p.calls work.helps));
            before = before;
            emptied = emptied;
          };
          past = past;
          unasked = gates ∙ work.unasked;
          between = between-taken p q work.between taken;
          few_calls = few_calls-moved (length messages) p q taken work.few_calls;
          moves = moves-on p q taken moved work.moves;
          follows = follows-on messages p q taken work.follows;
        };
        listed = λ fed. listed-on messages p q was is taken helped (work.listed (fed_before fed));
      }

  -- the send of a value that was lent met Spent: that value came back
  pub left-sent : (contents : B → List ℕ) (messages : ℕ) (p q r : PassStanding B) (h : HeldStanding B) (kept : Option (HeldStanding B))
      → WasLent contents p q h → CameBack 1 h q r kept → HasLeftSo HasFewStageCalls messages (messages + 1) p r kept
  left-sent contents messages p q r h None lent back = absurd back
  left-sent contents messages p q r h (Some k) lent back =
      let spent = back.2 in
      left-so-at-put HasFewStageCalls contents messages (messages + 1) 0 lent.place 1 spent.0 p q r h k lent.got spent.1 back.0 back.1
      (few_calls-at_send contents messages spent.0 p q r h lent spent.1)

  -- it met Spent before it was done with so many messages
  pub work-left : (shared : Identity B) (messages : List Message) (many : ℕ) (p q : PassStanding B) (members : List Finished) (starved : Bool)
      (kept : Option (HeldStanding B)) → IsAtWork messages p members starved → p.queue ≡ shared → p.retired ≡ None
      → HasLeftSo HasFewStageCalls (length messages) many p q kept → HasStopped shared many q kept
  work-left shared messages many p q members starved kept was queue stays left =
      stopped-left HasFewStageCalls shared (length messages) many p q kept was.few_calls was.between.none queue stays left

  pub work-stopped : (shared : Identity B) (messages : List Message) (m : Message) (p q : PassStanding B) (members : List Finished) (starved : Bool)
      (kept : Option (HeldStanding B)) → IsAtWork messages p members starved → p.queue ≡ shared → p.retired ≡ None
      → HasLeftSo HasFewStageCalls (length messages) (length messages + 1) p q kept → HasStopped shared (length (messages ++ m ∷ [])) q kept
  work-stopped shared messages m p q members starved kept was queue stays left =
      subst (λ n. HasStopped shared n q kept) (sym (length-append messages (m ∷ [])))
      (work-left shared messages (length messages + 1) p q members starved kept was queue stays left)
