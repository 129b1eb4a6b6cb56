-- What one take makes of a worker's list and of its moves, and what several make of them, one behind the other.
use Rattle.std.proofs.Common.{◌≡◌, refl, sym, ◌∙◌, ap, subst, arith, zero, suc, ℕ, ◌<◌, ◌≤◌, length, List, [], ◌∷◌, ◌++◌, append_assoc, Option, Some, None, Bool}
use Rattle.std.specs.Prelude.{filter, IfSome, ◌⊎◌}
use Rattle.std.specs.List.{filter_map}
use Rattle.std.proofs.lemmas.List.{append-nil}
use Rattle.std.proofs.lemmas.List.Elements.{filter-append, filter_map-append}
use Rattle.scq_core.specs.declared.ended.Ended.TheVariants.{Done, Got, Nothing}
use Rattle.scq_frames.specs.Exports.{Part, BeginsWith, part_at}
use Rattle.scq_queue.specs.Exports.{Placed, sends_of, takes_of, PassStanding, HeldStanding, HasGot, FoundEmpty, WasGivenBack, known_on, having_seen}
use Rattle.scq_queue.specs.Exports.{after_put, after_spent_get}
use Rattle.scq_queue.proofs.Records.{sends-append}
use Rattle.scq_passes.specs.Exports.{on, BecomeSoFar, and_became, and_passed_over, HasLeftSo, since, taken_since}
use Rattle.scq_passes.proofs.OnTopics.{on-append}
use Rattle.scq_passes.proofs.PassLemmas.{got-and-put, took-and-gave, found-none}
use Rattle.scq_passes.proofs.Since.{since-of, since-taken_on, none_below-nothing, none_below-one}
use Rattle.scq_passes.proofs.LeftLemmas.{left-so-at-get, left-so-at-put}
use Rattle.scq_desk.specs.Exports.{CameBack}
use Rattle.scq_stages.specs.declared.finished.Finished.{Finished}
use Rattle.scq_stages.specs.declared.finished.StageWay.{StageWay}
use Rattle.scq_stages.specs.declared.finished.StageWay.TheVariants.{Second, First}
use Rattle.scq_stages.specs.Exports.{redacted, squeezed, both, stages_left, after_stage, FinishesTake, IsNoPart, is_second, is_first, is_direct}
use Rattle.scq_stages.specs.Exports.{finished, way_from, first, second, take_topic, SecondsSoFar, FirstsSoFar, MovesSoFar, GotNo, HasMovedIts}
use Rattle.scq_stages.specs.Exports.{HasFinished, HasFinishedOne, HasFinishedOnlySeconds, HasTakenOne}
use Rattle.scq_stages.specs.Exports.{HasFewStageCalls}
use Rattle.scq_stages.proofs.FewCalls.{few_calls-at_get, few_calls-at_put}

-- one list behind two
longer : {A : Type 0} (xs ys zs whole : List A) → whole ≡ ys ++ zs → xs ++ whole ≡ (xs ++ ys) ++ zs
longer xs ys zs whole is = ap (λ l. xs ++ l) is ∙ sym (append_assoc xs ys zs)

-- a take that was finished so, or whose bytes are no part's
abbrev WasListed : (ℕ → StageWay) → (List ℕ → List ℕ) → ℕ → Option Part → List Finished → List Finished → Type 0
WasListed way stage place o was is = IfSome o (λ part. is ≡ was ++ finished (way place) stage part ∷ []) × (o ≡ None → is ≡ was)

-- so it became a member of its kind, or was passed over
kind-one : (kind : Finished → Bool) (way : ℕ → StageWay) (stage : List ℕ → List ℕ) (topic place : ℕ) (bytes : List ℕ) (was is : List Finished)
    (takes : List Placed) (o : Option Part)
    → ((part : Part) → filter kind (finished (way place) stage part ∷ []) ≡ finished (way place) stage part ∷ []) → part_at bytes ≡ o
    → WasListed way stage place o was is → BecomeSoFar IsNoPart (FinishesTake way stage) takes (filter kind was)
    → BecomeSoFar IsNoPart (FinishesTake way stage) (takes ++ record { topic = topic; place = place; bytes = bytes } ∷ []) (filter kind is)
kind-one kind way stage topic place bytes was is takes None own none listed before =
    let take : Placed = record { topic = topic; place = place; bytes = bytes } in
    subst (BecomeSoFar IsNoPart (FinishesTake way stage) (takes ++ take ∷ [])) (sym (ap (filter kind) (listed.1 refl))) (and_passed_over take before none)
kind-one kind way stage topic place bytes was is takes (Some part) own some listed before =
    let take : Placed = record { topic = topic; place = place; bytes = bytes } in
    let f = finished (way place) stage part in
    let grown : filter kind is ≡ filter kind was ++ f ∷ [] =
    ap (filter kind) listed.0 ∙ filter-append kind was (f ∷ []) ∙ ap (λ l. filter kind was ++ l) (own part) in
    subst (BecomeSoFar IsNoPart (FinishesTake way stage) (takes ++ take ∷ [])) (sym grown)
    (and_became take f before (record { part = part; decodes = some; is = refl }))

-- of another kind there is none more
other-kind : (kind : Finished → Bool) (way : ℕ → StageWay) (stage : List ℕ → List ℕ) (place : ℕ) (was is : List Finished) (o : Option Part)
    → ((part : Part) → filter kind (finished (way place) stage part ∷ []) ≡ []) → WasListed way stage place o was is → GotNo kind was is
other-kind kind way stage place was is None other listed = ap (filter kind) (listed.1 refl)
other-kind kind way stage place was is (Some part) other listed =
    let f = finished (way place) stage part in
    ap (filter kind) listed.0 ∙ filter-append kind was (f ∷ []) ∙ ap (λ l. filter kind was ++ l) (other part) ∙ append-nil (filter kind was)

module _ {B : Type 0} where
  -- the calls of a take that got something and put it, and of one that found nothing
  pub since-took : (contents : B → List ℕ) (from place to put : ℕ) (later : List ℕ) (p q r : PassStanding B) (h : HeldStanding B)
      → HasGot contents from place p q h → r ≡ having_seen r.seen (after_put to h.index put later q)
      → since p r ≡ Got from place (contents h.buffer) ∷ Done to put later ∷ []
  since-took contents from place to put later p q r h got is =
      let block = Got from place (contents h.buffer) ∷ Done to put later ∷ [] in
      since-of p r block
      (ap (λ (x : PassStanding B). x.calls) (got-and-put contents from place to put later p q r h got is)
      ∙ append_assoc p.calls (Got from place (contents h.buffer) ∷ []) (Done to put later ∷ []))

  pub since-found : (topic head : ℕ) (p q : PassStanding B) → FoundEmpty topic head p q → since p q ≡ Nothing (suc topic) ∷ []
  since-found topic head p q found = since-of p q (Nothing (suc topic) ∷ []) (ap (λ (x : PassStanding B). x.calls) found.pass)

  -- where nothing was taken from the topic, nothing more became of it
  still : {M : Type 0} {Over : Placed → Type 0} {Becomes : Placed → M → Type 0} (topic : ℕ) (p q : PassStanding B) (takes : List Placed) (was is : List M)
      → taken_since topic p q ≡ [] → is ≡ was → BecomeSoFar Over Becomes takes was → BecomeSoFar Over Becomes (takes ++ taken_since topic p q) is
  still {M} {Over} {Becomes} topic p q takes was is none same before =
      let all : takes ++ taken_since topic p q ≡ takes = ap (λ l. takes ++ l) none ∙ append-nil takes in
      subst (λ l. BecomeSoFar Over Becomes l is) (sym all) (subst (BecomeSoFar Over Becomes takes) (sym same) before)

  -- a take that was finished
  pub finished-one : (topic place back : ℕ) (bytes later : List ℕ) (p r : PassStanding B) (was is : List Finished) → topic ≤ 1
      → since p r ≡ Got (suc topic) place bytes ∷ Done 0 back later ∷ [] → WasListed (way_from topic) (stages_left topic) place (part_at bytes) was is
      → HasFinishedOne topic p r was is
  finished-one zero place back bytes later p r was is low calls listed =
      let firsts : taken_since first p r ≡ record { topic = first; place = place; bytes = bytes } ∷ [] = ap (λ l. on first (takes_of l)) calls in
      record {
        finished = record {
          seconds = λ takes before. still second p r takes (filter is_second was) (filter is_second is) (ap (λ l. on second (takes_of l)) calls)
              (other-kind is_second First both place was is (part_at bytes) (λ part. refl) listed) before;
          firsts = λ takes before. subst (λ l. FirstsSoFar (takes ++ l) (filter is_first is)) (sym firsts)
              (kind-one is_first First both first place bytes was is takes (part_at bytes) (λ part. refl) refl listed before);
          directs = other-kind is_direct First both place was is (part_at bytes) (λ part. refl) listed;
        };
        firsts = λ other. absurd (omega (arith, other));
      }
  finished-one (suc zero) place back bytes later p r was is low calls listed =
      let seconds : taken_since second p r ≡ record { topic = second; place = place; bytes = bytes } ∷ [] = ap (λ l. on second (takes_of l)) calls in
      let none : GotNo is_first was is = other-kind is_first Second squeezed place was is (part_at bytes) (λ part. refl) listed in
      record {
        finished = record {
          seconds = λ takes before. subst (λ l. SecondsSoFar (takes ++ l) (filter is_second is)) (sym seconds)
              (kind-one is_second Second squeezed second place bytes was is takes (part_at bytes) (λ part. refl) refl listed before);
          firsts = λ takes before. still first p r takes (filter is_first was) (filter is_first is) (ap (λ l. on first (takes_of l)) calls) none before;
          directs = other-kind is_direct Second squeezed place was is (part_at bytes) (λ part. refl) listed;
        };
        firsts = λ own. none;
      }
  finished-one (suc (suc topic)) place back bytes later p r was is low calls listed = absurd (omega (arith, low))

  -- where nothing was taken, the list is as it was
  pub finished-nothing : (p q : PassStanding B) (was : List Finished) → takes_of (since p q) ≡ [] → HasFinished p q was was
  finished-nothing p q was none = record {
    seconds = λ takes before. still second p q takes (filter is_second was) (filter is_second was) (ap (on second) none) refl before;
    firsts = λ takes before. still first p q takes (filter is_first was) (filter is_first was) (ap (on first) none) refl before;
    directs = refl;
  }

  -- nor where nothing was taken from second
  pub helped-nothing : (p q : PassStanding B) (was is : List Finished) → taken_since second p q ≡ [] → is ≡ was → HasFinishedOnlySeconds p q was is
  helped-nothing p q was is none same = record {
    seconds = λ takes before. still second p q takes (filter is_second was) (filter is_second is) none (ap (filter is_second) same) before;
    firsts = ap (filter is_first) same;
    directs = ap (filter is_direct) same;
  }

  -- one step behind the other
  along : {M : Type 0} {Over : Placed → Type 0} {Becomes : Placed → M → Type 0} (topic : ℕ) (p q r : PassStanding B) (was mid is : List M)
      → since p r ≡ since p q ++ since q r
      → ((takes : List Placed) → BecomeSoFar Over Becomes takes was → BecomeSoFar Over Becomes (takes ++ taken_since topic p q) mid)
      → ((takes : List Placed) → BecomeSoFar Over Becomes takes mid → BecomeSoFar Over Becomes (takes ++ taken_since topic q r) is)
      → (takes : List Placed) → BecomeSoFar Over Becomes takes was → BecomeSoFar Over Becomes (takes ++ taken_since topic p r) is
  along {M} {Over} {Becomes} topic p q r was mid is split one more takes before =
      subst (λ l. BecomeSoFar Over Becomes l is)
      (sym (longer takes (taken_since topic p q) (taken_since topic q r) (taken_since topic p r) (since-taken_on topic p q r split)))
      (more (takes ++ taken_since topic p q) (one takes before))

  pub finished-along : (p q r : PassStanding B) (xs ys zs : List Finished) → since p r ≡ since p q ++ since q r → HasFinished p q xs ys → HasFinished q r ys zs
      → HasFinished p r xs zs
  finished-along p q r xs ys zs split one more = record {
    seconds = along second p q r (filter is_second xs) (filter is_second ys) (filter is_second zs) split one.seconds more.seconds;
    firsts = along first p q r (filter is_first xs) (filter is_first ys) (filter is_first zs) split one.firsts more.firsts;
    directs = more.directs ∙ one.directs;
  }

  pub helped-along : (p q r : PassStanding B) (xs ys zs : List Finished) → since p r ≡ since p q ++ since q r → HasFinishedOnlySeconds p q xs ys → HasFinishedOnlySeconds q r ys zs
      → HasFinishedOnlySeconds p r xs zs
  helped-along p q r xs ys zs split one more = record {
    seconds = along second p q r (filter is_second xs) (filter is_second ys) (filter is_second zs) split one.seconds more.seconds;
    firsts = more.firsts ∙ one.firsts;
    directs = more.directs ∙ one.directs;
  }

  -- moves of these takes and sends
  moves-as : (p r : PassStanding B) (takes sends more other : List Placed) → taken_since first p r ≡ more → on second (sends_of (since p r)) ≡ other
      → MovesSoFar (takes ++ more) (sends ++ other) → MovesSoFar (takes ++ taken_since first p r) (sends ++ on second (sends_of (since p r)))
  moves-as p r takes sends more other took sent moved =
      subst (λ l. MovesSoFar (takes ++ l) (sends ++ on second (sends_of (since p r)))) (sym took)
      (subst (λ l. MovesSoFar (takes ++ more) (sends ++ l)) (sym sent) moved)

  -- a take of first that was moved
  pub moved-one : (place put : ℕ) (bytes later : List ℕ) (part : Part) (p r : PassStanding B)
      → since p r ≡ Got (suc first) place bytes ∷ Done (suc second) put later ∷ [] → part_at bytes ≡ Some part → BeginsWith later (after_stage redacted part)
      → HasMovedIts p r
  moved-one place put bytes later part p r calls some moved takes sends before =
      let take : Placed = record { topic = first; place = place; bytes = bytes } in
      let send : Placed = record { topic = second; place = put; bytes = later } in
      moves-as p r takes sends (take ∷ []) (send ∷ []) (ap (λ l. on first (takes_of l)) calls) (ap (λ l. on second (sends_of l)) calls)
      (and_became take send before (record { part = part; decodes = some; moved = moved }))

  -- one whose bytes are no part's
  pub moved-back : (place back : ℕ) (bytes later : List ℕ) (p r : PassStanding B)
      → since p r ≡ Got (suc first) place bytes ∷ Done 0 back later ∷ [] → part_at bytes ≡ None → HasMovedIts p r
  moved-back place back bytes later p r calls none takes sends before =
      let take : Placed = record { topic = first; place = place; bytes = bytes } in
      moves-as p r takes sends (take ∷ []) [] (ap (λ l. on first (takes_of l)) calls) (ap (λ l. on second (sends_of l)) calls)
      (subst (MovesSoFar (takes ++ take ∷ [])) (sym (append-nil sends)) (and_passed_over take before none))

  -- nothing was taken from first, nor sent to second
  pub moved-nothing : (p r : PassStanding B) → taken_since first p r ≡ [] → on second (sends_of (since p r)) ≡ [] → HasMovedIts p r
  moved-nothing p r took sent takes sends before =
      moves-as p r takes sends [] [] took sent
      (subst (λ l. MovesSoFar l (sends ++ [])) (sym (append-nil takes)) (subst (MovesSoFar takes) (sym (append-nil sends)) before))

  pub moved-along : (p q r : PassStanding B) → since p r ≡ since p q ++ since q r → HasMovedIts p q → HasMovedIts q r → HasMovedIts p r
  moved-along p q r split one more takes sends before =
      let sent : on second (sends_of (since p r)) ≡ on second (sends_of (since p q)) ++ on second (sends_of (since q r)) =
      ap (λ l. on second (sends_of l)) split ∙ ap (on second) (sends-append (since p q) (since q r))
      ∙ on-append second (sends_of (since p q)) (sends_of (since q r)) in
      subst (λ l. MovesSoFar l (sends ++ on second (sends_of (since p r))))
      (sym (longer takes (taken_since first p q) (taken_since first q r) (taken_since first p r) (since-taken_on first p q r split)))
      (subst (MovesSoFar ((takes ++ taken_since first p q) ++ taken_since first q r))
      (sym (longer sends (on second (sends_of (since p q))) (on second (sends_of (since q r))) (on second (sends_of (since p r))) sent))
      (more (takes ++ taken_since first p q) (sends ++ on second (sends_of (since p q))) (one takes sends before)))

  -- a take that got something and gave it back
  pub took-one : (contents : B → List ℕ) (topic place : ℕ) (later : List ℕ) (p q r : PassStanding B) (h : HeldStanding B) → suc topic < length p.numbers
      → topic ≤ 1 → HasGot contents (suc topic) place p q h → WasGivenBack later h.index q r → (known_on topic p).head ≤ place → HasTakenOne topic p r
  took-one contents zero place later p q r h within low got given high =
      let calls = since-took contents (suc first) place 0 given.place later p q r h got given.pass in
      record {
        taken = took-and-gave contents first place later p q r h within got given refl;
        one = ap (filter_map take_topic) calls;
        below = none_below-one first p r (record { topic = first; place = place; bytes = contents h.buffer }) (ap (λ l. on first (takes_of l)) calls) high;
        moves = λ other. absurd (omega (arith, other));
      }
  took-one contents (suc zero) place later p q r h within low got given high =
      let calls = since-took contents (suc second) place 0 given.place later p q r h got given.pass in
      record {
        taken = took-and-gave contents second place later p q r h within got given refl;
        one = ap (filter_map take_topic) calls;
        below = none_below-nothing first p r (ap (λ l. on first (takes_of l)) calls);
        moves = λ own. moved-nothing p r (ap (λ l. on first (takes_of l)) calls) (ap (λ l. on second (sends_of l)) calls);
      }
  took-one contents (suc (suc topic)) place later p q r h within low got given high = absurd (omega (arith, low))

  -- and one that found nothing
  pub found-one : (topic head : ℕ) (p q : PassStanding B) → suc topic < length p.numbers → FoundEmpty topic head p q → HasTakenOne topic p q
  found-one topic head p q within found =
      let calls = since-found topic head p q found in
      record {
        taken = found-none topic head p q within found;
        one = ap (filter_map take_topic) calls;
        below = none_below-nothing first p q (ap (λ l. on first (takes_of l)) calls);
        moves = λ own. moved-nothing p q (ap (λ l. on first (takes_of l)) calls) (ap (λ l. on second (sends_of l)) calls);
      }

  -- the topics that were taken from
  pub topics-along : (p q r : PassStanding B) (xs ys : List ℕ) → since p r ≡ since p q ++ since q r → filter_map take_topic (since p q) ≡ xs
      → filter_map take_topic (since q r) ≡ ys
      → filter_map take_topic (since p r) ≡ xs ++ ys
  topics-along p q r xs ys split one more =
      ap (filter_map take_topic) split ∙ filter_map-append take_topic (since p q) (since q r) ∙ ap (λ l. l ++ filter_map take_topic (since q r)) one
      ∙ ap (λ l. xs ++ l) more

  -- a take met Spent
  pub left-take : (messages topic ticket : ℕ) (p q : PassStanding B) → q ≡ having_seen q.seen (after_spent_get (suc topic) ticket p)
      → HasLeftSo HasFewStageCalls messages messages p q None
  left-take messages topic ticket p q is =
      left-so-at-get HasFewStageCalls messages messages (suc topic) ticket p q is (few_calls-at_get messages (suc topic) ticket p q is)

  -- the put of what was taken met Spent: it came back
  pub left-back : (contents : B → List ℕ) (messages topic place ring : ℕ) (p q r : PassStanding B) (h : HeldStanding B) (kept : Option (HeldStanding B))
      → HasGot contents (suc topic) place p q h → (ring ≡ 0) ⊎ (ring ≡ suc second) → CameBack ring h q r kept
      → HasLeftSo HasFewStageCalls messages messages p r kept
  left-back contents messages topic place ring p q r h None got by back = absurd back
  left-back contents messages topic place ring p q r h (Some k) got by back =
      let spent = back.2 in
      left-so-at-put HasFewStageCalls contents messages messages (suc topic) place ring spent.0 p q r h k got spent.1 back.0 back.1
      (few_calls-at_put contents messages topic place ring spent.0 p q r h got spent.1 by)
